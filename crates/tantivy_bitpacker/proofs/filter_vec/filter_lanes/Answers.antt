use Rattle.std.proofs.Common.{◌+◌, ◌*◌, ◌/◌, ap, subst, arith}
use Rattle.tantivy_bitpacker.specs.Within.{Filtering}
use Rattle.tantivy_bitpacker.proofs.filter_vec.filter_lanes.Goals as goal

pub returns-clause-kept : goal.returns-clause-kept
returns-clause-kept c =
    c.filter_rest.ensures.kept c.args.values.now
    (subst (λ n. Filtering c.args.low (c.args.low + c.args.span) c.args.offset c.args.values.now c.filter_blocks-kept.new.values c.filter_blocks-kept.result n) (ap (λ n. n / 8 * 8) (omega (arith, c.filter_blocks-kept.auto.values))) c.filter_blocks-kept.ensures)
