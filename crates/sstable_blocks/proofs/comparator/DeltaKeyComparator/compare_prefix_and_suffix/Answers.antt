use Rattle.std.proofs.Common.{◌<◌, length, arith, ◌∙◌, sym}
use Rattle.std.proofs.lemmas.Bool.{eqb-true}
use Rattle.std.proofs.lemmas.Bool.Decides.{nat_tests}
use Rattle.sstable_blocks.proofs.ComparingLaws.{compares-above_prefix, compares-prefix, compares-whole, greater-tested, not_greater-tested}
use Rattle.sstable_blocks.proofs.comparator.DeltaKeyComparator.compare_prefix_and_suffix.Goals as goal

pub returns-then-eq : goal.returns-then-eq
returns-then-eq c = compares-above_prefix c.args.target.now c.args.prefix.now c.args.suffix.now c.compare_behind-matched.result.1 c.compare_behind-matched.result.0 c.compare_behind-matched.ensures
    (greater-tested c.compare_behind-matched.result.1 c.eq.result c.eq.ensures c.if-eq.true)

pub returns-then-is_empty : goal.returns-then-is_empty
returns-then-is_empty c = compares-prefix c.args.target.now c.args.prefix.now c.args.suffix.now c.compare_behind-matched.result.1 c.compare_behind-matched.result.0 c.compare_behind-matched.ensures
    (eqb-true _ _ (sym c.is_empty.ensures ∙ c.if-is_empty.true))

pub returns : goal.returns
returns c =
    let some : 0 < length c.args.suffix.now = grind (arith, nat_tests) in
    compares-whole c.args.target.now c.args.prefix.now c.args.suffix.now c.compare_behind-matched.result.1 c.compare.result c.compare_behind-matched.result.0 c.compare.new.self c.compare_behind-matched.ensures
    (not_greater-tested c.compare_behind-matched.result.1 c.eq.result c.eq.ensures c.if-eq.false) some c.compare.ensures
