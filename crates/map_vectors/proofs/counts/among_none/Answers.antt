use Rattle.std.proofs.Common.{◌≡◌, ◌+◌, ◌-◌, ◌*◌, ◌<◌, ◌≤◌, ◌^◌, length, arith}
use Rattle.map_vectors.proofs.Powers.{at-most}
use Rattle.map_vectors.proofs.counts.among_none.Goals as goal

pub returns : goal.returns
returns g c =
    let few = at-most 0 1 (c.first_at_or_above_counted.new.steps - c.args.steps.now) (omega arith) (omega (arith, c.first_at_or_above_counted.ensures.few, c.requires)) in
    omega (arith, few, c.first_at_or_above_counted.ensures.rise)
