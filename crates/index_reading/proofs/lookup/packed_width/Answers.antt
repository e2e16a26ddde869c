use Rattle.std.proofs.Common.{arith}
use Rattle.index_reading.proofs.Places.{width_of-few}
use Rattle.index_reading.proofs.lookup.packed_width.Goals as goal

pub returns-clause-few : goal.returns-clause-few
returns-clause-few c =
    let few = width_of-few c.args.documents (omega (arith, c.ranges.documents.fits)) in
    omega (arith, few, c.width_of.ensures.width)
