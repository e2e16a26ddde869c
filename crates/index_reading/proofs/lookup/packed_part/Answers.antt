use Rattle.std.proofs.Common.{arith, ◌∙◌}
use Rattle.index_reading.proofs.Places.{part-fits}
use Rattle.index_reading.proofs.lookup.packed_part.Goals as goal

pub overflow_mul-from : goal.overflow_mul-from
overflow_mul-from c =
    let fits = part-fits c.args.start c.args.count c.args.width c.args.size c.requires in
    record { fits = omega (arith, fits.from, c.ranges.size.fits) }

pub overflow_add-from : goal.overflow_add-from
overflow_add-from c =
    let fits = part-fits c.args.start c.args.count c.args.width c.args.size c.requires in
    record { fits = omega (arith, fits.whole, c.ranges.size.fits) }

pub returns-clause-end : goal.returns-clause-end
returns-clause-end c =
    let fits = part-fits c.args.start c.args.count c.args.width c.args.size c.requires in
    c.min.ensures ∙ omega (arith, fits.whole)
