use Rattle.std.proofs.Common.{◌+◌, ◌^◌, ◌<◌, sym, subst}
use Rattle.std.specs.Int.{is_in_range}
use Rattle.tantivy_bitpacker.proofs.LaneMasks.{mask_within_is, mask_within_lt}
use Rattle.tantivy_bitpacker.proofs.filter_vec.mask_within.Goals as goal

pub returns-clause-tests : goal.returns-clause-tests
returns-clause-tests c = mask_within_is c.args.values.now c.args.at c.args.low c.args.span c.type_inv.values c.requires.room c.requires.fits

pub returns-clause-below : goal.returns-clause-below
returns-clause-below c =
    subst (λ n. n < 2 ^ 8) (sym (returns-clause-tests c)) (mask_within_lt (is_in_range c.args.low (c.args.low + c.args.span)) c.args.values.now c.args.at c.requires.room)
