use Rattle.std.proofs.Common.{◌≡◌, ◌≤◌, ◌<◌, List, [], ap, sym, subst, ◌∙◌, true, arith}
use Rattle.std.specs.Prelude.{unwrap_or, slice_index}
use Rattle.sstable_values.specs.Codec.{Address}
use Rattle.block_addresses.specs.Opened.{ordinals_of, can_follow}
use Rattle.block_addresses.proofs.Stored.{ordinals-rise}
use Rattle.block_addresses.proofs.store.AddressStore.locate_with_ord.Goals as goal

pub returns-clause-last : goal.returns-clause-last
returns-clause-last c = λ i above below.
    let inv = c.self.invariant in
    let P : List Address → Type 0 = λ xs. can_follow 0 xs ≡ true in
    let same : inv.found ≡ c.args.self.now = sym (ap (λ o. unwrap_or o []) inv.is_told) ∙ c.self.view_is in
    let has = c.halve.invariant in
    let least : slice_index (ordinals_of c.args.self.now) c.halve.high ≤ slice_index (ordinals_of c.args.self.now) i = ordinals-rise 0 c.args.self.now c.halve.high i (subst P same inv.follow) (omega arith) below in
    let high : c.args.ord < slice_index (ordinals_of c.args.self.now) c.halve.high = has.above (omega arith) in
    omega (arith, least, high)
