use Rattle.std.proofs.Common.{◌≡◌, ◌/◌, ◌%◌, ℕ, List, [], length, drop, Some, ap, sym, ◌∙◌, arith}
use Rattle.std.specs.Prelude.{unwrap_or, slice_index}
use Rattle.sstable_values.specs.Codec.{Address}
use Rattle.sstable_format.specs.Meta.{Meta}
use Rattle.sstable_format.specs.Store.{ordinal_of}
use Rattle.block_addresses.specs.Opened.{meta_of_group, told, passing, fits_u64, ordinals_of}
use Rattle.block_addresses.proofs.Stored.{decoded, bits-told, ordinal-told, meta-told}
use Rattle.block_addresses.proofs.store.AddressStore.first_ordinal.Goals as goal

-- what a contract sees is what was told
seen : (metas packed : List ℕ) (now found : List Address) → unwrap_or (told metas packed) [] ≡ now → told metas packed ≡ Some found → now ≡ found
seen metas packed now found view is = sym view ∙ ap (λ o. unwrap_or o []) is

pub ordinal-requires-clause-bits : goal.ordinal-requires-clause-bits
ordinal-requires-clause-bits c =
    let i = c.self.inside in
    let inv = c.self.invariant in
    bits-told i.metas i.packed inv.found (c.args.block / 128) c.in-Some.meta (decoded i.metas i.packed inv.found inv.is_told) (sym (c.in-Some.ensures ∙ ap (meta_of_group (c.args.block / 128)) c.as_slice-groups.ensures))

pub returns-in-Some : goal.returns-in-Some
returns-in-Some c =
    let i = c.self.inside in
    let inv = c.self.invariant in
    let m : Meta = c.in-Some.meta in
    let same : c.args.self.now ≡ inv.found = seen i.metas i.packed c.args.self.now inv.found c.self.view_is inv.is_told in
    let is : meta_of_group (c.args.block / 128) i.metas ≡ Some m = sym (c.in-Some.ensures ∙ ap (meta_of_group (c.args.block / 128)) c.as_slice-groups.ensures) in
    let ordinal : c.ordinal.result ≡ Some (slice_index (ordinals_of inv.found) c.args.block) =
    c.ordinal.ensures ∙ ap (λ part. passing fits_u64 (ordinal_of m part (c.args.block % 128))) (c.part-part.ensures ∙ ap (drop m.data_offset) c.as_slice.ensures)
    ∙ ordinal-told i.metas i.packed inv.found c.args.block m (decoded i.metas i.packed inv.found inv.is_told) inv.follow (omega (arith, c.requires, ap length same)) is in
    c.unwrap_or.ensures ∙ ap (λ o. unwrap_or o 0) ordinal ∙ ap (λ xs. slice_index (ordinals_of xs) c.args.block) (sym same)

pub returns-in-None : goal.returns-in-None
returns-in-None c =
    let i = c.self.inside in
    let inv = c.self.invariant in
    let same : c.args.self.now ≡ inv.found = seen i.metas i.packed c.args.self.now inv.found c.self.view_is inv.is_told in
    absurd (meta-told i.metas i.packed inv.found c.args.block (decoded i.metas i.packed inv.found inv.is_told) (omega (arith, c.requires, ap length same)) (sym (c.in-None.ensures ∙ ap (meta_of_group (c.args.block / 128)) c.as_slice-groups.ensures)))
