use Rattle.std.proofs.Common.{◌≡◌, ◌+◌, ◌/◌, ◌%◌, ◌<◌, ℕ, List, [], drop, Option, Some, None, ap, sym, ◌∙◌, arith}
use Rattle.std.specs.Prelude.{unwrap_or, option_map}
use Rattle.std.proofs.lemmas.Bool.{le-leb, lt-leb}
use Rattle.owned_bytes.specs.Front.{◌>>=◌, provided}
use Rattle.sstable_values.specs.Codec.{Address}
use Rattle.sstable_format.specs.Meta.{Meta}
use Rattle.sstable_format.specs.Store.{address_of}
use Rattle.block_addresses.specs.Found.{element_at}
use Rattle.block_addresses.specs.Opened.{meta_of_group, told, passing, fits_address}
use Rattle.block_addresses.proofs.Stored.{decoded, address_within, element-told, bits-told, passing-told, ordered-told}
use Rattle.block_addresses.proofs.store.AddressStore.get.Goals as goal

-- the element of the list that is seen stands in its meta

seen : (metas packed : List ℕ) (now found : List Address) (block : ℕ) (m : Option Meta) → unwrap_or (told metas packed) [] ≡ now → told metas packed ≡ Some found → m ≡ meta_of_group (block / 128) metas
    → (now ≡ found) × (element_at found block ≡ address_within packed (block % 128) m)
seen metas packed now found block m view is meta =
    (sym view ∙ ap (λ o. unwrap_or o []) is, element-told metas packed found block (decoded metas packed found is) ∙ ap (address_within packed (block % 128)) (sym meta))

pub returns-in_err-meta-clause-element : goal.returns-in_err-meta-clause-element
returns-in_err-meta-clause-element c =
    let i = c.self.inside in
    let inv = c.self.invariant in
    let has = seen i.metas i.packed c.args.self.now inv.found c.args.block None c.self.view_is inv.is_told (c.in_err-meta.ensures ∙ ap (meta_of_group (c.args.block / 128)) c.as_slice.ensures) in
    c.from_residual.ensures ∙ sym has.1 ∙ ap (λ xs. element_at xs c.args.block) (sym has.0)

pub returns-then-j-block_count-clause-element : goal.returns-then-j-block_count-clause-element
returns-then-j-block_count-clause-element c =
    let i = c.self.inside in
    let inv = c.self.invariant in
    let m : Meta = c.in_ok-meta.meta in
    let j : ℕ = c.args.block % 128 in
    let has = seen i.metas i.packed c.args.self.now inv.found c.args.block (Some m) c.self.view_is inv.is_told (c.in_ok-meta.ensures ∙ ap (meta_of_group (c.args.block / 128)) c.as_slice.ensures) in
    let past : m.block_count < j + 1 = omega (arith, c.if-j-block_count.true, c.block_count.ensures.count) in
    sym (ap (λ xs. element_at xs c.args.block) has.0 ∙ has.1 ∙ ap (λ t. provided t >>= (λ _. address_of m (drop m.data_offset i.packed) j)) (lt-leb (j + 1) m.block_count past))

pub address-requires-clause-bits : goal.address-requires-clause-bits
address-requires-clause-bits c =
    let i = c.self.inside in
    let inv = c.self.invariant in
    bits-told i.metas i.packed inv.found (c.args.block / 128) c.in_ok-meta.meta (decoded i.metas i.packed inv.found inv.is_told) (sym (c.in_ok-meta.ensures ∙ ap (meta_of_group (c.args.block / 128)) c.as_slice.ensures))

pub returns-clause-element : goal.returns-clause-element
returns-clause-element c =
    let i = c.self.inside in
    let inv = c.self.invariant in
    let m : Meta = c.in_ok-meta.meta in
    let j : ℕ = c.args.block % 128 in
    let has = seen i.metas i.packed c.args.self.now inv.found c.args.block (Some m) c.self.view_is inv.is_told (c.in_ok-meta.ensures ∙ ap (meta_of_group (c.args.block / 128)) c.as_slice.ensures) in
    let here : element_at inv.found c.args.block ≡ address_of m (drop m.data_offset i.packed) j =
    has.1 ∙ ap (λ t. provided t >>= (λ _. address_of m (drop m.data_offset i.packed) j)) (le-leb (j + 1) m.block_count (omega (arith, c.if-j-block_count.false, c.block_count.ensures.count))) in
    c.address.ensures ∙ ap (λ part. passing fits_address (address_of m part j)) (c.part.ensures ∙ ap (drop m.data_offset) c.as_slice-2.ensures)
    ∙ passing-told inv.found c.args.block (address_of m (drop m.data_offset i.packed) j) inv.follow here ∙ ap (λ xs. element_at xs c.args.block) (sym has.0)

pub returns-clause-ordered : goal.returns-clause-ordered
returns-clause-ordered c =
    let inv = c.self.invariant in
    let same : c.args.self.now ≡ inv.found = sym c.self.view_is ∙ ap (λ o. unwrap_or o []) inv.is_told in
    ordered-told c.address.result inv.found c.args.block inv.follow (returns-clause-element c ∙ ap (λ xs. element_at xs c.args.block) same)
