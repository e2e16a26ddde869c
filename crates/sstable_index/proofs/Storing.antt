-- Blocks that adjoin can be stored, and are found again.
use Rattle.std.proofs.Common.{◌≡◌, ℕ, ◌+◌, ◌<◌, List, [], ◌∷◌, length, map, true, ◌&&◌, Some, refl, ap, sym, ◌∙◌, subst, arith, leb}
use Rattle.std.proofs.lemmas.Bool.{and_parts, and_from, eqb-true}
use Rattle.std.proofs.lemmas.List.{length-map}
use Rattle.sstable_values.specs.Codec.{Address}
use Rattle.sstable_format.specs.Store.{store_of}
use Rattle.block_addresses.specs.Written.{Blocks, AreStorable, addresses_of, store_bytes}
unfoldable use Rattle.block_addresses.specs.Written.{steps_upto}
unfoldable use Rattle.sstable_index.specs.Building.{adjoin}
use Rattle.sstable_index.specs.Building.{is_block, comes_next, starts_of, blocks_at, longest_block, most_keys}
use Rattle.sstable_index.proofs.Builds.{adjoin-next, addresses-again}

range-step : (address : Address) (ends : List ℕ) → is_block address ≡ true → steps_upto longest_block (address.end ∷ ends) ≡ true → steps_upto longest_block (address.start ∷ address.end ∷ ends) ≡ true
unfolding steps_upto
range-step address ends fits others =
    let parts = and_parts (leb address.start address.end) (leb address.end (address.start + longest_block)) fits in
    and_from (leb address.start address.end) _ parts.0 (and_from (leb address.end (address.start + longest_block)) _ parts.1 others)

ranges-step : (addresses : List Address) → adjoin addresses ≡ true → steps_upto longest_block (starts_of addresses) ≡ true
unfolding steps_upto adjoin
ranges-step [] e = refl
ranges-step (address ∷ []) e = range-step address [] e refl
ranges-step (address ∷ next ∷ addresses) e =
    let first = and_parts (is_block address) (comes_next address next && adjoin (next ∷ addresses)) e in
    let parts = adjoin-next address next addresses e in
    let same : address.end ≡ next.start = eqb-true _ _ (and_parts _ _ parts.0).0 in
    range-step address (map (λ (block : Address). block.end) (next ∷ addresses)) first.0
    (ap (λ start. steps_upto longest_block (start ∷ map (λ (block : Address). block.end) (next ∷ addresses))) same ∙ ranges-step (next ∷ addresses) parts.1)

ordinals-step : (addresses : List Address) → adjoin addresses ≡ true → steps_upto most_keys (map (λ address. address.first_ordinal) addresses) ≡ true
unfolding steps_upto
ordinals-step [] e = refl
ordinals-step (address ∷ []) e = refl
ordinals-step (address ∷ next ∷ addresses) e =
    let parts = adjoin-next address next addresses e in
    let bounds = and_parts _ (leb address.first_ordinal next.first_ordinal && leb next.first_ordinal (address.first_ordinal + most_keys)) parts.0 in
    let both = and_parts (leb address.first_ordinal next.first_ordinal) (leb next.first_ordinal (address.first_ordinal + most_keys)) bounds.1 in
    and_from (leb address.first_ordinal next.first_ordinal) _ both.0 (and_from (leb next.first_ordinal (address.first_ordinal + most_keys)) _ both.1 (ordinals-step (next ∷ addresses) parts.1))

pub starts-count : (addresses : List Address) → 0 < length addresses → length (starts_of addresses) ≡ length addresses + 1
starts-count [] some = absurd (omega arith)
starts-count (address ∷ addresses) some = omega (arith, length-map (address ∷ addresses) (λ (block : Address). block.end))

pub same-blocks : (addresses : List Address) (starts ordinals : List ℕ) → starts ≡ starts_of addresses → ordinals ≡ map (λ address. address.first_ordinal) addresses → record { starts = starts; ordinals = ordinals } ≡ blocks_at addresses
same-blocks addresses starts ordinals a b =
    let first : List ℕ → Blocks = λ ss. record { starts = ss; ordinals = ordinals } in
    let second : List ℕ → Blocks = λ os. record { starts = starts_of addresses; ordinals = os } in
    ap first a ∙ ap second b

pub storable : (blocks : Blocks) (addresses : List Address) → blocks ≡ blocks_at addresses → 0 < length addresses → adjoin addresses ≡ true → AreStorable blocks
storable blocks addresses same some e = subst (λ bs. AreStorable bs) (sym same) (record {
  ended = starts-count addresses some ∙ ap (λ n. n + 1) (sym (length-map addresses (λ (address : Address). address.first_ordinal)));
  ranges = ranges-step addresses e;
  ordinals = ordinals-step addresses e;
})

pub stored-again : (blocks : Blocks) (addresses : List Address) → blocks ≡ blocks_at addresses → adjoin addresses ≡ true → store_of (store_bytes blocks) ≡ Some (addresses_of blocks) → store_of (store_bytes (blocks_at addresses)) ≡ Some addresses
stored-again blocks addresses same e again = ap (λ bs. store_of (store_bytes bs)) (sym same) ∙ again ∙ ap (λ bs. Some (addresses_of bs)) same ∙ ap Some (addresses-again addresses e)
