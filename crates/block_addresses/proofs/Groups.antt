-- The addresses of up to 128 blocks are read again.
use Rattle.std.proofs.Common.{◌≡◌, ℕ, zero, suc, ◌+◌, ◌-◌, ◌*◌, ◌^◌, ◌<◌, ◌≤◌, List, [], ◌∷◌, ◌++◌, length, drop, get_or, Some, refl, ap, sym, ◌∙◌, arith}
use Rattle.std.specs.Prelude.{nat_le, ◌&&◌, true}
use Rattle.std.proofs.lemmas.Bool.{le-leb}
use Rattle.std.proofs.lemmas.List.Elements.{All-cons}
use Rattle.std.proofs.Math.Seq.{drop-append_seam}
use Rattle.owned_bytes.specs.Front.{◌>>=◌, provided, each}
use Rattle.sstable_values.specs.Codec.{Address}
use Rattle.tantivy_bitpacker.specs.Packed.{FitWidths}
use Rattle.sstable_format.specs.Meta.{Meta}
use Rattle.sstable_format.specs.Store.{stored_bits, stored_place, deviated, start_of, ordinal_of, address_of, addresses_of_meta, are_bits, numbers_from}
use Rattle.block_addresses.specs.Lines.{Pair, Line, IsNear, IsLineOf, after_first, stored}
use Rattle.block_addresses.specs.Written.{Blocks, addresses_of, deviations, range_line, ordinal_line, packed_of, meta_of}
use Rattle.block_addresses.proofs.Deviating.{stored-fits, deviated-stored}
use Rattle.block_addresses.proofs.Between.{length-numbered_from, get_or-numbered_from, length-addresses_between, get_or-addresses_between, each-numbers_from}
use Rattle.block_addresses.proofs.Splits.{start-at, ordinal-at, stored_bits-packed}

-- up to 128 blocks whose lines are near their starts and their ordinals
pub record IsGroup (blocks : Blocks) : Type 0 where
  pub ended : length blocks.starts ≡ length blocks.ordinals + 1
  pub some : 0 < length blocks.ordinals
  pub starts_rise : (i : ℕ) → i < length blocks.starts → get_or blocks.starts 0 0 ≤ get_or blocks.starts i 0
  pub ordinals_rise : (i : ℕ) → i < length blocks.ordinals → get_or blocks.ordinals 0 0 ≤ get_or blocks.ordinals i 0
  pub ranges : IsLineOf (range_line blocks) (after_first blocks.starts)
  pub ordinals : IsLineOf (ordinal_line blocks) (after_first blocks.ordinals)

pub length-after_first : (numbers : List ℕ) → 0 < length numbers → length (after_first numbers) + 1 ≡ length numbers
length-after_first [] some = absurd (omega arith)
length-after_first (n ∷ numbers) some = omega (arith, length-numbered_from 1 n numbers)

pub get_or-after_first : (numbers : List ℕ) (i : ℕ) (d : Pair) → suc i < length numbers → get_or (after_first numbers) i d ≡ (suc i, get_or numbers (suc i) 0 - get_or numbers 0 0)
get_or-after_first [] i d below = absurd (omega arith)
get_or-after_first (n ∷ numbers) i d below = get_or-numbered_from 1 n numbers i d 0 (omega arith) ∙ ap (λ k. (k, get_or numbers i 0 - n)) (omega arith)

-- a number that is stored at a line comes back
number-back : (line : Line) (numbers : List ℕ) (i : ℕ) (d : Pair) → IsLineOf line (after_first numbers) → suc i < length numbers → get_or numbers 0 0 ≤ get_or numbers (suc i) 0
    → deviated (get_or numbers 0 0 + line.slope * suc i) line.bits (stored line (get_or (after_first numbers) i d)) ≡ Some (get_or numbers (suc i) 0)
number-back line numbers i d of below above =
    let pair : Pair = get_or (after_first numbers) i d in
    let base : ℕ = get_or numbers 0 0 in
    let is : pair ≡ (suc i, get_or numbers (suc i) 0 - base) = get_or-after_first numbers i d below in
    let place : suc i ≡ pair.0 = sym (ap (λ (p : Pair). p.0) is) in
    let number : pair.1 ≡ get_or numbers (suc i) 0 - base = ap (λ (p : Pair). p.1) is in
    ap (λ k. deviated (base + line.slope * k) line.bits (stored line pair)) place
    ∙ deviated-stored line pair base (of.near i d (omega (arith, length-after_first numbers (omega arith))))
    ∙ ap (λ n. Some n) (omega (arith, number, above))

no_pieces : FitWidths []
no_pieces = λ k d below. absurd (omega arith)

deviations-fit : (range ordinal : Line) (starts ordinals : List Pair) → ((i : ℕ) (d : Pair) → i < length starts → IsNear range (get_or starts i d)) → ((i : ℕ) (d : Pair) → i < length ordinals → IsNear ordinal (get_or ordinals i d))
    → FitWidths (deviations range ordinal starts ordinals)
unfolding deviations
deviations-fit range ordinal [] ordinals near_starts near_ordinals = no_pieces
deviations-fit range ordinal (start ∷ starts) [] near_starts near_ordinals =
    All-cons (λ (piece : ℕ × ℕ). piece.0 < 2 ^ piece.1) (stored range start, range.bits) [] (stored-fits range start (near_starts 0 start (omega arith))) no_pieces
deviations-fit range ordinal (start ∷ starts) (first ∷ ordinals) near_starts near_ordinals =
    All-cons (λ (piece : ℕ × ℕ). piece.0 < 2 ^ piece.1) (stored range start, range.bits) ((stored ordinal first, ordinal.bits) ∷ deviations range ordinal starts ordinals) (stored-fits range start (near_starts 0 start (omega arith)))
    (All-cons (λ (piece : ℕ × ℕ). piece.0 < 2 ^ piece.1) (stored ordinal first, ordinal.bits) (deviations range ordinal starts ordinals) (stored-fits ordinal first (near_ordinals 0 first (omega arith)))
    (deviations-fit range ordinal starts ordinals (λ i d below. near_starts (suc i) d (omega arith)) (λ i d below. near_ordinals (suc i) d (omega arith))))

pieces-fit : (blocks : Blocks) → IsGroup blocks → FitWidths (deviations (range_line blocks) (ordinal_line blocks) (after_first blocks.starts) (after_first blocks.ordinals))
pieces-fit blocks is = deviations-fit (range_line blocks) (ordinal_line blocks) (after_first blocks.starts) (after_first blocks.ordinals) is.ranges.near is.ordinals.near

pairs-ended : (blocks : Blocks) → IsGroup blocks → length (after_first blocks.starts) ≡ length (after_first blocks.ordinals) + 1
pairs-ended blocks is = omega (arith, is.ended, is.some, length-after_first blocks.starts (omega (arith, is.ended)), length-after_first blocks.ordinals is.some)

pub start_of-group : (offset : ℕ) (blocks : Blocks) (rest : List ℕ) (i : ℕ) → IsGroup blocks → i < length blocks.starts → start_of (meta_of offset blocks) (packed_of blocks ++ rest) i ≡ Some (get_or blocks.starts i 0)
unfolding start_of
start_of-group offset blocks rest zero is below = refl
start_of-group offset blocks rest (suc i) is below =
    let range : Line = range_line blocks in
    let ordinal : Line = ordinal_line blocks in
    let starts : List Pair = after_first blocks.starts in
    let ordinals : List Pair = after_first blocks.ordinals in
    let d : Pair = (0, 0) in
    let has = start-at range ordinal starts ordinals i d (pairs-ended blocks is) (omega (arith, below, length-after_first blocks.starts (omega (arith, is.ended)))) in
    let read : stored_bits (i * (range.bits + ordinal.bits)) range.bits (packed_of blocks ++ rest) ≡ Some (stored range (get_or starts i d)) =
    stored_bits-packed (deviations range ordinal starts ordinals) (i * (range.bits + ordinal.bits)) (stored range (get_or starts i d)) range.bits rest (pieces-fit blocks is) has in
    let there : stored_bits (stored_place (meta_of offset blocks) (suc i)) range.bits (packed_of blocks ++ rest) ≡ Some (stored range (get_or starts i d)) =
    ap (λ k. stored_bits (k * (range.bits + ordinal.bits)) range.bits (packed_of blocks ++ rest)) (omega arith) ∙ read in
    ap (λ o. o >>= deviated (get_or blocks.starts 0 0 + range.slope * suc i) range.bits) there
    ∙ number-back range blocks.starts i d is.ranges below (is.starts_rise (suc i) below)

pub ordinal_of-group : (offset : ℕ) (blocks : Blocks) (rest : List ℕ) (i : ℕ) → IsGroup blocks → i < length blocks.ordinals → ordinal_of (meta_of offset blocks) (packed_of blocks ++ rest) i ≡ Some (get_or blocks.ordinals i 0)
unfolding ordinal_of
ordinal_of-group offset blocks rest zero is below = refl
ordinal_of-group offset blocks rest (suc i) is below =
    let range : Line = range_line blocks in
    let ordinal : Line = ordinal_line blocks in
    let starts : List Pair = after_first blocks.starts in
    let ordinals : List Pair = after_first blocks.ordinals in
    let d : Pair = (0, 0) in
    let has = ordinal-at range ordinal starts ordinals i d (pairs-ended blocks is) (omega (arith, below, length-after_first blocks.ordinals is.some)) in
    let read : stored_bits (i * (range.bits + ordinal.bits) + range.bits) ordinal.bits (packed_of blocks ++ rest) ≡ Some (stored ordinal (get_or ordinals i d)) =
    stored_bits-packed (deviations range ordinal starts ordinals) (i * (range.bits + ordinal.bits) + range.bits) (stored ordinal (get_or ordinals i d)) ordinal.bits rest (pieces-fit blocks is) has in
    let there : stored_bits (stored_place (meta_of offset blocks) (suc i) + range.bits) ordinal.bits (packed_of blocks ++ rest) ≡ Some (stored ordinal (get_or ordinals i d)) =
    ap (λ k. stored_bits (k * (range.bits + ordinal.bits) + range.bits) ordinal.bits (packed_of blocks ++ rest)) (omega arith) ∙ read in
    ap (λ o. o >>= deviated (get_or blocks.ordinals 0 0 + ordinal.slope * suc i) ordinal.bits) there
    ∙ number-back ordinal blocks.ordinals i d is.ordinals below (is.ordinals_rise (suc i) below)

pub address_of-group : (offset : ℕ) (blocks : Blocks) (rest : List ℕ) (i : ℕ) (d : Address) → IsGroup blocks → i < length blocks.ordinals → address_of (meta_of offset blocks) (packed_of blocks ++ rest) i ≡ Some (get_or (addresses_of blocks) i d)
address_of-group offset blocks rest i d is below =
    let m : Meta = meta_of offset blocks in
    let bytes : List ℕ = packed_of blocks ++ rest in
    let a : ℕ = get_or blocks.starts i 0 in
    let b : ℕ = get_or blocks.starts (suc i) 0 in
    let first : start_of m bytes i ≡ Some a = start_of-group offset blocks rest i is (omega (arith, is.ended, below)) in
    let second : start_of m bytes (i + 1) ≡ Some b = ap (start_of m bytes) (omega arith) ∙ start_of-group offset blocks rest (suc i) is (omega (arith, is.ended, below)) in
    let third : ordinal_of m bytes i ≡ Some (get_or blocks.ordinals i 0) = ordinal_of-group offset blocks rest i is below in
    ap (λ o. o >>= (λ start. start_of m bytes (i + 1) >>= (λ end. ordinal_of m bytes i >>= (λ ordinal. Some (record { start = start; end = end; first_ordinal = ordinal }))))) first
    ∙ ap (λ o. o >>= (λ end. ordinal_of m bytes i >>= (λ ordinal. Some (record { start = a; end = end; first_ordinal = ordinal })))) second
    ∙ ap (λ o. o >>= (λ ordinal. Some (record { start = a; end = b; first_ordinal = ordinal }))) third
    ∙ ap (λ x. Some x) (sym (get_or-addresses_between blocks.starts blocks.ordinals i d is.ended below))

bits-are : (bits : ℕ) → 1 ≤ bits → bits ≤ 56 → are_bits bits ≡ true
bits-are bits some few = ap (λ t. t && nat_le bits 56) (le-leb 1 bits some) ∙ le-leb bits 56 few

-- the addresses of the group whose packed data stands at this place
pub addresses_of_meta-group : (whole front rest : List ℕ) (blocks : Blocks) → IsGroup blocks → whole ≡ front ++ (packed_of blocks ++ rest) → addresses_of_meta whole (meta_of (length front) blocks) ≡ Some (addresses_of blocks)
addresses_of_meta-group whole front rest blocks is split =
    let m : Meta = meta_of (length front) blocks in
    let bytes : List ℕ = packed_of blocks ++ rest in
    let here : drop (length front) whole ≡ bytes = ap (drop (length front)) split ∙ drop-append_seam front bytes in
    let long : length (addresses_of blocks) ≡ length blocks.ordinals = length-addresses_between blocks.starts blocks.ordinals is.ended in
    let bits : (are_bits m.range_bits && are_bits m.ordinal_bits) ≡ true =
    ap (λ t. t && are_bits m.ordinal_bits) (bits-are m.range_bits is.ranges.some is.ranges.few) ∙ bits-are m.ordinal_bits is.ordinals.some is.ordinals.few in
    ap (λ t. provided t >>= (λ _. each (address_of m (drop (length front) whole)) (numbers_from 0 (length blocks.ordinals)))) bits
    ∙ ap (λ bs. each (address_of m bs) (numbers_from 0 (length blocks.ordinals))) here
    ∙ ap (λ n. each (address_of m bytes) (numbers_from 0 n)) (sym long)
    ∙ each-numbers_from (address_of m bytes) 0 (addresses_of blocks) (λ i d below. ap (address_of m bytes) (omega arith) ∙ address_of-group (length front) blocks rest i d is (omega (arith, below, long)))
