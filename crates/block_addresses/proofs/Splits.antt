-- Where each deviation stands among those that are packed.
use Rattle.std.proofs.Common.{◌≡◌, ℕ, zero, suc, ◌+◌, ◌*◌, ◌^◌, ◌<◌, List, [], ◌∷◌, ◌++◌, length, get_or, Some, refl, ap, sym, subst, length-append, ◌∙◌, arith}
use Rattle.std.proofs.lemmas.Bool.{le-leb}
use Rattle.std.proofs.lemmas.List.{get_or_append_left, get_or_at}
use Rattle.owned_bytes.specs.Front.{◌>>=◌, provided}
use Rattle.sstable_format.specs.Store.{stored_bits}
use Rattle.tantivy_bitpacker.specs.Packed.{bits_from, total_width, packed_pieces, bytes_for, bits_of, FitWidths}
use Rattle.block_addresses.specs.Lines.{Pair, Line, stored}
use Rattle.block_addresses.specs.Written.{deviations}
use Rattle.tantivy_bitpacker.proofs.Bytes.{length-bytes_of}
use Rattle.tantivy_bitpacker.proofs.Packing.{bits_from-packed, total_width-append}

-- the pieces have a value of this width at this place
pub record HasAt (pieces : List (ℕ × ℕ)) (place value width : ℕ) : Type 0 where
  pub front : List (ℕ × ℕ)
  pub back : List (ℕ × ℕ)
  pub split : pieces ≡ front ++ (value, width) ∷ back
  pub stands : total_width front ≡ place

HasAt-behind : (first second : ℕ × ℕ) (pieces : List (ℕ × ℕ)) (place value width : ℕ) → HasAt pieces place value width
    → HasAt (first ∷ second ∷ pieces) (first.1 + (second.1 + place)) value width
unfolding total_width
HasAt-behind (a, m) (b, n) pieces place value width has = record {
  front = (a, m) ∷ (b, n) ∷ has.front;
  back = has.back;
  split = ap (λ xs. (a, m) ∷ (b, n) ∷ xs) has.split;
  stands = ap (λ p. m + (n + p)) has.stands;
}

HasAt-first : (value width : ℕ) (pieces : List (ℕ × ℕ)) → HasAt ((value, width) ∷ pieces) 0 value width
unfolding total_width
HasAt-first value width pieces = record { front = []; back = pieces; split = refl; stands = refl }

HasAt-second : (a m value width : ℕ) (pieces : List (ℕ × ℕ)) → HasAt ((a, m) ∷ (value, width) ∷ pieces) m value width
unfolding total_width
HasAt-second a m value width pieces = record { front = (a, m) ∷ []; back = pieces; split = refl; stands = omega arith }

-- at another spelling of the same place
HasAt-moved : (pieces : List (ℕ × ℕ)) (place other value width : ℕ) → place ≡ other → HasAt pieces place value width → HasAt pieces other value width
HasAt-moved pieces place other value width same has = record { front = has.front; back = has.back; split = has.split; stands = has.stands ∙ same }

-- the start of block i + 1
pub start-at : (range ordinal : Line) (starts ordinals : List Pair) (i : ℕ) (d : Pair) → length starts ≡ length ordinals + 1 → i < length starts
    → HasAt (deviations range ordinal starts ordinals) (i * (range.bits + ordinal.bits)) (stored range (get_or starts i d)) range.bits
unfolding deviations
start-at range ordinal [] ordinals i d long below = absurd (omega arith)
start-at range ordinal (start ∷ starts) [] zero d long below = HasAt-moved _ _ _ _ _ (omega arith) (HasAt-first (stored range start) range.bits [])
start-at range ordinal (start ∷ starts) [] (suc i) d long below = absurd (omega arith)
start-at range ordinal (start ∷ starts) (first ∷ ordinals) zero d long below = HasAt-moved _ _ _ _ _ (omega arith) (HasAt-first (stored range start) range.bits ((stored ordinal first, ordinal.bits) ∷ deviations range ordinal starts ordinals))
start-at range ordinal (start ∷ starts) (first ∷ ordinals) (suc i) d long below =
    HasAt-moved _ _ _ _ _ (omega arith)
    (HasAt-behind (stored range start, range.bits) (stored ordinal first, ordinal.bits) (deviations range ordinal starts ordinals) (i * (range.bits + ordinal.bits)) (stored range (get_or starts i d)) range.bits
    (start-at range ordinal starts ordinals i d (omega arith) (omega arith)))

-- the ordinal of block i + 1
pub ordinal-at : (range ordinal : Line) (starts ordinals : List Pair) (i : ℕ) (d : Pair) → length starts ≡ length ordinals + 1 → i < length ordinals
    → HasAt (deviations range ordinal starts ordinals) (i * (range.bits + ordinal.bits) + range.bits) (stored ordinal (get_or ordinals i d)) ordinal.bits
unfolding deviations
ordinal-at range ordinal [] ordinals i d long below = absurd (omega arith)
ordinal-at range ordinal (start ∷ starts) [] i d long below = absurd (omega arith)
ordinal-at range ordinal (start ∷ starts) (first ∷ ordinals) zero d long below = HasAt-moved _ _ _ _ _ (omega arith) (HasAt-second (stored range start) range.bits (stored ordinal first) ordinal.bits (deviations range ordinal starts ordinals))
ordinal-at range ordinal (start ∷ starts) (first ∷ ordinals) (suc i) d long below =
    HasAt-moved _ _ _ _ _ (omega arith)
    (HasAt-behind (stored range start, range.bits) (stored ordinal first, ordinal.bits) (deviations range ordinal starts ordinals) (i * (range.bits + ordinal.bits) + range.bits) (stored ordinal (get_or ordinals i d)) ordinal.bits
    (ordinal-at range ordinal starts ordinals i d (omega arith) (omega arith)))

fits-front : (front back : List (ℕ × ℕ)) (value width : ℕ) → FitWidths (front ++ (value, width) ∷ back) → FitWidths front × (value < 2 ^ width)
fits-front front back value width fit =
    let P : ℕ × ℕ → Type 0 = λ piece. piece.0 < 2 ^ piece.1 in
    let long : length (front ++ (value, width) ∷ back) ≡ length front + suc (length back) = length-append front ((value, width) ∷ back) in (
      λ k d below. subst P (get_or_append_left front ((value, width) ∷ back) d k below) (fit k d (omega (arith, long, below))),
      subst P (get_or_at front (value, width) back (value, width) (length front) refl) (fit (length front) (value, width) (omega (arith, long))),
    )

-- a value among packed pieces is read again, whatever follows them
pub stored_bits-packed : (pieces : List (ℕ × ℕ)) (place value width : ℕ) (rest : List ℕ) → FitWidths pieces → HasAt pieces place value width
    → stored_bits place width (packed_pieces pieces ++ rest) ≡ Some value
unfolding total_width
stored_bits-packed pieces place value width rest fit has =
    let front : List (ℕ × ℕ) = has.front in
    let whole : List (ℕ × ℕ) = front ++ (value, width) ∷ has.back in
    let fits = fits-front front has.back value width (rw has.split at fit) in
    let total : total_width whole ≡ total_width front + (width + total_width has.back) = total_width-append front ((value, width) ∷ has.back) in
    let long : length (packed_pieces whole) ≡ bytes_for (total_width whole) = length-bytes_of (bytes_for (total_width whole)) (bits_of whole).number in
    let here : stored_bits (total_width front) width (packed_pieces whole ++ rest) ≡ Some value =
    ap (λ t. provided t >>= (λ _. Some (bits_from (total_width front) width (packed_pieces whole ++ rest)))) (le-leb (total_width front + width) (8 * length (packed_pieces whole ++ rest)) (omega (arith, long, total, length-append (packed_pieces whole) rest)))
    ∙ ap (λ n. Some n) (bits_from-packed front has.back value width rest fits.0 fits.1) in
    ap (λ ps. stored_bits place width (packed_pieces ps ++ rest)) has.split ∙ ap (λ p. stored_bits p width (packed_pieces whole ++ rest)) (sym has.stands) ∙ here
