-- What bytes spell, key by key.
use Rattle.std.proofs.Common.{◌≡◌, ℕ, zero, suc, ◌+◌, ◌-◌, ◌*◌, ◌<◌, ◌≤◌, List, [], ◌∷◌, length, take, drop, map, get_or, Option, Some, None, Bool, true, false, ◌||◌, ◌&&◌, cond, refl, ap, sym, ◌∙◌, subst, arith, length-drop, leb, ltb, eqb}
use Rattle.std.proofs.lemmas.Bool.{le-leb, lt-leb, leb-true, ltb-true, ltb-false, leb-false, eq-eqb, ne_eqb, eqb-true, cond-true, cond-false}
use Rattle.std.proofs.lemmas.List.{drop-drop}
use Rattle.std.specs.Prelude.{is_some, unwrap_or, slice_range}
use Rattle.std.specs.Int.{w64, from_le_bytes}
use Rattle.owned_bytes.specs.Front.{◌>>=◌, provided, number_at, bytes_at}
unfoldable use Rattle.owned_bytes.specs.Front.{counted}
use Rattle.owned_bytes.specs.Keys.{Key, is_below}
unfoldable use Rattle.owned_bytes.specs.Keys.{is_rising}
use Rattle.owned_bytes.proofs.Pieces.{bind_some, some_is, rest_is}
use Rattle.fst_map.specs.Map.{end_and_value_at, entry_at}
unfoldable use Rattle.fst_map.specs.Map.{keys_from, map_of}
use Rattle.fst_map.specs.Opened.{number_in, end_in, start_in, value_in, area_in, HasTable, IsMap, entries_of}
use Rattle.fst_map.proofs.Fronts.{provided-true, bytes_at-front, bytes_at-none}

-- a number at a place
number-at : (bytes : List ℕ) (p : ℕ) → p + 8 ≤ length bytes → number_at w64 (drop p bytes) ≡ Some (number_in bytes p, drop (p + 8) bytes)
number-at bytes p fits =
    ap (λ o. o >>= (λ piece. Some (from_le_bytes w64 piece.0, piece.1))) (bytes_at-front 8 (drop p bytes) (omega (arith, length-drop p bytes)))
    ∙ ap (λ (r : List ℕ). Some (number_in bytes p, r)) (drop-drop 8 p bytes)

number-none : (bytes : List ℕ) → length bytes < 8 → number_at w64 bytes ≡ None
number-none bytes short = ap (λ o. o >>= (λ piece. Some (from_le_bytes w64 piece.0, piece.1))) (bytes_at-none 8 bytes short)

item-at : (bytes : List ℕ) (p : ℕ) → p + 16 ≤ length bytes → end_and_value_at (drop p bytes) ≡ Some ((number_in bytes p, number_in bytes (p + 8)), drop (p + 16) bytes)
item-at bytes p fits =
    let same : p + 8 + 8 ≡ p + 16 = omega arith in
    ap (λ o. o >>= (λ end. number_at w64 end.1 >>= (λ value. Some ((end.0, value.0), value.1)))) (number-at bytes p (omega arith))
    ∙ ap (λ o. o >>= (λ (value : ℕ × List ℕ). Some ((number_in bytes p, value.0), value.1))) (number-at bytes (p + 8) (omega arith))
    ∙ ap (λ n. Some ((number_in bytes p, number_in bytes (p + 8)), drop n bytes)) same

item-none : (bytes : List ℕ) → length bytes < 16 → end_and_value_at bytes ≡ None
item-none bytes short = by (ltb (length bytes) 8) refl
  where
    by : (t : Bool) → ltb (length bytes) 8 ≡ t → end_and_value_at bytes ≡ None
    by true e = ap (λ o. o >>= (λ end. number_at w64 end.1 >>= (λ value. Some ((end.0, value.0), value.1)))) (number-none bytes (ltb-true _ _ e))
    by false e =
        let long : 8 ≤ length bytes = ltb-false _ _ e in
        ap (λ o. o >>= (λ end. number_at w64 end.1 >>= (λ value. Some ((end.0, value.0), value.1)))) (number-at bytes 0 (omega arith))
        ∙ ap (λ o. o >>= (λ (value : ℕ × List ℕ). Some ((number_in bytes 0, value.0), value.1))) (number-none (drop 8 bytes) (omega (arith, length-drop 8 bytes)))

-- the ends and values of so many keys from key i on
ends_from : ℕ → ℕ → List ℕ → List (ℕ × ℕ)
ends_from zero i bytes = []
ends_from (suc n) i bytes = (end_in bytes i, value_in bytes i) ∷ ends_from n (i + 1) bytes

counted-is : (n i : ℕ) (bytes : List ℕ) → 8 + 16 * (i + n) ≤ length bytes → counted n end_and_value_at (drop (8 + 16 * i) bytes) ≡ Some (ends_from n i bytes, drop (8 + 16 * (i + n)) bytes)
unfolding counted ends_from
counted-is zero i bytes fits = let same : i ≡ i + 0 = omega arith in ap (λ m. Some ([], drop (8 + 16 * m) bytes)) same
counted-is (suc n) i bytes fits =
    let next : 8 + 16 * i + 16 ≡ 8 + 16 * (i + 1) = omega arith in
    let value : 8 + 16 * i + 8 ≡ 16 + 16 * i = omega arith in
    let all : i + 1 + n ≡ i + suc n = omega arith in
    let item : end_and_value_at (drop (8 + 16 * i) bytes) ≡ Some ((end_in bytes i, value_in bytes i), drop (8 + 16 * (i + 1)) bytes) =
    item-at bytes (8 + 16 * i) (omega arith) ∙ ap (λ p. Some ((end_in bytes i, number_in bytes p), drop (8 + 16 * i + 16) bytes)) value ∙ ap (λ p. Some ((end_in bytes i, value_in bytes i), drop p bytes)) next in
    ap (λ o. o >>= (λ first. counted n end_and_value_at first.1 >>= (λ others. Some (first.0 ∷ others.0, others.1)))) item
    ∙ ap (λ o. o >>= (λ (others : List (ℕ × ℕ) × List ℕ). Some ((end_in bytes i, value_in bytes i) ∷ others.0, others.1))) (counted-is n (i + 1) bytes (omega arith))
    ∙ ap (λ m. Some ((end_in bytes i, value_in bytes i) ∷ ends_from n (i + 1) bytes, drop (8 + 16 * m) bytes)) all

-- what a value leaves for the others
others_after : ℕ → (ℕ × ℕ) × List ℕ → Option (List (ℕ × ℕ) × List ℕ)
others_after n first = counted n end_and_value_at first.1 >>= (λ others. Some (first.0 ∷ others.0, others.1))

counted-suc : (n : ℕ) (bytes : List ℕ) → counted (suc n) end_and_value_at bytes ≡ (end_and_value_at bytes >>= others_after n)
unfolding counted others_after
counted-suc n bytes = refl

others-none : (n : ℕ) (first : (ℕ × ℕ) × List ℕ) → counted n end_and_value_at first.1 ≡ None → others_after n first ≡ None
unfolding others_after
others-none n first e = ap (λ (o : Option (List (ℕ × ℕ) × List ℕ)). o >>= (λ others. Some (first.0 ∷ others.0, others.1))) e

counted-none : (n : ℕ) (bytes : List ℕ) → length bytes < 16 * n → counted n end_and_value_at bytes ≡ None
counted-none zero bytes short = absurd (omega arith)
counted-none (suc n) bytes short =
    by (ltb (length bytes) 16) refl (λ (long : 16 ≤ length bytes). counted-none n (drop 16 bytes) (omega (arith, length-drop 16 bytes)))
  where
    by : (t : Bool) → ltb (length bytes) 16 ≡ t → (16 ≤ length bytes → counted n end_and_value_at (drop 16 bytes) ≡ None) → counted (suc n) end_and_value_at bytes ≡ None
    by true e again = counted-suc n bytes ∙ ap (λ o. o >>= others_after n) (item-none bytes (ltb-true _ _ e))
    by false e again =
        let long : 16 ≤ length bytes = ltb-false _ _ e in
        counted-suc n bytes ∙ ap (λ o. o >>= others_after n) (item-at bytes 0 (omega arith))
        ∙ others-none n ((number_in bytes 0, number_in bytes 8), drop 16 bytes) (again long)

-- The entries of so many keys from key i on, where they rise and are all that is left of the key area.
unfoldable pub rest_from : ℕ → ℕ → List ℕ → List ℕ → ℕ → Bool → Key → Option (List (Key × ℕ))
rest_from zero i bytes area start is_first before = provided (eqb start (length area)) >>= (λ _. Some [])
rest_from (suc n) i bytes area start is_first before =
    provided (leb start (end_in bytes i)) >>= (λ _. provided (leb (end_in bytes i) (length area)) >>= (λ _. provided (is_first || is_below before (slice_range area start (end_in bytes i))) >>= (λ _.
    rest_from n (i + 1) bytes area (end_in bytes i) false (slice_range area start (end_in bytes i)) >>= (λ others. Some ((slice_range area start (end_in bytes i), value_in bytes i) ∷ others)))))

rising_after : Bool → Key → List (Key × ℕ) → Bool
rising_after is_first before entries = cond is_first (is_rising (map (λ entry. entry.0) entries)) (is_rising (before ∷ map (λ entry. entry.0) entries))

rising-none : (is_first : Bool) (before : Key) → rising_after is_first before [] ≡ true
unfolding rising_after is_rising
rising-none true before = refl
rising-none false before = refl

rising-one : (is_first : Bool) (before : Key) (entry : Key × ℕ) (others : List (Key × ℕ)) → rising_after is_first before (entry ∷ others) ≡ ((is_first || is_below before entry.0) && rising_after false entry.0 others)
unfolding rising_after is_rising
rising-one true before entry others = refl
rising-one false before entry others = refl

only_rising : Bool → Key → Option (List (Key × ℕ)) → Option (List (Key × ℕ))
only_rising is_first before found = found >>= (λ entries. provided (rising_after is_first before entries) >>= (λ _. Some entries))

no_entries : Option (List (Key × ℕ))
no_entries = None

never : (t : Bool) → (provided t >>= (λ _. no_entries)) ≡ None
unfolding no_entries
never true = refl
never false = refl

both-tests : (t u : Bool) (entry : Key × ℕ) (others : List (Key × ℕ)) → (provided (t && u) >>= (λ _. Some (entry ∷ others))) ≡ (provided t >>= (λ _. (provided u >>= (λ _. Some others)) >>= (λ others. Some (entry ∷ others))))
both-tests true true entry others = refl
both-tests true false entry others = refl
both-tests false u entry others = refl

-- a rising list is a first key that may follow and then a rising list
rising-step : (is_first : Bool) (before : Key) (entry : Key × ℕ) (found : Option (List (Key × ℕ)))
    → only_rising is_first before (found >>= (λ others. Some (entry ∷ others))) ≡ (provided (is_first || is_below before entry.0) >>= (λ _. only_rising false entry.0 found >>= (λ others. Some (entry ∷ others))))
unfolding only_rising no_entries
rising-step is_first before entry None = sym (never (is_first || is_below before entry.0))
rising-step is_first before entry (Some others) =
    ap (λ t. provided t >>= (λ _. Some (entry ∷ others))) (rising-one is_first before entry others) ∙ both-tests (is_first || is_below before entry.0) (rising_after false entry.0 others) entry others

rest-is : (n i : ℕ) (bytes area : List ℕ) (start : ℕ) (is_first : Bool) (before : Key) → start ≤ length area
    → only_rising is_first before (keys_from start (ends_from n i bytes) (drop start area)) ≡ rest_from n i bytes area start is_first before
unfolding keys_from ends_from rest_from only_rising
rest-is zero i bytes area start is_first before within = by (drop start area) refl
  where
    by : (left : List ℕ) → drop start area ≡ left → only_rising is_first before (keys_from start [] left) ≡ (provided (eqb start (length area)) >>= (λ _. Some []))
    by [] e =
        let same : start ≡ length area = omega (arith, length-drop start area, ap length e, within) in
        ap (λ t. provided t >>= (λ _. Some [])) (rising-none is_first before ∙ sym (eq-eqb _ _ same))
    by (b ∷ left) e =
        let more : start < length area = omega (arith, length-drop start area, ap length e) in
        sym (ap (λ t. provided t >>= (λ _. Some [])) (ne_eqb start (length area) (omega (arith, more))))
rest-is (suc n) i bytes area start is_first before within = by_start (leb start (end_in bytes i)) refl (rest-is n (i + 1) bytes area (end_in bytes i) false (slice_range area start (end_in bytes i)))
  where
    others_of : Option (List ℕ × List ℕ) → Option (List (Key × ℕ))
    others_of key = key >>= (λ key. keys_from (end_in bytes i) (ends_from n (i + 1) bytes) key.1 >>= (λ others. Some ((key.0, value_in bytes i) ∷ others)))

    Same : Bool → Bool → Type 0
    Same t u = only_rising is_first before (provided t >>= (λ _. others_of (bytes_at (end_in bytes i - start) (drop start area))))
        ≡ (provided t >>= (λ _. provided u >>= (λ _. provided (is_first || is_below before (slice_range area start (end_in bytes i))) >>= (λ _.
        rest_from n (i + 1) bytes area (end_in bytes i) false (slice_range area start (end_in bytes i)) >>= (λ others. Some ((slice_range area start (end_in bytes i), value_in bytes i) ∷ others))))))

    Again : Type 0
    Again = end_in bytes i ≤ length area → only_rising false (slice_range area start (end_in bytes i)) (keys_from (end_in bytes i) (ends_from n (i + 1) bytes) (drop (end_in bytes i) area))
        ≡ rest_from n (i + 1) bytes area (end_in bytes i) false (slice_range area start (end_in bytes i))

    by_end : (u : Bool) → leb (end_in bytes i) (length area) ≡ u → start ≤ end_in bytes i → Again → Same true u
    by_end false e ordered again =
        let past : length area < end_in bytes i = leb-false _ _ e in
        ap (λ o. only_rising is_first before (others_of o)) (bytes_at-none (end_in bytes i - start) (drop start area) (omega (arith, length-drop start area, past, ordered, within)))
    by_end true e ordered again =
        let fits : end_in bytes i ≤ length area = leb-true _ _ e in
        let there : start + (end_in bytes i - start) ≡ end_in bytes i = omega (arith, ordered) in
        ap (λ o. only_rising is_first before (others_of o)) (bytes_at-front (end_in bytes i - start) (drop start area) (omega (arith, length-drop start area, fits, ordered))
        ∙ ap (λ (r : List ℕ). Some (slice_range area start (end_in bytes i), r)) (drop-drop (end_in bytes i - start) start area ∙ ap (λ m. drop m area) there))
        ∙ rising-step is_first before (slice_range area start (end_in bytes i), value_in bytes i) (keys_from (end_in bytes i) (ends_from n (i + 1) bytes) (drop (end_in bytes i) area))
        ∙ ap (λ o. provided (is_first || is_below before (slice_range area start (end_in bytes i))) >>= (λ _. o >>= (λ others. Some ((slice_range area start (end_in bytes i), value_in bytes i) ∷ others)))) (again fits)

    by_start : (t : Bool) → leb start (end_in bytes i) ≡ t → Again → Same t (leb (end_in bytes i) (length area))
    by_start false e again = refl
    by_start true e again = by_end (leb (end_in bytes i) (length area)) refl (leb-true _ _ e) again

-- where there is a table, the map is what its keys are
pub map-is : (len : ℕ) (bytes : List ℕ) → HasTable len bytes → map_of bytes ≡ rest_from len 0 bytes (area_in len bytes) 0 true []
unfolding map_of only_rising rising_after
map-is len bytes h =
    let all : 0 + len ≡ len = omega arith in
    ap (λ o. o >>= (λ (count : ℕ × List ℕ). counted count.0 end_and_value_at count.1 >>= (λ ends. keys_from 0 ends.0 ends.1 >>= (λ entries. provided (is_rising (map (λ entry. entry.0) entries)) >>= (λ _. Some entries)))))
    (number-at bytes 0 (omega (arith, h.fits)) ∙ ap (λ n. Some (n, drop 8 bytes)) h.count)
    ∙ ap (λ o. o >>= (λ (ends : List (ℕ × ℕ) × List ℕ). keys_from 0 ends.0 ends.1 >>= (λ entries. provided (is_rising (map (λ entry. entry.0) entries)) >>= (λ _. Some entries))))
    (counted-is len 0 bytes (omega (arith, h.fits)) ∙ ap (λ m. Some (ends_from len 0 bytes, drop (8 + 16 * m) bytes)) all)
    ∙ rest-is len 0 bytes (area_in len bytes) 0 true [] (omega arith)

-- bytes without a table are no map
pub no-number : (bytes : List ℕ) → length bytes < 8 → map_of bytes ≡ None
unfolding map_of
no-number bytes short =
    ap (λ o. o >>= (λ (count : ℕ × List ℕ). counted count.0 end_and_value_at count.1 >>= (λ ends. keys_from 0 ends.0 ends.1 >>= (λ entries. provided (is_rising (map (λ entry. entry.0) entries)) >>= (λ _. Some entries))))) (number-none bytes short)

pub no-table : (bytes : List ℕ) → 8 ≤ length bytes → length bytes < 8 + 16 * number_in bytes 0 → map_of bytes ≡ None
unfolding map_of
no-table bytes long short =
    ap (λ o. o >>= (λ (count : ℕ × List ℕ). counted count.0 end_and_value_at count.1 >>= (λ ends. keys_from 0 ends.0 ends.1 >>= (λ entries. provided (is_rising (map (λ entry. entry.0) entries)) >>= (λ _. Some entries))))) (number-at bytes 0 (omega arith))
    ∙ ap (λ o. o >>= (λ (ends : List (ℕ × ℕ) × List ℕ). keys_from 0 ends.0 ends.1 >>= (λ entries. provided (is_rising (map (λ entry. entry.0) entries)) >>= (λ _. Some entries)))) (counted-none (number_in bytes 0) (drop 8 bytes) (omega (arith, length-drop 8 bytes)))

-- where key j begins, of those from key i on, which begins at `start`
begin : List ℕ → ℕ → ℕ → ℕ → ℕ
begin bytes start i j = cond (eqb j i) start (end_in bytes (j - 1))

-- key j of the entries from key i on
record IsAt (bytes area : List ℕ) (entries : List (Key × ℕ)) (start i j : ℕ) : Type 0 where
  is : get_or entries (j - i) ([], 0) ≡ (slice_range area (begin bytes start i j) (end_in bytes j), value_in bytes j)
  ordered : begin bytes start i j ≤ end_in bytes j
  within : end_in bytes j ≤ length area

record AreAt (bytes area : List ℕ) (entries : List (Key × ℕ)) (start i n : ℕ) : Type 0 where
  long : length entries ≡ n
  each : (j : ℕ) → i ≤ j → j < i + n → IsAt bytes area entries start i j

-- what `rest_from` found of a key: its bounds, and the others
record Found (n i : ℕ) (bytes area : List ℕ) (start : ℕ) (entries : List (Key × ℕ)) : Type 0 where
  ordered : start ≤ end_in bytes i
  within : end_in bytes i ≤ length area
  others : List (Key × ℕ)
  rest : rest_from n (i + 1) bytes area (end_in bytes i) false (slice_range area start (end_in bytes i)) ≡ Some others
  are : entries ≡ (slice_range area start (end_in bytes i), value_in bytes i) ∷ others

found-one : (n i : ℕ) (bytes area : List ℕ) (start : ℕ) (is_first : Bool) (before : Key) (entries : List (Key × ℕ)) → rest_from (suc n) i bytes area start is_first before ≡ Some entries → Found n i bytes area start entries
unfolding rest_from
found-one n i bytes area start is_first before entries e =
    let key = slice_range area start (end_in bytes i) in
    let last : Option (List (Key × ℕ)) → Option (List (Key × ℕ)) = λ o. o >>= (λ others. Some ((slice_range area start (end_in bytes i), value_in bytes i) ∷ others)) in
    let rest : Option (List (Key × ℕ)) = rest_from n (i + 1) bytes area (end_in bytes i) false (slice_range area start (end_in bytes i)) in
    let one = bind_some (provided (leb start (end_in bytes i))) (λ _. provided (leb (end_in bytes i) (length area)) >>= (λ _. provided (is_first || is_below before (slice_range area start (end_in bytes i))) >>= (λ _. rest >>= (λ others. Some ((slice_range area start (end_in bytes i), value_in bytes i) ∷ others))))) entries e in
    let two = bind_some (provided (leb (end_in bytes i) (length area))) (λ _. provided (is_first || is_below before (slice_range area start (end_in bytes i))) >>= (λ _. rest >>= (λ others. Some ((slice_range area start (end_in bytes i), value_in bytes i) ∷ others)))) entries one.2 in
    let three = bind_some (provided (is_first || is_below before (slice_range area start (end_in bytes i)))) (λ _. rest >>= (λ others. Some ((slice_range area start (end_in bytes i), value_in bytes i) ∷ others))) entries two.2 in
    let four = bind_some rest (λ others. Some ((slice_range area start (end_in bytes i), value_in bytes i) ∷ others)) entries three.2 in
    record {
      ordered = leb-true _ _ (provided-true _ _ one.1);
      within = leb-true _ _ (provided-true _ _ two.1);
      others = four.0;
      rest = four.1;
      are = sym (some_is _ _ four.2);
    }

at-first : (n i : ℕ) (bytes area : List ℕ) (start : ℕ) (entries : List (Key × ℕ)) → Found n i bytes area start entries → IsAt bytes area entries start i i
unfolding begin
at-first n i bytes area start entries f =
    let none : i - i ≡ 0 = omega arith in
    let here : begin bytes start i i ≡ start = cond-true _ _ _ (eq-eqb i i refl) in
    record {
      is = ap (λ m. get_or entries m ([], 0)) none ∙ ap (λ (es : List (Key × ℕ)). get_or es 0 ([], 0)) f.are ∙ ap (λ s. (slice_range area s (end_in bytes i), value_in bytes i)) (sym here);
      ordered = subst (λ s. s ≤ end_in bytes i) (sym here) f.ordered;
      within = f.within;
    }

at-later : (n i j : ℕ) (bytes area : List ℕ) (start : ℕ) (entries : List (Key × ℕ)) (f : Found n i bytes area start entries) → i < j → IsAt bytes area f.others (end_in bytes i) (i + 1) j → IsAt bytes area entries start i j
unfolding begin
at-later n i j bytes area start entries f past later =
    let less : j - i ≡ suc (j - (i + 1)) = omega (arith, past) in
    let there : begin bytes start i j ≡ end_in bytes (j - 1) = cond-false _ _ _ (ne_eqb j i (omega (arith, past))) in
    let before : begin bytes (end_in bytes i) (i + 1) j ≡ end_in bytes (j - 1) = by (eqb j (i + 1)) refl in
    let same : begin bytes (end_in bytes i) (i + 1) j ≡ begin bytes start i j = before ∙ sym there in
    record {
      is = ap (λ m. get_or entries m ([], 0)) less ∙ ap (λ (es : List (Key × ℕ)). get_or es (suc (j - (i + 1))) ([], 0)) f.are ∙ later.is ∙ ap (λ s. (slice_range area s (end_in bytes j), value_in bytes j)) same;
      ordered = subst (λ s. s ≤ end_in bytes j) same later.ordered;
      within = later.within;
    }
  where
    by : (t : Bool) → eqb j (i + 1) ≡ t → cond t (end_in bytes i) (end_in bytes (j - 1)) ≡ end_in bytes (j - 1)
    by true e = let last : i ≡ j - 1 = omega (arith, eqb-true _ _ e) in ap (end_in bytes) last
    by false e = refl

rest-at : (n i : ℕ) (bytes area : List ℕ) (start : ℕ) (is_first : Bool) (before : Key) (entries : List (Key × ℕ)) → rest_from n i bytes area start is_first before ≡ Some entries → AreAt bytes area entries start i n
unfolding rest_from
rest-at zero i bytes area start is_first before entries e =
    let none = bind_some (provided (eqb start (length area))) (λ _. Some []) entries e in
    record { long = ap length (sym (some_is _ _ none.2)); each = λ j low high. absurd (omega (arith, low, high)) }
rest-at (suc n) i bytes area start is_first before entries e =
    let f = found-one n i bytes area start is_first before entries e in
    let again = rest-at n (i + 1) bytes area (end_in bytes i) false (slice_range area start (end_in bytes i)) f.others f.rest in
    record {
      long = ap length f.are ∙ ap suc again.long;
      each = λ j low high. by j (ltb i j) refl f again low high;
    }
  where
    by : (j : ℕ) (t : Bool) → ltb i j ≡ t → (f : Found n i bytes area start entries) → AreAt bytes area f.others (end_in bytes i) (i + 1) n → i ≤ j → j < i + suc n → IsAt bytes area entries start i j
    by j true e f again low high = at-later n i j bytes area start entries f (ltb-true _ _ e) (again.each j (omega (arith, ltb-true _ _ e)) (omega (arith, high)))
    by j false e f again low high = let same : i ≡ j = omega (arith, low, ltb-false _ _ e) in subst (IsAt bytes area entries start i) same (at-first n i bytes area start entries f)

-- the entries of a map, by the places of their keys and values
pub record IsEntry (len : ℕ) (bytes : List ℕ) (i : ℕ) : Type 0 where
  pub is : get_or (entries_of bytes) i ([], 0) ≡ (slice_range (area_in len bytes) (start_in bytes i) (end_in bytes i), value_in bytes i)
  pub ordered : start_in bytes i ≤ end_in bytes i
  pub within : end_in bytes i ≤ length (area_in len bytes)

pub record HasEntries (len : ℕ) (bytes : List ℕ) : Type 0 where
  pub found : map_of bytes ≡ Some (entries_of bytes)
  pub long : length (entries_of bytes) ≡ len
  pub each : (i : ℕ) → i < len → IsEntry len bytes i
  pub fits : 8 + 16 * len ≤ length bytes

found-entries : (o : Option (List (Key × ℕ))) → is_some o ≡ true → o ≡ Some (unwrap_or o [])
found-entries None e = absurd cc
found-entries (Some entries) e = refl

pub has-entries : (len : ℕ) (bytes : List ℕ) → IsMap len bytes → HasEntries len bytes
unfolding begin
has-entries len bytes m =
    let found = found-entries (map_of bytes) m.found in
    let all = rest-at len 0 bytes (area_in len bytes) 0 true [] (entries_of bytes) (sym (map-is len bytes m.table) ∙ found) in
    record {
      found = found;
      long = all.long;
      each = λ i below.
          let one = all.each i (omega arith) (omega (arith, below)) in
          let same : i - 0 ≡ i = omega arith in
          record { is = ap (λ m. get_or (entries_of bytes) m ([], 0)) (sym same) ∙ one.is; ordered = one.ordered; within = one.within };
      fits = m.table.fits;
    }

-- The walk over the keys. So far the rest is a map exactly where the whole is.
pub record AreKeysSo (len i : ℕ) (bytes : List ℕ) (start : ℕ) (before : Key) : Type 0 where
  pub same : is_some (rest_from (len - i) i bytes (area_in len bytes) start (eqb i 0) before) ≡ is_some (map_of bytes)
  pub within : start ≤ length (area_in len bytes)

pub so-begin : (len : ℕ) (bytes : List ℕ) → HasTable len bytes → AreKeysSo len 0 bytes 0 []
so-begin len bytes h =
    let all : len - 0 ≡ len = omega arith in
    record { same = ap (λ n. is_some (rest_from n 0 bytes (area_in len bytes) 0 true [])) all ∙ ap is_some (sym (map-is len bytes h)); within = omega arith }

next-is : (len i : ℕ) (bytes : List ℕ) (start : ℕ) (before : Key) → i < len → rest_from (len - i) i bytes (area_in len bytes) start (eqb i 0) before
    ≡ (provided (leb start (end_in bytes i)) >>= (λ _. provided (leb (end_in bytes i) (length (area_in len bytes))) >>= (λ _. provided (eqb i 0 || is_below before (slice_range (area_in len bytes) start (end_in bytes i))) >>= (λ _.
    rest_from (len - (i + 1)) (i + 1) bytes (area_in len bytes) (end_in bytes i) (eqb (i + 1) 0) (slice_range (area_in len bytes) start (end_in bytes i)) >>= (λ others. Some ((slice_range (area_in len bytes) start (end_in bytes i), value_in bytes i) ∷ others))))))
unfolding rest_from
next-is len i bytes start before below =
    let more : len - i ≡ suc (len - (i + 1)) = omega (arith, below) in
    ap (λ n. rest_from n i bytes (area_in len bytes) start (eqb i 0) before) more
    ∙ ap (λ t. provided (leb start (end_in bytes i)) >>= (λ _. provided (leb (end_in bytes i) (length (area_in len bytes))) >>= (λ _. provided (eqb i 0 || is_below before (slice_range (area_in len bytes) start (end_in bytes i))) >>= (λ _.
    rest_from (len - (i + 1)) (i + 1) bytes (area_in len bytes) (end_in bytes i) t (slice_range (area_in len bytes) start (end_in bytes i)) >>= (λ others. Some ((slice_range (area_in len bytes) start (end_in bytes i), value_in bytes i) ∷ others))))))
    (sym (ne_eqb (i + 1) 0 (omega arith)))

some-same : {A B : Type 0} (o : Option A) (f : A → B) → is_some (o >>= (λ x. Some (f x))) ≡ is_some o
some-same None f = refl
some-same (Some x) f = refl

module _ (len i : ℕ) (bytes : List ℕ) (start : ℕ) (before : Key) where
  After : Bool → Bool → Bool → Option (List (Key × ℕ))
  After t u v = provided t >>= (λ _. provided u >>= (λ _. provided v >>= (λ _.
      rest_from (len - (i + 1)) (i + 1) bytes (area_in len bytes) (end_in bytes i) (eqb (i + 1) 0) (slice_range (area_in len bytes) start (end_in bytes i)) >>= (λ others. Some ((slice_range (area_in len bytes) start (end_in bytes i), value_in bytes i) ∷ others)))))

none-at : (t : Bool) → is_some (provided t >>= (λ _. no_entries)) ≡ false
unfolding no_entries
none-at true = refl
none-at false = refl

-- a key that ends before it begins, or past the key area
pub so-falls : (len i : ℕ) (bytes : List ℕ) (start : ℕ) (before : Key) → i < len → AreKeysSo len i bytes start before → end_in bytes i < start → is_some (map_of bytes) ≡ false
unfolding After
so-falls len i bytes start before below s falls =
    sym s.same ∙ ap is_some (next-is len i bytes start before below)
    ∙ ap (λ t. is_some (After len i bytes start before t (leb (end_in bytes i) (length (area_in len bytes))) (eqb i 0 || is_below before (slice_range (area_in len bytes) start (end_in bytes i))))) (lt-leb start (end_in bytes i) falls)

pub so-past : (len i : ℕ) (bytes : List ℕ) (start : ℕ) (before : Key) → i < len → AreKeysSo len i bytes start before → length (area_in len bytes) < end_in bytes i → is_some (map_of bytes) ≡ false
unfolding After no_entries
so-past len i bytes start before below s past =
    sym s.same ∙ ap is_some (next-is len i bytes start before below)
    ∙ ap (λ t. is_some (After len i bytes start before (leb start (end_in bytes i)) t (eqb i 0 || is_below before (slice_range (area_in len bytes) start (end_in bytes i))))) (lt-leb (end_in bytes i) (length (area_in len bytes)) past)
    ∙ none-at (leb start (end_in bytes i))

-- a key that may not follow the one before
pub so-stops : (len i : ℕ) (bytes : List ℕ) (start : ℕ) (before : Key) → i < len → AreKeysSo len i bytes start before → start ≤ end_in bytes i → end_in bytes i ≤ length (area_in len bytes)
    → (eqb i 0 || is_below before (slice_range (area_in len bytes) start (end_in bytes i))) ≡ false → is_some (map_of bytes) ≡ false
unfolding After
so-stops len i bytes start before below s ordered within stops =
    sym s.same ∙ ap is_some (next-is len i bytes start before below)
    ∙ ap (λ t. is_some (After len i bytes start before t (leb (end_in bytes i) (length (area_in len bytes))) (eqb i 0 || is_below before (slice_range (area_in len bytes) start (end_in bytes i))))) (le-leb _ _ ordered)
    ∙ ap (λ t. is_some (After len i bytes start before true t (eqb i 0 || is_below before (slice_range (area_in len bytes) start (end_in bytes i))))) (le-leb _ _ within)
    ∙ ap (λ t. is_some (After len i bytes start before true true t)) stops

pub so-next : (len i : ℕ) (bytes : List ℕ) (start : ℕ) (before : Key) → i < len → AreKeysSo len i bytes start before → start ≤ end_in bytes i → end_in bytes i ≤ length (area_in len bytes)
    → (eqb i 0 || is_below before (slice_range (area_in len bytes) start (end_in bytes i))) ≡ true → AreKeysSo len (i + 1) bytes (end_in bytes i) (slice_range (area_in len bytes) start (end_in bytes i))
unfolding After
so-next len i bytes start before below s ordered within follows = record {
  same = sym (sym s.same ∙ ap is_some (next-is len i bytes start before below)
      ∙ ap (λ t. is_some (After len i bytes start before t (leb (end_in bytes i) (length (area_in len bytes))) (eqb i 0 || is_below before (slice_range (area_in len bytes) start (end_in bytes i))))) (le-leb _ _ ordered)
      ∙ ap (λ t. is_some (After len i bytes start before true t (eqb i 0 || is_below before (slice_range (area_in len bytes) start (end_in bytes i))))) (le-leb _ _ within)
      ∙ ap (λ t. is_some (After len i bytes start before true true t)) follows
      ∙ some-same (rest_from (len - (i + 1)) (i + 1) bytes (area_in len bytes) (end_in bytes i) (eqb (i + 1) 0) (slice_range (area_in len bytes) start (end_in bytes i))) (λ others. (slice_range (area_in len bytes) start (end_in bytes i), value_in bytes i) ∷ others));
  within = within;
}

pub so-end : (len i : ℕ) (bytes : List ℕ) (start : ℕ) (before : Key) → i ≡ len → AreKeysSo len i bytes start before → eqb start (length (area_in len bytes)) ≡ is_some (map_of bytes)
unfolding rest_from
so-end len i bytes start before at s =
    let none : len - i ≡ 0 = omega (arith, at) in
    sym (some-same (provided (eqb start (length (area_in len bytes)))) (λ _. []) ∙ some-provided (eqb start (length (area_in len bytes))))
    ∙ ap (λ n. is_some (rest_from n i bytes (area_in len bytes) start (eqb i 0) before)) (sym none) ∙ s.same
  where
    some-provided : (t : Bool) → is_some (provided t) ≡ t
    some-provided true = refl
    some-provided false = refl

-- whether a key may follow, of the key area that was cut off
pub follows-is : (len i : ℕ) (bytes : List ℕ) (start end : ℕ) (before : Key) (follows : Bool)
    → follows ≡ (eqb i 0 || is_below before (slice_range (take (length bytes - (8 + 16 * len)) (drop (8 + 16 * len) bytes)) start end)) → end ≡ end_in bytes i
    → follows ≡ (eqb i 0 || is_below before (slice_range (area_in len bytes) start (end_in bytes i)))
follows-is len i bytes start end before follows is at =
    is ∙ ap (λ (area : List ℕ). eqb i 0 || is_below before (slice_range area start end)) (rest_is (8 + 16 * len) bytes)
    ∙ ap (λ e. eqb i 0 || is_below before (slice_range (area_in len bytes) start e)) at

-- where the keys were walked over, the bytes are a map, or none
pub none-from : (o : Option (List (Key × ℕ))) → is_some o ≡ false → o ≡ None
none-from None e = refl
none-from (Some entries) e = absurd cc

-- an entry of the list that a map shows
pub record IsShown (len i : ℕ) (bytes : List ℕ) (entries : List (Key × ℕ)) : Type 0 where
  pub below : i < len
  pub fits : 24 + 16 * i ≤ length bytes
  pub key : (entry_at entries i).0 ≡ slice_range (area_in len bytes) (start_in bytes i) (end_in bytes i)
  pub value : (entry_at entries i).1 ≡ value_in bytes i
  pub ordered : start_in bytes i ≤ end_in bytes i
  pub within : end_in bytes i ≤ length (area_in len bytes)

pub shown : (len i : ℕ) (bytes : List ℕ) (entries : List (Key × ℕ)) → IsMap len bytes → entries_of bytes ≡ entries → i < length entries → IsShown len i bytes entries
shown len i bytes entries m view within =
    let all = has-entries len bytes m in
    let below : i < len = omega (arith, within, ap length view, all.long) in
    let one = all.each i below in
    record {
      below = below;
      fits = omega (arith, below, all.fits);
      key = sym (ap (λ (es : List (Key × ℕ)). (entry_at es i).0) view) ∙ ap (λ (e : Key × ℕ). e.0) one.is;
      value = sym (ap (λ (es : List (Key × ℕ)). (entry_at es i).1) view) ∙ ap (λ (e : Key × ℕ). e.1) one.is;
      ordered = one.ordered;
      within = one.within;
    }

-- the keys of a map rise
pub map_of-rising : (bytes : List ℕ) (entries : List (Key × ℕ)) → map_of bytes ≡ Some entries → is_rising (map (λ entry. entry.0) entries) ≡ true
unfolding map_of
map_of-rising bytes entries e =
    let count = bind_some (number_at w64 bytes) (λ count. counted count.0 end_and_value_at count.1 >>= (λ ends. keys_from 0 ends.0 ends.1 >>= (λ entries. provided (is_rising (map (λ entry. entry.0) entries)) >>= (λ _. Some entries)))) entries e in
    let ends = bind_some (counted count.0.0 end_and_value_at count.0.1) (λ ends. keys_from 0 ends.0 ends.1 >>= (λ entries. provided (is_rising (map (λ entry. entry.0) entries)) >>= (λ _. Some entries))) entries count.2 in
    let found = bind_some (keys_from 0 ends.0.0 ends.0.1) (λ entries. provided (is_rising (map (λ entry. entry.0) entries)) >>= (λ _. Some entries)) entries ends.2 in
    let last = bind_some (provided (is_rising (map (λ entry. entry.0) found.0))) (λ _. Some found.0) entries found.2 in
    ap (λ (es : List (Key × ℕ)). is_rising (map (λ entry. entry.0) es)) (sym (some_is _ _ last.2)) ∙ provided-true _ _ last.1
