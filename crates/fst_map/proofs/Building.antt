-- What a builder's bytes spell.
use Rattle.std.proofs.Common.{◌≡◌, ℕ, ◌+◌, ◌-◌, ◌^◌, ◌<◌, ◌≤◌, List, [], ◌∷◌, ◌++◌, length, drop, map, Option, Some, None, Result, Ok, Err, OnOk, true, false, refl, ap, sym, ◌∙◌, subst, arith, length-append, append_assoc, length-drop, add-one, leb, eqb, cond}
use Rattle.std.proofs.lemmas.Bool.{le-leb, leb-true, and_parts, and_from, eqb-true, ne_eqb}
use Rattle.std.proofs.lemmas.List.{take_all, drop_all, drop_at, nil_from_length, append-nil}
use Rattle.std.specs.Int.{w64, to_le_bytes}
use Rattle.std.specs.Prelude.{is_some, unwrap_or}
use Rattle.std.specs.Result.{is_err}
use Rattle.owned_bytes.specs.Front.{◌>>=◌, provided, number_at, bytes_at}
unfoldable use Rattle.owned_bytes.specs.Front.{counted}
use Rattle.owned_bytes.specs.Keys.{Key, is_below}
unfoldable use Rattle.owned_bytes.specs.Keys.{is_rising}
use Rattle.owned_bytes.proofs.Pieces.{bind_some, some_is}
use Rattle.fst_map.specs.Map.{end_and_value_at, last_key, may_follow}
unfoldable use Rattle.fst_map.specs.Map.{keys_from, map_of, entries_in}
use Rattle.fst_map.specs.Built.{built, IsBuilt}
use Rattle.fst_map.proofs.Fronts.{provided-true, bytes_at-front, bytes_at-found, IsLocal, bytes_at-local, number_at-local, number-again, counted-longer, counted-more}

local-item : IsLocal end_and_value_at
local-item = record {
  longer = λ bytes more found e.
      let end = bind_some (number_at w64 bytes) (λ end. number_at w64 end.1 >>= (λ value. Some ((end.0, value.0), value.1))) found e in
      let value = bind_some (number_at w64 end.0.1) (λ value. Some ((end.0.0, value.0), value.1)) found end.2 in
      ap (λ o. o >>= (λ end. number_at w64 end.1 >>= (λ value. Some ((end.0, value.0), value.1)))) ((number_at-local w64).longer bytes more end.0 end.1)
      ∙ ap (λ o. o >>= (λ value. Some ((end.0.0, value.0), value.1))) ((number_at-local w64).longer end.0.1 more value.0 value.1)
      ∙ ap (λ (p : (ℕ × ℕ) × List ℕ). Some (p.0, p.1 ++ more)) (some_is _ _ value.2);
}

item-again : (end value : ℕ) → end < 2 ^ 64 → value < 2 ^ 64 → end_and_value_at (to_le_bytes w64 end ++ to_le_bytes w64 value) ≡ Some ((end, value), [])
item-again end value a b =
    ap (λ o. o >>= (λ end. number_at w64 end.1 >>= (λ value. Some ((end.0, value.0), value.1)))) (number-again end (to_le_bytes w64 value) a)
    ∙ ap (λ o. o >>= (λ (value : ℕ × List ℕ). Some ((end, value.0), value.1)))
    (ap (number_at w64) (sym (append-nil (to_le_bytes w64 value))) ∙ number-again value [] b)

-- one more key at the end of the area
keys_from-more : (start : ℕ) (ends : List (ℕ × ℕ)) (area : List ℕ) (entries : List (Key × ℕ)) (key : Key) (end value : ℕ) → keys_from start ends area ≡ Some entries → end ≡ start + length area + length key
    → keys_from start (ends ++ (end, value) ∷ []) (area ++ key) ≡ Some (entries ++ (key, value) ∷ [])
unfolding keys_from
keys_from-more start [] [] entries key end value e is =
    let n : end - start ≡ length key = omega (arith, is) in
    ap (λ t. provided t >>= (λ _. bytes_at (end - start) key >>= (λ found. keys_from end [] found.1 >>= (λ others. Some ((found.0, value) ∷ others))))) (le-leb start end (omega (arith, is)))
    ∙ ap (λ o. o >>= (λ (found : List ℕ × List ℕ). keys_from end [] found.1 >>= (λ others. Some ((found.0, value) ∷ others))))
    (ap (λ m. bytes_at m key) n ∙ bytes_at-front (length key) key (omega arith)
    ∙ ap (λ (p : List ℕ). Some (p, drop (length key) key)) (take_all (length key) key (omega arith)) ∙ ap (λ (r : List ℕ). Some (key, r)) (drop_all (length key) key (omega arith)))
    ∙ ap (λ xs. Some (xs ++ (key, value) ∷ [])) (some_is _ _ e)
keys_from-more start [] (b ∷ area) entries key end value e is = absurd cc
keys_from-more start (one ∷ ends) area entries key end value e is =
    let first = bind_some (provided (leb start one.0)) (λ _. bytes_at (one.0 - start) area >>= (λ found. keys_from one.0 ends found.1 >>= (λ others. Some ((found.0, one.1) ∷ others)))) entries e in
    let second = bind_some (bytes_at (one.0 - start) area) (λ found. keys_from one.0 ends found.1 >>= (λ others. Some ((found.0, one.1) ∷ others))) entries first.2 in
    let third = bind_some (keys_from one.0 ends second.0.1) (λ others. Some ((second.0.0, one.1) ∷ others)) entries second.2 in
    let ordered : start ≤ one.0 = leb-true _ _ (provided-true _ _ first.1) in
    let taken = bytes_at-found (one.0 - start) area second.0 second.1 in
    let left : length second.0.1 ≡ length area - (one.0 - start) = ap length (sym (ap (λ (p : List ℕ × List ℕ). p.1) taken.1)) ∙ length-drop (one.0 - start) area in
    let more : keys_from one.0 (ends ++ (end, value) ∷ []) (second.0.1 ++ key) ≡ Some (third.0 ++ (key, value) ∷ []) =
    keys_from-more one.0 ends second.0.1 third.0 key end value third.1 (omega (arith, is, left, ordered, taken.0)) in
    ap (λ t. provided t >>= (λ _. bytes_at (one.0 - start) (area ++ key) >>= (λ found. keys_from one.0 (ends ++ (end, value) ∷ []) found.1 >>= (λ others. Some ((found.0, one.1) ∷ others))))) (provided-true _ _ first.1)
    ∙ ap (λ o. o >>= (λ (found : List ℕ × List ℕ). keys_from one.0 (ends ++ (end, value) ∷ []) found.1 >>= (λ others. Some ((found.0, one.1) ∷ others)))) ((bytes_at-local (one.0 - start)).longer area key second.0 second.1)
    ∙ ap (λ o. o >>= (λ others. Some ((second.0.0, one.1) ∷ others))) more
    ∙ ap (λ xs. Some (xs ++ (key, value) ∷ [])) (some_is _ _ third.2)

-- the parts of some entries
record Parts (len : ℕ) (table keys : List ℕ) (entries : List (Key × ℕ)) : Type 0 where
  ends : List (ℕ × ℕ)
  counts : counted len end_and_value_at table ≡ Some (ends, [])
  cuts : keys_from 0 ends keys ≡ Some entries

parts-of : (len : ℕ) (table keys : List ℕ) (entries : List (Key × ℕ)) → entries_in len table keys ≡ Some entries → Parts len table keys entries
unfolding entries_in
parts-of len table keys entries e =
    let found = bind_some (counted len end_and_value_at table) (λ found. provided (eqb (length found.1) 0) >>= (λ _. keys_from 0 found.0 keys)) entries e in
    let all = bind_some (provided (eqb (length found.0.1) 0)) (λ _. keys_from 0 found.0.0 keys) entries found.2 in
    let none : found.0.1 ≡ [] = nil_from_length found.0.1 (eqb-true _ _ (provided-true _ _ all.1)) in
    record { ends = found.0.0; counts = found.1 ∙ ap (λ (r : List ℕ). Some (found.0.0, r)) none; cuts = all.2 }

entries-from : (len : ℕ) (table keys : List ℕ) (entries : List (Key × ℕ)) (ends : List (ℕ × ℕ)) → counted len end_and_value_at table ≡ Some (ends, []) → keys_from 0 ends keys ≡ Some entries → entries_in len table keys ≡ Some entries
unfolding entries_in
entries-from len table keys entries ends counts cuts =
    ap (λ o. o >>= (λ (found : List (ℕ × ℕ) × List ℕ). provided (eqb (length found.1) 0) >>= (λ _. keys_from 0 found.0 keys))) counts ∙ cuts

pub entries_in-more : (len : ℕ) (table keys : List ℕ) (entries : List (Key × ℕ)) (key : Key) (end value : ℕ) → entries_in len table keys ≡ Some entries → end ≡ length keys + length key → end < 2 ^ 64 → value < 2 ^ 64
    → entries_in (len + 1) (table ++ (to_le_bytes w64 end ++ to_le_bytes w64 value)) (keys ++ key) ≡ Some (entries ++ (key, value) ∷ [])
entries_in-more len table keys entries key end value e is a b =
    let p = parts-of len table keys entries e in
    entries-from (len + 1) (table ++ (to_le_bytes w64 end ++ to_le_bytes w64 value)) (keys ++ key) (entries ++ (key, value) ∷ []) (p.ends ++ (end, value) ∷ [])
    (ap (λ n. counted n end_and_value_at (table ++ (to_le_bytes w64 end ++ to_le_bytes w64 value))) (add-one len)
    ∙ counted-more end_and_value_at local-item len table (to_le_bytes w64 end ++ to_le_bytes w64 value) p.ends (end, value) [] p.counts (item-again end value a b))
    (keys_from-more 0 p.ends keys entries key end value p.cuts (omega (arith, is)))

-- the whole map
pub map_of-built : (len : ℕ) (table keys : List ℕ) (entries : List (Key × ℕ)) → len < 2 ^ 64 → entries_in len table keys ≡ Some entries → is_rising (map (λ entry. entry.0) entries) ≡ true
    → map_of ((to_le_bytes w64 len ++ table) ++ keys) ≡ Some entries
unfolding map_of
map_of-built len table keys entries fits e rising =
    let p = parts-of len table keys entries e in
    let front : number_at w64 ((to_le_bytes w64 len ++ table) ++ keys) ≡ Some (len, table ++ keys) =
    ap (number_at w64) (append_assoc (to_le_bytes w64 len) table keys) ∙ number-again len (table ++ keys) fits in
    ap (λ o. o >>= (λ (count : ℕ × List ℕ). counted count.0 end_and_value_at count.1 >>= (λ ends. keys_from 0 ends.0 ends.1 >>= (λ entries. provided (is_rising (map (λ entry. entry.0) entries)) >>= (λ _. Some entries))))) front
    ∙ ap (λ o. o >>= (λ (ends : List (ℕ × ℕ) × List ℕ). keys_from 0 ends.0 ends.1 >>= (λ entries. provided (is_rising (map (λ entry. entry.0) entries)) >>= (λ _. Some entries)))) (counted-longer end_and_value_at local-item len table keys (p.ends, []) p.counts)
    ∙ ap (λ o. o >>= (λ entries. provided (is_rising (map (λ entry. entry.0) entries)) >>= (λ _. Some entries))) p.cuts
    ∙ ap (λ t. provided t >>= (λ _. Some entries)) rising

-- one more key that comes after the last one
rising-more : (entries : List (Key × ℕ)) (key : Key) (value : ℕ) → is_rising (map (λ entry. entry.0) entries) ≡ true → may_follow (last_key entries) key ≡ true → is_rising (map (λ entry. entry.0) (entries ++ (key, value) ∷ [])) ≡ true
unfolding is_rising
rising-more [] key value rising after = refl
rising-more (entry ∷ []) key value rising after = and_from (is_below entry.0 key) true after refl
rising-more (entry ∷ next ∷ entries) key value rising after =
    let parts = and_parts (is_below entry.0 next.0) (is_rising (map (λ entry. entry.0) (next ∷ entries))) rising in
    and_from (is_below entry.0 next.0) (is_rising (map (λ entry. entry.0) ((next ∷ entries) ++ (key, value) ∷ []))) parts.0 (rising-more (next ∷ entries) key value parts.1 after)

last_key-more : (entries : List (Key × ℕ)) (key : Key) (value : ℕ) → last_key (entries ++ (key, value) ∷ []) ≡ Some key
last_key-more [] key value = refl
last_key-more (entry ∷ []) key value = refl
last_key-more (entry ∷ next ∷ entries) key value = last_key-more (next ∷ entries) key value

-- the entries that were found are those that were inserted
pub found-built : (len : ℕ) (table keys : List ℕ) → is_some (entries_in len table keys) ≡ true → entries_in len table keys ≡ Some (built len table keys)
found-built len table keys e = by (entries_in len table keys) e
  where
    by : (o : Option (List (Key × ℕ))) → is_some o ≡ true → o ≡ Some (unwrap_or o [])
    by None e = absurd cc
    by (Some entries) e = refl

pub IsBuilt-none : IsBuilt 0 0 [] []
unfolding entries_in counted keys_from is_rising
IsBuilt-none = record { found = refl; full = refl; rising = refl; begun = omega arith; last = refl }

pub built-none : built 0 [] [] ≡ []
unfolding entries_in counted keys_from
built-none = refl

pub built-more : (len last_start : ℕ) (table keys : List ℕ) (key : Key) (end value : ℕ) → IsBuilt len last_start table keys → end ≡ length keys + length key → end < 2 ^ 64 → value < 2 ^ 64
    → built (len + 1) (table ++ (to_le_bytes w64 end ++ to_le_bytes w64 value)) (keys ++ key) ≡ built len table keys ++ (key, value) ∷ []
built-more len last_start table keys key end value h is a b =
    ap (λ o. unwrap_or o []) (entries_in-more len table keys (built len table keys) key end value (found-built len table keys h.found) is a b)

pub IsBuilt-more : (len last_start : ℕ) (table keys : List ℕ) (key : Key) (end value : ℕ) → IsBuilt len last_start table keys → end ≡ length keys + length key → end < 2 ^ 64 → value < 2 ^ 64
    → may_follow (last_key (built len table keys)) key ≡ true → IsBuilt (len + 1) (length keys) (table ++ (to_le_bytes w64 end ++ to_le_bytes w64 value)) (keys ++ key)
IsBuilt-more len last_start table keys key end value h is a b after =
    let more = entries_in-more len table keys (built len table keys) key end value (found-built len table keys h.found) is a b in
    let same = built-more len last_start table keys key end value h is a b in
    record {
      found = ap is_some more;
      full = omega (arith, h.full, length-append table (to_le_bytes w64 end ++ to_le_bytes w64 value));
      rising = ap (λ es. is_rising (map (λ (entry : Key × ℕ). entry.0) es)) same ∙ rising-more (built len table keys) key value h.rising after;
      begun = omega (arith, length-append keys key);
      last = ap last_key same ∙ last_key-more (built len table keys) key value ∙ sym (ap Some (drop_at keys key (length keys) refl)) ∙ ap (λ t. cond t None (Some (drop (length keys) (keys ++ key)))) (sym (ne_eqb (len + 1) 0 (omega arith)));
    }

-- after a key and its end and value were appended
pub IsBuilt-after : (len last_start start end value : ℕ) (table keys table' keys' : List ℕ) (key : Key) → IsBuilt len last_start table keys → may_follow (last_key (built len table keys)) key ≡ true
    → keys' ≡ keys ++ key → table' ≡ table ++ (to_le_bytes w64 end ++ to_le_bytes w64 value) → start ≡ length keys → end ≡ length keys' → end < 2 ^ 64 → value < 2 ^ 64 → IsBuilt (len + 1) start table' keys'
IsBuilt-after len last_start start end value table keys table' keys' key h after k t s e a b =
    subst (λ n. IsBuilt (len + 1) n table' keys') (sym s) (subst (λ (l : List ℕ). IsBuilt (len + 1) (length keys) table' l) (sym k) (subst (λ (l : List ℕ). IsBuilt (len + 1) (length keys) l (keys ++ key)) (sym t)
    (IsBuilt-more len last_start table keys key end value h (omega (arith, e, ap length k, length-append keys key)) a b after)))

pub built-after : (len last_start end value : ℕ) (table keys table' keys' : List ℕ) (key : Key) → IsBuilt len last_start table keys
    → keys' ≡ keys ++ key → table' ≡ table ++ (to_le_bytes w64 end ++ to_le_bytes w64 value) → end ≡ length keys' → end < 2 ^ 64 → value < 2 ^ 64 → built (len + 1) table' keys' ≡ built len table keys ++ (key, value) ∷ []
built-after len last_start end value table keys table' keys' key h k t e a b =
    ap (λ (l : List ℕ). built (len + 1) l keys') t ∙ ap (λ (l : List ℕ). built (len + 1) (table ++ (to_le_bytes w64 end ++ to_le_bytes w64 value)) l) k
    ∙ built-more len last_start table keys key end value h (omega (arith, e, ap length k, length-append keys key)) a b

pub map_of-after : (len last_start : ℕ) (table keys bytes : List ℕ) → IsBuilt len last_start table keys → len < 2 ^ 64 → bytes ≡ (to_le_bytes w64 len ++ table) ++ keys → map_of bytes ≡ Some (built len table keys)
map_of-after len last_start table keys bytes h fits is =
    ap map_of is ∙ map_of-built len table keys (built len table keys) fits (found-built len table keys h.found) h.rising

pub ok-at : {T E : Type 0} (r : Result T E) (P : Type 0) → OnOk r P → is_err r ≡ false → P
ok-at (Ok x) P p e = p
ok-at (Err x) P p e = absurd cc
