-- Where keys stand that stand one after the other, and whether they rise.
use Rattle.std.proofs.Common.{◌≡◌, ℕ, zero, suc, ◌+◌, ◌-◌, ◌<◌, ◌≤◌, List, [], ◌∷◌, ◌++◌, length, take, drop, get_or, Bool, true, false, ◌&&◌, refl, ap, sym, ◌∙◌, arith, length-append, append_assoc, append-nil, length-drop}
use Rattle.std.specs.List.{flat_map}
use Rattle.std.proofs.lemmas.List.{drop_more, take_more, take_all, length-map}
use Rattle.std.proofs.Math.Seq.{take-append_seam, drop-append-add}
use Rattle.owned_bytes.specs.Keys.{Key, is_below}
unfoldable use Rattle.owned_bytes.specs.Keys.{is_rising}
use Rattle.sstable_blocks.specs.Writing.{keys_in}
unfoldable use Rattle.sstable_format.specs.Store.{numbers_from}
use Rattle.sstable_format.specs.Index.{IndexEntry}
use Rattle.sstable_index.specs.Building.{end_of}
use Rattle.sstable_index.specs.Built.{IsBuilt}
unfoldable use Rattle.sstable_index.specs.Built.{places_from}
use Rattle.sstable_index.proofs.Builds.{area_of, area-more, same-count}

place-from : (place : ℕ) (keys : List Key) (i : ℕ) → i < length keys → get_or (places_from place keys) i 0 ≡ place + length (area_of (take i keys))
unfolding places_from
place-from place [] i within = absurd (omega arith)
place-from place (key ∷ keys) zero within = omega arith
place-from place (key ∷ keys) (suc i) within =
    let n : place + length key + length (area_of (take i keys)) ≡ place + length (area_of (take (suc i) (key ∷ keys))) = omega (arith, length-append key (area_of (take i keys))) in
    place-from (place + length key) keys i (omega arith) ∙ n

-- where key i begins
pub place-at : (keys : List Key) (i : ℕ) → i < length keys → get_or (places_from 0 keys) i 0 ≡ length (area_of (take i keys))
place-at keys i within = place-from 0 keys i within ∙ omega arith

-- where the last key ends
pub end-last : (keys : List Key) (i : ℕ) → length keys ≤ i + 1 → end_of keys i ≡ length (area_of keys)
end-last keys i last = ap (λ ks. length (area_of ks)) (take_all (i + 1) keys last)

pub end-step : (keys : List Key) (i : ℕ) → i < length keys → end_of keys i ≡ length (area_of (take i keys)) + length (get_or keys i [])
end-step keys i within =
    ap (λ ks. length (area_of ks)) (take_more keys i [] within) ∙ ap length (area-more (take i keys) (get_or keys i [])) ∙ length-append (area_of (take i keys)) (get_or keys i [])

-- no key ends behind them all
pub end-within : (keys : List Key) (i : ℕ) → length (area_of (take i keys)) ≤ length (area_of keys)
end-within [] zero = omega arith
end-within [] (suc i) = omega arith
end-within (key ∷ keys) zero = omega arith
end-within (key ∷ keys) (suc i) = omega (arith, end-within keys i, length-append key (area_of (take i keys)), length-append key (area_of keys))

pub left-at : (keys : List Key) (i : ℕ) → drop (length (area_of (take i keys))) (area_of keys) ≡ area_of (drop i keys)
left-at [] zero = refl
left-at [] (suc i) = refl
left-at (key ∷ keys) zero = refl
left-at (key ∷ keys) (suc i) =
    ap (λ n. drop n (key ++ area_of keys)) (length-append key (area_of (take i keys))) ∙ drop-append-add key (area_of keys) (length (area_of (take i keys))) ∙ left-at keys i

-- key i, cut out of them
pub key-at : (keys : List Key) (i : ℕ) → i < length keys → take (end_of keys i - length (area_of (take i keys))) (drop (length (area_of (take i keys))) (area_of keys)) ≡ get_or keys i []
key-at keys i within =
    let n : end_of keys i - length (area_of (take i keys)) ≡ length (get_or keys i []) = omega (arith, end-step keys i within) in
    ap (λ m. take m (drop (length (area_of (take i keys))) (area_of keys))) n ∙ ap (take (length (get_or keys i []))) (left-at keys i ∙ ap area_of (drop_more keys i [] within))
    ∙ take-append_seam (get_or keys i []) (area_of (drop (i + 1) keys))

-- ---- keys that rise

pub rising-step : (keys : List Key) (i : ℕ) → 1 ≤ i → i < length keys → is_rising (drop (i - 1) keys) ≡ (is_below (get_or keys (i - 1) []) (get_or keys i []) && is_rising (drop i keys))
unfolding is_rising
rising-step keys i later within =
    let a = get_or keys (i - 1) [] in
    let b = get_or keys i [] in
    let before : i - 1 + 1 ≡ i = omega (arith, later) in
    let rest = drop_more keys i [] within in
    ap is_rising (drop_more keys (i - 1) [] (omega (arith, within)) ∙ ap (λ n. a ∷ drop n keys) before)
    ∙ ap (λ ks. is_rising (a ∷ ks)) rest ∙ ap (λ ks. is_below a b && is_rising ks) (sym rest)

one-rises : (keys : List Key) → length keys ≤ 1 → is_rising keys ≡ true
unfolding is_rising
one-rises [] short = refl
one-rises (key ∷ []) short = refl
one-rises (key ∷ next ∷ keys) short = absurd (omega (arith, short))

pub rising-goes_on : (keys : List Key) (i : ℕ) (less : Bool) → 1 ≤ i → i < length keys → less ≡ is_below (get_or keys (i - 1) []) (get_or keys i []) → less ≡ true
    → is_rising (drop (i - 1) keys) ≡ is_rising keys → is_rising (drop (i + 1 - 1) keys) ≡ is_rising keys
rising-goes_on keys i less later within is holds all =
    let n : i + 1 - 1 ≡ i = omega arith in
    ap (λ m. is_rising (drop m keys)) n ∙ ap (λ t. t && is_rising (drop i keys)) (sym (sym is ∙ holds)) ∙ sym (rising-step keys i later within) ∙ all

pub rising-fails : (keys : List Key) (i : ℕ) (less : Bool) → 1 ≤ i → i < length keys → less ≡ is_below (get_or keys (i - 1) []) (get_or keys i []) → less ≡ false
    → is_rising (drop (i - 1) keys) ≡ is_rising keys → false ≡ is_rising keys
rising-fails keys i less later within is fails all =
    ap (λ t. t && is_rising (drop i keys)) (sym (sym is ∙ fails)) ∙ sym (rising-step keys i later within) ∙ all

pub rising-ends : (keys : List Key) (i : ℕ) → length keys ≤ i → is_rising (drop (i - 1) keys) ≡ is_rising keys → true ≡ is_rising keys
rising-ends keys i past all = sym (one-rises (drop (i - 1) keys) (omega (arith, length-drop (i - 1) keys, past))) ∙ all

-- ---- rows one after the other

pub rows-step : (row : ℕ → List ℕ) (bytes : List ℕ) (i n : ℕ) → i < n → bytes ++ flat_map row (numbers_from i (n - i)) ≡ (bytes ++ row i) ++ flat_map row (numbers_from (i + 1) (n - (i + 1)))
unfolding numbers_from
rows-step row bytes i n within =
    let e : n - i ≡ suc (n - (i + 1)) = omega arith in
    ap (λ m. bytes ++ flat_map row (numbers_from i m)) e ∙ sym (append_assoc bytes (row i) (flat_map row (numbers_from (i + 1) (n - (i + 1)))))

pub rows-end : (row : ℕ → List ℕ) (bytes : List ℕ) (i n : ℕ) → n ≤ i → bytes ++ flat_map row (numbers_from i (n - i)) ≡ bytes
unfolding numbers_from
rows-end row bytes i n past =
    let e : n - i ≡ 0 = omega arith in
    ap (λ m. bytes ++ flat_map row (numbers_from i m)) e ∙ append-nil bytes

-- ---- the places that a builder keeps

pub start-kept : (area places starts ordinals : List ℕ) (entries : List IndexEntry) (i n : ℕ) → IsBuilt area places starts ordinals entries → i < length entries → n ≡ get_or places i 0 → n ≡ length (area_of (take i (keys_in entries)))
start-kept area places starts ordinals entries i n is within at =
    at ∙ ap (λ ps. get_or ps i 0) is.begun ∙ place-at (keys_in entries) i (omega (arith, within, length-map entries (λ (e : IndexEntry). e.0)))

pub end-kept : (area places starts ordinals : List ℕ) (entries : List IndexEntry) (i n : ℕ) → IsBuilt area places starts ordinals entries → i + 1 < length places → n ≡ get_or places (i + 1) 0 → n ≡ end_of (keys_in entries) i
end-kept area places starts ordinals entries i n is within at =
    start-kept area places starts ordinals entries (i + 1) n is (omega (arith, within, (same-count area places starts ordinals entries is).0)) at

pub last-kept : (area places starts ordinals : List ℕ) (entries : List IndexEntry) (i n : ℕ) → IsBuilt area places starts ordinals entries → length places ≤ i + 1 → n ≡ length area → n ≡ end_of (keys_in entries) i
last-kept area places starts ordinals entries i n is past all =
    all ∙ ap length is.keys ∙ sym (end-last (keys_in entries) i (omega (arith, past, (same-count area places starts ordinals entries is).0, length-map entries (λ (e : IndexEntry). e.0))))

pub ordered : (entries : List IndexEntry) (i start end : ℕ) → i < length entries → start ≡ length (area_of (take i (keys_in entries))) → end ≡ end_of (keys_in entries) i → start ≤ end
ordered entries i start end within a b = omega (arith, a, b, end-step (keys_in entries) i (omega (arith, within, length-map entries (λ (e : IndexEntry). e.0))))

pub inside : (area places starts ordinals : List ℕ) (entries : List IndexEntry) (i end : ℕ) → IsBuilt area places starts ordinals entries → end ≡ end_of (keys_in entries) i → end ≤ length area
inside area places starts ordinals entries i end is b = omega (arith, b, ap length is.keys, end-within (keys_in entries) (i + 1))

pub key-kept : (area places starts ordinals : List ℕ) (entries : List IndexEntry) (i start end : ℕ) → IsBuilt area places starts ordinals entries → i < length entries
    → start ≡ length (area_of (take i (keys_in entries))) → end ≡ end_of (keys_in entries) i → take (end - start) (drop start area) ≡ get_or (keys_in entries) i []
key-kept area places starts ordinals entries i start end is within a b =
    ap (λ n. take (end - n) (drop n area)) a ∙ ap (λ n. take (n - length (area_of (take i (keys_in entries)))) (drop (length (area_of (take i (keys_in entries)))) area)) b
    ∙ ap (λ bytes. take (end_of (keys_in entries) i - length (area_of (take i (keys_in entries)))) (drop (length (area_of (take i (keys_in entries)))) bytes)) is.keys
    ∙ key-at (keys_in entries) i (omega (arith, within, length-map entries (λ (e : IndexEntry). e.0)))
