-- Keys that are kept one after the other in a buffer.
use Rattle.std.proofs.Common.{◌≡◌, ℕ, zero, suc, ◌+◌, ◌-◌, ◌<◌, ◌≤◌, List, [], ◌∷◌, ◌++◌, length, take, drop, get_or, Bool, true, false, Option, Some, None, refl, ap, sym, subst, ◌∙◌, arith, length-append, length-drop, map}
use Rattle.std.specs.Prelude.{unwrap_or, not}
use Rattle.std.specs.List.{position}
use Rattle.std.proofs.lemmas.List.{drop_all, length-map}
use Rattle.std.proofs.Math.Seq.{drop-append_seam, get_or-append_seam}
use Rattle.owned_bytes.specs.Keys.{Key, is_below, is_rising}
use Rattle.fst_map.specs.Map.{entry_at}
use Rattle.fst_map.proofs.Searching.{IsSought, sought-begin, sought-low, sought-high, sought-some, sought-none}
unfoldable use Rattle.sstable_index.specs.Built.{keys_at, places_from}
use Rattle.sstable_index.specs.Building.{end_of}
use Rattle.sstable_index.specs.Loaded.{AreKept, last_of, BeginsLast}
use Rattle.sstable_index.proofs.Builds.{area_of, area-more, keys_at-again, places-next, places-count}
use Rattle.sstable_index.proofs.Looking.{position-map}
use Rattle.sstable_index.proofs.KeyPlaces.{place-at, end-last, end-step, end-within, key-at}

-- they are seen in the buffer
pub kept-seen : (bytes starts : List ℕ) (keys : List Key) → AreKept bytes starts keys → keys_at starts bytes ≡ keys
kept-seen bytes starts keys is = ap (λ ss. keys_at ss bytes) is.begun ∙ ap (keys_at (places_from 0 keys)) is.joined ∙ keys_at-again 0 keys

pub kept-again : (bytes starts : List ℕ) (keys : List Key) → AreKept bytes starts keys → AreKept bytes starts (keys_at starts bytes)
kept-again bytes starts keys is = subst (λ ks. AreKept bytes starts ks) (sym (kept-seen bytes starts keys is)) is

pub kept-none : (bytes starts : List ℕ) → bytes ≡ [] → starts ≡ [] → AreKept bytes starts []
unfolding places_from
kept-none bytes starts b s = record { joined = b; begun = s }

pub kept-more : (bytes starts bytes' starts' : List ℕ) (keys : List Key) (key : Key) → AreKept bytes starts keys → bytes' ≡ bytes ++ key → starts' ≡ starts ++ length bytes ∷ [] → AreKept bytes' starts' (keys ++ key ∷ [])
kept-more bytes starts bytes' starts' keys key is b s = record {
  joined = b ∙ ap (λ area. area ++ key) is.joined ∙ sym (area-more keys key);
  begun = s ∙ ap (λ ss. ss ++ length bytes ∷ []) is.begun ∙ ap (λ n. places_from 0 keys ++ n ∷ []) (ap length is.joined) ∙ sym (places-next keys key);
}

pub kept-count : (bytes starts : List ℕ) (keys : List Key) → AreKept bytes starts keys → length starts ≡ length keys
kept-count bytes starts keys is = ap length is.begun ∙ places-count 0 keys

pub kept-as : (bytes starts bytes' starts' : List ℕ) (keys : List Key) → AreKept bytes starts keys → bytes' ≡ bytes → starts' ≡ starts → AreKept bytes' starts' keys
kept-as bytes starts bytes' starts' keys is b s = record { joined = b ∙ is.joined; begun = s ∙ is.begun }

-- ---- one key

pub start-is : (bytes starts : List ℕ) (keys : List Key) (i n : ℕ) → AreKept bytes starts keys → i < length keys → n ≡ get_or starts i 0 → n ≡ length (area_of (take i keys))
start-is bytes starts keys i n is within at = at ∙ ap (λ ss. get_or ss i 0) is.begun ∙ place-at keys i within

pub end-is : (bytes starts : List ℕ) (keys : List Key) (i n : ℕ) → AreKept bytes starts keys → i + 1 < length starts → n ≡ get_or starts (i + 1) 0 → n ≡ end_of keys i
end-is bytes starts keys i n is within at = start-is bytes starts keys (i + 1) n is (omega (arith, within, kept-count bytes starts keys is)) at

pub last_end-is : (bytes starts : List ℕ) (keys : List Key) (i n : ℕ) → AreKept bytes starts keys → length starts ≤ i + 1 → n ≡ length bytes → n ≡ end_of keys i
last_end-is bytes starts keys i n is past all = all ∙ ap length is.joined ∙ sym (end-last keys i (omega (arith, past, kept-count bytes starts keys is)))

pub ordered-is : (keys : List Key) (i start end : ℕ) → i < length keys → start ≡ length (area_of (take i keys)) → end ≡ end_of keys i → start ≤ end
ordered-is keys i start end within a b = omega (arith, a, b, end-step keys i within)

pub inside-is : (bytes starts : List ℕ) (keys : List Key) (i end : ℕ) → AreKept bytes starts keys → end ≡ end_of keys i → end ≤ length bytes
inside-is bytes starts keys i end is b = omega (arith, b, ap length is.joined, end-within keys (i + 1))

pub key-is : (bytes starts : List ℕ) (keys : List Key) (i start end : ℕ) → AreKept bytes starts keys → i < length keys → start ≡ length (area_of (take i keys)) → end ≡ end_of keys i
    → take (end - start) (drop start bytes) ≡ get_or keys i []
key-is bytes starts keys i start end is within a b =
    ap (λ n. take (end - n) (drop n bytes)) a ∙ ap (λ n. take (n - length (area_of (take i keys))) (drop (length (area_of (take i keys))) bytes)) b
    ∙ ap (λ area. take (end_of keys i - length (area_of (take i keys))) (drop (length (area_of (take i keys))) area)) is.joined ∙ key-at keys i within

-- ---- the last key

-- a list that has a last key
pub record EndsIn (keys : List Key) : Type 0 where
  pub front : List Key
  pub key : Key
  pub all : keys ≡ front ++ key ∷ []

pub ends-in : (keys : List Key) → 0 < length keys → EndsIn keys
ends-in [] some = absurd (omega (arith, some))
ends-in (key ∷ []) some = record { front = []; key = key; all = refl }
ends-in (key ∷ next ∷ keys) some = let others = ends-in (next ∷ keys) (omega arith) in record { front = key ∷ others.front; key = others.key; all = ap (λ ks. key ∷ ks) others.all }

pub last-more : (keys : List Key) (key : Key) → last_of (keys ++ key ∷ []) ≡ Some key
last-more [] key = refl
last-more (first ∷ []) key = refl
last-more (first ∷ next ∷ keys) key = last-more (next ∷ keys) key

pub begins-none : (starts : List ℕ) (len place : ℕ) → length starts ≡ 0 → place ≡ len → BeginsLast starts len place
begins-none starts len place none at bytes keys is size = (omega (arith, at), drop_all place bytes (omega (arith, at, size)) ∙ sym (empty keys (omega (arith, none, kept-count bytes starts keys is))))
  where
    empty : (keys : List Key) → length keys ≡ 0 → unwrap_or (last_of keys) [] ≡ []
    empty [] e = refl
    empty (key ∷ keys) e = absurd (omega (arith, e))

pub begins-last : (starts : List ℕ) (len place count : ℕ) → count ≡ length starts → 0 < count → place ≡ get_or starts (count - 1) 0 → BeginsLast starts len place
begins-last starts len place count counts some at bytes keys is size =
    let ends = ends-in keys (omega (arith, some, counts, kept-count bytes starts keys is)) in
    let front = area_of ends.front in
    let area : bytes ≡ front ++ ends.key = is.joined ∙ ap area_of ends.all ∙ area-more ends.front ends.key in
    let begun : starts ≡ places_from 0 ends.front ++ length front ∷ [] = is.begun ∙ ap (places_from 0) ends.all ∙ places-next ends.front ends.key in
    let last : count - 1 ≡ length (places_from 0 ends.front) = omega (arith, counts, ap length begun, length-append (places_from 0 ends.front) (length front ∷ [])) in
    let here : place ≡ length front = at ∙ ap (λ ss. get_or ss (count - 1) 0) begun ∙ ap (λ n. get_or (places_from 0 ends.front ++ length front ∷ []) n 0) last ∙ get_or-append_seam (places_from 0 ends.front) (length front) [] 0 in
    let value : unwrap_or (last_of keys) [] ≡ ends.key = ap (λ ks. unwrap_or (last_of ks) []) ends.all ∙ ap (λ o. unwrap_or o []) (last-more ends.front ends.key) in
    (omega (arith, here, size, ap length area, length-append front ends.key), ap (λ n. drop n bytes) here ∙ ap (drop (length front)) area ∙ drop-append_seam front ends.key ∙ sym value)

-- ---- a key that is looked for

-- the keys with a number for each, which isn't looked at
abbrev pub with_numbers : List Key → List (Key × ℕ)
with_numbers keys = map (λ key. (key, 0)) keys

numbered-rise : (keys : List Key) → map (λ (entry : Key × ℕ). entry.0) (with_numbers keys) ≡ keys
numbered-rise [] = refl
numbered-rise (key ∷ keys) = ap (λ ks. key ∷ ks) (numbered-rise keys)

numbered-at : (keys : List Key) (k : ℕ) → entry_at (with_numbers keys) k ≡ (get_or keys k [], 0)
numbered-at [] k = refl
numbered-at (key ∷ keys) zero = refl
numbered-at (key ∷ keys) (suc k) = numbered-at keys k

pub numbered-rising : (keys : List Key) → is_rising keys ≡ true → is_rising (map (λ (entry : Key × ℕ). entry.0) (with_numbers keys)) ≡ true
numbered-rising keys rising = ap is_rising (numbered-rise keys) ∙ rising

-- the keys below and above the places that are looked between
abbrev pub IsBetween : List Key → Key → ℕ → ℕ → Type 0
IsBetween keys key low high = IsSought (with_numbers keys) key low high

pub between-begin : (keys : List Key) (key : Key) (len : ℕ) → len ≡ length keys → IsBetween keys key 0 len
between-begin keys key len e = sought-begin (with_numbers keys) key len (e ∙ sym (length-map {B = Key × ℕ} keys (λ (k : Key). (k, 0))))

pub between-low : (keys : List Key) (key : Key) (low high middle : ℕ) → is_rising keys ≡ true → IsBetween keys key low high → middle < high → is_below (get_or keys middle []) key ≡ true → IsBetween keys key (middle + 1) high
between-low keys key low high middle rising s less below =
    sought-low (with_numbers keys) key low high middle (numbered-rising keys rising) s less (ap (λ (e : Key × ℕ). is_below e.0 key) (numbered-at keys middle) ∙ below)

pub between-high : (keys : List Key) (key : Key) (low high middle : ℕ) → is_rising keys ≡ true → IsBetween keys key low high → low ≤ middle → middle < high → is_below (get_or keys middle []) key ≡ false → IsBetween keys key low middle
between-high keys key low high middle rising s more less above =
    sought-high (with_numbers keys) key low high middle (numbered-rising keys rising) s more less (ap (λ (e : Key × ℕ). is_below e.0 key) (numbered-at keys middle) ∙ above)

pub between-some : (keys : List Key) (key : Key) (low high len : ℕ) → IsBetween keys key low high → high ≤ low → len ≡ length keys → low < len → Some low ≡ position (λ other. not (is_below other key)) keys
between-some keys key low high len s met e within =
    sought-some (with_numbers keys) key low high s met (omega (arith, within, e, length-map {B = Key × ℕ} keys (λ (k : Key). (k, 0)))) ∙ position-map (λ (e : Key × ℕ). not (is_below e.0 key)) (λ (k : Key). (k, 0)) keys

pub between-none : (keys : List Key) (key : Key) (low high len : ℕ) → IsBetween keys key low high → high ≤ low → len ≡ length keys → len ≤ low → None ≡ position (λ other. not (is_below other key)) keys
between-none keys key low high len s met e past =
    sought-none (with_numbers keys) key low high s met (omega (arith, past, e, length-map {B = Key × ℕ} keys (λ (k : Key). (k, 0)))) ∙ position-map (λ (e : Key × ℕ). not (is_below e.0 key)) (λ (k : Key). (k, 0)) keys

-- the last key, by where it begins
pub last-is : (bytes starts starts' : List ℕ) (keys : List Key) (len place : ℕ) → AreKept bytes starts keys → starts' ≡ starts → len ≡ length bytes → BeginsLast starts' len place
    → (place ≤ length bytes) × (drop place bytes ≡ unwrap_or (last_of keys) [])
last-is bytes starts starts' keys len place is same size begins =
    let found = begins bytes keys (kept-as bytes starts bytes starts' keys is refl same) (sym size) in
    (omega (arith, found.0, size), found.1)

pub keep-fits : (bytes : List ℕ) (keys : List Key) (place keep : ℕ) → (place ≤ length bytes) × (drop place bytes ≡ unwrap_or (last_of keys) []) → keep ≤ length (unwrap_or (last_of keys) []) → place + keep ≤ length bytes
keep-fits bytes keys place keep last fits = omega (arith, fits, ap length last.1, length-drop place bytes, last.0)

-- a key that keeps bytes of the last one was added
pub kept-pushed : (bytes starts bytes' starts' suffix : List ℕ) (keys : List Key) (len place keep : ℕ) → AreKept bytes starts keys → (place ≤ length bytes) × (drop place bytes ≡ unwrap_or (last_of keys) []) → len ≡ length bytes
    → bytes' ≡ bytes ++ (take keep (drop place bytes) ++ suffix) → starts' ≡ starts ++ len ∷ [] → AreKept bytes' starts' (keys ++ (take keep (unwrap_or (last_of keys) []) ++ suffix) ∷ [])
kept-pushed bytes starts bytes' starts' suffix keys len place keep is last size b s =
    kept-more bytes starts bytes' starts' keys (take keep (unwrap_or (last_of keys) []) ++ suffix) is (b ∙ ap (λ key. bytes ++ (take keep key ++ suffix)) last.1) (s ∙ ap (λ n. starts ++ n ∷ []) size)
