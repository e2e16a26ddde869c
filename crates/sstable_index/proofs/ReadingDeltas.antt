-- How the keys of an index of version 2 are read, delta by delta.
use Rattle.std.proofs.Common.{◌≡◌, ◌≢◌, ℕ, zero, suc, ◌+◌, ◌-◌, ◌<◌, ◌≤◌, List, [], ◌∷◌, ◌++◌, length, take, drop, replicate, Bool, true, false, ◌&&◌, ◌||◌, Option, Some, None, refl, ap, sym, subst, ◌∙◌, arith, length-take, append_assoc, append-nil, cond}
use Rattle.std.specs.Prelude.{unwrap_or, option_map, ◌==◌, min, nat_eq}
use Rattle.std.proofs.lemmas.Bool.{ne_eqb, eq-eqb}
use Rattle.std.proofs.lemmas.List.Sums.{common_prefix_len-le}
use Rattle.std.proofs.lemmas.List.{length-replicate, take-append-drop}
use Rattle.owned_bytes.specs.Front.{◌>>=◌, provided, Front, End, Piece, Fault, piece_or_fault, continued, pieces}
use Rattle.owned_bytes.specs.Keys.{Key, is_below, is_less, shared}
use Rattle.owned_bytes.proofs.Pieces.{some_is, pieces-step, rest_is}
use Rattle.sstable_blocks.specs.Comparing.{key_from, order}
use Rattle.sstable_blocks.specs.Delta.{Delta, keep_and_add_at, delta_at}
use Rattle.sstable_blocks.specs.Block.{front_of_deltas, key_after}
unfoldable use Rattle.sstable_blocks.specs.Block.{keys_of, keys_after}
use Rattle.sstable_blocks.proofs.DeltaLaws.{deltas-shrink, delta-no_lens, delta-cut, delta-taken}
use Rattle.sstable_blocks.proofs.OrderLaws.{order-append, shared-append}
use Rattle.sstable_format.specs.Index.{is_zeros}
use Rattle.sstable_index.specs.Loaded.{last_of}
use Rattle.sstable_index.specs.ReadingV2.{comes_behind, may_come, are_behind, keys_left, with_keys_left}
use Rattle.sstable_index.proofs.InOrder.{same-is}
use Rattle.sstable_index.proofs.KeysKept.{last-more, ends-in}

-- ---- the end

zeros-length : (n : ℕ) (bytes : List ℕ) → length bytes ≢ n → is_zeros n bytes ≡ false
zeros-length n bytes apart = by (is_zeros n bytes) refl
  where
    by : (t : Bool) → is_zeros n bytes ≡ t → t ≡ false
    by true e = absurd (apart (ap length (same-is bytes (replicate n 0) e) ∙ length-replicate n 0))
    by false e = refl

pub no-end : (bytes : List ℕ) → length bytes ≢ 0 → length bytes ≢ 4 → false ≡ (is_zeros 0 bytes || is_zeros 4 bytes)
no-end bytes some other = sym (ap (λ t. t || is_zeros 4 bytes) (zeros-length 0 bytes some) ∙ zeros-length 4 bytes other)

-- ---- one delta

pub front-cut : (bytes rest : List ℕ) (keep add len : ℕ) → keep_and_add_at bytes ≡ Some ((keep, add), drop len bytes) → rest ≡ take (length bytes - len) (drop len bytes) → length rest < add → delta_at bytes ≡ None
front-cut bytes rest keep add len found is short = delta-cut bytes (drop len bytes) keep add found (omega (arith, short, ap length (is ∙ rest_is len bytes)))

pub front-taken : (bytes rest suffix others : List ℕ) (keep add len : ℕ) → keep_and_add_at bytes ≡ Some ((keep, add), drop len bytes) → rest ≡ take (length bytes - len) (drop len bytes) → add ≤ length rest
    → suffix ≡ take add rest → others ≡ drop add rest → delta_at bytes ≡ Some (record { keep = keep; suffix = suffix }, others)
front-taken bytes rest suffix others keep add len found is enough front back =
    let same : rest ≡ drop len bytes = is ∙ rest_is len bytes in
    delta-taken bytes (drop len bytes) keep add found (omega (arith, enough, ap length same))
    ∙ ap (λ s. Some (record { keep = keep; suffix = s }, drop add (drop len bytes))) (ap (take add) (sym same) ∙ sym front)
    ∙ ap (λ r. Some (record { keep = keep; suffix = suffix }, r)) (ap (drop add) (sym same) ∙ sym back)

-- ---- whether a key may come

shared-within : (a b : Key) → shared a b ≤ length a
shared-within a b = (common_prefix_len-le nat_eq a b).0

same-sum : (keep more : ℕ) → (keep == keep + more) ≡ (more == 0)
same-sum keep zero = let e : keep ≡ keep + 0 = omega arith in eq-eqb keep (keep + 0) e
same-sum keep (suc more) = ne_eqb keep (keep + suc more) (λ e. absurd (omega (arith, e))) ∙ sym (ne_eqb (suc more) 0 (λ e. absurd (omega (arith, e))))

-- more is kept than the last key has
pub may-cut : (begins : Bool) (before : Option Key) (keep : ℕ) (suffix : List ℕ) → length (unwrap_or before []) < keep → false ≡ may_come begins before keep suffix
may-cut begins before keep suffix long =
    let last = unwrap_or before [] in
    let key = key_from last keep suffix in
    let some : (keep == 0) ≡ false = ne_eqb keep 0 (λ e. absurd (omega (arith, e, long))) in
    let other : (keep == shared last key) ≡ false = ne_eqb keep (shared last key) (λ e. absurd (omega (arith, e, long, shared-within last key))) in
    sym (ap (λ t. ((begins && t) || (keep == shared last key)) && comes_behind before key) some ∙ ap (λ t. ((begins && false) || t) && comes_behind before key) other ∙ ap (λ t. (t || false) && comes_behind before key) (nothing begins))
  where
    nothing : (t : Bool) → (t && false) ≡ false
    nothing true = refl
    nothing false = refl

behind-some : (first : Key) (keys : List Key) (key : Key) → is_below (unwrap_or (last_of (first ∷ keys)) []) key ≡ comes_behind (last_of (first ∷ keys)) key
behind-some first [] key = refl
behind-some first (next ∷ keys) key = behind-some next keys key

behind-is : (keys : List Key) (key : Key) → ((length keys == 0) || is_below (unwrap_or (last_of keys) []) key) ≡ comes_behind (last_of keys) key
behind-is [] key = refl
behind-is (first ∷ keys) key =
    ap (λ t. t || is_below (unwrap_or (last_of (first ∷ keys)) []) key) (ne_eqb (length (first ∷ keys)) 0 (λ e. absurd (omega (arith, e)))) ∙ behind-some first keys key

-- what is looked at behind the bytes that are kept
pub may-is : (begins : Bool) (keys : List Key) (keep : ℕ) (rest suffix : List ℕ) (last : Key) → last ≡ unwrap_or (last_of keys) [] → keep ≤ length last → rest ≡ drop keep last
    → (((begins && (keep == 0)) || (shared rest suffix == 0)) && ((length keys == 0) || is_below rest suffix)) ≡ may_come begins (last_of keys) keep suffix
may-is begins keys keep rest suffix last is fits rest_of =
    let key = key_from last keep suffix in
    let size : length (take keep last) ≡ keep = simp length-take (omega (arith, fits)) in
    let whole : last ≡ take keep last ++ rest = sym (take-append-drop keep last) ∙ ap (λ r. take keep last ++ r) (sym rest_of) in
    let common : shared last key ≡ keep + shared rest suffix = ap (λ l. shared l key) whole ∙ shared-append (take keep last) rest suffix ∙ ap (λ n. n + shared rest suffix) size in
    let tested : (shared rest suffix == 0) ≡ (keep == shared last key) = sym (ap (λ n. keep == n) common ∙ same-sum keep (shared rest suffix)) in
    let below : is_below rest suffix ≡ is_below last key = sym (ap is_less (ap (λ l. order l key) whole ∙ order-append (take keep last) rest suffix)) in
    ap (λ t. ((begins && (keep == 0)) || t) && ((length keys == 0) || is_below rest suffix)) tested
    ∙ ap (λ t. ((begins && (keep == 0)) || (keep == shared last key)) && ((length keys == 0) || t)) below
    ∙ ap (λ l. ((begins && (keep == 0)) || (keep == shared l (key_from l keep suffix))) && ((length keys == 0) || is_below l (key_from l keep suffix))) is
    ∙ ap (λ t. ((begins && (keep == 0)) || (keep == shared (unwrap_or (last_of keys) []) (key_from (unwrap_or (last_of keys) []) keep suffix))) && t) (behind-is keys (key_from (unwrap_or (last_of keys) []) keep suffix))

-- ---- the keys that are left

nothing-left : (t : Bool) (key : Key) → None ≡ (provided t >>= (λ _. None >>= (λ (others : List Key). Some (key ∷ others))))
nothing-left true key = refl
nothing-left false key = refl

-- the first key of a block, and then those behind it
first-left : (t : Bool) (before : Option Key) (key : Key) (o : Option (List Key)) → (provided t >>= (λ _. o >>= (λ others. Some (key ∷ others))) >>= (λ keys. provided (are_behind before keys) >>= (λ _. Some keys)))
    ≡ (provided (t && comes_behind before key) >>= (λ _. o >>= (λ others. Some (key ∷ others))))
first-left false before key o = refl
first-left true before key None = nothing-left (comes_behind before key) key
first-left true before key (Some others) = refl

-- a later key, and then those behind it
later-left : (t u : Bool) (key : Key) (o : Option (List Key)) → (provided t >>= (λ _. provided u >>= (λ _. o >>= (λ others. Some (key ∷ others))))) ≡ (provided (t && u) >>= (λ _. o >>= (λ others. Some (key ∷ others))))
later-left true u key o = refl
later-left false u key o = refl

-- a delta, and then those behind it
abbrev with_piece : Delta → List Delta × List ℕ → Option (List Delta × List ℕ)
with_piece d found = Some (d ∷ found.0, found.1)

pieces-next : (bytes others : List ℕ) (d : Delta) → delta_at bytes ≡ Some (d, others) → pieces front_of_deltas bytes ≡ (pieces front_of_deltas others >>= with_piece d)
pieces-next [] others d found = absurd (let none : None ≡ Some (d, others) = sym (delta-no_lens [] refl) ∙ found in cc)
pieces-next (b ∷ bytes) others d found =
    pieces-step front_of_deltas deltas-shrink (b ∷ bytes) ∙ ap (λ o. continued (pieces front_of_deltas) (b ∷ bytes) (piece_or_fault o)) found

-- the key of a delta, and then those behind it
abbrev with_delta : Bool → Option Key → ℕ → List ℕ → List ℕ → Option (List Key)
with_delta begins before keep suffix others =
    let key = key_from (unwrap_or before []) keep suffix in
    provided (may_come begins before keep suffix) >>= (λ _. keys_left false (Some key) others >>= (λ keys. Some (key ∷ keys)))

first-step : (before : Option Key) (keep : ℕ) (suffix others : List ℕ) (o : Option (List Delta × List ℕ)) → pieces front_of_deltas others ≡ o
    → (o >>= with_piece (record { keep = keep; suffix = suffix }) >>= (λ deltas. keys_of (unwrap_or before []) deltas.0 >>= (λ keys. provided (are_behind before keys) >>= (λ _. Some keys))))
    ≡ with_delta true before keep suffix others
unfolding keys_of
first-step before keep suffix others None is =
    nothing-left (may_come true before keep suffix) (key_from (unwrap_or before []) keep suffix)
    ∙ ap (λ o. provided (may_come true before keep suffix) >>= (λ _. o >>= (λ (deltas : List Delta × List ℕ). keys_after (key_from (unwrap_or before []) keep suffix) deltas.0) >>= (λ keys. Some (key_from (unwrap_or before []) keep suffix ∷ keys)))) (sym is)
first-step before keep suffix others (Some found) is =
    first-left ((keep == 0) || (keep == shared (unwrap_or before []) (key_from (unwrap_or before []) keep suffix))) before (key_from (unwrap_or before []) keep suffix) (keys_after (key_from (unwrap_or before []) keep suffix) found.0)
    ∙ ap (λ o. provided (may_come true before keep suffix) >>= (λ _. o >>= (λ (deltas : List Delta × List ℕ). keys_after (key_from (unwrap_or before []) keep suffix) deltas.0) >>= (λ keys. Some (key_from (unwrap_or before []) keep suffix ∷ keys)))) (sym is)

later-step : (before : Key) (keep : ℕ) (suffix others : List ℕ) (o : Option (List Delta × List ℕ)) → pieces front_of_deltas others ≡ o
    → (o >>= with_piece (record { keep = keep; suffix = suffix }) >>= (λ deltas. keys_after before deltas.0)) ≡ with_delta false (Some before) keep suffix others
unfolding keys_after
later-step before keep suffix others None is =
    nothing-left (may_come false (Some before) keep suffix) (key_from before keep suffix)
    ∙ ap (λ o. provided (may_come false (Some before) keep suffix) >>= (λ _. o >>= (λ (deltas : List Delta × List ℕ). keys_after (key_from before keep suffix) deltas.0) >>= (λ keys. Some (key_from before keep suffix ∷ keys)))) (sym is)
later-step before keep suffix others (Some found) is =
    later-left (keep == shared before (key_from before keep suffix)) (is_below before (key_from before keep suffix)) (key_from before keep suffix) (keys_after (key_from before keep suffix) found.0)
    ∙ ap (λ o. provided (may_come false (Some before) keep suffix) >>= (λ _. o >>= (λ (deltas : List Delta × List ℕ). keys_after (key_from before keep suffix) deltas.0) >>= (λ keys. Some (key_from before keep suffix ∷ keys)))) (sym is)

left-step : (begins : Bool) (before : Option Key) (keep : ℕ) (suffix bytes others : List ℕ) → (begins ≡ false → (last : Key) × (before ≡ Some last)) → delta_at bytes ≡ Some (record { keep = keep; suffix = suffix }, others)
    → keys_left begins before bytes ≡ with_delta begins before keep suffix others
left-step true before keep suffix bytes others later found =
    ap (λ o. o >>= (λ deltas. keys_of (unwrap_or before []) deltas.0 >>= (λ keys. provided (are_behind before keys) >>= (λ _. Some keys)))) (pieces-next bytes others (record { keep = keep; suffix = suffix }) found)
    ∙ first-step before keep suffix others (pieces front_of_deltas others) refl
left-step false before keep suffix bytes others later found =
    let last = later refl in
    let one : keys_left false (Some last.0) bytes ≡ with_delta false (Some last.0) keep suffix others =
    ap (λ o. o >>= (λ (deltas : List Delta × List ℕ). keys_after last.0 deltas.0)) (pieces-next bytes others (record { keep = keep; suffix = suffix }) found) ∙ later-step last.0 keep suffix others (pieces front_of_deltas others) refl in
    subst (λ b. keys_left false b bytes ≡ with_delta false b keep suffix others) (sym last.1) one

last-some : (keys : List Key) → 0 < length keys → (last : Key) × (last_of keys ≡ Some last)
last-some keys some = let ends = ends-in keys some in (ends.key, ap last_of ends.all ∙ last-more ends.front ends.key)

-- ---- the keys so far, and those that are left

-- a delta that can't stand there
pub left-refused : (begins : Bool) (keys : List Key) (keep : ℕ) (suffix bytes others : List ℕ) → (begins ≡ false → 0 < length keys) → delta_at bytes ≡ Some (record { keep = keep; suffix = suffix }, others)
    → may_come begins (last_of keys) keep suffix ≡ false → with_keys_left begins keys bytes ≡ None
left-refused begins keys keep suffix bytes others later found refused =
    let key = key_from (unwrap_or (last_of keys) []) keep suffix in
    ap (option_map (λ (more : List Key). keys ++ more)) (left-step begins (last_of keys) keep suffix bytes others (λ e. last-some keys (later e)) found
    ∙ ap (λ t. provided t >>= (λ _. keys_left false (Some key) others >>= (λ more. Some (key ∷ more)))) refused)

front-fault : (begins : Bool) (before : Option Key) (bytes : List ℕ) → (begins ≡ false → 0 < length bytes) → delta_at bytes ≡ None → keys_left begins before bytes ≡ None
unfolding keys_of
front-fault true before [] some none = ap (λ o. o >>= (λ (deltas : List Delta × List ℕ). keys_of (unwrap_or before []) deltas.0 >>= (λ keys. provided (are_behind before keys) >>= (λ _. Some keys)))) (pieces-step front_of_deltas deltas-shrink [])
front-fault false before [] some none = absurd (omega (arith, some refl))
front-fault true before (b ∷ bytes) some none =
    ap (λ o. o >>= (λ (deltas : List Delta × List ℕ). keys_of (unwrap_or before []) deltas.0 >>= (λ keys. provided (are_behind before keys) >>= (λ _. Some keys))))
    (pieces-step front_of_deltas deltas-shrink (b ∷ bytes) ∙ ap (λ o. continued (pieces front_of_deltas) (b ∷ bytes) (piece_or_fault o)) none)
front-fault false before (b ∷ bytes) some none =
    ap (λ o. o >>= (λ (deltas : List Delta × List ℕ). keys_after (unwrap_or before []) deltas.0))
    (pieces-step front_of_deltas deltas-shrink (b ∷ bytes) ∙ ap (λ o. continued (pieces front_of_deltas) (b ∷ bytes) (piece_or_fault o)) none)

-- no delta stands at the front
pub left-fault : (begins : Bool) (keys : List Key) (bytes : List ℕ) → (begins ≡ false → 0 < length bytes) → delta_at bytes ≡ None → with_keys_left begins keys bytes ≡ None
left-fault begins keys bytes some none = ap (option_map (λ (more : List Key). keys ++ more)) (front-fault begins (last_of keys) bytes some none)

-- a key was added
pub left-more : (begins : Bool) (keys keys' : List Key) (keep : ℕ) (suffix bytes others : List ℕ) → (begins ≡ false → 0 < length keys) → delta_at bytes ≡ Some (record { keep = keep; suffix = suffix }, others)
    → may_come begins (last_of keys) keep suffix ≡ true → keys' ≡ keys ++ (take keep (unwrap_or (last_of keys) []) ++ suffix) ∷ [] → with_keys_left begins keys bytes ≡ with_keys_left false keys' others
left-more begins keys keys' keep suffix bytes others later found may is =
    let key = key_from (unwrap_or (last_of keys) []) keep suffix in
    let last : last_of keys' ≡ Some key = ap last_of is ∙ last-more keys key in
    ap (option_map (λ (more : List Key). keys ++ more)) (left-step begins (last_of keys) keep suffix bytes others (λ e. last-some keys (later e)) found
    ∙ ap (λ t. provided t >>= (λ _. keys_left false (Some key) others >>= (λ more. Some (key ∷ more)))) may)
    ∙ joined key (keys_left false (Some key) others) ∙ ap (λ ks. option_map (λ (more : List Key). ks ++ more) (keys_left false (Some key) others)) (sym is)
    ∙ ap (λ b. option_map (λ (more : List Key). keys' ++ more) (keys_left false b others)) (sym last)
  where
    joined : (key : Key) (o : Option (List Key)) → option_map (λ (more : List Key). keys ++ more) (o >>= (λ more. Some (key ∷ more))) ≡ option_map (λ (more : List Key). (keys ++ key ∷ []) ++ more) o
    joined key None = refl
    joined key (Some more) = ap Some (sym (append_assoc keys (key ∷ []) more))

-- nothing is left
pub left-none : (keys : List Key) (bytes : List ℕ) → length bytes ≡ 0 → with_keys_left false keys bytes ≡ Some keys
unfolding keys_after
left-none keys [] e =
    ap (λ o. option_map (λ (more : List Key). keys ++ more) (o >>= (λ (deltas : List Delta × List ℕ). keys_after (unwrap_or (last_of keys) []) deltas.0))) (pieces-step front_of_deltas deltas-shrink [])
    ∙ ap Some (append-nil keys)
left-none keys (b ∷ bytes) e = absurd (omega (arith, e))
