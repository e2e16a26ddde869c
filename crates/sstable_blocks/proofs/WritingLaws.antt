-- What a writer gathered is a block, and the run grows by it.
use Rattle.std.proofs.Common.{◌≡◌, ◌≢◌, ℕ, ◌+◌, ◌-◌, ◌^◌, ◌<◌, ◌≤◌, List, [], ◌∷◌, ◌++◌, length, drop, map, Bool, true, false, cond, Option, Some, None, Result, Ok, Err, OnOk, subst, refl, ap, sym, ◌∙◌, arith, length-append, length-drop, append-nil}
use Rattle.std.specs.Prelude.{nat_lt, nat_eq, unwrap_or, min, MatchResult}
use Rattle.std.proofs.Math.Nat.{le-min, min-le_right}
use Rattle.std.specs.List.{flat_map, zip, AllByRecursion}
use Rattle.std.specs.Ordering.{nat_cmp, ordering_then}
use Rattle.std.specs.Cmp.Lexicographic.{slice_cmp}
use Rattle.std.specs.declared.cmp.Ordering.TheVariants.{Less, Equal, Greater}
use Rattle.std.proofs.lemmas.Bool.{ltb-true, eqb-true, eq-eqb, false≢true}
use Rattle.std.proofs.lemmas.List.{map-append}
use Rattle.std.proofs.lemmas.Grind.{flat_map-append}
use Rattle.std.proofs.lemmas.List.Sums.{common_prefix_len-le}
use Rattle.owned_bytes.specs.Front.{◌>>=◌, provided, pieces}
use Rattle.owned_bytes.specs.Keys.{Key, shared, is_below, is_less, is_rising}
use Rattle.owned_bytes.proofs.Pieces.{bind_some, some_is}
use Rattle.sstable_values.specs.Values.{Values, Listed, Everywhere, Gains}
use Rattle.sstable_values.specs.Codec.{Codec, everywhere_or_none, no_values}
use Rattle.sstable_blocks.specs.Content.{block}
use Rattle.sstable_blocks.specs.Delta.{Delta}
use Rattle.sstable_blocks.specs.Block.{front_of_deltas, keys_of, paired, block_of, delta, delta_between, deltas_between}
use Rattle.sstable_blocks.specs.Run.{last_key, may_follow, key_before, Block, whole_run_of, entries_of}
use Rattle.sstable_blocks.specs.Writing.{WriterState, content, keys_in, IsOpen, IsNext}
use Rattle.sstable_values.proofs.RisingLaws.{both-true, provided-true}
use Rattle.sstable_blocks.proofs.DeltaLaws.{Fits, deltas-again, keys_after-between}
use Rattle.sstable_blocks.proofs.RunLaws.{run-more}

-- a count goes on, to the greatest u64
pub counted-on : (a b n : ℕ) → b ≡ min (a + n) (2 ^ 64 - 1) → a < 2 ^ 64 → (a ≤ b) × (b < 2 ^ 64)
counted-on a b n e small =
    let low : a ≤ min (a + n) (2 ^ 64 - 1) = le-min (omega arith) (omega (arith, small)) in
    let high : min (a + n) (2 ^ 64 - 1) ≤ 2 ^ 64 - 1 = min-le_right (a + n) (2 ^ 64 - 1) in (rw e low, rw e (omega (arith, high)))

pub counts-on : {T E : Type 0} (r : Result T E) (a b n : ℕ) → MatchResult r (λ _. b ≡ min (a + n) (2 ^ 64 - 1)) (λ _. b ≡ a) → a < 2 ^ 64 → (a ≤ b) × (b < 2 ^ 64)
counts-on (Ok x) a b n e small = counted-on a b n e small
counts-on (Err x) a b n e small = (omega (arith, e), omega (arith, e, small))

pub on-and-on : (a b c : ℕ) → (a ≤ b) × (b < 2 ^ 64) → (b ≤ c) × (c < 2 ^ 64) → (a ≤ c) × (c < 2 ^ 64)
on-and-on a b c first second = (omega (arith, first.0, second.0), second.1)

-- no key and no value make no entry
no_pairs : {V : Type 0} (one : Option V) → paired [] (everywhere_or_none one) ≡ Some []
unfolding paired
no_pairs None = refl
no_pairs (Some value) = refl

-- an empty block
pub open-none : {W V : Type 0} (codec : Codec V) (state : WriterState W V) → state.deltas ≡ [] → state.values ≡ no_values codec → IsOpen state []
unfolding deltas_between is_rising
open-none codec state no_delta no_value = record { spelled = no_delta; rising = refl; paired = ap (paired []) no_value ∙ no_pairs codec.everywhere }

-- the last of the keys, or the one before them
last_from : Key → List Key → Key
last_from before [] = before
last_from before (key ∷ keys) = last_from key keys

deltas_between-more : (before : Key) (keys : List Key) (key : Key) → deltas_between before (keys ++ key ∷ []) ≡ deltas_between before keys ++ delta_between (last_from before keys) key ∷ []
unfolding deltas_between last_from
deltas_between-more before [] key = refl
deltas_between-more before (first ∷ keys) key = ap (λ ds. delta_between before first ∷ ds) (deltas_between-more first keys key)

last_key-from : {V : Type 0} (entry : Key × V) (entries : List (Key × V)) → last_key (entry ∷ entries) ≡ Some (last_from entry.0 (keys_in entries))
unfolding last_from
last_key-from entry [] = refl
last_key-from entry (next ∷ entries) = last_key-from next entries

last-from : {V : Type 0} (entries : List (Key × V)) → unwrap_or (last_key entries) [] ≡ last_from [] (keys_in entries)
unfolding last_from
last-from [] = refl
last-from (entry ∷ entries) = ap (λ k. unwrap_or k []) (last_key-from entry entries)

-- one more key with its value
pub paired-more : {V : Type 0} (keys : List Key) (values new : Values V) (entries : List (Key × V)) (key : Key) (v : V)
    → paired keys values ≡ Some entries → Gains values v new → paired (keys ++ key ∷ []) new ≡ Some (entries ++ (key, v) ∷ [])
unfolding paired
paired-more keys (Everywhere value) new entries key v e gains =
    let is : map (λ k. (k, value)) keys ≡ entries = some_is _ _ e in
    ap (paired (keys ++ key ∷ [])) gains.0
    ∙ ap Some (map-append (λ k. (k, value)) keys (key ∷ []) ∙ ap (λ es. es ++ (key, value) ∷ []) is ∙ ap (λ x. entries ++ (key, x) ∷ []) (sym gains.1))
paired-more {V} keys (Listed values) new entries key v e gains =
    let test = bind_some (provided (nat_eq (length keys) (length values))) (λ _. Some (zip keys values)) entries e in
    let same : length keys ≡ length values = eqb-true _ _ (provided-true _ _ test.1) in
    let longer : length (keys ++ key ∷ []) ≡ length (values ++ v ∷ []) = simp length-append (omega (arith, same)) in
    ap (paired (keys ++ key ∷ [])) gains
    ∙ ap (λ t. provided t >>= (λ _. Some (zip (keys ++ key ∷ []) (values ++ v ∷ [])))) (eq-eqb _ _ longer)
    ∙ ap Some (zip-more keys values same ∙ ap (λ es. es ++ (key, v) ∷ []) (some_is _ _ test.2))
  where
    zip-more : (keys : List Key) (values : List V) → length keys ≡ length values → zip (keys ++ key ∷ []) (values ++ v ∷ []) ≡ zip keys values ++ (key, v) ∷ []
    zip-more [] [] same = refl
    zip-more [] (x ∷ values) same = absurd (omega arith)
    zip-more (k ∷ keys) [] same = absurd (omega arith)
    zip-more (k ∷ keys) (x ∷ values) same = ap (λ es. (k, x) ∷ es) (zip-more keys values (omega arith))

-- one more entry
pub open-more : {W V : Type 0} (old new : WriterState W V) (entries : List (Key × V)) (keep : ℕ) (suffix : List ℕ) (key : Key) (v : V) → IsOpen old entries → IsNext entries keep suffix key
    → new.deltas ≡ old.deltas ++ delta (record { keep = keep; suffix = suffix }) → Gains old.values v new.values → IsOpen new (entries ++ (key, v) ∷ [])
open-more old new entries keep suffix key v is next more gains =
    let keys : keys_in (entries ++ (key, v) ∷ []) ≡ keys_in entries ++ key ∷ [] = map-append (λ entry. entry.0) entries ((key, v) ∷ []) in
    let last = last-from entries in
    let kept : keep ≡ shared (last_from [] (keys_in entries)) key = next.keep_all ∙ ap (λ b. shared b key) last in
    let one : record { keep = keep; suffix = suffix } ≡ delta_between (last_from [] (keys_in entries)) key =
    ap (λ s. record { keep = keep; suffix = s }) next.adds ∙ ap (λ n. record { keep = n; suffix = drop n key }) kept in
    record {
      spelled = more ∙ ap (λ ds. ds ++ delta (record { keep = keep; suffix = suffix })) is.spelled
          ∙ ap (λ d. flat_map delta (deltas_between [] (keys_in entries)) ++ delta d) one
          ∙ ap (λ bytes. flat_map delta (deltas_between [] (keys_in entries)) ++ bytes) (sym (append-nil (delta (delta_between (last_from [] (keys_in entries)) key))))
          ∙ sym (flat_map-append delta (deltas_between [] (keys_in entries)) (delta_between (last_from [] (keys_in entries)) key ∷ []))
          ∙ ap (flat_map delta) (sym (deltas_between-more [] (keys_in entries) key))
          ∙ ap (λ ks. flat_map delta (deltas_between [] ks)) (sym keys);
      rising = ap is_rising keys ∙ next.rising;
      paired = ap (λ ks. paired ks new.values) keys ∙ paired-more (keys_in entries) old.values new.values entries key v is.paired gains;
    }

-- a key was added, and then its value
pub entry_added : {W V E : Type 0} (r : Result (Unit {0}) E) (old middle new : WriterState W V) (keep : ℕ) (suffix : List ℕ) (v : V)
    → middle ≡ record old { deltas = old.deltas ++ delta (record { keep = keep; suffix = suffix }) } → new ≡ record middle { values = new.values } → OnOk r (Gains middle.values v new.values)
    → OnOk r ((entries : List (Key × V)) (key : Key) → IsOpen old entries → IsNext entries keep suffix key → IsOpen new (entries ++ (key, v) ∷ []))
entry_added {W} {V} (Ok x) old middle new keep suffix v first second gains =
    λ entries key is next. open-more old new entries keep suffix key v is next
    (ap (λ (s : WriterState W V). s.deltas) second ∙ ap (λ (s : WriterState W V). s.deltas) first)
    (subst (λ vs. Gains vs v new.values) (ap (λ (s : WriterState W V). s.values) first) gains)
entry_added (Err e) old middle new keep suffix v first second gains = tt

-- a key that comes later adds a byte
below-adds : (a b : Key) → is_below a b ≡ true → shared a b < length b
below-adds [] [] e = absurd (false≢true e)
below-adds [] (y ∷ b) e = omega arith
below-adds (x ∷ a) [] e = absurd (false≢true e)
below-adds (x ∷ a) (y ∷ b) e = by_test (nat_eq x y) refl (nat_lt x y) refl e (below-adds a b)
  where
    by_test : (same : Bool) → nat_eq x y ≡ same → (less : Bool) → nat_lt x y ≡ less → is_less (ordering_then (cond less Less (cond same Equal Greater)) (slice_cmp nat_cmp a b)) ≡ true
        → (is_below a b ≡ true → shared a b < length b) → cond same (1 + shared a b) 0 < length (y ∷ b)
    by_test false t less u below again = omega arith
    by_test true t true u below again = absurd (omega (arith, eqb-true _ _ t, ltb-true _ _ u))
    by_test true t false u below again = omega (arith, again below)

delta-long : (d : Delta) → length d.suffix ≤ length (delta d)
delta-long d = simp length-append (omega arith)

-- deltas that take few enough bytes can be written
fits_between : (before : Key) (keys : List Key) → is_rising (before ∷ keys) ≡ true → length before + length (flat_map delta (deltas_between before keys)) < 2 ^ 64 → AllByRecursion Fits (deltas_between before keys)
unfolding deltas_between is_rising
fits_between before [] rising short = tt
fits_between before (key ∷ keys) rising short =
    let parts = both-true (is_below before key) (is_rising (key ∷ keys)) rising in
    let d = delta_between before key in
    let whole : length (flat_map delta (deltas_between before (key ∷ keys))) ≡ length (delta d) + length (flat_map delta (deltas_between key keys)) = length-append (delta d) (flat_map delta (deltas_between key keys)) in
    let all : length before + (length (delta d) + length (flat_map delta (deltas_between key keys))) < 2 ^ 64 = omega (arith, whole, short) in
    let keeps = common_prefix_len-le nat_eq before key in
    let adds : length (drop (shared before key) key) ≡ length key - shared before key = length-drop (shared before key) key in
    let long = delta-long d in
    let more = below-adds before key parts.0 in (
      record { keep = omega (arith, keeps.0, all); add = omega (arith, long, all); told = λ one. omega (arith, adds, more) },
      fits_between key keys parts.1 (omega (arith, keeps.0, keeps.1, adds, long, all)),
    )

fits_first : (key : Key) (keys : List Key) → is_rising (key ∷ keys) ≡ true → length (flat_map delta (deltas_between [] (key ∷ keys))) < 2 ^ 64 → AllByRecursion Fits (deltas_between [] (key ∷ keys))
unfolding deltas_between
fits_first key keys rising short =
    let d = delta_between [] key in
    let whole : length (flat_map delta (deltas_between [] (key ∷ keys))) ≡ length (delta d) + length (flat_map delta (deltas_between key keys)) = length-append (delta d) (flat_map delta (deltas_between key keys)) in
    let all : length (delta d) + length (flat_map delta (deltas_between key keys)) < 2 ^ 64 = omega (arith, whole, short) in
    let long = delta-long d in
    let same : length d.suffix ≡ length key = simp length-drop (omega arith) in
    (record { keep = omega arith; add = omega (arith, long, all); told = λ one. absurd (omega (arith, one)) }, fits_between key keys rising (omega (arith, same, long, all)))

-- the keys of a block whose first key keeps nothing, whatever key comes before
keys_of-between : (before key : Key) (keys : List Key) → is_rising (key ∷ keys) ≡ true → keys_of before (deltas_between [] (key ∷ keys)) ≡ Some (key ∷ keys)
unfolding keys_of deltas_between
keys_of-between before key keys rising = ap (λ o. o >>= (λ others. Some (key ∷ others))) (keys_after-between key keys rising)

deltas-none : (deltas : List ℕ) → deltas ≡ flat_map delta (deltas_between [] []) → deltas ≡ []
unfolding deltas_between
deltas-none deltas e = e

-- the open block is the block of its entries, whatever key comes before it
pub block_written : {W V : Type 0} (codec : Codec V) (state : WriterState W V) (entries : List (Key × V)) (before : Key) → IsOpen state entries → state.deltas ≢ [] → length state.deltas < 2 ^ 64
    → ((rest : List ℕ) → codec.values_of (codec.spelled state.values ++ rest) ≡ Some (state.values, rest)) → block_of codec before (content codec state) ≡ Some entries
unfolding block_of
block_written codec state [] before is some short again = absurd (some (deltas-none state.deltas is.spelled))
block_written codec state (entry ∷ entries) before is some short again =
    let keys = keys_in (entry ∷ entries) in
    let ds = deltas_between [] keys in
    let fits = fits_first entry.0 (keys_in entries) is.rising (omega (arith, short, ap length is.spelled)) in
    ap (λ o. o >>= (λ vs. pieces front_of_deltas vs.1 >>= (λ deltas. keys_of before deltas.0 >>= (λ ks. paired ks vs.0)))) (again state.deltas)
    ∙ ap (λ bytes. pieces front_of_deltas bytes >>= (λ deltas. keys_of before deltas.0 >>= (λ ks. paired ks state.values))) is.spelled
    ∙ ap (λ o. o >>= (λ deltas. keys_of before deltas.0 >>= (λ ks. paired ks state.values))) (deltas-again ds fits)
    ∙ ap (λ o. o >>= (λ ks. paired ks state.values)) (keys_of-between before entry.0 (keys_in entries) is.rising)
    ∙ is.paired

some_byte : (bytes : List ℕ) → bytes ≢ [] → 0 < length bytes
some_byte [] some = absurd (some refl)
some_byte (b ∷ bytes) some = omega arith

-- Behind a run that ends with the bytes, the open block is one more block of the run.
pub run_written : {W V : Type 0} (codec : Codec V) (state : WriterState W V) → state.deltas ≢ [] → length (content codec state) + 1 < 2 ^ 32
    → ((rest : List ℕ) → codec.values_of (codec.spelled state.values ++ rest) ≡ Some (state.values, rest))
    → (bytes : List ℕ) (blocks : List (Block V)) (entries : List (Key × V)) → IsOpen state entries → whole_run_of codec bytes ≡ Some (record { blocks = blocks; rest = [] })
    → may_follow (last_key (entries_of blocks)) entries ≡ true
    → whole_run_of codec (bytes ++ block (content codec state)) ≡ Some (record { blocks = blocks ++ record { content = content codec state; entries = entries } ∷ []; rest = [] })
run_written codec state some short again bytes blocks entries is run follows =
    let size : length (codec.spelled state.values) + length state.deltas + 1 < 2 ^ 32 = simp length-append at short in
    let there = some_byte state.deltas some in
    run-more codec bytes (content codec state) blocks entries run (record { some = simp length-append (omega (arith, there)); short = short })
    (block_written codec state entries (key_before codec (last_key (entries_of blocks))) is some (omega (arith, size)) again) follows
