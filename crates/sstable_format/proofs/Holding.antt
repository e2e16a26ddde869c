-- The value at a key, by the parts of a list of entries.
use Rattle.std.proofs.Common.{◌≡◌, ℕ, suc, ◌+◌, ◌≤◌, List, [], ◌∷◌, ◌++◌, length, Bool, true, false, Option, Some, None, refl, ap, sym, ◌∙◌, subst, arith, cond}
use Rattle.std.specs.Prelude.{max, ◌&&◌}
use Rattle.std.specs.Ordering.{nat_cmp, ordering_reverse}
use Rattle.std.specs.Cmp.Lexicographic.{slice_cmp, nat_list_cmp_total}
use Rattle.std.specs.declared.cmp.Ordering.{Ordering}
use Rattle.std.specs.declared.cmp.Ordering.TheVariants.{Less, Equal, Greater}
use Rattle.std.proofs.lemmas.Bool.{and_parts, cond-true, cond-false}
use Rattle.std.proofs.lemmas.Grind.{flat_map-append}
use Rattle.owned_bytes.specs.Keys.{Key, is_below, is_same, is_less, is_equal}
unfoldable use Rattle.owned_bytes.specs.Keys.{is_rising}
use Rattle.sstable_values.specs.Codec.{Codec}
use Rattle.sstable_blocks.specs.Run.{Block, entries_of}
use Rattle.sstable_format.specs.Index.{IndexEntry}
use Rattle.sstable_format.specs.Table.{longest}
unfoldable use Rattle.sstable_format.specs.Entries.{value_at}
use Rattle.sstable_format.proofs.Locating.{keys, AreBelow, KeyBlock}

less-is : (o : Ordering) → is_less o ≡ true → o ≡ Less
less-is Less e = refl
less-is Equal e = absurd cc
less-is Greater e = absurd cc

same-itself : (key : Key) → is_same key key ≡ true
same-itself key = by (slice_cmp nat_cmp key key) (nat_list_cmp_total.antisymm key key)
  where
    by : (o : Ordering) → o ≡ ordering_reverse o → is_equal o ≡ true
    by Less h = absurd cc
    by Equal h = refl
    by Greater h = absurd cc

below-other : (a key : Key) → is_below a key ≡ true → is_same key a ≡ false
below-other a key below = ap is_equal (nat_list_cmp_total.antisymm key a ∙ ap ordering_reverse (less-is (slice_cmp nat_cmp a key) below))

above-other : (key a : Key) → is_below key a ≡ true → is_same key a ≡ false
above-other key a below = ap is_equal (less-is (slice_cmp nat_cmp key a) below)

pub value-none : {V : Type 0} (key : Key) → value_at {V = V} key [] ≡ None
unfolding value_at
value-none key = refl

-- an entry of another key is passed
pub value-other : {V : Type 0} (key : Key) (entry : Key × V) (entries : List (Key × V)) → is_same key entry.0 ≡ false → value_at key (entry ∷ entries) ≡ value_at key entries
unfolding value_at
value-other key entry entries e = cond-false (is_same key entry.0) (Some entry.1) (value_at key entries) e

pub value-this : {V : Type 0} (key : Key) (value : V) (entries : List (Key × V)) → value_at key ((key, value) ∷ entries) ≡ Some value
unfolding value_at
value-this key value entries = cond-true (is_same key key) (Some value) (value_at key entries) (same-itself key)

-- entries below the key are passed
pub value-passed : {V : Type 0} (key : Key) (xs ys : List (Key × V)) → AreBelow key xs → value_at key (xs ++ ys) ≡ value_at key ys
value-passed key [] ys all = refl
value-passed {V} key (x ∷ xs) ys all = value-other key x (xs ++ ys) (below-other x.0 key (first x xs all)) ∙ value-passed key xs ys (others x xs all)
  where
    first : (x : Key × V) (xs : List (Key × V)) → AreBelow key (x ∷ xs) → is_below x.0 key ≡ true
    first x xs all = grind (arith, all)

    others : (x : Key × V) (xs : List (Key × V)) → AreBelow key (x ∷ xs) → AreBelow key xs
    others x xs all = λ k d h. all (suc k) d (omega (arith, h))

-- no entry above the key has it
pub value-above : {V : Type 0} (key : Key) (entries : List (Key × V)) → is_rising (key ∷ keys entries) ≡ true → value_at key entries ≡ None
unfolding is_rising
value-above key [] rising = value-none key
value-above {V} key (entry ∷ entries) rising =
    let parts = and_parts (is_below key entry.0) (is_rising (keys (entry ∷ entries))) rising in
    value-other key entry entries (above-other key entry.0 parts.0) ∙ value-above key entries (skip entry entries parts.0 parts.1)
  where
    skip : (e : Key × V) (es : List (Key × V)) → is_below key e.0 ≡ true → is_rising (keys (e ∷ es)) ≡ true → is_rising (key ∷ keys es) ≡ true
    skip e [] below rising = refl
    skip e (next ∷ es) below rising =
        let parts = and_parts (is_below e.0 next.0) (is_rising (keys (next ∷ es))) rising in
        let through : is_below key next.0 ≡ true = ap is_less (nat_list_cmp_total.trans key e.0 next.0 (less-is (slice_cmp nat_cmp key e.0) below) (less-is (slice_cmp nat_cmp e.0 next.0) parts.0)) in
        (ap (λ b. b && is_rising (keys (next ∷ es))) through) ∙ parts.1

-- entries above the key don't matter
pub value-front : {V : Type 0} (key : Key) (xs ys : List (Key × V)) → value_at key ys ≡ None → value_at key (xs ++ ys) ≡ value_at key xs
unfolding value_at
value-front key [] ys none = none
value-front key (x ∷ xs) ys none = ap (λ o. cond (is_same key x.0) (Some x.1) o) (value-front key xs ys none)

-- the value in a table is that in the key's block
pub value-in-block : {V : Type 0} (codec : Codec V) (part : List ℕ) (ordinal : ℕ) (key : Key) (entries : List IndexEntry) (blocks : List (Block V)) → (k : KeyBlock codec part ordinal key entries blocks)
    → value_at key (entries_of blocks) ≡ value_at key k.here.entries
value-in-block codec part ordinal key entries blocks k =
    ap (λ (bs : List (Block _)). value_at key (entries_of bs)) k.parts
    ∙ ap (value_at key) (flat_map-append (λ (b : Block _). b.entries) k.earlier (k.here ∷ k.later))
    ∙ value-passed key (entries_of k.earlier) (k.here.entries ++ entries_of k.later) k.below
    ∙ value-front key k.here.entries (entries_of k.later) (value-above key (entries_of k.later) k.above)

pub value-behind : {V : Type 0} (key : Key) (entries : List (Key × V)) → AreBelow key entries → value_at key entries ≡ None
value-behind key [] all = value-none key
value-behind {V} key (x ∷ xs) all = value-other key x xs (below-other x.0 key (first x xs all)) ∙ value-behind key xs (others x xs all)
  where
    first : (x : Key × V) (xs : List (Key × V)) → AreBelow key (x ∷ xs) → is_below x.0 key ≡ true
    first x xs all = grind (arith, all)

    others : (x : Key × V) (xs : List (Key × V)) → AreBelow key (x ∷ xs) → AreBelow key xs
    others x xs all = λ k d h. all (suc k) d (omega (arith, h))

-- no block is longer than the longest
pub longest-here : {V : Type 0} (earlier : List (Block V)) (here : Block V) (later : List (Block V)) → 5 + length here.content ≤ longest (earlier ++ here ∷ later)
longest-here [] here later = omega arith
longest-here (block ∷ earlier) here later = let others = longest-here earlier here later in omega (arith, others)
