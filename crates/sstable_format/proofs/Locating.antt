-- The block that a key is in, and the one that an entry is in, by the index of a table.
use Rattle.std.proofs.Common.{◌≡◌, ℕ, ◌+◌, ◌<◌, List, [], ◌∷◌, ◌++◌, length, map, Bool, true, false, ◌&&◌, refl, ap, sym, ◌∙◌, subst, arith, length-append, eqb}
use Rattle.std.specs.Prelude.{All, not}
use Rattle.std.specs.Ordering.{ordering_reverse, nat_cmp}
use Rattle.std.specs.Cmp.Lexicographic.{slice_cmp}
use Rattle.std.specs.declared.cmp.Ordering.{Ordering}
use Rattle.std.specs.declared.cmp.Ordering.TheVariants.{Less, Equal, Greater}
use Rattle.std.proofs.lemmas.Bool.{and_parts, and_from, eqb-true}
use Rattle.std.proofs.lemmas.Cmp.{nat_list_cmp_total}
use Rattle.std.proofs.lemmas.List.Elements.{All-append, All-cons, All-nil}
use Rattle.std.proofs.lemmas.Map.Lookups.{exact_bytes}
use Rattle.owned_bytes.specs.Keys.{Key, is_below, is_less}
unfoldable use Rattle.owned_bytes.specs.Keys.{is_rising}
use Rattle.sstable_values.specs.Codec.{Codec, Address}
use Rattle.sstable_blocks.specs.Run.{Block, last_key, entries_of}
use Rattle.sstable_format.specs.Index.{IndexEntry}
use Rattle.sstable_format.specs.Table.{same_address, reaches, stays_below_next}
unfoldable use Rattle.sstable_format.specs.Table.{points_to, places_from}
use Rattle.sstable_format.proofs.BlocksAlone.{Stands, AllStand}

abbrev pub keys : {V : Type 0} → List (Key × V) → List Key
keys entries = map (λ entry. entry.0) entries

-- all these entries have keys below this one
abbrev pub AreBelow : {V : Type 0} → Key → List (Key × V) → Type 0
AreBelow key entries = All (λ entry. is_below entry.0 key ≡ true) entries

less-is : (o : Ordering) → is_less o ≡ true → o ≡ Less
less-is Less e = refl
less-is Equal e = absurd cc
less-is Greater e = absurd cc

pub below-trans : (a b c : Key) → is_below a b ≡ true → is_below b c ≡ true → is_below a c ≡ true
below-trans a b c ab bc = ap is_less (nat_list_cmp_total.trans a b c (less-is (slice_cmp nat_cmp a b) ab) (less-is (slice_cmp nat_cmp b c) bc))

-- what isn't above a key that is below another is below that one
pub not_above-below : (a k c : Key) → is_below k a ≡ false → is_below k c ≡ true → is_below a c ≡ true
not_above-below a k c ka kc = by (slice_cmp nat_cmp a k) refl
  where
    by : (o : Ordering) → slice_cmp nat_cmp a k ≡ o → is_below a c ≡ true
    by Less e = below-trans a k c (ap is_less e) kc
    by Equal e = subst (λ (x : Key). is_below x c ≡ true) (sym (exact_bytes a k e)) kc
    by Greater e = let up : is_below k a ≡ true = ap is_less (nat_list_cmp_total.antisymm k a ∙ ap ordering_reverse e) in absurd (let none : ⊥ = cc (ka, up) in none)

-- what a key isn't below is below what that is below
pub not_below-above : (key k c : Key) → is_below k key ≡ false → is_below k c ≡ true → is_below key c ≡ true
not_below-above key k c kk kc = not_above-below key k c kk kc

is-false : (b : Bool) → not b ≡ true → b ≡ false
is-false true e = absurd cc
is-false false e = refl

pub rising-tail : (key : Key) (ks : List Key) → is_rising (key ∷ ks) ≡ true → is_rising ks ≡ true
unfolding is_rising
rising-tail key [] e = refl
rising-tail key (next ∷ ks) e = (and_parts (is_below key next) (is_rising (next ∷ ks)) e).1

pub rising-right : {V : Type 0} (xs ys : List (Key × V)) → is_rising (keys (xs ++ ys)) ≡ true → is_rising (keys ys) ≡ true
rising-right [] ys e = e
rising-right (x ∷ xs) ys e = rising-right xs ys (rising-tail x.0 (keys (xs ++ ys)) e)

pub rising-left : {V : Type 0} (xs ys : List (Key × V)) → is_rising (keys (xs ++ ys)) ≡ true → is_rising (keys xs) ≡ true
unfolding is_rising
rising-left [] ys e = refl
rising-left (x ∷ []) ys e = refl
rising-left (x ∷ next ∷ xs) ys e =
    let parts = and_parts (is_below x.0 next.0) (is_rising (keys (next ∷ (xs ++ ys)))) e in
    and_from (is_below x.0 next.0) (is_rising (keys (next ∷ xs))) parts.0 (rising-left (next ∷ xs) ys parts.1)

-- what is below the first of rising keys is below them all
pub rising-above : {V : Type 0} (key : Key) (entry : Key × V) (entries : List (Key × V)) → is_below key entry.0 ≡ true → is_rising (keys (entry ∷ entries)) ≡ true → is_rising (key ∷ keys (entry ∷ entries)) ≡ true
unfolding is_rising
rising-above key entry entries below rising = and_from (is_below key entry.0) (is_rising (keys (entry ∷ entries))) below rising

-- rising keys up to a last one that isn't above k are below what k is below
all-below : {V : Type 0} (key k : Key) (entries : List (Key × V)) → is_rising (keys entries) ≡ true → reaches (last_key entries) k ≡ true → is_below k key ≡ true → AreBelow key entries
unfolding is_rising
all-below key k [] rising reached below = All-nil (λ entry. is_below entry.0 key ≡ true)
all-below key k (entry ∷ []) rising reached below =
    All-cons (λ entry. is_below entry.0 key ≡ true) entry [] (not_above-below entry.0 k key (is-false (is_below k entry.0) reached) below) (All-nil (λ entry. is_below entry.0 key ≡ true))
all-below {V} key k (entry ∷ next ∷ entries) rising reached below =
    let parts = and_parts (is_below entry.0 next.0) (is_rising (keys (next ∷ entries))) rising in
    let others = all-below key k (next ∷ entries) parts.1 reached below in
    All-cons (λ entry. is_below entry.0 key ≡ true) entry (next ∷ entries) (below-trans entry.0 next.0 key parts.0 (first-below next entries others)) others
  where
    first-below : (e : Key × V) (es : List (Key × V)) → AreBelow key (e ∷ es) → is_below e.0 key ≡ true
    first-below e es all = grind (arith, all)

-- The block of a table that the index gives for a key: all keys of the blocks before are below the key, and all of the
-- blocks behind are above it.
pub record KeyBlock {V : Type 0} (codec : Codec V) (part : List ℕ) (ordinal : ℕ) (key : Key) (entries : List IndexEntry) (blocks : List (Block V)) : Type 0 where
  pub passed : List IndexEntry
  pub entry : IndexEntry
  pub left : List IndexEntry
  pub split : entries ≡ passed ++ entry ∷ left
  pub lower : AreBelow key passed
  pub reached : is_below entry.0 key ≡ false
  pub earlier : List (Block V)
  pub here : Block V
  pub later : List (Block V)
  pub parts : blocks ≡ earlier ++ here ∷ later
  pub below : AreBelow key (entries_of earlier)
  pub above : is_rising (key ∷ keys (entries_of later)) ≡ true
  pub first : entry.1.first_ordinal ≡ ordinal + length (entries_of earlier)
  pub end : entry.1.end ≡ entry.1.start + (5 + length here.content)
  pub stands : Stands codec part entry.1.start here

-- There is such a block, or all keys are below the key.
pub data Sought {V : Type 0} (codec : Codec V) (part : List ℕ) (ordinal : ℕ) (key : Key) (entries : List IndexEntry) (blocks : List (Block V)) : Type 0 where
  InBlock : KeyBlock codec part ordinal key entries blocks → Sought codec part ordinal key entries blocks
  Behind : AreBelow key entries → AreBelow key (entries_of blocks) → Sought codec part ordinal key entries blocks

-- the address of a block is the true one
record IsAt (a b : Address) : Type 0 where
  start : a.start ≡ b.start
  end : a.end ≡ b.end
  first : a.first_ordinal ≡ b.first_ordinal

is-at : (a b : Address) → same_address a b ≡ true → IsAt a b
is-at a b e =
    let two = and_parts (eqb a.start b.start && eqb a.end b.end) (eqb a.first_ordinal b.first_ordinal) e in
    let one = and_parts (eqb a.start b.start) (eqb a.end b.end) two.0 in
    record { start = eqb-true _ _ one.0; end = eqb-true _ _ one.1; first = eqb-true _ _ two.1 }

-- what the index says of the first block
record Points {V : Type 0} (start ordinal : ℕ) (entry : IndexEntry) (entries : List IndexEntry) (block : Block V) (blocks : List (Block V)) : Type 0 where
  at : IsAt entry.1 (record { start = start; end = start + 5 + length block.content; first_ordinal = ordinal })
  reached : reaches (last_key block.entries) entry.0 ≡ true
  next : stays_below_next entry.0 blocks ≡ true
  others : points_to entries blocks (places_from (start + 5 + length block.content) (ordinal + length block.entries) blocks) ≡ true

points : {V : Type 0} (start ordinal : ℕ) (entry : IndexEntry) (entries : List IndexEntry) (block : Block V) (blocks : List (Block V)) → points_to (entry ∷ entries) (block ∷ blocks) (places_from start ordinal (block ∷ blocks)) ≡ true
    → Points start ordinal entry entries block blocks
unfolding points_to places_from
points start ordinal entry entries block blocks e =
    let place : Address = record { start = start; end = start + 5 + length block.content; first_ordinal = ordinal } in
    let others : Bool = points_to entries blocks (places_from (start + 5 + length block.content) (ordinal + length block.entries) blocks) in
    let three = and_parts (same_address entry.1 place && reaches (last_key block.entries) entry.0 && stays_below_next entry.0 blocks) others e in
    let two = and_parts (same_address entry.1 place && reaches (last_key block.entries) entry.0) (stays_below_next entry.0 blocks) three.0 in
    let one = and_parts (same_address entry.1 place) (reaches (last_key block.entries) entry.0) two.0 in
    record { at = is-at entry.1 place one.0; reached = one.1; next = two.1; others = three.1 }

none-points : {V : Type 0} (start ordinal : ℕ) (block : Block V) (blocks : List (Block V)) → points_to [] (block ∷ blocks) (places_from start ordinal (block ∷ blocks)) ≡ true → ⊥
unfolding points_to places_from
none-points start ordinal block blocks e = cc

more-points : (V : Type 0) (start ordinal : ℕ) (entry : IndexEntry) (entries : List IndexEntry) → points_to {V = V} (entry ∷ entries) [] (places_from {V = V} start ordinal []) ≡ true → ⊥
unfolding points_to places_from
more-points V start ordinal entry entries e = cc

alone : (key : Key) → is_rising (key ∷ []) ≡ true
unfolding is_rising
alone key = refl

-- the keys of the blocks behind are above the key
later-above : {V : Type 0} (codec : Codec V) (part : List ℕ) (start : ℕ) (key k : Key) (blocks : List (Block V)) → AllStand codec part start blocks → is_below k key ≡ false → stays_below_next k blocks ≡ true → is_rising (keys (entries_of blocks)) ≡ true
    → is_rising (key ∷ keys (entries_of blocks)) ≡ true
later-above codec part start key k [] stand reached next rising = alone key
later-above {V} codec part start key k (block ∷ blocks) stand reached next rising = by block.entries stand.0.some next rising
  where
    by : (es : List (Key × V)) → 0 < length es → stays_below_next k (record { content = block.content; entries = es } ∷ blocks) ≡ true → is_rising (keys (es ++ entries_of blocks)) ≡ true → is_rising (key ∷ keys (es ++ entries_of blocks)) ≡ true
    by [] some next rising = absurd (omega (arith, some))
    by (e ∷ es) some next rising = rising-above key e (es ++ entries_of blocks) (not_below-above key k e.0 reached next) rising

-- one more block before those
pub sought-more : {V : Type 0} (codec : Codec V) (part : List ℕ) (ordinal : ℕ) (key : Key) (entry : IndexEntry) (entries : List IndexEntry) (block : Block V) (blocks : List (Block V)) → is_below entry.0 key ≡ true → AreBelow key block.entries
    → Sought codec part (ordinal + length block.entries) key entries blocks → Sought codec part ordinal key (entry ∷ entries) (block ∷ blocks)
sought-more codec part ordinal key entry entries block blocks lower below (Behind passed all) =
    Behind (All-cons (λ e. is_below e.0 key ≡ true) entry entries lower passed) (All-append (λ e. is_below e.0 key ≡ true) block.entries (entries_of blocks) below all)
sought-more codec part ordinal key entry entries block blocks lower below (InBlock k) =
    let len : length (block.entries ++ entries_of k.earlier) ≡ length block.entries + length (entries_of k.earlier) = length-append block.entries (entries_of k.earlier) in
    let first : k.entry.1.first_ordinal ≡ ordinal + length block.entries + length (entries_of k.earlier) = k.first in
    InBlock (record {
      passed = entry ∷ k.passed;
      entry = k.entry;
      left = k.left;
      split = ap (λ es. entry ∷ es) k.split;
      lower = All-cons (λ e. is_below e.0 key ≡ true) entry k.passed lower k.lower;
      reached = k.reached;
      earlier = block ∷ k.earlier;
      here = k.here;
      later = k.later;
      parts = ap (λ bs. block ∷ bs) k.parts;
      below = All-append (λ e. is_below e.0 key ≡ true) block.entries (entries_of k.earlier) below k.below;
      above = k.above;
      first = omega (arith, len, first);
      end = k.end;
      stands = k.stands;
    })

pub sought : {V : Type 0} (codec : Codec V) (part : List ℕ) (start ordinal : ℕ) (key : Key) (entries : List IndexEntry) (blocks : List (Block V)) → points_to entries blocks (places_from start ordinal blocks) ≡ true → AllStand codec part start blocks
    → is_rising (keys (entries_of blocks)) ≡ true → Sought codec part ordinal key entries blocks
sought codec part start ordinal key [] [] points_ stand rising = Behind (All-nil (λ e. is_below e.0 key ≡ true)) (All-nil (λ e. is_below e.0 key ≡ true))
sought codec part start ordinal key [] (block ∷ blocks) pointed stand rising = absurd (none-points start ordinal block blocks pointed)
sought {V} codec part start ordinal key (entry ∷ entries) [] pointed stand rising = absurd (more-points V start ordinal entry entries pointed)
sought codec part start ordinal key (entry ∷ entries) (block ∷ blocks) pointed stand rising =
    let p = points start ordinal entry entries block blocks pointed in
    let after : start + 5 + length block.content ≡ start + (5 + length block.content) = omega arith in
    let behind = rising-right block.entries (entries_of blocks) rising in
    by p behind (sought codec part (start + (5 + length block.content)) (ordinal + length block.entries) key entries blocks (subst (λ n. points_to entries blocks (places_from n (ordinal + length block.entries) blocks) ≡ true) after p.others) stand.1 behind) (is_below entry.0 key) refl
  where
    by : Points start ordinal entry entries block blocks → is_rising (keys (entries_of blocks)) ≡ true → Sought codec part (ordinal + length block.entries) key entries blocks → (b : Bool) → is_below entry.0 key ≡ b
        → Sought codec part ordinal key (entry ∷ entries) (block ∷ blocks)
    by p behind others true lower =
        sought-more codec part ordinal key entry entries block blocks lower (all-below key entry.0 block.entries (rising-left block.entries (entries_of blocks) rising) p.reached lower) others
    by p behind others false reached =
        let begins : entry.1.start ≡ start = p.at.start in
        let ends : entry.1.end ≡ start + 5 + length block.content = p.at.end in
        let first : entry.1.first_ordinal ≡ ordinal = p.at.first in
        InBlock (record {
          passed = [];
          entry = entry;
          left = entries;
          split = refl;
          lower = All-nil (λ e. is_below e.0 key ≡ true);
          reached = reached;
          earlier = [];
          here = block;
          later = blocks;
          parts = refl;
          below = All-nil (λ e. is_below e.0 key ≡ true);
          above = later-above codec part (start + (5 + length block.content)) key entry.0 blocks stand.1 reached p.next behind;
          first = omega (arith, first);
          end = omega (arith, begins, ends);
          stands = subst (λ n. Stands codec part n block) (sym begins) stand.0;
        })
