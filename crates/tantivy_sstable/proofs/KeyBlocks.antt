-- The block that an index gives for a key, and what is read of it.
use Rattle.std.proofs.Common.{◌≡◌, ℕ, suc, ◌+◌, ◌-◌, ◌≤◌, List, [], ◌∷◌, ◌++◌, length, take, drop, map, Bool, true, false, cond, Option, Some, None, Result, Ok, Err, refl, ap, sym, ◌∙◌, subst, inl, inr, arith, length-take, length-drop, take-take, drop-drop}
use Rattle.std.specs.Prelude.{not, slice_range, option_and_then, option_map, min, IfErr}
use Rattle.std.specs.List.{position_from}
use Rattle.std.proofs.lemmas.List.{take_all}
use Rattle.std.proofs.lemmas.Iterator.Adapters.{position_from-zero}
use Rattle.owned_bytes.specs.Keys.{Key, is_below}
use Rattle.owned_bytes.specs.Outside.{FileState, IsPart, HasLength}
use Rattle.common_wire.specs.Slices.{Span, span_len}
use Rattle.sstable_values.specs.Codec.{Codec, Address}
use Rattle.sstable_blocks.specs.Run.{Block, run_of, entries_of}
use Rattle.sstable_format.specs.Index.{IndexEntry, Index, AtMostOneBlock, Entries}
use Rattle.sstable_format.specs.Table.{blocks_under, entries_under, longest}
use Rattle.sstable_format.specs.Entries.{value_at}
use Rattle.sstable_format.proofs.Locating.{AreBelow, KeyBlock, Sought, InBlock, Behind, sought}
use Rattle.sstable_format.proofs.Holding.{value-in-block, value-behind, longest-here}
use Rattle.sstable_format.proofs.Under.{IsUnder, is-under}
use Rattle.block_addresses.specs.Found.{element_at}
use Rattle.sstable_index.specs.Building.{addresses_in}
use Rattle.sstable_index.specs.Located.{block_with_key}

-- the block that a key is looked for in, by an index
abbrev pub block_by : Key → Index → Option Address → Type 0
block_by key AtMostOneBlock found = Unit {0}
block_by key (Entries entries) found = found ≡ block_with_key key entries

at-passed : (key : Key) (passed : List IndexEntry) (entry : IndexEntry) (left : List IndexEntry) (i : ℕ) → AreBelow key passed → is_below entry.0 key ≡ false
    → position_from (λ (e : IndexEntry). not (is_below e.0 key)) i (passed ++ entry ∷ left) ≡ Some (i + length passed)
at-passed key [] entry left i below reached = ap (λ b. cond (not b) (Some i) (position_from (λ (e : IndexEntry). not (is_below e.0 key)) (i + 1) left)) reached ∙ ap Some (let e : i ≡ i + 0 = omega arith in e)
at-passed key (x ∷ passed) entry left i below reached =
    ap (λ b. cond (not b) (Some i) (position_from (λ (e : IndexEntry). not (is_below e.0 key)) (i + 1) (passed ++ entry ∷ left))) (first x passed below)
    ∙ at-passed key passed entry left (i + 1) (others x passed below) reached ∙ ap Some (let e : i + 1 + length passed ≡ i + suc (length passed) = omega arith in e)
  where
    first : (x : IndexEntry) (xs : List IndexEntry) → AreBelow key (x ∷ xs) → is_below x.0 key ≡ true
    first x xs all = all 0 x (omega arith)

    others : (x : IndexEntry) (xs : List IndexEntry) → AreBelow key (x ∷ xs) → AreBelow key xs
    others x xs all = λ k d h. all (suc k) d (omega (arith, h))

none-passed : (key : Key) (entries : List IndexEntry) (i : ℕ) → AreBelow key entries → position_from (λ (e : IndexEntry). not (is_below e.0 key)) i entries ≡ None
none-passed key [] i below = refl
none-passed key (x ∷ xs) i below =
    ap (λ b. cond (not b) (Some i) (position_from (λ (e : IndexEntry). not (is_below e.0 key)) (i + 1) xs)) (first x xs below) ∙ none-passed key xs (i + 1) (others x xs below)
  where
    first : (x : IndexEntry) (xs : List IndexEntry) → AreBelow key (x ∷ xs) → is_below x.0 key ≡ true
    first x xs all = all 0 x (omega arith)

    others : (x : IndexEntry) (xs : List IndexEntry) → AreBelow key (x ∷ xs) → AreBelow key xs
    others x xs all = λ k d h. all (suc k) d (omega (arith, h))

element-passed : (passed : List IndexEntry) (entry : IndexEntry) (left : List IndexEntry) → element_at (addresses_in (passed ++ entry ∷ left)) (length passed) ≡ Some entry.1
element-passed [] entry left = refl
element-passed (x ∷ passed) entry left = element-passed passed entry left

pub block-passed : (key : Key) (entries passed : List IndexEntry) (entry : IndexEntry) (left : List IndexEntry) → entries ≡ passed ++ entry ∷ left → AreBelow key passed → is_below entry.0 key ≡ false → block_with_key key entries ≡ Some entry.1
block-passed key entries passed entry left split below reached =
    ap (block_with_key key) split
    ∙ ap (option_and_then (element_at (addresses_in (passed ++ entry ∷ left)))) (position_from-zero (λ (e : IndexEntry). not (is_below e.0 key)) (passed ++ entry ∷ left) ∙ at-passed key passed entry left 0 below reached)
    ∙ ap (λ n. element_at (addresses_in (passed ++ entry ∷ left)) n) (let e : 0 + length passed ≡ length passed = omega arith in e)
    ∙ element-passed passed entry left

pub block-none : (key : Key) (entries : List IndexEntry) → AreBelow key entries → block_with_key key entries ≡ None
block-none key entries below = ap (option_and_then (element_at (addresses_in entries))) (position_from-zero (λ (e : IndexEntry). not (is_below e.0 key)) entries ∙ none-passed key entries 0 below)

-- What a look-up has to know of the block that the index gave: it lies within the blocks' part, is a run whose value at
-- the key is the table's, and isn't longer than the longest.
pub record IsFor {V : Type 0} (codec : Codec V) (part : List ℕ) (key : Key) (blocks : List (Block V)) (address : Address) : Type 0 where
  pub entries : List (Key × V)
  pub ordered : address.start ≤ address.end
  pub within : address.end ≤ length part
  pub run : run_of codec (slice_range part address.start address.end) ≡ Some entries
  pub value : value_at key (entries_of blocks) ≡ value_at key entries

pub is-for : {V : Type 0} (codec : Codec V) (part : List ℕ) (key : Key) (entries : List IndexEntry) (blocks : List (Block V)) (k : KeyBlock codec part 0 key entries blocks) → IsFor codec part key blocks k.entry.1
is-for codec part key entries blocks k =
    let end : k.entry.1.end ≡ k.entry.1.start + (5 + length k.here.content) = k.end in
    let within : k.entry.1.start + (5 + length k.here.content) ≤ length part = k.stands.within in
    record {
      entries = k.here.entries;
      ordered = omega (arith, end);
      within = omega (arith, end, within);
      run = ap (λ n. run_of codec (slice_range part k.entry.1.start n)) end ∙ k.stands.run;
      value = value-in-block codec part 0 key entries blocks k;
    }

-- by the index of several blocks
pub found-for : {V : Type 0} (codec : Codec V) (part : List ℕ) (count : ℕ) (key : Key) (entries : List IndexEntry) (blocks : List (Block V)) (address : Address) → blocks_under codec (Entries entries) count part ≡ Some blocks
    → Some address ≡ block_with_key key entries → IsFor codec part key blocks address
found-for {V} codec part count key entries blocks address under given =
    let u = is-under codec (Entries entries) count part blocks under in
    by (sought codec part 0 0 key entries blocks u.indexed u.stand u.rising)
  where
    by : Sought codec part 0 key entries blocks → IsFor codec part key blocks address
    by (InBlock k) =
        let same : Some address ≡ Some k.entry.1 = given ∙ block-passed key entries k.passed k.entry k.left k.split k.lower k.reached in
        let is : address ≡ k.entry.1 = cc in
        subst (IsFor codec part key blocks) (sym is) (is-for codec part key entries blocks k)
    by (Behind passed all) = let none : Some address ≡ None = given ∙ block-none key entries passed in absurd cc

pub none-for : {V : Type 0} (codec : Codec V) (part : List ℕ) (count : ℕ) (key : Key) (entries : List IndexEntry) (blocks : List (Block V)) → blocks_under codec (Entries entries) count part ≡ Some blocks
    → None ≡ block_with_key key entries → value_at key (entries_of blocks) ≡ None
none-for {V} codec part count key entries blocks under given =
    let u = is-under codec (Entries entries) count part blocks under in
    by (sought codec part 0 0 key entries blocks u.indexed u.stand u.rising)
  where
    by : Sought codec part 0 key entries blocks → value_at key (entries_of blocks) ≡ None
    by (InBlock k) = let none : None ≡ Some k.entry.1 = given ∙ block-passed key entries k.passed k.entry k.left k.split k.lower k.reached in absurd cc
    by (Behind passed all) = value-behind key (entries_of blocks) all

-- no block that the index gives is longer than the longest
pub short-for : {V : Type 0} (codec : Codec V) (part : List ℕ) (count : ℕ) (key : Key) (entries : List IndexEntry) (blocks : List (Block V)) (address : Address) → blocks_under codec (Entries entries) count part ≡ Some blocks
    → Some address ≡ block_with_key key entries → address.end - address.start ≤ longest blocks
short-for {V} codec part count key entries blocks address under given =
    let u = is-under codec (Entries entries) count part blocks under in
    by (sought codec part 0 0 key entries blocks u.indexed u.stand u.rising)
  where
    by : Sought codec part 0 key entries blocks → address.end - address.start ≤ longest blocks
    by (InBlock k) =
        let same : Some address ≡ Some k.entry.1 = given ∙ block-passed key entries k.passed k.entry k.left k.split k.lower k.reached in
        let is : address ≡ k.entry.1 = cc in
        let start : address.start ≡ k.entry.1.start = ap (λ (a : Address). a.start) is in
        let last : address.end ≡ k.entry.1.end = ap (λ (a : Address). a.end) is in
        let end : k.entry.1.end ≡ k.entry.1.start + (5 + length k.here.content) = k.end in
        let most : 5 + length k.here.content ≤ longest blocks = subst (λ (bs : List (Block V)). 5 + length k.here.content ≤ longest bs) (sym k.parts) (longest-here k.earlier k.here k.later) in
        omega (arith, start, last, end, most)
    by (Behind passed all) = let none : Some address ≡ None = given ∙ block-none key entries passed in absurd cc

-- by the index of at most one block, which is all of the part
pub whole-for : {V : Type 0} (codec : Codec V) (part : List ℕ) (count : ℕ) (key : Key) (blocks : List (Block V)) (address : Address) → blocks_under codec AtMostOneBlock count part ≡ Some blocks
    → address.start ≡ 0 → address.end ≡ length part → IsFor codec part key blocks address
whole-for codec part count key blocks address under start end =
    let u = is-under codec AtMostOneBlock count part blocks under in
    let all : slice_range part address.start address.end ≡ part =
    ap (λ n. slice_range part n address.end) start ∙ ap (λ n. slice_range part 0 n) end ∙ whole part in
    record { entries = entries_of blocks; ordered = omega (arith, start, end); within = omega (arith, end); run = ap (run_of codec) all ∙ u.run; value = refl }
  where
    whole : (part : List ℕ) → slice_range part 0 (length part) ≡ part
    whole part = ap (λ n. take n part) (let e : length part - 0 ≡ length part = omega arith in e) ∙ take_all (length part) part (omega arith)
