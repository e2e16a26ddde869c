-- Laws of blocks one after the other: what was written is read again.
use Rattle.std.proofs.Common.{◌≡◌, ℕ, inl, inr, ◌+◌, ◌-◌, ◌^◌, ◌<◌, ◌≤◌, List, [], ◌∷◌, ◌++◌, length, take, drop, Bool, true, false, cond, Option, Some, None, Ok, Err, refl, ap, sym, ◌∙◌, arith, append_assoc, append-nil, length-append, length-take}
use Rattle.std.specs.Prelude.{nat_lt, nat_eq, not, ◌==◌}
use Rattle.std.specs.Int.{w32, to_le_bytes, from_le_bytes}
use Rattle.std.proofs.lemmas.Bool.Decides.{eqb_tells}
use Rattle.std.proofs.lemmas.Bool.{le-ltb, ltb-false, eqb-true}
use Rattle.std.proofs.lemmas.List.{take-append-drop, length-map}
use Rattle.std.proofs.lemmas.Slice.Zip.{length-zip}
use Rattle.std.proofs.lemmas.Nat.{from_le_bytes-to_le_bytes_4}
use Rattle.std.proofs.Math.Seq.{take-append_seam, drop-append_seam}
use Rattle.owned_bytes.specs.Front.{◌>>=◌, provided, End, Piece, continued, pieces}
use Rattle.owned_bytes.specs.Keys.{Key, shared}
use Rattle.owned_bytes.proofs.Pieces.{Shrinks, Extends, pieces-step, pieces-extended, with_front, bind_some, some_is}
use Rattle.std.proofs.Common.{map}
use Rattle.std.specs.List.{zip}
use Rattle.std.specs.Prelude.{◌||◌}
use Rattle.sstable_values.specs.declared.errors.BlockError.TheVariants.{Corrupt, Compressed}
use Rattle.sstable_values.specs.Codec.{Codec}
use Rattle.sstable_blocks.specs.Content.{Found, content_after, block_at, block}
use Rattle.sstable_values.specs.Values.{Values, Listed, Everywhere}
use Rattle.sstable_blocks.specs.Delta.{Delta}
use Rattle.sstable_blocks.specs.Block.{front_of_deltas, key_after, keys_after, keys_of, paired, block_of}
use Rattle.sstable_blocks.specs.Entries.{last_or}
use Rattle.sstable_blocks.specs.Run.{block_or_end, front_of_blocks, last_key, may_follow, key_before, Block, Run, blocks_after, whole_run_of, entries_of}
use Rattle.sstable_values.proofs.RisingLaws.{provided-true}
use Rattle.sstable_blocks.proofs.BlockLaws.{no_fault, no_end, found-is}

-- what a reader looks at before the content
abbrev tested : Bool → Bool → Bool → Found → Found
tested none cut ended found = cond none (Ok None) (cond cut (Err Corrupt) (cond ended (Ok None) found))

tested-passed : (none cut ended : Bool) (found : Found) → none ≡ false → cut ≡ false → ended ≡ false → tested none cut ended found ≡ found
tested-passed none cut ended found a b c =
    ap (λ t. tested t cut ended found) a ∙ ap (λ t. tested false t ended found) b ∙ ap (λ t. tested false false t found) c

-- where a block stands in the table changes its fault alone
pub front-placed : (p q : ℕ) (bytes : List ℕ) → block_or_end (block_at p bytes) ≡ block_or_end (block_at q bytes)
unfolding block_at
front-placed p q bytes = by_tests (length bytes == 0) (nat_lt (length bytes) 4) (nat_lt (from_le_bytes w32 (take 4 bytes)) 2) _ _ (of_content (from_le_bytes w32 (take 4 bytes) - 1) (drop 4 bytes))
  where
    by_tests : (none cut ended : Bool) (x y : Found) → block_or_end x ≡ block_or_end y → block_or_end (tested none cut ended x) ≡ block_or_end (tested none cut ended y)
    by_tests true cut ended x y same = refl
    by_tests false true ended x y same = refl
    by_tests false false true x y same = refl
    by_tests false false false x y same = same

    by_byte : (one : Bool) (x : Found) → block_or_end (cond one (Err (Compressed p)) x) ≡ block_or_end (cond one (Err (Compressed q)) x)
    by_byte true x = refl
    by_byte false x = refl

    of_content : (len : ℕ) (bytes : List ℕ) → block_or_end (content_after p len bytes) ≡ block_or_end (content_after q len bytes)
    of_content len [] = refl
    of_content len (c ∷ bytes) = by_byte (c == 1) _

-- a piece is a block that was found
found-of_piece : (found : Found) (content rest : List ℕ) → block_or_end found ≡ Piece content rest → found ≡ Ok (Some (content, rest))
found-of_piece (Ok None) content rest e = absurd cc
found-of_piece (Err x) content rest e = absurd cc
found-of_piece (Ok (Some parts)) content rest e =
    let first : parts.0 ≡ content = cc in
    let second : parts.1 ≡ rest = cc in
    ap (λ a. Ok (Some (a, parts.1))) first ∙ ap (λ b. Ok (Some (content, b))) second

-- the end is found as the end
found-of_end : (found : Found) → block_or_end found ≡ End → found ≡ Ok None
found-of_end (Ok None) e = refl
found-of_end (Ok (Some parts)) e = absurd cc
found-of_end (Err x) e = absurd cc

-- What a reader finds at a place is what the run has there.
pub found-piece : (place : ℕ) (bytes content rest : List ℕ) → front_of_blocks bytes ≡ Piece content rest → block_at place bytes ≡ Ok (Some (content, rest))
found-piece place bytes content rest e = found-of_piece (block_at place bytes) content rest (front-placed place 0 bytes ∙ e)

pub found-end : (place : ℕ) (bytes : List ℕ) → front_of_blocks bytes ≡ End → block_at place bytes ≡ Ok None
found-end place bytes e = found-of_end (block_at place bytes) (front-placed place 0 bytes ∙ e)

-- the parts of a block: its length word, the byte 0 and its content
pub record IsBlock (bytes content rest : List ℕ) : Type 0 where
  pub parts : bytes ≡ take 4 bytes ++ 0 ∷ (content ++ rest)
  pub word : length (take 4 bytes) ≡ 4
  pub len : from_le_bytes w32 (take 4 bytes) ≡ length content + 1
  pub some : 0 < length content

content-split : (place len : ℕ) (bytes content rest : List ℕ) → content_after place len bytes ≡ Ok (Some (content, rest)) → (bytes ≡ 0 ∷ (content ++ rest)) × (length content ≡ len)
content-split place len [] content rest h = absurd cc
content-split place len (c ∷ bytes) content rest h =
    let plain = no_fault (c == 1) (Compressed place) _ _ h in
    let zero_byte = no_fault (not (c == 0)) Corrupt _ _ plain.1 in
    let whole = no_fault (nat_lt (length bytes) len) Corrupt _ _ zero_byte.1 in
    let same : (content, rest) ≡ (take len bytes, drop len bytes) = sym (found-is _ _ whole.1) in
    let front : content ≡ take len bytes = ap (λ (p : List ℕ × List ℕ). p.0) same in
    let back : rest ≡ drop len bytes = ap (λ (p : List ℕ × List ℕ). p.1) same in
    let is_zero : c ≡ 0 = eqb-true c 0 (not-false (c == 0) zero_byte.0) in (
      ap (λ z. z ∷ bytes) is_zero ∙ ap (λ bs. 0 ∷ bs) (sym (take-append-drop len bytes) ∙ ap (λ f. f ++ drop len bytes) (sym front) ∙ ap (λ b. content ++ b) (sym back)),
      ap length front ∙ simp length-take (omega (arith, ltb-false _ _ whole.0)),
    )
  where
    not-false : (b : Bool) → not b ≡ false → b ≡ true
    not-false true e = refl
    not-false false e = absurd cc

pub block-split : (place : ℕ) (bytes content rest : List ℕ) → block_at place bytes ≡ Ok (Some (content, rest)) → IsBlock bytes content rest
unfolding block_at
block-split place bytes content rest h =
    let len = from_le_bytes w32 (take 4 bytes) in
    let some = no_end (length bytes == 0) _ _ h in
    let long = no_fault (nat_lt (length bytes) 4) Corrupt _ _ some.1 in
    let block = no_end (nat_lt len 2) _ _ long.1 in
    let split = content-split place (len - 1) (drop 4 bytes) content rest block.1 in
    let enough : 4 ≤ length bytes = ltb-false _ _ long.0 in
    let two : 2 ≤ len = ltb-false _ _ block.0 in
    record {
      parts = sym (take-append-drop 4 bytes) ∙ ap (λ b. take 4 bytes ++ b) split.0;
      word = simp length-take (omega (arith, enough));
      len = omega (arith, two, split.1);
      some = omega (arith, two, split.1);
    }

-- what has the parts of a block is found as one
block-built : (place : ℕ) (word content rest : List ℕ) → length word ≡ 4 → from_le_bytes w32 word ≡ length content + 1 → 0 < length content
    → block_at place (word ++ 0 ∷ (content ++ rest)) ≡ Ok (Some (content, rest))
unfolding block_at
block-built place word content rest four len some =
    let bytes = word ++ 0 ∷ (content ++ rest) in
    let size : length bytes ≡ 4 + (1 + (length content + length rest)) = simp (length-append, four) (omega arith) in
    let front : take 4 bytes ≡ word = rw (← four) (take-append_seam word (0 ∷ (content ++ rest))) in
    let back : drop 4 bytes ≡ 0 ∷ (content ++ rest) = rw (← four) (drop-append_seam word (0 ∷ (content ++ rest))) in
    let number : from_le_bytes w32 (take 4 bytes) ≡ length content + 1 = ap (from_le_bytes w32) front ∙ len in
    let less : length content + 1 - 1 ≡ length content = omega arith in
    tested-passed (length bytes == 0) (nat_lt (length bytes) 4) (nat_lt (from_le_bytes w32 (take 4 bytes)) 2) _ (not_none (length bytes) (omega (arith, size))) (le-ltb _ _ (omega (arith, size))) (le-ltb _ _ (omega (arith, number, some)))
    ∙ ap (λ n. content_after place (n - 1) (drop 4 bytes)) number
    ∙ ap (λ n. content_after place n (drop 4 bytes)) less
    ∙ ap (content_after place (length content)) back
    ∙ ap (λ t. cond t (Err Corrupt) (Ok (Some (take (length content) (content ++ rest), drop (length content) (content ++ rest))))) (le-ltb (length (content ++ rest)) (length content) (simp length-append (omega arith)))
    ∙ ap (λ f. Ok (Some (f, drop (length content) (content ++ rest)))) (take-append_seam content rest)
    ∙ ap (λ b. Ok (Some (content, b))) (drop-append_seam content rest)
  where
    not_none : (n : ℕ) → 0 < n → nat_eq n 0 ≡ false
    not_none n h = elim (eqb_tells n 0) [ inl same ↦ absurd (omega (arith, same.1, h)) | inr other ↦ other.0 ]

-- what a writer may make a block of
pub record IsContent (content : List ℕ) : Type 0 where
  pub some : 0 < length content
  pub short : length content + 1 < 2 ^ 32

-- a block that was written is found, whatever follows it
pub block-found : (place : ℕ) (content rest : List ℕ) → IsContent content → block_at place (block content ++ rest) ≡ Ok (Some (content, rest))
block-found place content rest is =
    let word = to_le_bytes w32 (length content + 1) in
    ap (block_at place) (append_assoc word (0 ∷ content) rest)
    ∙ block-built place word content rest refl (from_le_bytes-to_le_bytes_4 (length content + 1) is.short) is.some

front-found : (bytes rest content : List ℕ) → front_of_blocks bytes ≡ Piece content rest → block_at 0 bytes ≡ Ok (Some (content, rest))
front-found bytes rest content e = found-of_piece (block_at 0 bytes) content rest e

pub blocks-shrink : Shrinks front_of_blocks
blocks-shrink = record {
  shorter = λ bytes rest content e.
      let is = block-split 0 bytes content rest (front-found bytes rest content e) in
      let size : length bytes ≡ length (take 4 bytes) + (1 + (length content + length rest)) = ap length is.parts ∙ simp length-append (omega arith) in
      omega (arith, size, is.some);
}

pub blocks-extend : Extends front_of_blocks
blocks-extend = record {
  longer = λ bytes rest more content e.
      let is = block-split 0 bytes content rest (front-found bytes rest content e) in
      ap front_of_blocks (ap (λ bs. bs ++ more) is.parts ∙ append_assoc (take 4 bytes) (0 ∷ (content ++ rest)) more ∙ ap (λ back. take 4 bytes ++ 0 ∷ back) (append_assoc content rest more))
      ∙ ap block_or_end (block-built 0 (take 4 bytes) content (rest ++ more) is.word is.len is.some);
}

pub last_or-append : {V : Type 0} (before : Option Key) (xs ys : List (Key × V)) → 0 < length xs → last_or before (xs ++ ys) ≡ last_or (last_key xs) ys
last_or-append before [] ys some = absurd (omega arith)
last_or-append before (x ∷ []) [] some = refl
last_or-append before (x ∷ []) (y ∷ ys) some = refl
last_or-append before (x ∷ y ∷ xs) ys some = last_or-append before (y ∷ xs) ys (omega arith)

-- a block has a key
pub keys_of-some : (before : Key) (deltas : List Delta) (keys : List Key) → keys_of before deltas ≡ Some keys → 0 < length keys
unfolding keys_of
keys_of-some before [] keys e = absurd cc
keys_of-some before (delta ∷ deltas) keys e =
    let key = key_after before delta in
    let test = bind_some (provided (delta.keep == 0 || delta.keep == shared before key)) (λ _. keys_after key deltas >>= (λ others. Some (key ∷ others))) keys e in
    let others = bind_some (keys_after key deltas) (λ others. Some (key ∷ others)) keys test.2 in
    let is : key ∷ others.0 ≡ keys = some_is _ _ others.2 in
    omega (arith, ap length is)

-- each key has a value
pub length-paired : {V : Type 0} (keys : List Key) (values : Values V) (entries : List (Key × V)) → paired keys values ≡ Some entries → length entries ≡ length keys
unfolding paired
length-paired keys (Everywhere value) entries e = let is : map (λ key. (key, value)) keys ≡ entries = some_is _ _ e in ap length (sym is) ∙ length-map keys (λ key. (key, value))
length-paired keys (Listed values) entries e =
    let test = bind_some (provided (length keys == length values)) (λ _. Some (zip keys values)) entries e in
    let is : zip keys values ≡ entries = some_is _ _ test.2 in
    let same : length keys ≡ length values = eqb-true _ _ (provided-true _ _ test.1) in
    ap length (sym is) ∙ length-zip keys values ∙ omega (arith, same)

-- the entries of a block, of which there is one or more
pub block_of-some : {V : Type 0} (codec : Codec V) (before : Key) (content : List ℕ) (entries : List (Key × V)) → block_of codec before content ≡ Some entries → 0 < length entries
unfolding block_of
block_of-some codec before content entries e =
    let values = bind_some (codec.values_of content) (λ values. pieces front_of_deltas values.1 >>= (λ deltas. keys_of before deltas.0 >>= (λ keys. paired keys values.0))) entries e in
    let deltas = bind_some (pieces front_of_deltas values.0.1) (λ deltas. keys_of before deltas.0 >>= (λ keys. paired keys values.0.0)) entries values.2 in
    let keys = bind_some (keys_of before deltas.0.0) (λ keys. paired keys values.0.0) entries deltas.2 in
    omega (arith, keys_of-some before deltas.0.0 keys.0 keys.1, length-paired keys.0 values.0.0 entries keys.2)

-- the steps of a block in a run
followed : {V : Type 0} → Codec V → List ℕ → List (List ℕ) → List (Key × V) → Option (List (Block V))
followed codec content contents entries = blocks_after codec (last_key entries) contents >>= (λ others. Some (record { content = content; entries = entries } ∷ others))

if_follows : {V : Type 0} → Codec V → Option Key → List ℕ → List (List ℕ) → List (Key × V) → Option (List (Block V))
if_follows codec before content contents entries = provided (may_follow before entries) >>= (λ _. followed codec content contents entries)

-- one more block at the end of a run
pub blocks_after-more : {V : Type 0} (codec : Codec V) (before : Option Key) (contents : List (List ℕ)) (blocks : List (Block V)) (content : List ℕ) (entries : List (Key × V))
    → blocks_after codec before contents ≡ Some blocks → block_of codec (key_before codec (last_or before (entries_of blocks))) content ≡ Some entries
    → may_follow (last_or before (entries_of blocks)) entries ≡ true → blocks_after codec before (contents ++ content ∷ []) ≡ Some (blocks ++ record { content = content; entries = entries } ∷ [])
unfolding blocks_after followed if_follows
blocks_after-more codec before [] blocks content entries first block follows =
    let none : blocks ≡ [] = sym (some_is _ _ first) in
    let block' : block_of codec (key_before codec before) content ≡ Some entries = rw none at block in
    let follows' : may_follow before entries ≡ true = rw none at follows in
    ap (λ o. o >>= if_follows codec before content []) block' ∙ ap (λ t. provided t >>= (λ _. followed codec content [] entries)) follows'
    ∙ ap (λ bs. Some (bs ++ record { content = content; entries = entries } ∷ [])) (sym none)
blocks_after-more codec before (first ∷ contents) blocks content entries found block follows =
    let step = bind_some (block_of codec (key_before codec before) first) (if_follows codec before first contents) blocks found in
    let test = bind_some (provided (may_follow before step.0)) (λ _. followed codec first contents step.0) blocks step.2 in
    let others = bind_some (blocks_after codec (last_key step.0) contents) (λ others. Some (record { content = first; entries = step.0 } ∷ others)) blocks test.2 in
    let is : record { content = first; entries = step.0 } ∷ others.0 ≡ blocks = some_is _ _ others.2 in
    let last : last_or before (entries_of blocks) ≡ last_or (last_key step.0) (entries_of others.0) =
    ap (λ bs. last_or before (entries_of bs)) (sym is) ∙ last_or-append before step.0 (entries_of others.0) (block_of-some codec (key_before codec before) first step.0 step.1) in
    let block' : block_of codec (key_before codec (last_or (last_key step.0) (entries_of others.0))) content ≡ Some entries = rw last at block in
    let follows' : may_follow (last_or (last_key step.0) (entries_of others.0)) entries ≡ true = rw last at follows in
    ap (λ o. o >>= if_follows codec before first (contents ++ content ∷ [])) step.1
    ∙ ap (λ o. o >>= (λ _. followed codec first (contents ++ content ∷ []) step.0)) test.1
    ∙ ap (λ o. o >>= (λ others. Some (record { content = first; entries = step.0 } ∷ others))) (blocks_after-more codec (last_key step.0) contents others.0 content entries others.1 block' follows')
    ∙ ap (λ bs. Some (bs ++ record { content = content; entries = entries } ∷ [])) is

-- there is no block in no bytes
pub front-none : front_of_blocks [] ≡ End
unfolding block_at
front-none = refl

pub last_or-none : {V : Type 0} (entries : List (Key × V)) → last_or None entries ≡ last_key entries
last_or-none [] = refl
last_or-none (entry ∷ entries) = refl

as_run : {V : Type 0} → Codec V → List (List ℕ) × List ℕ → Option (Run V)
as_run codec found = blocks_after codec None found.0 >>= (λ blocks. Some (record { blocks = blocks; rest = found.1 }))

-- One more block is written behind a run that ends with the bytes.
pub run-more : {V : Type 0} (codec : Codec V) (bytes content : List ℕ) (blocks : List (Block V)) (entries : List (Key × V))
    → whole_run_of codec bytes ≡ Some (record { blocks = blocks; rest = [] }) → IsContent content
    → block_of codec (key_before codec (last_key (entries_of blocks))) content ≡ Some entries → may_follow (last_key (entries_of blocks)) entries ≡ true
    → whole_run_of codec (bytes ++ block content) ≡ Some (record { blocks = blocks ++ record { content = content; entries = entries } ∷ []; rest = [] })
unfolding whole_run_of as_run
run-more codec bytes content blocks entries run is found follows =
    let cut = bind_some (pieces front_of_blocks bytes) (as_run codec) (record { blocks = blocks; rest = [] }) run in
    let read = bind_some (blocks_after codec None cut.0.0) (λ bs. Some (record { blocks = bs; rest = cut.0.1 })) (record { blocks = blocks; rest = [] }) cut.2 in
    let same : record { blocks = read.0; rest = cut.0.1 } ≡ record { blocks = blocks; rest = [] } = some_is _ _ read.2 in
    let same_blocks : read.0 ≡ blocks = ap (λ (r : Run _). r.blocks) same in
    let ends : cut.0.1 ≡ [] = ap (λ (r : Run _). r.rest) same in
    let whole : pieces front_of_blocks bytes ≡ Some (cut.0.0, []) = cut.1 ∙ ap (λ rest. Some (cut.0.0, rest)) ends in
    let none : pieces front_of_blocks [] ≡ Some ([], []) = pieces-step front_of_blocks blocks-shrink [] ∙ ap (continued (pieces front_of_blocks) []) front-none in
    let one : pieces front_of_blocks (block content) ≡ Some (content ∷ [], []) =
    pieces-step front_of_blocks blocks-shrink (block content)
    ∙ ap (continued (pieces front_of_blocks) (block content)) (ap block_or_end (ap (block_at 0) (sym (append-nil (block content))) ∙ block-found 0 content [] is))
    ∙ ap (λ o. o >>= (λ others. Some (content ∷ others.0, others.1))) none in
    let more : pieces front_of_blocks (bytes ++ block content) ≡ Some (cut.0.0 ++ content ∷ [], []) =
    pieces-extended front_of_blocks blocks-shrink blocks-extend bytes (block content) cut.0.0 whole ∙ ap (with_front cut.0.0) one in
    let last : last_or None (entries_of blocks) ≡ last_key (entries_of blocks) = last_or-none (entries_of blocks) in
    let after : blocks_after codec None cut.0.0 ≡ Some blocks = read.1 ∙ ap Some same_blocks in
    ap (λ o. o >>= as_run codec) more
    ∙ ap (λ o. o >>= (λ bs. Some (record { blocks = bs; rest = [] }))) (blocks_after-more codec None cut.0.0 blocks content entries after (rw last found) (rw last follows))
