-- Each block of a table, read alone, is a run of its entries.
use Rattle.std.proofs.Common.{◌≡◌, ℕ, ◌+◌, ◌-◌, ◌<◌, ◌≤◌, List, [], ◌∷◌, ◌++◌, length, take, drop, Bool, true, false, cond, Option, Some, None, Ok, Err, refl, ap, sym, ◌∙◌, subst, inl, inr, arith, append-nil, append_assoc, length-append, drop-drop, length-drop}
use Rattle.std.proofs.lemmas.Bool.{le-ltb}
use Rattle.std.proofs.lemmas.Bool.Decides.{eqb_tells}
use Rattle.std.proofs.Math.Seq.{take-append_seam, drop-append_seam}
use Rattle.std.specs.Prelude.{nat_lt, nat_eq, slice_range, ◌==◌}
use Rattle.std.specs.Int.{w32, from_le_bytes}
use Rattle.owned_bytes.specs.Front.{◌>>=◌, provided, continued, pieces}
use Rattle.owned_bytes.specs.Keys.{Key}
use Rattle.owned_bytes.proofs.Pieces.{pieces-step, bind_some, some_is}
use Rattle.sstable_values.specs.Codec.{Codec}
use Rattle.sstable_values.specs.declared.errors.BlockError.TheVariants.{Corrupt}
use Rattle.sstable_blocks.specs.Content.{Found, content_after}
unfoldable use Rattle.sstable_blocks.specs.Content.{block_at}
unfoldable use Rattle.sstable_blocks.specs.Block.{block_of}
use Rattle.sstable_blocks.specs.Run.{Block, Run, block_or_end, front_of_blocks, last_key, may_follow, key_before, entries_of}
unfoldable use Rattle.sstable_blocks.specs.Run.{blocks_after, whole_run_of, run_of}
use Rattle.sstable_blocks.proofs.BlockLaws.{block-parts}
use Rattle.sstable_blocks.proofs.RunLaws.{blocks-shrink, block-split, block_of-some, front-none}
use Rattle.sstable_format.specs.Table.{keeping_nothing}
use Rattle.sstable_format.proofs.Keeping.{block_of-keeping}

-- three tests that found nothing
tested : (a b c : Bool) (r : Found) → a ≡ false → b ≡ false → c ≡ false → cond a (Ok None) (cond b (Err Corrupt) (cond c (Ok None) r)) ≡ r
tested true b c r x y z = absurd cc
tested false true c r x y z = absurd cc
tested false false true r x y z = absurd cc
tested false false false r x y z = refl

-- what has the parts of a block is found as one
built : (word content : List ℕ) → length word ≡ 4 → from_le_bytes w32 word ≡ length content + 1 → 0 < length content → block_at 0 (word ++ 0 ∷ content) ≡ Ok (Some (content, []))
unfolding block_at
built word content four len some =
    let bytes = word ++ 0 ∷ content in
    let size : length bytes ≡ 4 + (1 + length content) = simp (length-append, four) (omega arith) in
    let front : take 4 bytes ≡ word = rw (← four) (take-append_seam word (0 ∷ content)) in
    let back : drop 4 bytes ≡ 0 ∷ content = rw (← four) (drop-append_seam word (0 ∷ content)) in
    let number : from_le_bytes w32 (take 4 bytes) ≡ length content + 1 = ap (from_le_bytes w32) front ∙ len in
    let less : length content + 1 - 1 ≡ length content = omega arith in
    tested (length bytes == 0) (nat_lt (length bytes) 4) (nat_lt (from_le_bytes w32 (take 4 bytes)) 2) _ (not_none (length bytes) (omega (arith, size))) (le-ltb _ _ (omega (arith, size))) (le-ltb _ _ (omega (arith, number, some)))
    ∙ ap (λ n. content_after 0 (n - 1) (drop 4 bytes)) number
    ∙ ap (λ n. content_after 0 n (drop 4 bytes)) less
    ∙ ap (content_after 0 (length content)) back
    ∙ ap (λ (c : List ℕ). content_after 0 (length content) (0 ∷ c)) (sym (append-nil content))
    ∙ ap (λ t. cond t (Err Corrupt) (Ok (Some (take (length content) (content ++ []), drop (length content) (content ++ []))))) (le-ltb (length (content ++ [])) (length content) (simp length-append (omega arith)))
    ∙ ap (λ f. Ok (Some (f, drop (length content) (content ++ [])))) (take-append_seam content [])
    ∙ ap (λ b. Ok (Some (content, b))) (drop-append_seam content [])
  where
    not_none : (n : ℕ) → 0 < n → nat_eq n 0 ≡ false
    not_none n h = elim (eqb_tells n 0) [ inl same ↦ absurd (omega (arith, same.1, h)) | inr other ↦ other.0 ]

-- a block without what follows it
cut : (bytes content rest : List ℕ) → block_at 0 bytes ≡ Ok (Some (content, rest)) → block_at 0 (take (5 + length content) bytes) ≡ Ok (Some (content, []))
cut bytes content rest found =
    let is = block-split 0 bytes content rest found in
    let word = take 4 bytes in
    let front : List ℕ = word ++ 0 ∷ content in
    let size : length front ≡ 5 + length content = simp (length-append, is.word) (omega arith) in
    let all : bytes ≡ front ++ rest = is.parts ∙ sym (append_assoc word (0 ∷ content) rest) in
    let here : take (5 + length content) bytes ≡ front = ap (λ n. take n bytes) (sym size) ∙ ap (take (length front)) all ∙ take-append_seam front rest in
    ap (block_at 0) here ∙ built word content is.word is.len is.some

abbrev as_run : {V : Type 0} → Codec V → List (List ℕ) × List ℕ → Option (Run V)
as_run codec contents = blocks_after codec None contents.0 >>= (λ blocks. Some (record { blocks = blocks; rest = contents.1 }))

abbrev of_run : {V : Type 0} → Run V → Option (List (Key × V))
of_run run = Some (entries_of run.blocks)

-- one block after no other
one-after : {V : Type 0} (codec : Codec V) (content : List ℕ) (entries : List (Key × V)) → block_of codec (key_before codec None) content ≡ Some entries → blocks_after codec None (content ∷ []) ≡ Some (record { content = content; entries = entries } ∷ [])
unfolding blocks_after
one-after {V} codec content entries block = ap after block
  where
    after : Option (List (Key × V)) → Option (List (Block V))
    after o = o >>= (λ entries. provided (may_follow None entries) >>= (λ _. blocks_after codec (last_key entries) [] >>= (λ others. Some (record { content = content; entries = entries } ∷ others))))

-- one block is a run
run-alone : {V : Type 0} (codec : Codec V) (bytes content : List ℕ) (entries : List (Key × V)) → block_at 0 bytes ≡ Ok (Some (content, [])) → block_of codec (key_before codec None) content ≡ Some entries → run_of codec bytes ≡ Some entries
unfolding run_of whole_run_of
run-alone {V} codec bytes content entries found block =
    let none : pieces front_of_blocks [] ≡ Some ([], []) = pieces-step front_of_blocks blocks-shrink [] ∙ ap (continued (pieces front_of_blocks) []) front-none in
    let one : pieces front_of_blocks bytes ≡ Some (content ∷ [], []) =
    pieces-step front_of_blocks blocks-shrink bytes
    ∙ ap (continued (pieces front_of_blocks) bytes) (ap block_or_end found)
    ∙ ap (λ (o : Option (List (List ℕ) × List ℕ)). o >>= (λ others. Some (content ∷ others.0, others.1))) none in
    let this : Block V = record { content = content; entries = entries } in
    let run : Run V = record { blocks = this ∷ []; rest = [] } in
    let read : as_run codec (content ∷ [], []) ≡ Some run = ap (λ (o : Option (List (Block V))). o >>= (λ blocks. Some (record { blocks = blocks; rest = [] }))) (one-after codec content entries block) in
    ap (λ (o : Option (List (List ℕ) × List ℕ)). (o >>= as_run codec) >>= of_run) one
    ∙ ap (λ (o : Option (Run V)). o >>= of_run) read
    ∙ ap Some (append-nil entries)

-- A block that stands at a place of a table, and is a run alone.
pub record Stands {V : Type 0} (codec : Codec V) (part : List ℕ) (start : ℕ) (block : Block V) : Type 0 where
  pub within : start + (5 + length block.content) ≤ length part
  pub run : run_of codec (slice_range part start (start + (5 + length block.content))) ≡ Some block.entries
  pub some : 0 < length block.entries

-- so does each of these, one behind the other
abbrev pub AllStand : {V : Type 0} → Codec V → List ℕ → ℕ → List (Block V) → Type 0
AllStand codec part start [] = Unit {0}
AllStand codec part start (block ∷ blocks) = Stands codec part start block × AllStand codec part (start + (5 + length block.content)) blocks

head_of : List (List ℕ) → List ℕ
head_of [] = []
head_of (content ∷ contents) = content

tail_of : List (List ℕ) → List (List ℕ)
tail_of [] = []
tail_of (content ∷ contents) = contents

-- the first of these blocks, and the others
record Cut (start : ℕ) (part content : List ℕ) (contents : List (List ℕ)) (rest : List ℕ) : Type 0 where
  within : start + (5 + length content) ≤ length part
  alone : block_at 0 (slice_range part start (start + (5 + length content))) ≡ Ok (Some (content, []))
  others : pieces front_of_blocks (drop (start + (5 + length content)) part) ≡ Some (contents, rest)

cut-first : (start : ℕ) (part content : List ℕ) (contents : List (List ℕ)) (rest : List ℕ) → start ≤ length part → pieces front_of_blocks (drop start part) ≡ Some (content ∷ contents, rest) → Cut start part content contents rest
unfolding head_of tail_of
cut-first start part content contents rest inside e = by (block_at 0 (drop start part)) refl (sym (pieces-step front_of_blocks blocks-shrink (drop start part)) ∙ e)
  where
    by : (found : Found) → block_at 0 (drop start part) ≡ found → continued (pieces front_of_blocks) (drop start part) (block_or_end found) ≡ Some (content ∷ contents, rest) → Cut start part content contents rest
    by (Err error) is e = absurd cc
    by (Ok None) is e = let none : [] ≡ content ∷ contents = ap (λ (p : List (List ℕ) × List ℕ). p.0) (some_is ([], drop start part) (content ∷ contents, rest) e) in absurd cc
    by (Ok (Some found)) is e =
        let step = bind_some (pieces front_of_blocks found.1) (λ others. Some (found.0 ∷ others.0, others.1)) (content ∷ contents, rest) e in
        let same = some_is (found.0 ∷ step.0.0, step.0.1) (content ∷ contents, rest) step.2 in
        let first : found.0 ≡ content = ap (λ (p : List (List ℕ) × List ℕ). head_of p.0) same in
        let here : block_at 0 (drop start part) ≡ Ok (Some (content, found.1)) = is ∙ ap (λ c. Ok (Some (c, found.1))) first in
        let parts = block-parts 0 (drop start part) content found.1 here in
        let len : start + (5 + length content) - start ≡ 5 + length content = omega arith in
        record {
          within = omega (arith, parts.0, length-drop start part, inside);
          alone = ap (λ n. block_at 0 (take n (drop start part))) len ∙ cut (drop start part) content found.1 here;
          others = ap (pieces front_of_blocks) (sym (drop-drop (5 + length content) start part) ∙ sym parts.2) ∙ step.1 ∙ ap (λ (p : List (List ℕ) × List ℕ). Some (tail_of p.0, p.1)) same;
        }

pub all-stand : {V : Type 0} (codec : Codec V) (part : List ℕ) (start : ℕ) (before : Option Key) (contents : List (List ℕ)) (rest : List ℕ) (blocks : List (Block V)) → start ≤ length part
    → pieces front_of_blocks (drop start part) ≡ Some (contents, rest) → blocks_after (keeping_nothing codec) before contents ≡ Some blocks → AllStand codec part start blocks
unfolding blocks_after
all-stand codec part start before [] rest blocks inside pieced e = subst (AllStand codec part start) (some_is [] blocks e) tt
all-stand codec part start before (content ∷ contents) rest blocks inside pieced e =
    let first = bind_some (block_of (keeping_nothing codec) [] content) (λ entries. provided (may_follow before entries) >>= (λ _. blocks_after (keeping_nothing codec) (last_key entries) contents >>= (λ others. Some (record { content = content; entries = entries } ∷ others)))) blocks e in
    let second = bind_some (provided (may_follow before first.0)) (λ _. blocks_after (keeping_nothing codec) (last_key first.0) contents >>= (λ others. Some (record { content = content; entries = first.0 } ∷ others))) blocks first.2 in
    let third = bind_some (blocks_after (keeping_nothing codec) (last_key first.0) contents) (λ others. Some (record { content = content; entries = first.0 } ∷ others)) blocks second.2 in
    let c = cut-first start part content contents rest inside pieced in
    subst (AllStand codec part start) (some_is _ blocks third.2) (
      record {
        within = c.within;
        run = run-alone codec (slice_range part start (start + (5 + length content))) content first.0 c.alone (block_of-keeping codec (key_before codec None) content first.0 first.1);
        some = block_of-some (keeping_nothing codec) [] content first.0 first.1;
      },
      all-stand codec part (start + (5 + length content)) (last_key first.0) contents rest third.0 c.within c.others third.1,
    )
