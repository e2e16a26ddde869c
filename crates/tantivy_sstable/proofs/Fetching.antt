-- How long the blocks of a table are.
use Rattle.std.proofs.Common.{◌≡◌, ℕ, ◌+◌, ◌-◌, ◌≤◌, List, [], ◌∷◌, length, take, drop, map, true, ◌&&◌, Option, Some, None, Ok, Err, refl, ap, sym, ◌∙◌, arith, length-append, length-take, length-drop, eqb}
use Rattle.std.specs.Prelude.{slice_range}
use Rattle.std.proofs.lemmas.Bool.{and_parts, leb-true}
use Rattle.std.specs.Ordering.{nat_cmp, ordering_then}
use Rattle.std.specs.Cmp.Lexicographic.{slice_cmp}
use Rattle.std.specs.declared.cmp.Ordering.{Ordering}
use Rattle.std.specs.declared.cmp.Ordering.TheVariants.{Less, Equal, Greater}
use Rattle.owned_bytes.specs.Front.{◌>>=◌, provided, continued, pieces}
use Rattle.owned_bytes.specs.Keys.{Key, is_same, is_equal}
use Rattle.owned_bytes.proofs.Pieces.{pieces-step, bind_some, some_is, provided-true}
use Rattle.sstable_values.specs.Codec.{Codec}
use Rattle.sstable_blocks.specs.Content.{Found}
unfoldable use Rattle.sstable_blocks.specs.Content.{block_at}
unfoldable use Rattle.sstable_blocks.specs.Block.{block_of}
use Rattle.sstable_blocks.specs.Run.{Block, Run, block_or_end, front_of_blocks, last_key, may_follow, key_before, entries_of}
unfoldable use Rattle.sstable_blocks.specs.Run.{blocks_after, whole_run_of}
use Rattle.sstable_blocks.proofs.RunLaws.{blocks-shrink, block-split}
use Rattle.sstable_format.specs.Index.{is_zeros, AtMostOneBlock}
use Rattle.sstable_format.specs.Table.{keeping_nothing, indexes}
unfoldable use Rattle.sstable_format.specs.Table.{points_to, places_from, blocks_of, blocks_under}
use Rattle.sstable_format.specs.Table.{longest}

then-equal : (o r : Ordering) → is_equal (ordering_then o r) ≡ true → is_equal r ≡ true
then-equal Less r e = absurd cc
then-equal Equal r e = e
then-equal Greater r e = absurd cc

same-length : (a b : Key) → is_same a b ≡ true → length a ≡ length b
same-length [] [] e = refl
same-length [] (y ∷ b) e = absurd cc
same-length (x ∷ a) [] e = absurd cc
same-length (x ∷ a) (y ∷ b) e = let others = same-length a b (then-equal (nat_cmp x y) (slice_cmp nat_cmp a b) e) in omega (arith, others)

-- the bytes of blocks with these contents
total : List (List ℕ) → ℕ
total [] = 0
total (content ∷ contents) = 5 + length content + total contents

first_length : List (List ℕ) → ℕ
first_length [] = 0
first_length (content ∷ contents) = length content

others_of : List (List ℕ) → List (List ℕ)
others_of [] = []
others_of (content ∷ contents) = contents

total-none : (bytes rest : List ℕ) (found : Found) → continued (pieces front_of_blocks) bytes (block_or_end found) ≡ Some ([], rest) → length bytes ≡ length rest
total-none bytes rest (Err error) e = absurd cc
total-none bytes rest (Ok None) e = ap length (ap (λ (p : List (List ℕ) × List ℕ). p.1) (some_is ([], bytes) ([], rest) e))
total-none bytes rest (Ok (Some found)) e =
    let step = bind_some (pieces front_of_blocks found.1) (λ others. Some (found.0 ∷ others.0, others.1)) ([], rest) e in
    let same = some_is (found.0 ∷ step.0.0, step.0.1) ([], rest) step.2 in
    let none : found.0 ∷ step.0.0 ≡ [] = ap (λ (p : List (List ℕ) × List ℕ). p.0) same in
    absurd cc

-- blocks and what follows them are all of the bytes
pieces-total : (contents : List (List ℕ)) (bytes rest : List ℕ) → pieces front_of_blocks bytes ≡ Some (contents, rest) → length bytes ≡ total contents + length rest
unfolding total first_length others_of
pieces-total [] bytes rest e = let all = total-none bytes rest (block_at 0 bytes) (sym (pieces-step front_of_blocks blocks-shrink bytes) ∙ e) in omega (arith, all)
pieces-total (content ∷ contents) bytes rest e = by_found (λ others. pieces-total contents others rest) (block_at 0 bytes) refl (sym (pieces-step front_of_blocks blocks-shrink bytes) ∙ e)
  where
    by_found : ((others : List ℕ) → pieces front_of_blocks others ≡ Some (contents, rest) → length others ≡ total contents + length rest) → (found : Found) → block_at 0 bytes ≡ found → continued (pieces front_of_blocks) bytes (block_or_end found) ≡ Some (content ∷ contents, rest) → length bytes ≡ total (content ∷ contents) + length rest
    by_found again (Err error) is e = absurd cc
    by_found again (Ok None) is e = let none : [] ≡ content ∷ contents = ap (λ (p : List (List ℕ) × List ℕ). p.0) (some_is ([], bytes) (content ∷ contents, rest) e) in absurd cc
    by_found again (Ok (Some found)) is e =
        let step = bind_some (pieces front_of_blocks found.1) (λ others. Some (found.0 ∷ others.0, others.1)) (content ∷ contents, rest) e in
        let same = some_is (found.0 ∷ step.0.0, step.0.1) (content ∷ contents, rest) step.2 in
        let block = block-split 0 bytes found.0 found.1 is in
        let size : length bytes ≡ length (take 4 bytes) + (1 + (length found.0 + length found.1)) = ap length block.parts ∙ simp length-append (omega arith) in
        let first : length found.0 ≡ length content = ap (λ (p : List (List ℕ) × List ℕ). first_length p.0) same in
        let others = again found.1 (step.1 ∙ ap (λ (p : List (List ℕ) × List ℕ). Some (others_of p.0, p.1)) same) in
        omega (arith, size, first, others, block.word)

contents_of : {V : Type 0} → List (Block V) → List (List ℕ)
contents_of blocks = map (λ block. block.content) blocks

contents-are : {V : Type 0} (codec : Codec V) (before : Option Key) (contents : List (List ℕ)) (blocks : List (Block V)) → blocks_after codec before contents ≡ Some blocks → contents_of blocks ≡ contents
unfolding blocks_after contents_of
contents-are codec before [] blocks e = ap contents_of (sym (some_is [] blocks e))
contents-are codec before (content ∷ contents) blocks e =
    let first = bind_some (block_of codec (key_before codec before) content) (λ entries. provided (may_follow before entries) >>= (λ _. blocks_after codec (last_key entries) contents >>= (λ others. Some (record { content = content; entries = entries } ∷ others)))) blocks e in
    let second = bind_some (provided (may_follow before first.0)) (λ _. blocks_after codec (last_key first.0) contents >>= (λ others. Some (record { content = content; entries = first.0 } ∷ others))) blocks first.2 in
    let third = bind_some (blocks_after codec (last_key first.0) contents) (λ others. Some (record { content = content; entries = first.0 } ∷ others)) blocks second.2 in
    ap contents_of (sym (some_is _ blocks third.2)) ∙ ap (λ cs. content ∷ cs) (contents-are codec (last_key first.0) contents third.0 third.1)

one-longest : {V : Type 0} (blocks : List (Block V)) → length blocks ≤ 1 → total (contents_of blocks) ≤ longest blocks
unfolding total contents_of
one-longest [] one = omega arith
one-longest (block ∷ []) one = omega arith
one-longest (block ∷ next ∷ blocks) one = absurd (omega (arith, one))

-- a block and four zero bytes, or these alone
pub part-short : {V : Type 0} (codec : Codec V) (count : ℕ) (part : List ℕ) (blocks : List (Block V)) → blocks_under codec AtMostOneBlock count part ≡ Some blocks → length part ≤ longest blocks + 4
unfolding blocks_under blocks_of whole_run_of
part-short codec count part blocks e =
    let here = bind_some (blocks_of codec part) (λ blocks. provided (eqb count (length (entries_of blocks)) && indexes AtMostOneBlock blocks) >>= (λ _. Some blocks)) blocks e in
    let test = bind_some (provided (eqb count (length (entries_of here.0)) && indexes AtMostOneBlock here.0)) (λ _. Some here.0) blocks here.2 in
    let run = bind_some (whole_run_of (keeping_nothing codec) part) (λ run. provided (is_zeros 4 run.rest) >>= (λ _. Some run.blocks)) here.0 here.1 in
    let zeros = bind_some (provided (is_zeros 4 run.0.rest)) (λ _. Some run.0.blocks) here.0 run.2 in
    let contents = bind_some (pieces front_of_blocks part) (λ contents. blocks_after (keeping_nothing codec) None contents.0 >>= (λ blocks. Some (record { blocks = blocks; rest = contents.1 }))) run.0 run.1 in
    let found = bind_some (blocks_after (keeping_nothing codec) None contents.0.0) (λ blocks. Some (record { blocks = blocks; rest = contents.0.1 })) run.0 contents.2 in
    let whole : record { blocks = found.0; rest = contents.0.1 } ≡ run.0 = some_is _ run.0 found.2 in
    let same : found.0 ≡ blocks = ap (λ (r : Run _). r.blocks) whole ∙ some_is _ here.0 zeros.2 ∙ some_is _ blocks test.2 in
    let one = leb-true (length here.0) 1 (and_parts (eqb count (length (entries_of here.0))) (indexes AtMostOneBlock here.0) (provided-true _ _ test.1)).1 in
    let few : length blocks ≤ 1 = omega (arith, one, ap length (some_is here.0 blocks test.2)) in
    let four : length run.0.rest ≡ 4 = same-length run.0.rest (0 ∷ 0 ∷ 0 ∷ 0 ∷ []) (provided-true _ _ zeros.1) in
    let size : length part ≡ total contents.0.0 + length contents.0.1 = pieces-total contents.0.0 part contents.0.1 contents.1 in
    let all : contents.0.0 ≡ contents_of blocks = sym (contents-are (keeping_nothing codec) None contents.0.0 found.0 found.1) ∙ ap contents_of same in
    omega (arith, size, ap total all, one-longest blocks few, four, ap (λ (r : Run _). length r.rest) whole)
