-- Blocks whose first keys keep nothing are blocks for each codec.
use Rattle.std.proofs.Common.{◌≡◌, ℕ, List, [], ◌∷◌, ◌++◌, length, take, Option, Some, None, Bool, true, false, ◌&&◌, ◌||◌, refl, ap, sym, ◌∙◌, ⊎_elim, eqb}
use Rattle.std.proofs.lemmas.Bool.{eqb-true, or_cases, and_parts}
use Rattle.owned_bytes.specs.Front.{◌>>=◌, provided, pieces}
use Rattle.owned_bytes.specs.Keys.{Key, shared}
use Rattle.owned_bytes.proofs.Pieces.{bind_some, some_is}
use Rattle.sstable_values.specs.Codec.{Codec}
use Rattle.sstable_blocks.specs.Delta.{Delta}
use Rattle.sstable_blocks.specs.Block.{front_of_deltas, key_after}
unfoldable use Rattle.sstable_blocks.specs.Block.{keys_after, keys_of, paired, block_of}
use Rattle.sstable_blocks.specs.Run.{Block, Run, front_of_blocks, last_key, may_follow, key_before, entries_of}
unfoldable use Rattle.sstable_blocks.specs.Run.{blocks_after, whole_run_of, run_of}
use Rattle.sstable_format.specs.Index.{Index, Entries, is_zeros}
use Rattle.sstable_format.specs.Table.{keeping_nothing, indexes, entries_under}
unfoldable use Rattle.sstable_format.specs.Table.{points_to, places_from, blocks_of, blocks_under}
unfoldable use Rattle.sstable_format.specs.Entries.{value_at}

provided-true : (b : Bool) (x : Unit {0}) → provided b ≡ Some x → b ≡ true
provided-true true x e = refl
provided-true false x e = absurd cc

-- a first key that keeps nothing after no key keeps nothing after another one
keeps-zero : (keep : ℕ) (key : Key) → (eqb keep 0 || eqb keep (shared [] key)) ≡ true → keep ≡ 0
keeps-zero keep key e = ⊎_elim (λ a. eqb-true _ _ a) (λ b. eqb-true _ _ b) (or_cases _ _ e)

keys_of-keeping : (before : Key) (deltas : List Delta) (found : List Key) → keys_of [] deltas ≡ Some found → keys_of before deltas ≡ Some found
unfolding keys_of
keys_of-keeping before [] found e = absurd cc
keys_of-keeping before (delta ∷ deltas) found e =
    let first = bind_some (provided (eqb delta.keep 0 || eqb delta.keep (shared [] (key_after [] delta)))) (λ _. keys_after (key_after [] delta) deltas >>= (λ others. Some (key_after [] delta ∷ others))) found e in
    let zero : delta.keep ≡ 0 = keeps-zero delta.keep (key_after [] delta) (provided-true _ _ first.1) in
    let none : key_after [] delta ≡ key_after before delta = ap (λ n. take n [] ++ delta.suffix) zero ∙ sym (ap (λ n. take n before ++ delta.suffix) zero) in
    ap (λ t. provided (t || eqb delta.keep (shared before (key_after before delta))) >>= (λ _. keys_after (key_after before delta) deltas >>= (λ others. Some (key_after before delta ∷ others)))) (ap (λ n. eqb n 0) zero)
    ∙ ap (λ k. keys_after k deltas >>= (λ others. Some (k ∷ others))) (sym none) ∙ first.2

pub block_of-keeping : {V : Type 0} (codec : Codec V) (before : Key) (content : List ℕ) (entries : List (Key × V)) → block_of (keeping_nothing codec) [] content ≡ Some entries → block_of codec before content ≡ Some entries
unfolding block_of
block_of-keeping codec before content entries e =
    let values = bind_some (codec.values_of content) (λ values. pieces front_of_deltas values.1 >>= (λ deltas. keys_of [] deltas.0 >>= (λ ks. paired ks values.0))) entries e in
    let deltas = bind_some (pieces front_of_deltas values.0.1) (λ deltas. keys_of [] deltas.0 >>= (λ ks. paired ks values.0.0)) entries values.2 in
    let ks = bind_some (keys_of [] deltas.0.0) (λ ks. paired ks values.0.0) entries deltas.2 in
    ap (λ o. o >>= (λ values. pieces front_of_deltas values.1 >>= (λ deltas. keys_of before deltas.0 >>= (λ ks. paired ks values.0)))) values.1
    ∙ ap (λ o. o >>= (λ deltas. keys_of before deltas.0 >>= (λ ks. paired ks values.0.0))) deltas.1
    ∙ ap (λ o. o >>= (λ ks. paired ks values.0.0)) (keys_of-keeping before deltas.0.0 ks.0 ks.1) ∙ ks.2

blocks_after-keeping : {V : Type 0} (codec : Codec V) (before : Option Key) (contents : List (List ℕ)) (blocks : List (Block V)) → blocks_after (keeping_nothing codec) before contents ≡ Some blocks → blocks_after codec before contents ≡ Some blocks
unfolding blocks_after
blocks_after-keeping codec before [] blocks e = e
blocks_after-keeping codec before (content ∷ contents) blocks e =
    let first = bind_some (block_of (keeping_nothing codec) [] content) (λ entries. provided (may_follow before entries) >>= (λ _. blocks_after (keeping_nothing codec) (last_key entries) contents >>= (λ others. Some (record { content = content; entries = entries } ∷ others)))) blocks e in
    let second = bind_some (provided (may_follow before first.0)) (λ _. blocks_after (keeping_nothing codec) (last_key first.0) contents >>= (λ others. Some (record { content = content; entries = first.0 } ∷ others))) blocks first.2 in
    let third = bind_some (blocks_after (keeping_nothing codec) (last_key first.0) contents) (λ others. Some (record { content = content; entries = first.0 } ∷ others)) blocks second.2 in
    ap (λ o. o >>= (λ entries. provided (may_follow before entries) >>= (λ _. blocks_after codec (last_key entries) contents >>= (λ others. Some (record { content = content; entries = entries } ∷ others))))) (block_of-keeping codec (key_before codec before) content first.0 first.1)
    ∙ ap (λ t. provided t >>= (λ _. blocks_after codec (last_key first.0) contents >>= (λ others. Some (record { content = content; entries = first.0 } ∷ others)))) (provided-true _ _ second.1)
    ∙ ap (λ o. o >>= (λ others. Some (record { content = content; entries = first.0 } ∷ others))) (blocks_after-keeping codec (last_key first.0) contents third.0 third.1)
    ∙ third.2

-- the entries of a table's blocks are those of a run
pub run_of-table : {V : Type 0} (codec : Codec V) (index : Index) (count : ℕ) (part : List ℕ) (entries : List (Key × V)) → entries_under codec index count part ≡ Some entries → run_of codec part ≡ Some entries
unfolding blocks_under blocks_of whole_run_of run_of
run_of-table codec index count part entries e =
    let under = bind_some (blocks_under codec index count part) (λ blocks. Some (entries_of blocks)) entries e in
    let here = bind_some (blocks_of codec part) (λ blocks. provided (eqb count (length (entries_of blocks)) && indexes index blocks) >>= (λ _. Some blocks)) under.0 under.1 in
    let test = bind_some (provided (eqb count (length (entries_of here.0)) && indexes index here.0)) (λ _. Some here.0) under.0 here.2 in
    let run = bind_some (whole_run_of (keeping_nothing codec) part) (λ run. provided (is_zeros 4 run.rest) >>= (λ _. Some run.blocks)) here.0 here.1 in
    let zeros = bind_some (provided (is_zeros 4 run.0.rest)) (λ _. Some run.0.blocks) here.0 run.2 in
    let contents = bind_some (pieces front_of_blocks part) (λ contents. blocks_after (keeping_nothing codec) None contents.0 >>= (λ blocks. Some (record { blocks = blocks; rest = contents.1 }))) run.0 run.1 in
    let blocks = bind_some (blocks_after (keeping_nothing codec) None contents.0.0) (λ blocks. Some (record { blocks = blocks; rest = contents.0.1 })) run.0 contents.2 in
    let same : blocks.0 ≡ under.0 = ap (λ (r : Run _). r.blocks) (some_is _ run.0 blocks.2) ∙ some_is _ here.0 zeros.2 ∙ some_is _ under.0 test.2 in
    ap (λ o. (o >>= (λ (contents : List (List ℕ) × List ℕ). blocks_after codec None contents.0 >>= (λ blocks. Some (record { blocks = blocks; rest = contents.1 })))) >>= (λ (run : Run _). Some (entries_of run.blocks))) contents.1
    ∙ ap (λ o. (o >>= (λ blocks. Some (record { blocks = blocks; rest = contents.0.1 }))) >>= (λ (run : Run _). Some (entries_of run.blocks))) (blocks_after-keeping codec None contents.0.0 blocks.0 blocks.1)
    ∙ ap (λ (bs : List (Block _)). Some (entries_of bs)) same ∙ under.2

points_to-none : {V : Type 0} (blocks : List (Block V)) → points_to [] blocks (places_from 0 0 blocks) ≡ true → blocks ≡ []
unfolding points_to places_from
points_to-none [] e = refl
points_to-none (block ∷ blocks) e = absurd cc

-- a table without index entries has none
pub entries-none : {V : Type 0} (codec : Codec V) (count : ℕ) (part : List ℕ) (entries : List (Key × V)) → entries_under codec (Entries []) count part ≡ Some entries → entries ≡ []
unfolding blocks_under
entries-none codec count part entries e =
    let under = bind_some (blocks_under codec (Entries []) count part) (λ blocks. Some (entries_of blocks)) entries e in
    let here = bind_some (blocks_of codec part) (λ blocks. provided (eqb count (length (entries_of blocks)) && indexes (Entries []) blocks) >>= (λ _. Some blocks)) under.0 under.1 in
    let test = bind_some (provided (eqb count (length (entries_of here.0)) && indexes (Entries []) here.0)) (λ _. Some here.0) under.0 here.2 in
    let parts = and_parts (eqb count (length (entries_of here.0))) (indexes (Entries []) here.0) (provided-true _ _ test.1) in
    sym (some_is _ entries under.2) ∙ ap entries_of (sym (some_is _ under.0 test.2) ∙ points_to-none here.0 parts.1)
