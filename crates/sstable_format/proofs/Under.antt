-- What is known of the blocks of a table, under its index.
use Rattle.std.proofs.Common.{◌≡◌, ℕ, List, length, true, ◌&&◌, Option, Some, None, ap, sym, ◌∙◌, subst, arith, eqb}
use Rattle.std.proofs.lemmas.Bool.{and_parts, eqb-true}
use Rattle.owned_bytes.specs.Front.{◌>>=◌, provided, pieces}
use Rattle.owned_bytes.specs.Keys.{is_rising}
use Rattle.owned_bytes.proofs.Pieces.{bind_some, some_is, provided-true}
use Rattle.sstable_values.specs.Codec.{Codec}
use Rattle.sstable_blocks.specs.Run.{Block, Run, front_of_blocks, entries_of}
unfoldable use Rattle.sstable_blocks.specs.Run.{blocks_after, whole_run_of, run_of}
use Rattle.sstable_format.specs.Index.{Index, is_zeros}
use Rattle.sstable_format.specs.Table.{keeping_nothing, indexes}
unfoldable use Rattle.sstable_format.specs.Table.{blocks_of, blocks_under}
use Rattle.sstable_format.proofs.BlocksAlone.{AllStand, all-stand}
use Rattle.sstable_format.proofs.Keeping.{run_of-table}
use Rattle.sstable_format.proofs.RisingRuns.{run_of-rising}
use Rattle.sstable_format.proofs.Locating.{keys}

-- The blocks stand one behind the other, the index is theirs, and their keys rise.
pub record IsUnder {V : Type 0} (codec : Codec V) (index : Index) (count : ℕ) (part : List ℕ) (blocks : List (Block V)) : Type 0 where
  pub stand : AllStand codec part 0 blocks
  pub indexed : indexes index blocks ≡ true
  pub counted : count ≡ length (entries_of blocks)
  pub rising : is_rising (keys (entries_of blocks)) ≡ true
  pub run : run_of codec part ≡ Some (entries_of blocks)

pub is-under : {V : Type 0} (codec : Codec V) (index : Index) (count : ℕ) (part : List ℕ) (blocks : List (Block V)) → blocks_under codec index count part ≡ Some blocks → IsUnder codec index count part blocks
unfolding blocks_under blocks_of whole_run_of
is-under {V} codec index count part blocks e =
    let here = bind_some (blocks_of codec part) (λ blocks. provided (eqb count (length (entries_of blocks)) && indexes index blocks) >>= (λ _. Some blocks)) blocks e in
    let test = bind_some (provided (eqb count (length (entries_of here.0)) && indexes index here.0)) (λ _. Some here.0) blocks here.2 in
    let run = bind_some (whole_run_of (keeping_nothing codec) part) (λ run. provided (is_zeros 4 run.rest) >>= (λ _. Some run.blocks)) here.0 here.1 in
    let zeros = bind_some (provided (is_zeros 4 run.0.rest)) (λ _. Some run.0.blocks) here.0 run.2 in
    let contents = bind_some (pieces front_of_blocks part) (λ contents. blocks_after (keeping_nothing codec) None contents.0 >>= (λ blocks. Some (record { blocks = blocks; rest = contents.1 }))) run.0 run.1 in
    let found = bind_some (blocks_after (keeping_nothing codec) None contents.0.0) (λ blocks. Some (record { blocks = blocks; rest = contents.0.1 })) run.0 contents.2 in
    let first : here.0 ≡ blocks = some_is _ blocks test.2 in
    let same : found.0 ≡ blocks = ap (λ (r : Run _). r.blocks) (some_is _ run.0 found.2) ∙ some_is _ here.0 zeros.2 ∙ first in
    let tests = and_parts (eqb count (length (entries_of here.0))) (indexes index here.0) (provided-true _ _ test.1) in
    let all : run_of codec part ≡ Some (entries_of blocks) = run_of-table codec index count part (entries_of blocks) (ap (λ (o : Option (List (Block V))). o >>= (λ blocks. Some (entries_of blocks))) e) in
    record {
      stand = subst (AllStand codec part 0) same (all-stand codec part 0 None contents.0.0 contents.0.1 found.0 (omega arith) contents.1 found.1);
      indexed = ap (indexes index) (sym first) ∙ tests.1;
      counted = eqb-true _ _ tests.0 ∙ ap (λ (bs : List (Block V)). length (entries_of bs)) first;
      rising = run_of-rising codec part (entries_of blocks) all;
      run = all;
    }
