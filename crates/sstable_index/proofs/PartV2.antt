-- An index part of version 2 that was written is read again.
use Rattle.std.proofs.Common.{◌≡◌, ℕ, List, [], ◌++◌, Option, Some, None, true, Err, refl, ap, sym, subst, ◌∙◌, inl, inr, append-nil}
use Rattle.std.specs.Prelude.{replicate, ◌||◌, Result, Ok, IfErr}
use Rattle.owned_bytes.specs.Front.{◌>>=◌, provided, pieces, continued, End}
use Rattle.owned_bytes.specs.Outside.{AppendsPrefix, WritesAll}
use Rattle.owned_bytes.proofs.Pieces.{bind_some, some_is, pieces-step, pieces-extended, with_front}
use Rattle.sstable_values.specs.Codec.{Address, index}
unfoldable use Rattle.sstable_blocks.specs.Content.{block_at}
use Rattle.sstable_blocks.specs.Run.{Block, Run, front_of_blocks, blocks_after, entries_of}
unfoldable use Rattle.sstable_blocks.specs.Run.{whole_run_of}
use Rattle.sstable_blocks.proofs.RunLaws.{blocks-shrink, blocks-extend}
use Rattle.sstable_format.specs.Index.{IndexEntry, Entries, is_zeros}
unfoldable use Rattle.sstable_format.specs.Index.{index_v2_of}
use Rattle.sstable_index.specs.declared.write_errors.SstWriteError.{SstWriteError}
use Rattle.sstable_index.specs.Building.{are_rising, FromSink}
use Rattle.sstable_index.specs.BuildingV2.{IsRunOf, TellsEntries, SerializesV2}

abbrev zeros : List ℕ
zeros = replicate 4 0

front-zeros : front_of_blocks zeros ≡ End
unfolding block_at
front-zeros = refl

end-zeros : pieces front_of_blocks zeros ≡ Some ([], zeros)
end-zeros = pieces-step front_of_blocks blocks-shrink zeros ∙ ap (continued (pieces front_of_blocks) zeros) front-zeros

run-before_zeros : (bytes : List ℕ) (blocks : List (Block Address)) → whole_run_of index bytes ≡ Some (record { blocks = blocks; rest = [] }) → whole_run_of index (bytes ++ zeros) ≡ Some (record { blocks = blocks; rest = zeros })
unfolding whole_run_of
run-before_zeros bytes blocks run =
    let cut = bind_some (pieces front_of_blocks bytes) (λ contents. blocks_after index None contents.0 >>= (λ bs. Some (record { blocks = bs; rest = contents.1 }))) (record { blocks = blocks; rest = [] }) run in
    let read = bind_some (blocks_after index None cut.0.0) (λ bs. Some (record { blocks = bs; rest = cut.0.1 })) (record { blocks = blocks; rest = [] }) cut.2 in
    let same : record { blocks = read.0; rest = cut.0.1 } ≡ record { blocks = blocks; rest = [] } = some_is _ _ read.2 in
    let same_blocks : read.0 ≡ blocks = ap (λ (r : Run Address). r.blocks) same in
    let ends : cut.0.1 ≡ [] = ap (λ (r : Run Address). r.rest) same in
    let whole : pieces front_of_blocks bytes ≡ Some (cut.0.0, []) = cut.1 ∙ ap (λ rest. Some (cut.0.0, rest)) ends in
    let more : pieces front_of_blocks (bytes ++ zeros) ≡ Some (cut.0.0, zeros) =
    pieces-extended front_of_blocks blocks-shrink blocks-extend bytes zeros cut.0.0 whole ∙ ap (with_front cut.0.0) end-zeros ∙ ap (λ cs. Some (cs, zeros)) (append-nil cut.0.0) in
    ap (λ o. o >>= (λ (contents : List (List ℕ) × List ℕ). blocks_after index None contents.0 >>= (λ bs. Some (record { blocks = bs; rest = contents.1 })))) more
    ∙ ap (λ o. o >>= (λ bs. Some (record { blocks = bs; rest = zeros }))) (read.1 ∙ ap Some same_blocks)

zeros-end : (is_zeros 0 zeros || is_zeros 4 zeros) ≡ true
zeros-end = refl

pub tells : (entries : List IndexEntry) (bytes part : List ℕ) → are_rising entries ≡ true → IsRunOf entries bytes → part ≡ bytes ++ zeros → TellsEntries entries part
unfolding index_v2_of
tells entries bytes part rising (blocks, run, same) is = record {
  blocks = bytes;
  ended = is;
  read = ap index_v2_of is ∙ ap (λ o. o >>= (λ (run : Run Address). provided (is_zeros 0 run.rest || is_zeros 4 run.rest) >>= (λ _. Some (Entries (entries_of run.blocks))))) (run-before_zeros bytes blocks run)
      ∙ ap (λ t. provided t >>= (λ _. Some (Entries (entries_of blocks)))) zeros-end ∙ ap (λ es. Some (Entries es)) same;
  rising = rising;
}

stops-v2 : (entries : List IndexEntry) (old new : Option (List ℕ)) (part : List ℕ) (e : SstWriteError) → TellsEntries entries part → FromSink e → AppendsPrefix old new part → SerializesV2 entries old new (Err e)
stops-v2 entries old new part e told (inl is) front = subst (λ error. SerializesV2 entries old new (Err error)) (sym is) (inr (part, told, front))
stops-v2 entries old new part e told (inr is) front = subst (λ error. SerializesV2 entries old new (Err error)) (sym is) (part, told, front)

pub serialized : (entries : List IndexEntry) (old new : Option (List ℕ)) (part : List ℕ) (r : Result (Unit {0}) SstWriteError) → TellsEntries entries part → WritesAll old new r part → IfErr r (λ e. FromSink e) → SerializesV2 entries old new r
serialized entries old new part (Ok x) told all from = (part, told, all)
serialized entries old new part (Err e) told front from = stops-v2 entries old new part e told from front
