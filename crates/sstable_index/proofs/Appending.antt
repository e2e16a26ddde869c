-- What was appended of an index part.
use Rattle.std.proofs.Common.{◌≡◌, ℕ, ◌^◌, ◌<◌, ◌≤◌, List, [], ◌∷◌, length, Option, Some, true, refl, ap, sym, subst, inl, inr, Err, arith}
use Rattle.std.specs.Io.KnownBytes.{Appends}
use Rattle.owned_bytes.specs.Outside.{AppendsPrefix}
unfoldable use Rattle.owned_bytes.specs.Keys.{is_rising}
use Rattle.sstable_blocks.specs.Writing.{keys_in}
use Rattle.sstable_format.specs.Store.{store_of}
use Rattle.sstable_format.specs.Index.{IndexEntry, one_block_part}
use Rattle.sstable_format.proofs.IndexParts.{index_v3-zero}
use Rattle.block_addresses.specs.Written.{store_bytes}
use Rattle.sstable_index.specs.declared.write_errors.SstWriteError.{SstWriteError}
use Rattle.sstable_index.specs.Building.{AppendsIndex, StopsIndex, Serializes, FromSink, map_bytes, map_and_store, blocks_at, addresses_in, are_rising}
use Rattle.sstable_index.proofs.PartLaws.{part-again}

-- at most one block
pub appends-one : (entries : List IndexEntry) (old new : Option (List ℕ)) → length entries ≤ 1 → Appends old new one_block_part → AppendsIndex entries old new 0
unfolding is_rising
appends-one [] old new few all = record { appended = all; read = index_v3-zero one_block_part (omega arith, refl); map_length = refl; rising = refl }
appends-one (entry ∷ []) old new few all = record { appended = all; read = index_v3-zero one_block_part (omega arith, refl); map_length = refl; rising = refl }
appends-one (entry ∷ next ∷ entries) old new few all = absurd (omega (arith, few))

stops-one : (entries : List IndexEntry) (old new : Option (List ℕ)) → length entries ≤ 1 → AppendsPrefix old new one_block_part → StopsIndex entries old new
unfolding is_rising
stops-one [] old new few front = record { front = front; rising = refl }
stops-one (entry ∷ []) old new few front = record { front = front; rising = refl }
stops-one (entry ∷ next ∷ entries) old new few front = absurd (omega (arith, few))

stops : (entries : List IndexEntry) (old new : Option (List ℕ)) (e : SstWriteError) → FromSink e → StopsIndex entries old new → Serializes entries old new (Err e)
stops entries old new e (inl is) stopped = subst (λ error. Serializes entries old new (Err error)) (sym is) stopped
stops entries old new e (inr is) stopped = subst (λ error. Serializes entries old new (Err error)) (sym is) stopped

pub stops-at_one : (entries : List IndexEntry) (old new : Option (List ℕ)) (e : SstWriteError) → length entries ≤ 1 → FromSink e → AppendsPrefix old new one_block_part → Serializes entries old new (Err e)
stops-at_one entries old new e few from front = stops entries old new e from (stops-one entries old new few front)

-- several blocks
pub appends-several : (entries : List IndexEntry) (old new : Option (List ℕ)) (bytes : List ℕ) (len : ℕ) → 1 < length entries → are_rising entries ≡ true → bytes ≡ map_and_store entries → length bytes < 2 ^ 64
    → len ≡ length (map_bytes (keys_in entries)) → store_of (store_bytes (blocks_at (addresses_in entries))) ≡ Some (addresses_in entries) → Appends old new bytes → AppendsIndex entries old new len
appends-several [] old new bytes len some rising is short size stored all = absurd (omega (arith, some))
appends-several (entry ∷ []) old new bytes len some rising is short size stored all = absurd (omega (arith, some))
appends-several (entry ∷ next ∷ entries) old new bytes len some rising is short size stored all = record {
  appended = subst (λ bs. Appends old new bs) is all;
  read = part-again (entry ∷ next ∷ entries) rising (omega (arith, short, ap length is)) stored;
  map_length = size;
  rising = rising;
}

stops-several : (entries : List IndexEntry) (old new : Option (List ℕ)) (bytes : List ℕ) → 1 < length entries → are_rising entries ≡ true → bytes ≡ map_and_store entries → AppendsPrefix old new bytes → StopsIndex entries old new
stops-several [] old new bytes some rising is front = absurd (omega (arith, some))
stops-several (entry ∷ []) old new bytes some rising is front = absurd (omega (arith, some))
stops-several (entry ∷ next ∷ entries) old new bytes some rising is front = record { front = subst (λ bs. AppendsPrefix old new bs) is front; rising = rising }

pub stops-at_several : (entries : List IndexEntry) (old new : Option (List ℕ)) (bytes : List ℕ) (e : SstWriteError) → 1 < length entries → are_rising entries ≡ true → bytes ≡ map_and_store entries
    → FromSink e → AppendsPrefix old new bytes → Serializes entries old new (Err e)
stops-at_several entries old new bytes e some rising is from front = stops entries old new e from (stops-several entries old new bytes some rising is front)
