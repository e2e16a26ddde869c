-- Laws of writers of tables of ranges.
use Rattle.std.specs.Prelude.{◌≡◌, ℕ, ◌+◌, ◌*◌, ◌^◌, ◌<◌, ◌≤◌, List, [], ◌∷◌, ◌++◌, length, map, true, Some, None, ◌==◌}
use Rattle.std.specs.declared.ops.Range.{Range}
use Rattle.owned_bytes.specs.Keys.{Key}
use Rattle.sstable_values.specs.Codec.{range}
use Rattle.sstable_values.specs.Range.{ends_at}
use Rattle.sstable_blocks.specs.Run.{last_key}
use Rattle.sstable_tables.specs.Making.{Making, IsTooLong, gathered_values, greatest_len}

-- These entries were inserted into a new writer, and all of them are in its open block, which no insertion closes.
pub record HasGathered {W V : Type 0} (w : Making W V) (sink : W) (entries : List (Key × V)) : Type 0 where
  pub closed : w.closed ≡ Some []
  pub gathered : w.gathered ≡ entries
  pub last : w.last ≡ last_key entries
  pub count : w.count ≡ length entries
  pub block_len : w.block_len ≡ greatest_len
  pub ready : w.refusal ≡ None
  pub same_sink : w.sink ≡ sink

-- how many bytes the keys have in all
abbrev pub keys_size : {V : Type 0} → List (Key × V) → ℕ
keys_size [] = 0
keys_size (entry ∷ entries) = length entry.0 + keys_size entries

-- Beside its key each entry takes at most 31 bytes of its block, and the block 21: where the sum of these is below 2^32,
-- the block isn't too long.
abbrev pub ShortRangesFit : Type 0 → Type 0
ShortRangesFit W =
    (w : Making W (Range ℕ)) (sink : W) (entries : List (Key × Range ℕ)) → HasGathered w sink entries
    → keys_size entries + 31 * length entries + 21 < 2 ^ 32 → IsTooLong range w → ⊥

-- the values of entries
abbrev pub values_in : {V : Type 0} → List (Key × V) → List V
values_in entries = map (λ entry. entry.1) entries

-- a range that starts where the last one ends, or as it likes where none is, may come next
abbrev pub AdjoiningRangesAreTaken : Type 0 → Type 0
AdjoiningRangesAreTaken W =
    (w : Making W (Range ℕ)) (sink : W) (entries : List (Key × Range ℕ)) (next : Range ℕ) → HasGathered w sink entries
    → next.start ≤ next.end → ends_at (values_in entries) next.start ≡ true → range.accepts (gathered_values range w) next ≡ true

-- after a further range the last one is that
abbrev pub LastRangeEnds : Type 0
LastRangeEnds =
    (entries : List (Key × Range ℕ)) (key : Key) (last : Range ℕ) (place : ℕ)
    → ends_at (values_in (entries ++ (key, last) ∷ [])) place ≡ (last.end == place)
