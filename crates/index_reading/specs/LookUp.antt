-- What a look-up of a key in an opened index answers.
use Rattle.std.specs.Prelude.{◌≡◌, ◌⊎◌, ℕ, ◌+◌, ◌-◌, ◌*◌, ◌≤◌, List, [], length, ⊤, true, Option, Some, None, unwrap_or, Result, Ok, Err}
use Rattle.owned_bytes.specs.Keys.{Key}
use Rattle.owned_bytes.specs.Outside.{FileState, ReadsFile}
use Rattle.std.specs.declared.ops.Range.{Range}
use Rattle.sstable_values.specs.Codec.{range}
use Rattle.sstable_blocks.specs.Run.{Block}
use Rattle.tantivy_bitpacker.specs.Packed.{bytes_for}
use Rattle.sstable_format.specs.Table.{longest}
use Rattle.tantivy_sstable.specs.Opened.{blocks_told}
use Rattle.sstable_format.specs.Entries.{value_at}
use Rattle.sstable_format.specs.Refused.{is_compressed_at}
use Rattle.documents.specs.Postings.{Postings}
use Rattle.index_file.specs.Header.{width_of, packed_length, numbers_in}
use Rattle.index_reading.specs.Opened.{header_of, postings_told}
use Rattle.index_reading.specs.Numbers.{GivesPart}
use Rattle.index_reading.specs.declared.open.OpenIndex.{OpenIndex}
use Rattle.index_reading.specs.declared.errors.IndexError.{IndexError}
use Rattle.index_reading.specs.declared.errors.IndexError.TheVariants.{Memory, Read, Corrupt, Compressed, Version}

-- what a look-up of the key answers, where these are the keys with their numbers
abbrev pub LooksUp : List (Key × List ℕ) → Key → Result (Option (List ℕ)) IndexError → Type 0
LooksUp entries key (Ok found) = found ≡ value_at key entries
LooksUp entries key (Err error) = (error ≡ Memory) ⊎ (error ≡ Read)

-- the same, where they are told
abbrev pub LooksUpTold : Option Postings → Key → Result (Option (List ℕ)) IndexError → Type 0
LooksUpTold None key result = ⊤
LooksUpTold (Some postings) key result = LooksUp postings.entries key result

-- why a look-up fails
abbrev pub IsLookUpError : IndexError → Type 0
IsLookUpError Memory = Unit {0}
IsLookUpError Read = Unit {0}
IsLookUpError Corrupt = Unit {0}
IsLookUpError (Compressed place) = Unit {0}
IsLookUpError (Version version) = ⊥

-- a refusal of a compressed block names the place of one, where the contents are told
abbrev pub NamesCompressed : Option (List ℕ) → IndexError → Type 0
NamesCompressed None error = ⊤
NamesCompressed (Some file) (Compressed place) = is_compressed_at place file ≡ true
NamesCompressed (Some file) _ = ⊤

-- there are such places among so many numbers, and no more of them than documents
pub record ArePlaces (start end count documents : ℕ) : Type 0 where
  pub ordered : start ≤ end
  pub within : end ≤ count
  pub few : end - start ≤ documents

-- what the numbers from one place to another answer, of those that the file has
abbrev pub GivesPlaces : OpenIndex → ℕ → ℕ → Result (List ℕ) IndexError → List ℕ → Type 0
GivesPlaces index start end result file = GivesPart index.documents (numbers_in (header_of index file)) start end result

-- why they fail
abbrev pub IsPartError : IndexError → Type 0
IsPartError Memory = Unit {0}
IsPartError Read = Unit {0}
IsPartError Corrupt = Unit {0}
IsPartError _ = ⊥

-- the bytes of the dictionary's blocks
abbrev pub blocks_length : OpenIndex → ℕ
blocks_length index = index.dictionary.blocks_range.end - index.dictionary.blocks_range.start

-- the bytes that so many numbers are packed in, and 28 for those before them in a group of eight
abbrev pub places_length : OpenIndex → ℕ → ℕ
places_length index count = 28 + bytes_for (count * width_of index.documents)

-- the same of the numbers of the key
abbrev pub numbers_length : OpenIndex → Postings → Key → ℕ
numbers_length index postings key = places_length index (length (unwrap_or (value_at key postings.entries) []))

-- so many numbers were read, in at most one read within the packed numbers
pub record ReadsNumbers (index : OpenIndex) (count : ℕ) (before now : FileState) (failure : Type 0) : Type 0 where
  pub reads : ReadsFile before now failure 1 (packed_length index.documents index.count)
  pub numbers : now.fetched ≤ before.fetched + places_length index count

-- No more bytes were fetched than those of the blocks and of all packed numbers; or where the blocks and the postings are
-- told, than those of the longest block, the four zero bytes behind the blocks, and those of the numbers of the key.
abbrev pub FetchesParts : OpenIndex → Option (List (Block (Range ℕ))) → Option Postings → Key → FileState → FileState → Type 0
FetchesParts index (Some blocks) (Some postings) key before now =
    now.fetched ≤ before.fetched + (longest blocks + 4 + numbers_length index postings key)
FetchesParts index _ _ key before now =
    now.fetched ≤ before.fetched + (blocks_length index + packed_length index.documents index.count)

-- the same by the contents, where they are told
abbrev pub FetchesNumbers : OpenIndex → Key → FileState → FileState → Type 0
FetchesNumbers index key before now =
    FetchesParts index (blocks_told range index.dictionary before.contents) (postings_told index before.contents) key before now
