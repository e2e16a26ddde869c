-- Worked values. A reader of contracts may skip this file.
use Rattle.std.specs.Prelude.{◌≡◌, ℕ, List, [], ◌∷◌, Some, None, codes, refl}
use Rattle.sstable_values.specs.Hex.{hex}
use Rattle.sstable_values.specs.Codec.{monotonic_u64, range}
use Rattle.sstable_format.specs.Table.{sst_of}
use Rattle.sstable_format.specs.Index.{IndexEntry, Entries, index_of_version}
use Rattle.sstable_format.specs.Computes.{computes}
use Rattle.sstable_format.specs.Store.{store_of}

-- two blocks of one key each
abbrev pub two_blocks : List ℕ
two_blocks = hex (codes "05000000 00 0100 1061 05000000 00 0101 1062 00000000 0200000000000000 0100000000000000 0000000000000000 0200000000000000 0100000000000000 6162 2400000000000000 0000000000000000 0000000000000000 0000000000000000 09000000 01000000 01010100 07 2a00000000000000 1600000000000000 0200000000000000 03000000")

pub two_blocks-sst : sst_of monotonic_u64 two_blocks ≡ Some ((97 ∷ [], 0) ∷ (98 ∷ [], 1) ∷ [])
unfolding computes
two_blocks-sst = refl

pub store-read : store_of (hex (codes "2400000000000000 0000000000000000 0a00000000000000 0000000000000000 0a000000 05000000 01010300 7f")) ≡ Some (
    record { start = 10; end = 20; first_ordinal = 0 } ∷ record { start = 20; end = 30; first_ordinal = 5 }
    ∷ record { start = 30; end = 40; first_ordinal = 10 } ∷ record { start = 40; end = 50; first_ordinal = 15 } ∷ [])
unfolding computes
store-read = refl

-- an index of version 2, in one block and in two
abbrev pub three_entries : List IndexEntry
three_entries = (0 ∷ 1 ∷ 2 ∷ [], record { start = 0; end = 10; first_ordinal = 0 }) ∷ (0 ∷ 2 ∷ 2 ∷ [], record { start = 10; end = 20; first_ordinal = 5 })
    ∷ (0 ∷ 3 ∷ 2 ∷ [], record { start = 20; end = 30; first_ordinal = 10 }) ∷ []

pub index_v2-read : index_of_version 2 (hex (codes "13000000 00 03000a000a050a05 30000102 210202 210302 00000000")) ≡ Some (Entries three_entries)
unfolding computes
index_v2-read = refl

pub index_goes_on-read : index_of_version 2 (hex (codes "09000000 00 01000a00 30000102 0d000000 00 020a0a050a05 210202 210302 00000000")) ≡ Some (Entries three_entries)
unfolding computes
index_goes_on-read = refl

-- the table part of the index file of three small documents
abbrev pub small : List ℕ
small = hex (codes "0b000000 00 03000202 306600611262 00000000 0000000000000000 1300000000000000 0200000000000000 03000000")

pub small-sst : sst_of range small ≡ Some ((102 ∷ 0 ∷ 97 ∷ [], record { start = 0; end = 2 }) ∷ (102 ∷ 0 ∷ 98 ∷ [], record { start = 2; end = 4 }) ∷ [])
unfolding computes
small-sst = refl

pub compressed-none : sst_of range (hex (codes "0b000000 01 03000202 306600611262 00000000 0000000000000000 1300000000000000 0200000000000000 03000000")) ≡ None
unfolding computes
compressed-none = refl

pub version_four-none : sst_of range (hex (codes "0b000000 00 03000202 306600611262 00000000 0000000000000000 1300000000000000 0200000000000000 04000000")) ≡ None
unfolding computes
version_four-none = refl

pub empty_v3-sst : sst_of range (hex (codes "00000000 0000000000000000 0400000000000000 0000000000000000 03000000")) ≡ Some []
unfolding computes
empty_v3-sst = refl

pub empty_v2-sst : sst_of range (hex (codes "00000000 0400000000000000 0000000000000000 02000000")) ≡ Some []
unfolding computes
empty_v2-sst = refl

-- bytes before a store offset of 0
pub with_bytes_before-sst : sst_of range (hex (codes "00000000 0102 0000000000000000 0400000000000000 0000000000000000 03000000")) ≡ Some []
unfolding computes
with_bytes_before-sst = refl
