-- Worked blocks.
use Rattle.std.specs.Prelude.{◌≡◌, ℕ, List, [], ◌∷◌, Some, None, codes, replicate, refl}
use Rattle.sstable_values.specs.Hex.{hex}
use Rattle.sstable_values.specs.Codec.{void, range, index, monotonic_u64}
use Rattle.sstable_blocks.specs.Run.{run_of}
use Rattle.sstable_blocks.specs.Computes.{computes}

-- the values of the reading's fields, so that a row can be written as numbers
abbrev pub row_index : List ℕ
row_index = hex (codes "13000000 00 03000a000a050a05 30000102 210202 210302 00000000")

pub index-read : run_of index row_index ≡ Some (
    (0 ∷ 1 ∷ 2 ∷ [], record { start = 0; end = 10; first_ordinal = 0 })
    ∷ (0 ∷ 2 ∷ 2 ∷ [], record { start = 10; end = 20; first_ordinal = 5 })
    ∷ (0 ∷ 3 ∷ 2 ∷ [], record { start = 20; end = 30; first_ordinal = 10 }) ∷ [])
unfolding computes
index-read = refl

-- a table of two blocks, of one key each
pub two_blocks-read : run_of monotonic_u64 (hex (codes "05000000 00 0100 1061 05000000 00 0101 1062 00000000")) ≡ Some ((97 ∷ [], 0) ∷ (98 ∷ [], 1) ∷ [])
unfolding computes
two_blocks-read = refl

-- the first key of a later block goes on from the last key of the block before
pub goes_on-read : run_of index (hex (codes "09000000 00 01000a00 30000102 0d000000 00 020a0a050a05 210202 210302 00000000")) ≡ run_of index row_index
unfolding computes
goes_on-read = refl

-- a first key that keeps less than it shares with the last key of the block before, and more than nothing
pub keeps_less-none : run_of index (hex (codes "09000000 00 01000a00 30000102 09000000 00 010a0a05 20010202 00000000")) ≡ None
unfolding computes
keeps_less-none = refl

-- a cut block, a compress byte, a block with no key
pub cut-none : run_of void (hex (codes "050000")) ≡ None
unfolding computes
cut-none = refl

pub compressed-none : run_of void (hex (codes "03000000 01 1061")) ≡ None
unfolding computes
compressed-none = refl

pub no_key-none : run_of range (hex (codes "02000000 00 00 00000000")) ≡ None
unfolding computes
no_key-none = refl

pub empty-read : run_of range [] ≡ Some []
unfolding computes
empty-read = refl

-- two bytes at once, and twenty bytes after the byte 1
pub long-read : run_of void (hex (codes "18000000 00 01 00 14 6161616161616161616161616161616161616161 00000000")) ≡ Some ((replicate 20 97, tt) ∷ [])
unfolding computes
long-read = refl
