-- Blocks of packed numbers, each with its least number taken off.
use Rattle.std.specs.Prelude.{◌≡◌, ℕ, ◌+◌, ◌*◌, ◌^◌, ◌<◌, ◌≤◌, List, [], ◌++◌, map, length, All}
use Rattle.std.specs.List.{flat_map}
use Rattle.tantivy_bitpacker.specs.declared.blocked_bitpacker.PackedBlock.{PackedBlock}
use Rattle.tantivy_bitpacker.specs.Packed.{unpacked_from}

-- The numbers of a block.
abbrev pub block_numbers : PackedBlock → List ℕ
block_numbers block = map (λ value. block.base_value + value) (unpacked_from 0 block.count block.num_bits block.bytes.items)

-- A block whose numbers lie in its bytes and fit 64 bits.
pub record IsBlock (block : PackedBlock) : Type 0 where
  pub allowed : 56 < block.num_bits → block.num_bits ≡ 64
  pub few : block.count ≤ 128
  pub within : block.count * block.num_bits ≤ 8 * length block.bytes.items
  pub fit : All (λ number. number < 2 ^ 64) (block_numbers block)

-- A block with as many numbers as a block may have.
pub record IsFullBlock (block : PackedBlock) : Type 0 where
  pub sound : IsBlock block
  pub full : block.count ≡ 128

-- The numbers of whole blocks, of a shorter block behind them, and of those that are not packed yet.
abbrev pub all_numbers : List PackedBlock → PackedBlock → List ℕ → List ℕ
all_numbers blocks tail buffer = flat_map block_numbers blocks ++ (block_numbers tail ++ buffer)

-- Parts of a list that have the same numbers.
abbrev pub KeepsNumbers : List PackedBlock → PackedBlock → List ℕ → List PackedBlock → PackedBlock → List ℕ → Type 0
KeepsNumbers blocks tail buffer now_blocks now_tail now_buffer = all_numbers now_blocks now_tail now_buffer ≡ all_numbers blocks tail buffer

-- The parts of a list: whole blocks, a shorter block or none, and where there is none the numbers that are not packed yet.
pub record AreBlocks (blocks : List PackedBlock) (tail : PackedBlock) (buffer : List ℕ) (len : ℕ) : Type 0 where
  pub blocks_full : All IsFullBlock blocks
  pub tail_block : IsBlock tail
  pub apart : 0 < tail.count → buffer ≡ []
  pub few : length buffer ≤ 128
  pub long : len ≡ length (all_numbers blocks tail buffer)
