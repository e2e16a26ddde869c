-- The bytes of an address store.
use Rattle.std.specs.Prelude.{ℕ, ◌+◌, ◌-◌, ◌*◌, ◌/◌, ◌^◌, ◌≡◌, ◌<◌, ◌≤◌, min, List, [], ◌∷◌, ◌++◌, length, map, slice_index, slice_range, Bool, true, nat_le, ◌&&◌}
use Rattle.std.specs.Int.{w8, w16, w32, w64, to_le_bytes}
use Rattle.std.specs.List.{flat_map}
use Rattle.sstable_values.specs.Codec.{Address}
use Rattle.tantivy_bitpacker.specs.Packed.{packed_pieces}
use Rattle.sstable_format.specs.Meta.{Meta}
use Rattle.sstable_format.specs.Store.{numbers_from}
use Rattle.block_addresses.specs.Lines.{Pair, Line, after_first, line_for, stored}

-- Blocks that adjoin: where each starts, and behind that where the last one ends; and the position of each one's first key.
pub record Blocks : Type 0 where
  pub starts : List ℕ
  pub ordinals : List ℕ

abbrev pub blocks_of : List ℕ → List ℕ → Blocks
blocks_of starts ordinals = record { starts = starts; ordinals = ordinals }

-- the addresses of blocks that adjoin
unfoldable pub addresses_between : List ℕ → List ℕ → List Address
addresses_between (start ∷ end ∷ starts) (ordinal ∷ ordinals) =
    record { start = start; end = end; first_ordinal = ordinal } ∷ addresses_between (end ∷ starts) ordinals
addresses_between _ _ = []

abbrev pub addresses_of : Blocks → List Address
addresses_of blocks = addresses_between blocks.starts blocks.ordinals

-- no number is below the one before it, nor more than so much above it
unfoldable pub steps_upto : ℕ → List ℕ → Bool
steps_upto most [] = true
steps_upto most (a ∷ []) = true
steps_upto most (a ∷ b ∷ numbers) = nat_le a b && (nat_le b (a + most) && steps_upto most (b ∷ numbers))

-- Blocks that a store can hold: one has at most the bytes that a length of 32 bits and the length itself make.
pub record AreStorable (blocks : Blocks) : Type 0 where
  pub ended : length blocks.starts ≡ length blocks.ordinals + 1
  pub ranges : steps_upto 4294967299 blocks.starts ≡ true
  pub ordinals : steps_upto 4294967296 blocks.ordinals ≡ true

-- no number is 2 ^ 40 or more above the first
abbrev pub IsNearFirst : List ℕ → Type 0
IsNearFirst numbers = (i : ℕ) → i < length numbers → slice_index numbers i - slice_index numbers 0 < 2 ^ 40

-- Up to 128 blocks, none of whose numbers is 2 ^ 40 or more above the first.
pub record AreNear (blocks : Blocks) : Type 0 where
  pub ended : length blocks.starts ≡ length blocks.ordinals + 1
  pub some : 0 < length blocks.ordinals
  pub few : length blocks.ordinals ≤ 128
  pub starts : IsNearFirst blocks.starts
  pub ordinals : IsNearFirst blocks.ordinals

-- The starts' deviations and the ordinals' in turn, each with its bits. Last stands the deviation of the last end.
unfoldable pub deviations : Line → Line → List Pair → List Pair → List (ℕ × ℕ)
deviations range ordinal [] ordinals = []
deviations range ordinal (start ∷ starts) [] = (stored range start, range.bits) ∷ []
deviations range ordinal (start ∷ starts) (first ∷ ordinals) =
    (stored range start, range.bits) ∷ (stored ordinal first, ordinal.bits) ∷ deviations range ordinal starts ordinals

abbrev pub range_line : Blocks → Line
range_line blocks = line_for (after_first blocks.starts)

abbrev pub ordinal_line : Blocks → Line
ordinal_line blocks = line_for (after_first blocks.ordinals)

-- what is packed for up to 128 blocks
abbrev pub packed_of : Blocks → List ℕ
packed_of blocks =
    packed_pieces (deviations (range_line blocks) (ordinal_line blocks) (after_first blocks.starts) (after_first blocks.ordinals))

-- what the store says of them, where their packed data stands at this offset
abbrev pub meta_of : ℕ → Blocks → Meta
meta_of offset blocks = record {
  data_offset = offset;
  range_start = slice_index blocks.starts 0;
  first_ordinal = slice_index blocks.ordinals 0;
  range_slope = (range_line blocks).slope;
  ordinal_slope = (ordinal_line blocks).slope;
  ordinal_bits = (ordinal_line blocks).bits;
  range_bits = (range_line blocks).bits;
  block_count = length blocks.ordinals;
}

abbrev pub meta_bytes : Meta → List ℕ
meta_bytes m =
    to_le_bytes w64 m.data_offset ++ (to_le_bytes w64 m.range_start ++ (to_le_bytes w64 m.first_ordinal
    ++ (to_le_bytes w32 m.range_slope ++ (to_le_bytes w32 m.ordinal_slope
    ++ (to_le_bytes w8 m.ordinal_bits ++ (to_le_bytes w8 m.range_bits ++ to_le_bytes w16 (m.block_count - 1)))))))

-- what the store says of each of these groups, the first of whose data stands at this offset
unfoldable pub metas_of : ℕ → List Blocks → List Meta
metas_of offset [] = []
metas_of offset (group ∷ groups) = meta_of offset group ∷ metas_of (offset + length (packed_of group)) groups

-- the packed data of these groups
unfoldable pub all_packed : List Blocks → List ℕ
all_packed [] = []
all_packed (group ∷ groups) = packed_of group ++ all_packed groups

-- of the blocks in groups of 128, those of group k
abbrev pub group_at : Blocks → ℕ → Blocks
group_at blocks k =
    let end = min (k * 128 + 128) (length blocks.ordinals) in
    blocks_of (slice_range blocks.starts (k * 128) (end + 1)) (slice_range blocks.ordinals (k * 128) end)

abbrev pub group_count : Blocks → ℕ
group_count blocks = (length blocks.ordinals + 127) / 128

abbrev pub groups_of : Blocks → List Blocks
groups_of blocks = map (group_at blocks) (numbers_from 0 (group_count blocks))

-- a store of these groups
abbrev pub store_of_groups : List Blocks → List ℕ
store_of_groups groups =
    to_le_bytes w64 (36 * length groups) ++ (flat_map meta_bytes (metas_of 0 groups) ++ all_packed groups)

-- the store of these blocks
abbrev pub store_bytes : Blocks → List ℕ
store_bytes blocks = store_of_groups (groups_of blocks)
