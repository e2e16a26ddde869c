-- What a footer tells of the parts of a table.
use Rattle.std.proofs.Common.{◌≡◌, ℕ, ◌-◌, ◌≤◌, List, length, take, drop, Option, Some, None, refl, ap, ◌∙◌, arith, length-take}
use Rattle.std.specs.Prelude.{option_map}
use Rattle.owned_bytes.specs.Front.{◌>>=◌}
use Rattle.sstable_values.specs.Codec.{Codec}
use Rattle.sstable_blocks.specs.Run.{entries_of}
use Rattle.sstable_format.specs.declared.footer.Footer.{Footer}
use Rattle.sstable_format.specs.Ending.{HasFooter}
use Rattle.sstable_format.specs.Index.{Index, index_of_version}
use Rattle.sstable_format.specs.Table.{Parts, Sst, parts_of, blocks_under, entries_under, whole_sst_of, sst_of, table_blocks}
use Rattle.sstable_format.proofs.Endings.{parts_of-found}

-- a table without parts is none
pub sst_of-parts_none : {V : Type 0} (codec : Codec V) (table : List ℕ) → parts_of table ≡ None → sst_of codec table ≡ None
unfolding whole_sst_of sst_of
sst_of-parts_none codec table none = ap (λ o. (o >>= (λ (parts : Parts). index_of_version parts.version parts.index_part >>= (λ index. blocks_under codec index parts.count parts.front >>= (λ blocks.
    Some (record { blocks = blocks; index_part = parts.index_part; version = parts.version }))))) >>= (λ (sst : Sst _). Some (entries_of sst.blocks))) none

-- the bytes before a table's footer
abbrev pub body_of : List ℕ → List ℕ
body_of table = take (length table - 20) table

pub length-body : (table : List ℕ) (footer : Footer) → HasFooter table footer → footer.index_offset ≤ length (body_of table)
length-body table footer h = omega (arith, h.fits, length-take (length table - 20) table)

pub parts-of : (table : List ℕ) (footer : Footer) → HasFooter table footer
    → parts_of table ≡ Some (record { front = take footer.index_offset (body_of table); index_part = drop footer.index_offset (body_of table); count = footer.num_terms; version = footer.version })
parts-of table footer h = parts_of-found table (body_of table) footer h.read (length-body table footer h)

-- a table of these parts, by its index
pub by_index : {V : Type 0} → Codec V → Parts → Option Index → Option (List (List ℕ × V))
by_index codec parts found = found >>= (λ index. entries_under codec index parts.count parts.front)

pub entries-of_sst : {V : Type 0} (codec : Codec V) (parts : Parts) (index : Index)
    → (blocks_under codec index parts.count parts.front >>= (λ blocks. Some (record { blocks = blocks; index_part = parts.index_part; version = parts.version })) >>= (λ (sst : Sst V). Some (entries_of sst.blocks))) ≡ entries_under codec index parts.count parts.front
entries-of_sst codec parts index = elim (blocks_under codec index parts.count parts.front) as (λ o. (o >>= (λ blocks. Some (record { blocks = blocks; index_part = parts.index_part; version = parts.version })) >>= (λ (sst : Sst _). Some (entries_of sst.blocks))) ≡ (o >>= (λ blocks. Some (entries_of blocks)))) [ None ↦ refl | Some blocks ↦ refl ]

pub sst_of-by_index : {V : Type 0} (codec : Codec V) (table : List ℕ) (parts : Parts) (found : Option Index) → parts_of table ≡ Some parts → index_of_version parts.version parts.index_part ≡ found → sst_of codec table ≡ by_index codec parts found
unfolding whole_sst_of sst_of by_index
sst_of-by_index codec table parts found are is =
    ap (λ o. (o >>= (λ (parts : Parts). index_of_version parts.version parts.index_part >>= (λ index. blocks_under codec index parts.count parts.front >>= (λ blocks.
    Some (record { blocks = blocks; index_part = parts.index_part; version = parts.version }))))) >>= (λ (sst : Sst _). Some (entries_of sst.blocks))) are
    ∙ ap (λ o. (o >>= (λ index. blocks_under codec index parts.count parts.front >>= (λ blocks.
    Some (record { blocks = blocks; index_part = parts.index_part; version = parts.version })))) >>= (λ (sst : Sst _). Some (entries_of sst.blocks))) is
    ∙ elim found as (λ o. ((o >>= (λ index. blocks_under codec index parts.count parts.front >>= (λ blocks.
    Some (record { blocks = blocks; index_part = parts.index_part; version = parts.version })))) >>= (λ (sst : Sst _). Some (entries_of sst.blocks))) ≡ (o >>= (λ index. entries_under codec index parts.count parts.front)))
    [ None ↦ refl | Some index ↦ entries-of_sst codec parts index ]

-- the parts that a footer tells
abbrev pub parts_by : List ℕ → Footer → Parts
parts_by table footer = record { front = take footer.index_offset (body_of table); index_part = drop footer.index_offset (body_of table); count = footer.num_terms; version = footer.version }

-- a table without an index, or whose index is that of no blocks, is none
pub no-sst : {V : Type 0} (codec : Codec V) (table : List ℕ) (footer : Footer) → HasFooter table footer
    → ((index : Index) → index_of_version footer.version (drop footer.index_offset (body_of table)) ≡ Some index → blocks_under codec index footer.num_terms (take footer.index_offset (body_of table)) ≡ None)
    → sst_of codec table ≡ None
unfolding by_index
no-sst codec table footer h none = by (index_of_version footer.version (drop footer.index_offset (body_of table))) refl
  where
    by : (found : Option Index) → index_of_version footer.version (drop footer.index_offset (body_of table)) ≡ found → sst_of codec table ≡ None
    by None is = sst_of-by_index codec table (parts_by table footer) None (parts-of table footer h) is
    by (Some index) is =
        sst_of-by_index codec table (parts_by table footer) (Some index) (parts-of table footer h) is
        ∙ ap (λ o. o >>= (λ blocks. Some (entries_of blocks))) (none index is)

pub found-is : {V : Type 0} (codec : Codec V) (table : List ℕ) (footer : Footer) (index : Index) → HasFooter table footer → index_of_version footer.version (drop footer.index_offset (body_of table)) ≡ Some index
    → sst_of codec table ≡ entries_under codec index footer.num_terms (take footer.index_offset (body_of table))
unfolding by_index
found-is codec table footer index h is = sst_of-by_index codec table (parts_by table footer) (Some index) (parts-of table footer h) is

-- the blocks of a table of these parts
pub blocks-is : {V : Type 0} (codec : Codec V) (table : List ℕ) (footer : Footer) (index : Index) → HasFooter table footer → index_of_version footer.version (drop footer.index_offset (body_of table)) ≡ Some index
    → table_blocks codec table ≡ blocks_under codec index footer.num_terms (take footer.index_offset (body_of table))
unfolding whole_sst_of
blocks-is codec table footer index h is =
    ap (λ o. option_map (λ (sst : Sst _). sst.blocks) (o >>= (λ (parts : Parts). index_of_version parts.version parts.index_part >>= (λ index. blocks_under codec index parts.count parts.front >>= (λ blocks.
    Some (record { blocks = blocks; index_part = parts.index_part; version = parts.version })))))) (parts-of table footer h)
    ∙ ap (λ o. option_map (λ (sst : Sst _). sst.blocks) (o >>= (λ index. blocks_under codec index footer.num_terms (take footer.index_offset (body_of table)) >>= (λ blocks.
    Some (record { blocks = blocks; index_part = drop footer.index_offset (body_of table); version = footer.version }))))) is
    ∙ elim (blocks_under codec index footer.num_terms (take footer.index_offset (body_of table))) as (λ o. option_map (λ (sst : Sst _). sst.blocks) (o >>= (λ blocks. Some (record { blocks = blocks; index_part = drop footer.index_offset (body_of table); version = footer.version }))) ≡ o)
    [ None ↦ refl | Some blocks ↦ refl ]
