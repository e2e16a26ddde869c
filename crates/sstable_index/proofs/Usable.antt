-- What an index part that was read tells of its table.
use Rattle.std.proofs.Common.{◌≡◌, ℕ, ◌+◌, ◌-◌, ◌^◌, ◌<◌, ◌≤◌, List, length, take, drop, Bool, true, false, Option, Some, None, refl, ap, sym, ◌∙◌, subst, arith, length-take, length-drop}
use Rattle.owned_bytes.specs.Front.{◌>>=◌, provided}
use Rattle.owned_bytes.proofs.Pieces.{bind_some, some_is, provided-true}
use Rattle.sstable_values.specs.Codec.{Codec}
use Rattle.sstable_blocks.specs.Run.{Block}
use Rattle.sstable_format.specs.declared.footer.Footer.{Footer}
use Rattle.sstable_format.specs.Ending.{HasFooter}
use Rattle.sstable_format.specs.Index.{IndexEntry, Index, AtMostOneBlock, Entries, index_of_version}
use Rattle.sstable_format.specs.Table.{blocks_under, sst_of, index_part_at}
use Rattle.sstable_format.specs.Refused.{is_compressed_at}
use Rattle.sstable_format.proofs.Compressed.{compressed-take, compressed-drop}
use Rattle.sstable_format.proofs.Parts.{body_of, no-sst}
use Rattle.block_addresses.specs.Opened.{passing}
use Rattle.sstable_index.specs.Reading.{IsCompressedIn}
use Rattle.sstable_index.specs.Usable.{can_have, is_usable, usable_index}
use Rattle.sstable_index.proofs.Tables.{tables-can-have}

-- an index that is usable is that of its index part
pub index-is : (version : ℕ) (part : List ℕ) (index : Index) → usable_index version part ≡ Some index → index_of_version version part ≡ Some index
index-is version part index is =
    let found = bind_some (index_of_version version part) (λ x. provided (is_usable x) >>= (λ _. Some x)) index is in
    let same = bind_some (provided (is_usable found.0)) (λ _. Some found.0) index found.2 in
    found.1 ∙ same.2

usable : (version : ℕ) (part : List ℕ) (index : Index) → index_of_version version part ≡ Some index → is_usable index ≡ true → usable_index version part ≡ Some index
usable version part index is can = ap (passing is_usable) is ∙ ap (λ b. provided b >>= (λ _. Some index)) can

-- no table has an index part that is not usable
pub no-table : {V : Type 0} (codec : Codec V) (table : List ℕ) (footer : Footer) → HasFooter table footer → length table < 2 ^ 64 → footer.num_terms < 2 ^ 64
    → usable_index footer.version (index_part_at footer.index_offset table) ≡ None → sst_of codec table ≡ None
no-table {V} codec table footer h short few none = no-sst codec table footer h by
  where
    part : List ℕ
    part = index_part_at footer.index_offset table

    front : List ℕ
    front = take footer.index_offset (body_of table)

    never : (index : Index) → index_of_version footer.version part ≡ Some index → is_usable index ≡ true → blocks_under codec index footer.num_terms front ≡ None
    never index is can = absurd (let e : Some index ≡ None = sym (usable footer.version part index is can) ∙ none in cc)

    by_blocks : (entries : List IndexEntry) (found : Option (List (Block V))) → index_of_version footer.version part ≡ Some (Entries entries)
        → blocks_under codec (Entries entries) footer.num_terms front ≡ found → blocks_under codec (Entries entries) footer.num_terms front ≡ None
    by_blocks entries None is found_is = found_is
    by_blocks entries (Some blocks) is found_is =
        never (Entries entries) is (tables-can-have codec entries footer.num_terms front blocks found_is (omega (arith, short, length-take footer.index_offset (body_of table), length-take (length table - 20) table)) few)

    by : (index : Index) → index_of_version footer.version part ≡ Some index → blocks_under codec index footer.num_terms front ≡ None
    by AtMostOneBlock is = never AtMostOneBlock is refl
    by (Entries entries) is = by_blocks entries (blocks_under codec (Entries entries) footer.num_terms front) is refl

-- a compressed block in the index part is one of the table
pub compressed-in : (table : List ℕ) (footer : Footer) (place : ℕ) → IsCompressedIn footer (index_part_at footer.index_offset table) place → is_compressed_at place table ≡ true
compressed-in table footer place (two, within, is, compressed) =
    ap (λ n. is_compressed_at n table) is
    ∙ compressed-take (length table - 20) (footer.index_offset + within) table (compressed-drop footer.index_offset within (take (length table - 20) table) compressed)
