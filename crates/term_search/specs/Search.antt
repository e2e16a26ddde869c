-- What a search looks for, and at most how many bytes of an index tell it.
use Rattle.std.specs.Prelude.{ℕ, ◌+◌, ◌-◌, ◌*◌, Bool, false, ◌&&◌, List, [], ◌∷◌, length, map, filter, sum, bytes_eq, Option, Some, None, nat_le, if◌then◌else◌}
use Rattle.std.specs.List.{list_any, flat_map}
use Rattle.std.specs.declared.ops.Range.{Range}
use Rattle.owned_bytes.specs.Front.{◌>>=◌}
use Rattle.owned_bytes.specs.Keys.{Key}
use Rattle.tantivy_bitpacker.specs.Packed.{bytes_for}
use Rattle.sstable_values.specs.Codec.{range}
use Rattle.sstable_blocks.specs.Run.{Block, entries_of}
use Rattle.sstable_format.specs.Table.{whole_sst_of}
use Rattle.query_tree.specs.declared.tree.UserInputLeaf.{UserInputLeaf}
use Rattle.query_tree.specs.declared.tree.UserInputAst.{UserInputAst, fold-UserInputAst}
use Rattle.query_tree.specs.declared.tree.UserInputAst.TheOpen.{UserInputAst-F, Clause, Boost, Leaf}
use Rattle.documents.specs.declared.documents.Pair.{Pair}
use Rattle.documents.specs.Documents.{is_field}
use Rattle.printed_queries.specs.Lookups.{Lookup}
unfoldable use Rattle.printed_queries.specs.Lookups.{lookups_of_leaf}
use Rattle.index_file.specs.Header.{header_at, width_of}
unfoldable use Rattle.index_file.specs.IndexFile.{parted}

abbrev pub leaves_layer : UserInputAst-F (List UserInputLeaf) → List UserInputLeaf
leaves_layer (Clause pairs) = flat_map (λ pair. pair.1) pairs
leaves_layer (Boost leaves factor) = leaves
leaves_layer (Leaf leaf) = leaf ∷ []

-- the leaves of a tree, in order
unfoldable pub leaves_of : UserInputAst → List UserInputLeaf
leaves_of whole = fold-UserInputAst (List UserInputLeaf) leaves_layer whole

-- all that is looked for: one for each literal, range, existence leaf and set element
abbrev pub lookups_of : UserInputAst → List ℕ → List Lookup
lookups_of whole default = flat_map (lookups_of_leaf default) (leaves_of whole)

abbrev pub units : UserInputAst → ℕ
units whole = length (lookups_of whole [])

-- what the file is asked for: a field that no document can have has no term
abbrev pub asked : UserInputAst → List ℕ → List Lookup
asked whole default = filter (λ wanted. is_field wanted.field) (lookups_of whole default)

-- the pair is one that is looked for
abbrev pub matches : Lookup → Pair → Bool
matches wanted pair = bytes_eq pair.field wanted.field && wanted.takes pair.term

-- the key is of a pair that is looked for
abbrev pub matches_key : Lookup → Key → Bool
matches_key wanted key = elim (parted key) [ Some pair ↦ matches wanted pair | None ↦ false ]

-- the bytes of a block, its length word and its compress byte too
abbrev pub block_length : {V : Type 0} → Block V → ℕ
block_length block = 5 + length block.content

unfoldable pub greatest : List ℕ → ℕ
greatest [] = 0
greatest (n ∷ ns) = let others = greatest ns in if nat_le others n then n else others

abbrev pub range_length : Range ℕ → ℕ
range_length places = places.end - places.start

-- for one that is looked for: the blocks with a key of it, twice the longest block, its packed numbers, and 48
unfoldable pub lookup_cost : ℕ → List (Block (Range ℕ)) → Lookup → ℕ
lookup_cost width blocks wanted =
    let matched = filter (λ entry. matches_key wanted entry.0) (entries_of blocks) in
    let touched = filter (λ block. list_any (λ entry. matches_key wanted entry.0) block.entries) blocks in
    sum (map block_length touched) + 2 * greatest (map block_length blocks)
    + bytes_for (sum (map (λ entry. range_length entry.1) matched) * width) + 48

-- The bytes that a search of the tree may fetch: 64, the index part, and what each that is looked for may cost; none where
-- the file has no table.
unfoldable pub cost : List ℕ → UserInputAst → List ℕ → Option ℕ
cost file whole default = do
  parts ← header_at file
  sst ← whole_sst_of range parts.1
  Some (64 + length sst.index_part + sum (map (lookup_cost (width_of parts.0.documents) sst.blocks) (lookups_of whole default)))
