-- How many bytes a whole search fetches, by what the file tells.
use Rattle.std.proofs.Common.{◌≡◌, ◌≢◌, ◌∙◌, sym, ap, subst, refl, ℕ, ◌+◌, ◌≤◌, List, [], length, map, Option, Some, None, Ok, arith}
use Rattle.std.specs.Prelude.{unwrap_or, option_map, sum}
use Rattle.std.specs.declared.ops.Range.{Range}
use Rattle.owned_bytes.specs.Front.{◌>>=◌}
use Rattle.owned_bytes.proofs.Pieces.{bind_some, some_is}
use Rattle.sstable_values.specs.Codec.{range}
use Rattle.sstable_format.specs.Index.{Index, index_of_version}
use Rattle.sstable_format.specs.Table.{Parts, Sst, parts_of, blocks_under, whole_sst_of, sst_of}
use Rattle.tantivy_sstable.specs.Opened.{blocks_told}
use Rattle.sstable_format.specs.Table.{table_blocks, index_part_of}
use Rattle.query_tree.specs.declared.tree.UserInputAst.{UserInputAst}
use Rattle.documents.specs.Postings.{Postings}
use Rattle.index_file.specs.Header.{Header, header_at, width_of}
use Rattle.index_file.specs.IndexFile.{table_of, postings_of}
use Rattle.term_search.specs.Search.{lookups_of, lookup_cost, cost}
use Rattle.index_reading.specs.declared.open.OpenIndex.{OpenIndex}
use Rattle.index_reading.specs.Opened.{postings_told}
use Rattle.index_reading.specs.Opening.{OpensTold, HasOpened, FetchesOpening, blocks_of, index_part_in}
use Rattle.owned_bytes.specs.Outside.{FileState}
use Rattle.term_search.specs.Members.{IsAsked, lookups_cost}
use Rattle.term_search.specs.Searching.{IsSearched, Fetches, FetchesTree}
use Rattle.term_search.proofs.Leaf.{told_documents, postings_are}
use Rattle.term_search.proofs.Answering.{same_tree}

-- ---- what the cost of a file is made of

record IsPriced (file : List ℕ) (tree : UserInputAst) (default : List ℕ) (most : ℕ) : Type 0 where
  pub parts : Header × List ℕ
  pub sst : Sst (Range ℕ)
  pub header : header_at file ≡ Some parts
  pub table : whole_sst_of range parts.1 ≡ Some sst
  pub most_is : 64 + length sst.index_part + sum (map (lookup_cost (width_of parts.0.documents) sst.blocks) (lookups_of tree default)) ≡ most

priced : (file : List ℕ) (tree : UserInputAst) (default : List ℕ) (most : ℕ) → cost file tree default ≡ Some most → IsPriced file tree default most
unfolding cost
priced file tree default most h =
    let first = bind_some (header_at file) _ most h in
    let second = bind_some (whole_sst_of range first.0.1) _ most first.2 in
    record { parts = first.0; sst = second.0; header = first.1; table = second.1; most_is = some_is _ _ second.2 }

index_part-kept : (parts : Parts) (sst : Sst (Range ℕ)) (index : Option Index)
    → (index >>= (λ found. blocks_under range found parts.count parts.front >>= (λ blocks. Some (record { blocks = blocks; index_part = parts.index_part; version = parts.version })))) ≡ Some sst
    → parts.index_part ≡ sst.index_part
index_part-kept parts sst None h = (let apart : None ≡ Some sst = h in absurd cc)
index_part-kept parts sst (Some found) h =
    let blocks = bind_some (blocks_under range found parts.count parts.front) _ sst h in
    ap (λ (s : Sst (Range ℕ)). s.index_part) (some_is _ sst blocks.2)

table-index_part : (table : List ℕ) (sst : Sst (Range ℕ)) → whole_sst_of range table ≡ Some sst → index_part_of table ≡ sst.index_part
unfolding whole_sst_of
table-index_part table sst h =
    let parts = bind_some (parts_of table) _ sst h in
    ap (λ o. unwrap_or (option_map (λ (p : Parts). p.index_part) o) []) parts.1 ∙ index_part-kept parts.0 sst (index_of_version parts.0.version parts.0.index_part) parts.2

priced-index_part : (file : List ℕ) (tree : UserInputAst) (default : List ℕ) (most : ℕ) (p : IsPriced file tree default most) → index_part_in file ≡ p.sst.index_part
priced-index_part file tree default most p =
    ap (λ o. unwrap_or (option_map (λ (parts : Header × List ℕ). index_part_of parts.1) o) []) p.header ∙ table-index_part p.parts.1 p.sst p.table

priced-blocks : (file : List ℕ) (tree : UserInputAst) (default : List ℕ) (most : ℕ) (p : IsPriced file tree default most) → blocks_of file ≡ Some p.sst.blocks
priced-blocks file tree default most p =
    ap (λ o. o >>= (λ (parts : Header × List ℕ). table_blocks range parts.1)) p.header ∙ ap (option_map (λ (sst : Sst (Range ℕ)). sst.blocks)) p.table

priced-documents : (file : List ℕ) (tree : UserInputAst) (default : List ℕ) (most : ℕ) (p : IsPriced file tree default most) (postings : Postings) → table_of file ≡ Some postings
    → postings.documents ≡ p.parts.0.documents
unfolding table_of
priced-documents file tree default most p postings h =
    let told = sym (ap (λ o. o >>= (λ (parts : Header × List ℕ). sst_of range parts.1 >>= (λ entries. postings_of parts.0 entries))) p.header) ∙ h in
    let entries = bind_some (sst_of range p.parts.1) _ postings told in
    ap (λ (q : Postings). q.documents) (sym (postings_are p.parts.0 entries.0 postings entries.2))

-- ---- opening, and then what is looked for

there : {A : Type 0} (found : Option A) → found ≢ None → (x : A) × (found ≡ Some x)
there None some = absurd (some refl)
there (Some x) some = (x, refl)

-- the told index has the blocks and the postings that the cost is counted by
lookups-covered : (file : List ℕ) (index : OpenIndex) (tree : UserInputAst) (default : List ℕ) (most : ℕ) (middle now : FileState) (P : Type 0) → HasOpened file index → middle.contents ≡ Some file
    → table_of file ≢ None → (p : IsPriced file tree default most) → IsAsked index (lookups_of tree default) middle now P → now.fetched + (64 + length p.sst.index_part) ≤ middle.fetched + most
lookups-covered file index tree default most middle now P opened is whole p asks =
    let table = there (table_of file) whole in
    let postings : postings_told index middle.contents ≡ Some table.0 = ap (postings_told index) is ∙ opened.postings ∙ table.1 in
    let blocks : blocks_told range index.dictionary middle.contents ≡ Some p.sst.blocks = ap (blocks_told range index.dictionary) is ∙ opened.blocks ∙ priced-blocks file tree default most p in
    let documents : index.documents ≡ p.parts.0.documents = sym (told_documents middle.contents index table.0 postings) ∙ priced-documents file tree default most p table.0 table.1 in
    let same : lookups_cost index p.sst.blocks (lookups_of tree default) ≡ sum (map (lookup_cost (width_of p.parts.0.documents) p.sst.blocks) (lookups_of tree default)) =
    ap (λ n. sum (map (lookup_cost (width_of n) p.sst.blocks) (lookups_of tree default))) documents in
    omega (arith, asks.fetched p.sst.blocks table.0 blocks postings, same, p.most_is)

opening-covered : (file : List ℕ) (tree : UserInputAst) (default : List ℕ) (most : ℕ) (before middle : FileState) → before.contents ≡ Some file → FetchesOpening before middle
    → (p : IsPriced file tree default most) → middle.fetched ≤ before.fetched + (52 + length p.sst.index_part)
opening-covered file tree default most before middle is opening p =
    omega (arith, opening file is, ap (λ (part : List ℕ). length part) (priced-index_part file tree default most p))

pub fetches_opening : (tree : UserInputAst) (default : List ℕ) (before now : FileState) → FetchesOpening before now → FetchesTree tree default before now
fetches_opening tree default before now opening = λ file most is whole priced_at.
    let p = priced file tree default most priced_at in
    omega (arith, opening-covered file tree default most before now is opening p, p.most_is)

pub fetches_tree : (index : OpenIndex) (tree : UserInputAst) (default : List ℕ) (before middle now : FileState) (P : Type 0) → OpensTold before.contents (Ok index) → middle.contents ≡ before.contents
    → FetchesOpening before middle → IsAsked index (lookups_of tree default) middle now P → FetchesTree tree default before now
fetches_tree index tree default before middle now P opens same opening asks = λ file most is whole priced_at.
    let p = priced file tree default most priced_at in
    let has = subst (λ o. OpensTold o (Ok index)) is opens in
    omega (arith, opening-covered file tree default most before middle is opening p, lookups-covered file index tree default most middle now P has (same ∙ is) whole p asks)

-- ---- the whole answer

pub fetches_query : (query default : List ℕ) (tree : UserInputAst) (before now : FileState) → IsSearched query tree → FetchesTree tree default before now → Fetches query default before now
fetches_query query default tree before now searched fetches = λ file other most is whole tree_is priced_at.
    fetches file most is whole (ap (λ t. cost file t default) (same_tree query tree other searched.taken.tree_is tree_is) ∙ priced_at)
