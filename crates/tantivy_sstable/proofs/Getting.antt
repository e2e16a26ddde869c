-- What a look-up of a key in its block answers of the table.
use Rattle.std.proofs.Common.{◌≡◌, ◌≢◌, ℕ, ◌+◌, ◌-◌, ◌≤◌, List, length, take, drop, true, Option, Some, None, Result, Ok, Err, refl, ap, sym, ◌∙◌, subst, inl, inr, arith, length-take, length-drop, drop-drop}
use Rattle.std.specs.Prelude.{slice_range, option_map, min, IfErr}
use Rattle.std.proofs.lemmas.List.{take-take, drop-take}
use Rattle.owned_bytes.specs.Front.{◌>>=◌}
use Rattle.owned_bytes.specs.Keys.{Key}
use Rattle.owned_bytes.specs.Outside.{FileState, ReadsFile, IsPart, HasLength}
use Rattle.common_wire.specs.Slices.{Span, span_len}
use Rattle.sstable_values.specs.Codec.{Codec, Address}
use Rattle.sstable_blocks.specs.Run.{Block, run_of, entries_of}
use Rattle.sstable_format.specs.Index.{Index, AtMostOneBlock, Entries}
use Rattle.sstable_format.specs.Table.{blocks_under, entries_under, longest}
use Rattle.sstable_format.specs.Entries.{value_at}
use Rattle.sstable_format.specs.Refused.{is_compressed_at}
use Rattle.sstable_format.proofs.Compressed.{compressed-part, compressed-take}
use Rattle.sstable_index.specs.Errors.{ReadFailed}
use Rattle.sstable_index.specs.Shown.{shown_index, block_for_key, IsWhole}
use Rattle.sstable_index.specs.declared.index.SSTableIndex.{SSTableIndex}
use Rattle.sstable_index.specs.declared.index.SSTableIndex.TheVariants.{V2, V3, V3Empty}
use Rattle.sstable_index.specs.declared.errors.SstError.{SstError}
use Rattle.sstable_index.specs.declared.errors.SstError.TheVariants as errors
use Rattle.tantivy_sstable.specs.Opened.{Opened, entries_told, blocks_told, FetchesBlock, ReadsBlocks}
use Rattle.tantivy_sstable.proofs.FileLaws.{not_lookup, failed-as}
use Rattle.tantivy_sstable.specs.Finding.{IsLookupError, Finds, FindsRun, FindsTold, LiesIn, FailsToRead, TellsPlace, TellsPlaceAt, TellsPlaceFrom}
use Rattle.owned_bytes.proofs.FileReads.{reads-as, reads-within}
use Rattle.tantivy_sstable.proofs.Fetching.{part-short}
use Rattle.tantivy_sstable.proofs.KeyBlocks.{IsFor, found-for, none-for, short-for, whole-for}

-- the table's part that the blocks stand in
abbrev part_at : Opened → List ℕ → List ℕ
part_at opened file = slice_range file opened.blocks_range.start opened.blocks_range.end

-- a part of a part
within-part : (file : List ℕ) (from to start end : ℕ) → start ≤ end → end ≤ to - from → slice_range file (from + start) (from + end) ≡ slice_range (slice_range file from to) start end
within-part file from to start end ordered inside =
    let size : from + end - (from + start) ≡ end - start = omega arith in
    let split : to - from ≡ start + (to - from - start) = omega (arith, ordered, inside) in
    let fits : end - start ≤ to - from - start = omega (arith, ordered, inside) in
    ap (λ n. take n (drop (from + start) file)) size
    ∙ sym (take-take (end - start) (to - from - start) (drop (from + start) file) fits)
    ∙ ap (λ (l : List ℕ). take (end - start) (take (to - from - start) l)) (sym (drop-drop start from file))
    ∙ ap (take (end - start)) (sym (drop-take start (to - from - start) (drop from file)))
    ∙ ap (λ n. take (end - start) (drop start (take n (drop from file)))) (sym split)

part-len : (file : List ℕ) (from to size : ℕ) → length file ≡ size → to ≤ size → length (slice_range file from to) ≡ to - from
part-len file from to size long fits = omega (arith, long, fits, length-take (to - from) (drop from file), length-drop from file)

-- the block that an index gives for a key, by the blocks that stand under it
for-index : {V : Type 0} (codec : Codec V) (part : List ℕ) (count : ℕ) (key : Key) (index : SSTableIndex) (blocks : List (Block V)) (address : Address) → blocks_under codec (shown_index index) count part ≡ Some blocks
    → Some address ≡ block_for_key key index → IsWhole index (length part) → IsFor codec part key blocks address
for-index codec part count key (V2 entries) blocks address under given whole = found-for codec part count key entries blocks address under given
for-index codec part count key (V3 entries) blocks address under given whole = found-for codec part count key entries blocks address under given
for-index codec part count key (V3Empty index) blocks address under given whole =
    let is : address ≡ index.block_addr = cc in
    whole-for codec part count key blocks address under (ap (λ (a : Address). a.start) is ∙ whole.0) (ap (λ (a : Address). a.end) is ∙ whole.1)

none-index : {V : Type 0} (codec : Codec V) (part : List ℕ) (count : ℕ) (key : Key) (index : SSTableIndex) (blocks : List (Block V)) → blocks_under codec (shown_index index) count part ≡ Some blocks → None ≡ block_for_key key index
    → value_at key (entries_of blocks) ≡ None
none-index codec part count key (V2 entries) blocks under given = none-for codec part count key entries blocks under given
none-index codec part count key (V3 entries) blocks under given = none-for codec part count key entries blocks under given
none-index codec part count key (V3Empty index) blocks under given = absurd cc

finds-entries : {V W : Type 0} (shown : W → V) (codec : Codec V) (bytes : List ℕ) (key : Key) (entries here : List (Key × V)) (result : Result (Option W) SstError) → run_of codec bytes ≡ Some here → value_at key entries ≡ value_at key here
    → FindsRun codec shown bytes key result → FindsTold shown (Some entries) key result
finds-entries shown codec bytes key entries here (Ok found) run value finds = finds here run ∙ sym value
finds-entries shown codec bytes key entries here (Err e) run value finds = inl (finds here run)

by-blocks : {V W : Type 0} (shown : W → V) (codec : Codec V) (index : Index) (count : ℕ) (part : List ℕ) (key : Key) (result : Result (Option W) SstError) (found : Option (List (Block V))) → blocks_under codec index count part ≡ found
    → ((blocks : List (Block V)) → blocks_under codec index count part ≡ Some blocks → FindsTold shown (Some (entries_of blocks)) key result) → FindsTold shown (entries_under codec index count part) key result
by-blocks {V} shown codec index count part key result None is all =
    subst (λ (o : Option (List (Block V))). FindsTold shown (o >>= (λ blocks. Some (entries_of blocks))) key result) (sym is) tt
by-blocks {V} shown codec index count part key result (Some blocks) is all =
    subst (λ (o : Option (List (Block V))). FindsTold shown (o >>= (λ blocks. Some (entries_of blocks))) key result) (sym is) (all blocks is)

-- the key was looked for in its block
pub finds-block : {V W : Type 0} (shown : W → V) (codec : Codec V) (opened : Opened) (index : SSTableIndex) (contents : Option (List ℕ)) (size : ℕ) (key : Key) (address : Address) (bytes : List ℕ) (result : Result (Option W) SstError)
    → opened.index ≡ shown_index index → Some address ≡ block_for_key key index → IsWhole index (span_len opened.blocks_range) → HasLength contents size → opened.blocks_range.end ≤ size → LiesIn opened.blocks_range address
    → IsPart contents (opened.blocks_range.start + address.start) (opened.blocks_range.start + address.end) bytes → FindsRun codec shown bytes key result → FindsTold shown (entries_told codec opened contents) key result
finds-block shown codec opened index None size key address bytes result is given whole long fits lies at finds = tt
finds-block {V} shown codec opened index (Some file) size key address bytes result is given whole long fits lies at finds =
    let len : length (part_at opened file) ≡ span_len opened.blocks_range = part-len file opened.blocks_range.start opened.blocks_range.end size long fits in
    let here : bytes ≡ slice_range (part_at opened file) address.start address.end = at ∙ within-part file opened.blocks_range.start opened.blocks_range.end address.start address.end lies.ordered lies.within in
    by-blocks shown codec opened.index opened.num_terms (part_at opened file) key result (blocks_under codec opened.index opened.num_terms (part_at opened file)) refl
    (λ blocks under.
    let f = for-index codec (part_at opened file) opened.num_terms key index blocks address (ap (λ i. blocks_under codec i opened.num_terms (part_at opened file)) (sym is) ∙ under) given (subst (IsWhole index) (sym len) whole) in
    finds-entries shown codec bytes key (entries_of blocks) f.entries result (ap (run_of codec) here ∙ f.run) f.value finds)

-- no block is there for the key
pub finds-no_block : {V W : Type 0} (shown : W → V) (codec : Codec V) (opened : Opened) (index : SSTableIndex) (contents : Option (List ℕ)) (key : Key) → opened.index ≡ shown_index index → None ≡ block_for_key key index
    → FindsTold shown (entries_told codec opened contents) key (Ok None)
finds-no_block shown codec opened index None key is given = tt
finds-no_block shown codec opened index (Some file) key is given =
    by-blocks shown codec opened.index opened.num_terms (part_at opened file) key (Ok None) (blocks_under codec opened.index opened.num_terms (part_at opened file)) refl
    (λ blocks under. sym (none-index codec (part_at opened file) opened.num_terms key index blocks (ap (λ i. blocks_under codec i opened.num_terms (part_at opened file)) (sym is) ∙ under) given))

-- the block was not read
pub finds-unread_block : {V W : Type 0} (shown : W → V) (codec : Codec V) (opened : Opened) (index : SSTableIndex) (contents : Option (List ℕ)) (size : ℕ) (key : Key) (address : Address) (error : SstError)
    → opened.index ≡ shown_index index → Some address ≡ block_for_key key index → IsWhole index (span_len opened.blocks_range) → HasLength contents size → opened.blocks_range.end ≤ size → FailsToRead opened.blocks_range address error
    → FindsTold shown (entries_told codec opened contents) key (Err error)
finds-unread_block shown codec opened index None size key address error is given whole long fits fails = tt
finds-unread_block {V} shown codec opened index (Some file) size key address error is given whole long fits fails =
    let len : length (part_at opened file) ≡ span_len opened.blocks_range = part-len file opened.blocks_range.start opened.blocks_range.end size long fits in
    by-blocks shown codec opened.index opened.num_terms (part_at opened file) key (Err error) (blocks_under codec opened.index opened.num_terms (part_at opened file)) refl
    (λ blocks under.
    let f = for-index codec (part_at opened file) opened.num_terms key index blocks address (ap (λ i. blocks_under codec i opened.num_terms (part_at opened file)) (sym is) ∙ under) given (subst (IsWhole index) (sym len) whole) in
    by error fails (record { ordered = f.ordered; within = let w : address.end ≤ length (part_at opened file) = f.within in omega (arith, w, len) }) (entries_of blocks))
  where
    by : (e : SstError) → FailsToRead opened.blocks_range address e → LiesIn opened.blocks_range address → (entries : List (Key × V)) → FindsTold shown (Some entries) key (Err e)
    by errors.Memory fails lies entries = inl refl
    by errors.Read fails lies entries = inr refl
    by errors.Corrupt fails lies entries = absurd (fails lies)
    by (errors.Compressed place) fails lies entries = absurd fails
    by (errors.Version version) fails lies entries = absurd fails

-- a compressed block in a block's bytes is one of the table
pub tells-block : {A : Type 0} (contents : Option (List ℕ)) (range : Span) (address : Address) (bytes : List ℕ) (result : Result A SstError) → LiesIn range address → IsPart contents (range.start + address.start) (range.start + address.end) bytes
    → IfErr result (TellsPlaceFrom address.start bytes) → IfErr result (TellsPlaceAt contents range)
tells-block contents range address bytes (Ok found) lies at tells = tt
tells-block contents range address bytes (Err error) lies at tells = by contents error at tells
  where
    by : (contents : Option (List ℕ)) (e : SstError) → IsPart contents (range.start + address.start) (range.start + address.end) bytes → TellsPlaceFrom address.start bytes e → TellsPlaceAt contents range e
    by None e at tells = tt
    by (Some file) errors.Memory at tells = tt
    by (Some file) errors.Corrupt at tells = tt
    by (Some file) errors.Read at tells = tt
    by (Some file) (errors.Version version) at tells = tt
    by (Some file) (errors.Compressed place) at tells =
        let behind : address.start ≤ place = tells.0 in
        let here : bytes ≡ slice_range (slice_range file range.start range.end) address.start address.end = at ∙ within-part file range.start range.end address.start address.end lies.ordered lies.within in
        let sum : address.start + (place - address.start) ≡ place = omega (arith, behind) in
        ap (λ n. is_compressed_at n (slice_range file range.start range.end)) (sym sum)
        ∙ compressed-part (address.end - address.start) address.start (place - address.start) (slice_range file range.start range.end) (ap (is_compressed_at (place - address.start)) (sym here) ∙ tells.1)

pub tells-unread_block : (contents : Option (List ℕ)) (range : Span) (address : Address) (error : SstError) → FailsToRead range address error → TellsPlaceAt contents range error
tells-unread_block None range address error fails = tt
tells-unread_block (Some file) range address errors.Memory fails = tt
tells-unread_block (Some file) range address errors.Read fails = tt
tells-unread_block (Some file) range address errors.Corrupt fails = tt
tells-unread_block (Some file) range address (errors.Compressed place) fails = absurd fails
tells-unread_block (Some file) range address (errors.Version version) fails = absurd fails

-- how much of the file is fetched for a block
fetches-by : {V : Type 0} (found : Option (List (Block V))) (before now most : ℕ) → now ≤ before + most → ((blocks : List (Block V)) → found ≡ Some blocks → most ≤ longest blocks + 4) → FetchesBlock found before now
fetches-by None before now most rise all = tt
fetches-by (Some blocks) before now most rise all = let m = all blocks refl in omega (arith, rise, m)

-- a block that an index gives for a key is no longer than the longest and the bytes behind it, or than the part
most-index : {V : Type 0} (codec : Codec V) (part : List ℕ) (count : ℕ) (key : Key) (index : SSTableIndex) (blocks : List (Block V)) (address : Address) → blocks_under codec (shown_index index) count part ≡ Some blocks
    → Some address ≡ block_for_key key index → min (address.end - address.start) (length part) ≤ longest blocks + 4
most-index codec part count key (V2 entries) blocks address under given = let s = short-for codec part count key entries blocks address under given in omega (arith, s)
most-index codec part count key (V3 entries) blocks address under given = let s = short-for codec part count key entries blocks address under given in omega (arith, s)
most-index codec part count key (V3Empty index) blocks address under given = let s = part-short codec count part blocks under in omega (arith, s)

pub reads-block : {V : Type 0} (codec : Codec V) (opened : Opened) (index : SSTableIndex) (before now : FileState) (key : Key) (address : Address) (P Q : Type 0) → opened.index ≡ shown_index index → Some address ≡ block_for_key key index
    → HasLength before.contents before.size → opened.blocks_range.end ≤ before.size → (Q → P) → ReadsFile before now P 1 (min (address.end - address.start) (span_len opened.blocks_range)) → ReadsBlocks codec opened before now Q
reads-block {V} codec opened index before now key address P Q is given long fits as_failed reads = record {
  reads = reads-within before now Q 1 (min (address.end - address.start) (span_len opened.blocks_range)) 1 (span_len opened.blocks_range) (reads-as before now P Q 1 (min (address.end - address.start) (span_len opened.blocks_range)) as_failed reads) (omega arith) (omega arith);
  block = by before.contents long;
}
  where
    by : (contents : Option (List ℕ)) → HasLength contents before.size → FetchesBlock (blocks_told codec opened contents) before.fetched now.fetched
    by None long = tt
    by (Some file) long =
        let len : length (part_at opened file) ≡ span_len opened.blocks_range = part-len file opened.blocks_range.start opened.blocks_range.end before.size long fits in
        fetches-by (blocks_under codec opened.index opened.num_terms (part_at opened file)) before.fetched now.fetched (min (address.end - address.start) (span_len opened.blocks_range)) reads.fetched
        (λ blocks under.
        let most = most-index codec (part_at opened file) opened.num_terms key index blocks address (ap (λ i. blocks_under codec i opened.num_terms (part_at opened file)) (sym is) ∙ under) given in
        omega (arith, most, len))

-- the block was read, and looked in
pub reads-found : {A B V : Type 0} (codec : Codec V) (opened : Opened) (index : SSTableIndex) (before now : FileState) (range : Span) (key : Key) (address : Address) (read : Result A SstError) (result : Result B SstError) → opened.index ≡ shown_index index
    → Some address ≡ block_for_key key index → HasLength before.contents before.size → opened.blocks_range.end ≤ before.size → range ≡ opened.blocks_range → IfErr result IsLookupError
    → ReadsFile before now (ReadFailed read) 1 (min (address.end - address.start) (span_len range)) → ReadsBlocks codec opened before now (ReadFailed result)
reads-found codec opened index before now range key address read result is given long fits same lookup reads =
    reads-block codec opened index before now key address (ReadFailed read) (ReadFailed result) is given long fits (λ failed. absurd (not_lookup result lookup failed))
    (subst (λ (r : Span). ReadsFile before now (ReadFailed read) 1 (min (address.end - address.start) (span_len r))) same reads)

-- the block was not read
pub reads-unread : {A B V : Type 0} (codec : Codec V) (opened : Opened) (index : SSTableIndex) (before now : FileState) (range : Span) (key : Key) (address : Address) (error : SstError) → opened.index ≡ shown_index index
    → Some address ≡ block_for_key key index → HasLength before.contents before.size → opened.blocks_range.end ≤ before.size → range ≡ opened.blocks_range
    → ReadsFile before now (ReadFailed {T = A} (Err error)) 1 (min (address.end - address.start) (span_len range)) → ReadsBlocks codec opened before now (ReadFailed {T = B} (Err error))
reads-unread {A} {B} codec opened index before now range key address error is given long fits same reads =
    reads-block codec opened index before now key address (ReadFailed {T = A} (Err error)) (ReadFailed {T = B} (Err error)) is given long fits (failed-as {A = B} {B = A} error)
    (subst (λ (r : Span). ReadsFile before now (ReadFailed {T = A} (Err error)) 1 (min (address.end - address.start) (span_len r))) same reads)
