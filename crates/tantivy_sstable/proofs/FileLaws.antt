-- What opening a table and looking up a key do to the file.
use Rattle.std.proofs.Common.{◌≡◌, ◌≢◌, ℕ, ◌+◌, ◌-◌, ◌≤◌, List, [], length, drop, Option, Some, None, Result, Ok, Err, refl, ap, subst, arith, length-drop, length-take}
use Rattle.std.specs.Prelude.{IfOk, IfErr, unwrap_or, option_map}
use Rattle.owned_bytes.specs.Outside.{FileState, ReadsFile, FileFailed, HasLength}
use Rattle.owned_bytes.specs.declared.outside.HandleError.{HandleError}
use Rattle.owned_bytes.specs.declared.outside.HandleError.TheVariants as file
use Rattle.owned_bytes.proofs.FileReads.{leaves-as, leaves-then, leaves-none, reads-none, reads-as, reads-within}
use Rattle.common_wire.specs.Slices.{Span, span_len, ReadsPart}
use Rattle.sstable_format.specs.declared.footer.Footer.{Footer}
use Rattle.sstable_format.specs.Table.{Parts, index_part_of}
use Rattle.sstable_format.proofs.Parts.{body_of, parts-of}
use Rattle.sstable_index.specs.Errors.{error_of_handle, ReadFailed}
use Rattle.sstable_index.specs.Reading.{ReadsIndex}
use Rattle.sstable_index.specs.declared.index.SSTableIndex.{SSTableIndex}
use Rattle.sstable_index.specs.declared.index.SSTableIndex.TheVariants.{V2, V3Empty}
use Rattle.sstable_index.specs.declared.errors.SstError.{SstError}
use Rattle.sstable_index.specs.declared.errors.SstError.TheVariants.{Memory, Read, Corrupt, Compressed, Version}
use Rattle.sstable_values.specs.Codec.{Codec}
use Rattle.sstable_index.specs.Shown.{shown_index, IsWhole}
use Rattle.tantivy_sstable.specs.Opened.{Opened, ReadsBlocks}
use Rattle.tantivy_sstable.specs.Finding.{IsLookupError}
use Rattle.tantivy_sstable.specs.Opening.{table_at, TellsAt, FetchesIndex, ReadsEnds}
use Rattle.tantivy_sstable.specs.Steps.{ReadsFooter, part_len}
use Rattle.tantivy_sstable.proofs.Opens.{length-table}

-- the same failure, at another type
pub failed-as : {A B : Type 0} (e : SstError) → ReadFailed {T = A} (Err e) → ReadFailed {T = B} (Err e)
failed-as Memory failed = absurd cc
failed-as Read failed = refl
failed-as Corrupt failed = absurd cc
failed-as (Compressed place) failed = absurd cc
failed-as (Version version) failed = absurd cc

pub failed-by : {A B : Type 0} (h : HandleError) (e : SstError) → e ≡ error_of_handle h → ReadFailed {T = B} (Err e) → FileFailed {T = A} (Err h)
failed-by file.Memory e is failed = absurd cc
failed-by file.Failed e is failed = refl

pub not_failed : {A : Type 0} (result : Result A SstError) → IfErr result (λ e. e ≢ Read) → ReadFailed result → ⊥
not_failed (Ok x) other failed = absurd cc
not_failed (Err e) other failed = other cc

-- an index part that was read is no failed read
pub not_read : (footer : Footer) (part : List ℕ) (result : Result SSTableIndex SstError) → ReadsIndex footer part result → ReadFailed result → ⊥
not_read footer part (Ok index) reads failed = absurd cc
not_read footer part (Err Memory) reads failed = absurd cc
not_read footer part (Err Read) reads failed = reads
not_read footer part (Err Corrupt) reads failed = absurd cc
not_read footer part (Err (Compressed place)) reads failed = absurd cc
not_read footer part (Err (Version version)) reads failed = reads

-- an index that was read has one block of all bytes before its part
pub reads-whole : (footer : Footer) (part : List ℕ) (result : Result SSTableIndex SstError) → ReadsIndex footer part result → IfOk result (λ index. IsWhole index footer.index_offset)
reads-whole footer part (Ok index) reads = reads.1
reads-whole footer part (Err e) reads = tt

pub whole-at : (index : SSTableIndex) (n m : ℕ) → n ≡ m → IsWhole index n → IsWhole index m
whole-at index n m same whole = subst (IsWhole index) same whole

-- one read of a part
pub part-read : (before now : FileState) (P Q : Type 0) (n most : ℕ) → (Q → P) → ReadsPart before now P n → n ≤ most → ReadsFile before now Q 1 most
part-read before now P Q n most as_failed part within = reads-within before now Q 1 n 1 most (reads-as before now P Q 1 n as_failed part.reads) (omega arith) within

-- nothing was read
pub ends-none : (before : FileState) (range : Span) (P : Type 0) → (P → ⊥) → ReadsEnds before before range P
ends-none before range P never = record { leaves = leaves-none before P never; reads = omega arith; index = by before.contents }
  where
    by : (contents : Option (List ℕ)) → FetchesIndex contents range before.fetched before.fetched
    by None = tt
    by (Some contents) = omega arith

-- the footer alone was read
pub ends-footer : (before now : FileState) (range : Span) (P Q : Type 0) → (Q → P) → ReadsFile before now P 1 20 → ReadsEnds before now range Q
ends-footer before now range P Q as_failed read =
    record { leaves = leaves-as before now P Q as_failed read.leaves; reads = omega (arith, read.reads); index = by before.contents }
  where
    by : (contents : Option (List ℕ)) → FetchesIndex contents range before.fetched now.fetched
    by None = tt
    by (Some contents) = omega (arith, read.fetched)

-- the footer and the index part were read
pub ends-both : (before middle now : FileState) (range : Span) (footer : Footer) (P Q R : Type 0) → (R → Q) → HasLength before.contents before.size → range.end ≤ before.size → footer.index_offset + 20 ≤ span_len range
    → TellsAt before.contents range (ReadsFooter (Ok footer)) → ReadsFile before middle P 1 20 → ReadsFile middle now Q 1 (part_len footer range) → ReadsEnds before now range R
ends-both before middle now range footer P Q R as_failed long within fits told first second = record {
  leaves = leaves-as before now Q R as_failed (leaves-then before middle now P Q first.leaves second.leaves);
  reads = omega (arith, first.reads, second.reads);
  index = by before.contents long told;
}
  where
    by : (contents : Option (List ℕ)) → HasLength contents before.size → TellsAt contents range (ReadsFooter (Ok footer)) → FetchesIndex contents range before.fetched now.fetched
    by None long told = tt
    by (Some contents) long told =
        let part : index_part_of (table_at contents range) ≡ drop footer.index_offset (body_of (table_at contents range)) = ap (λ o. unwrap_or (option_map (λ (parts : Parts). parts.index_part) o) []) (parts-of (table_at contents range) footer told) in
        omega (
          arith,
          long,
          within,
          fits,
          first.fetched,
          second.fetched,
          ap length part,
          length-drop footer.index_offset (body_of (table_at contents range)),
          length-take (length (table_at contents range) - 20) (table_at contents range),
          length-table contents range (omega (arith, fits)) (omega (arith, long, within)),
        )

-- ---- what a look-up does to the file

-- a look-up in bytes is no failed read
pub not_lookup : {A : Type 0} (result : Result A SstError) → IfErr result IsLookupError → ReadFailed result → ⊥
not_lookup (Ok x) is failed = absurd cc
not_lookup (Err Memory) is failed = absurd cc
not_lookup (Err Read) is failed = is
not_lookup (Err Corrupt) is failed = absurd cc
not_lookup (Err (Compressed place)) is failed = absurd cc
not_lookup (Err (Version version)) is failed = is
