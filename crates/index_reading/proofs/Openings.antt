-- What opening an index file does to the file.
use Rattle.std.proofs.Common.{◌≡◌, ℕ, ◌+◌, ◌≤◌, List, Option, ◌∙◌, subst, arith}
use Rattle.std.specs.Prelude.{length, IfSome}
use Rattle.common_wire.specs.Slices.{Span}
use Rattle.owned_bytes.specs.Outside.{FileState, HasLength}
use Rattle.owned_bytes.proofs.FileReads.{leaves-as}
use Rattle.tantivy_sstable.specs.Opening.{ReadsEnds}
use Rattle.index_reading.specs.Opening.{FetchesOpening, index_part_in}
use Rattle.index_reading.specs.Steps.{HasTable, ReadsTable}
use Rattle.index_reading.proofs.TableLaws.{fetches-table}

-- a table that ends where the file ends was opened
pub reads-table : (before now : FileState) (documents count start : ℕ) (slice : Span) (P Q : Type 0) → (Q → P) → HasLength before.contents before.size → slice.start ≡ start → slice.end ≡ before.size
    → IfSome before.contents (HasTable documents count start) → ReadsEnds before now slice P → ReadsTable before now Q
reads-table before now documents count start slice P Q as_failed long begins ends told reads = record {
  leaves = leaves-as before now P Q as_failed reads.leaves;
  reads = reads.reads;
  fetched = fetches-table before.contents documents count start before.size slice.end before.fetched now.fetched slice long ends begins (λ i. slice.end) told reads.index;
}

-- the footer and the front were read at most
pub fetches-early : (before now : FileState) → now.fetched ≤ before.fetched + 32 → FetchesOpening before now
fetches-early before now few file told = omega (arith, few)

-- the table was opened behind them
pub fetches-opening : (before middle now : FileState) (P : Type 0) → middle.contents ≡ before.contents → middle.fetched ≤ before.fetched + 32 → ReadsTable middle now P → FetchesOpening before now
fetches-opening before middle now P same few table file told =
    let rest : now.fetched ≤ middle.fetched + (20 + length (index_part_in file)) = subst (λ (o : Option (List ℕ)). IfSome o (λ f. now.fetched ≤ middle.fetched + (20 + length (index_part_in f)))) (same ∙ told) table.fetched in
    omega (arith, few, rest)
