use Rattle.std.proofs.Common.{◌≡◌, List, [], Option, Some}
use Rattle.owned_bytes.specs.Keys.{Key}
use Rattle.sstable_blocks.specs.Slices.{bytes_left, entries_here}
use Rattle.block_search.proofs.Skipping.{Skips}
use Rattle.block_search.specs.Standing.{GoesOn}
use Rattle.block_search.proofs.by_number.go_to_number.Given as goal

abbrev pub invariant-entries : goal.invariant-entries
invariant-entries g l = record {
  skips : (before : Option Key) (entries : List (Key × _)) → l.fn.reader.more ≡ [] → entries_here g.T.ValueReader.codec before l.fn.reader ≡ Some entries
      → (key : Key) × Skips g.T.ValueReader.codec l.reader l.ahead l.number key entries;
  place : GoesOn l.fn.reader l.reader;
}

abbrev pub decreases-entries : goal.decreases-entries
decreases-entries g l = bytes_left l.reader
