use Rattle.std.proofs.Common.{◌≡◌, ◌+◌, ◌≤◌, List, [], Some, None, true}
use Rattle.owned_bytes.specs.Keys.{Key, is_rising}
use Rattle.sstable_blocks.specs.Slices.{bytes_left, entries_here}
use Rattle.block_search.specs.ByKey.{keys_in}
use Rattle.block_search.proofs.Keys.{Still}
use Rattle.block_search.specs.Standing.{GoesOn}
use Rattle.block_search.proofs.by_key.find_key.Given as goal

abbrev pub invariant-entries : goal.invariant-entries
invariant-entries g l = record {
  still : (entries : List (Key × _)) → l.fn.reader.more ≡ [] → entries_here g.T.ValueReader.codec None l.fn.reader ≡ Some entries → is_rising (keys_in entries) ≡ true
      → Still g.T.ValueReader.codec l.reader l.comparator l.key l.below entries;
  counted : l.below + bytes_left l.reader ≤ bytes_left l.fn.reader;
  place : GoesOn l.fn.reader l.reader;
}

abbrev pub decreases-entries : goal.decreases-entries
decreases-entries g l = bytes_left l.reader
