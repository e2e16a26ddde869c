use Rattle.std.proofs.Common.{◌≡◌, length, take}
use Rattle.sstable_tables.specs.Laws.{HasGathered}
use Rattle.index_writing.specs.Emitting.{numbers_of_all, ranged}
use Rattle.index_writing.proofs.table.ranges_writer.Given as goal

abbrev pub invariant-loop-posting : goal.invariant-loop-posting
invariant-loop-posting l = record {
  inserted : HasGathered l.writer l.fn.sink (ranged 0 (take l.posting-index l.postings));
  start : l.start ≡ length (numbers_of_all (take l.posting-index l.postings));
}
