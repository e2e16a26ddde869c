use Rattle.sstable_index.specs.BuildingV2.{HasWritten}
use Rattle.sstable_index.proofs.builder_v2.write_entries.Given as goal

abbrev pub invariant-loop-i : goal.invariant-loop-i
invariant-loop-i l = HasWritten l.builder l.i l.last l.writer
