use Rattle.std.proofs.Common.{◌≡◌, ◌-◌, ◌++◌, length}
use Rattle.std.specs.List.{flat_map}
use Rattle.sstable_blocks.specs.Writing.{keys_in}
use Rattle.sstable_format.specs.Store.{numbers_from}
use Rattle.sstable_index.specs.Building.{map_row}
use Rattle.sstable_index.proofs.builder.SSTableIndexBuilder.push_rows.Given as goal

abbrev pub invariant-loop-i : goal.invariant-loop-i
invariant-loop-i l = l.bytes.items ++ flat_map (map_row (keys_in l.self)) (numbers_from l.i (length l.self - l.i)) ≡ l.initial.bytes.items ++ flat_map (map_row (keys_in l.self)) (numbers_from 0 (length l.self))
