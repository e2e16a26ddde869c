use Rattle.std.proofs.Common.{◌≡◌, ◌++◌, drop}
use Rattle.sstable_index.proofs.run_v2.push_block.Given as goal

abbrev pub invariant-loop-i : goal.invariant-loop-i
invariant-loop-i l = l.addresses.items ++ drop l.i l.values.vals.items ≡ l.initial.addresses.items ++ l.values.vals.items
