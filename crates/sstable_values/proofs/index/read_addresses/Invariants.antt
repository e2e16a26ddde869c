use Rattle.std.proofs.Common.{◌-◌}
use Rattle.sstable_values.proofs.IndexLaws.{BlocksOn}
use Rattle.sstable_values.proofs.index.read_addresses.Given as goal

abbrev pub invariant-loop-i : goal.invariant-loop-i
invariant-loop-i l = BlocksOn (l.count - l._i) l.start l.first_ordinal l.taken l.vals.items l.content
