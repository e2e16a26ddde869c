use Rattle.block_addresses.proofs.WriteSteps.{Writes}
use Rattle.block_addresses.proofs.writing.write_store.Given as goal

abbrev pub invariant-loop-k : goal.invariant-loop-k
invariant-loop-k l = Writes (record { starts = l.starts; ordinals = l.ordinals }) l.k l.store.items l.packed
