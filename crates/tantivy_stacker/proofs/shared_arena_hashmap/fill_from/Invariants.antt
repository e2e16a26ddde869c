use Rattle.std.proofs.Common.{◌≡◌, length}
use Rattle.tantivy_stacker.specs.Maps.{Rehashes}
use Rattle.tantivy_stacker.proofs.shared_arena_hashmap.fill_from.Given as goal

abbrev pub invariant-loop-taken : goal.invariant-loop-taken
invariant-loop-taken l = Rehashes l.places l.table.items l.taken-index × (length l.table.items ≡ length l.initial.table.items)
