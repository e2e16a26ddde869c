use Rattle.tantivy_stacker.specs.Beside.{AreBeside}
use Rattle.base_vectors.proofs.arena.a_list_and_a_map_grow_in_one_arena.Given as goal

abbrev pub invariant-loop-number : goal.invariant-loop-number
invariant-loop-number g l = AreBeside 4 l.arena l.list l.map
