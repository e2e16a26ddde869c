use Rattle.std.proofs.Common.{length}
use Rattle.tantivy_stacker.proofs.MapFacts.{ok_four}
use Rattle.tantivy_stacker.proofs.arena_hashmap.ArenaHashMap.new.Goals as goal

pub returns-clause-places : goal.returns-clause-places
returns-clause-places g c = ok_four c.with_capacity.result (λ m. length m.table.places) c.with_capacity.ensures.places
