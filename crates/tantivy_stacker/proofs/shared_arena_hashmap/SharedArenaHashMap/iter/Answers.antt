use Rattle.tantivy_stacker.proofs.Listing.{are_entries}
use Rattle.tantivy_stacker.proofs.shared_arena_hashmap.SharedArenaHashMap.iter.Goals as goal

pub returns-clause-entries : goal.returns-clause-entries
returns-clause-entries g c = are_entries g.V.ArenaItem.SIZE g.V.ArenaItem.item g.met.V.ArenaItem.some c.args.memory_arena.now c.args.self.now c.requires
