use Rattle.tantivy_stacker.proofs.arena_hashmap.ArenaHashMap.with_capacity.Goals as goal

pub returns-clause-held : goal.returns-clause-held
returns-clause-held g c = c.in_ok-shared_arena_hashmap.ensures.held c.in_ok-memory_arena.memory_arena
