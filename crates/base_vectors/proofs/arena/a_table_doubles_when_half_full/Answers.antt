use Rattle.base_vectors.proofs.arena.a_table_doubles_when_half_full.Goals as goal

pub mutate_or_create-requires-clause-held : goal.mutate_or_create-requires-clause-held
mutate_or_create-requires-clause-held g c = c.in_ok-map.ensures.held _
