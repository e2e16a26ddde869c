use Rattle.base_vectors.proofs.arena.a_list_and_a_map_grow_in_one_arena.Goals as goal

pub loop-number-init : goal.loop-number-init
loop-number-init g c = c.beside_laws.ensures.empty _ _ _ c.default-list.ensures c.in_ok-map.ensures.empty
