use Rattle.base_vectors.proofs.arena.parts_of_a_list.Goals as goal

pub append-requires : goal.append-requires
append-requires g c = (c.list_laws.ensures.empty _ _ c.default-list.ensures).held
