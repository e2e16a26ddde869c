use Rattle.base_vectors.proofs.arena.add_entry.Goals as goal

pub returns : goal.returns
returns c = (c.beside_laws.ensures.map _ _ _ _ _ c.requires c.in_ok-mutate_or_create.ensures.write).0
