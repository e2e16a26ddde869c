use Rattle.base_vectors.proofs.arena.bytes_and_a_number_through_a_writer.Goals as goal

pub write_both-requires : goal.write_both-requires
write_both-requires g c = (c.list_laws.ensures.empty _ _ c.default-list.ensures).held
