use Rattle.map_vectors.proofs.counts.no_keys.Given as goal

abbrev pub ghosts-sought_nowhere : goal.ghosts-sought_nowhere
ghosts-sought_nowhere g a = record { name = a.blank.name; parts = a.blank.parts }
