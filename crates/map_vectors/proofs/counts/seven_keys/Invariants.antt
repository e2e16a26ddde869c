use Rattle.map_vectors.proofs.counts.seven_keys.Given as goal

abbrev pub ghosts-sought : goal.ghosts-sought
ghosts-sought g a = record { name = a.blank.name; parts = a.blank.parts }
