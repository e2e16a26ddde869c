use Rattle.fst_map.proofs.opened.Fst.first_at_or_above.Given as goal

abbrev pub ghosts-sought : goal.ghosts-sought
ghosts-sought a = record { name = a.blank.name; parts = a.blank.parts }
