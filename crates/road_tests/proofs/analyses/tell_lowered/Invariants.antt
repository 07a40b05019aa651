use Rattle.road_tests.proofs.analyses.tell_lowered.Given as goal

abbrev pub ghosts-tell_all : goal.ghosts-tell_all
ghosts-tell_all g a = record { name = a.blank.name; parts = a.blank.parts }
