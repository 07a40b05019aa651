use Rattle.road_tests.proofs.limits.limit_after.Given as goal

abbrev pub ghosts-limit_on : goal.ghosts-limit_on
ghosts-limit_on g a = record { name = a.blank.name; parts = a.blank.parts }
