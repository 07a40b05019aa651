use Rattle.road_tests.proofs.analyses.follow_store.Given as goal

abbrev pub ghosts-follow_entries : goal.ghosts-follow_entries
ghosts-follow_entries g a = record { name = a.blank.name; parts = a.blank.parts }
