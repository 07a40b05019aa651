use Rattle.office_tests.proofs.calls.goes.Given as goal

abbrev pub ghosts-full_in : goal.ghosts-full_in
ghosts-full_in g a = record { name = a.blank.name; parts = a.blank.parts }
