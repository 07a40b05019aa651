use Rattle.office_tests.proofs.desks.is_full_once_all_turns_are_taken.Given as goal

abbrev pub ghosts-take_all_turns : goal.ghosts-take_all_turns
ghosts-take_all_turns g a = record { name = a.blank.name; parts = a.blank.parts }
