use Rattle.office_tests.proofs.desks.a_look_sees_the_posting_before_it.Given as goal

abbrev pub ghosts-look_behind_a_posting : goal.ghosts-look_behind_a_posting
ghosts-look_behind_a_posting g a = record { name = a.blank.name; parts = a.blank.parts }
