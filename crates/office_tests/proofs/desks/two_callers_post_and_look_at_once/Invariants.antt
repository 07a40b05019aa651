use Rattle.office_tests.proofs.desks.two_callers_post_and_look_at_once.Given as goal

abbrev pub ghosts-call_at_once : goal.ghosts-call_at_once
ghosts-call_at_once g a = record { name = a.blank.name; parts = a.blank.parts }
