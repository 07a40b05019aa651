use Rattle.office_tests.proofs.reroutes.applies_again_once_for_each_recalled_permit.Given as goal

abbrev pub ghosts-catches_up : goal.ghosts-catches_up
ghosts-catches_up g a = record { name = a.blank.name; parts = a.blank.parts }
