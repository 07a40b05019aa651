use Rattle.office_tests.proofs.analysts.goes.Given as goal

abbrev pub ghosts-goes_in-L-Ledger : goal.ghosts-goes_in-L-Ledger
ghosts-goes_in-L-Ledger g a = record { name = a.tests.name; parts = a.tests.parts }

abbrev pub ghosts-goes_in-F-Ledger : goal.ghosts-goes_in-F-Ledger
ghosts-goes_in-F-Ledger g a = record { name = a.found.name; parts = a.found.parts }
