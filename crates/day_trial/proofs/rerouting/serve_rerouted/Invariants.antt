use Rattle.day_trial.proofs.rerouting.serve_rerouted.Given as goal

abbrev pub ghosts-serve_counted-F-Ledger : goal.ghosts-serve_counted-F-Ledger
ghosts-serve_counted-F-Ledger a = record { name = a.blanks.finder.name; parts = a.blanks.finder.parts }

abbrev pub ghosts-serve_counted-O-Ledger : goal.ghosts-serve_counted-O-Ledger
ghosts-serve_counted-O-Ledger a = record { name = a.blanks.office.name; parts = a.blanks.office.parts }
