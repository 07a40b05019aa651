use Rattle.journal_audit.proofs.auditing.go_through.Given as goal

abbrev pub ghosts-judge_all : goal.ghosts-judge_all
ghosts-judge_all a = record { name = a.blank.name; parts = a.blank.parts }
