use Rattle.std.proofs.Common.{◌≡◌, drop}
use Rattle.report_text.specs.Summaries.{last_version_from}
use Rattle.report_text.proofs.trial.last_version.Given as goal

abbrev pub invariant-history : goal.invariant-history
invariant-history l = last_version_from l.last (drop l.entry-index l.history) ≡ last_version_from 0 l.history
