use Rattle.trip_analysis.proofs.Meanings.{asked_fail_first, asked_meet}
use Rattle.trip_analysis.proofs.laws.asked_findings_are_of_the_routes.Goals as goal

pub returns : goal.returns
returns c = record { route = asked_meet; fails = asked_fail_first }
