use Rattle.trip_analysis.proofs.Found.{found_holds, found_in_range}
use Rattle.trip_analysis.proofs.OneFinding.{one_finding}
use Rattle.trip_analysis.proofs.laws.findings_hold.Goals as goal

pub returns : goal.returns
returns c = record { one = one_finding; range = found_in_range; holds = found_holds }
