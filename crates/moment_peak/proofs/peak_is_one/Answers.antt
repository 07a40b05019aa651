use Rattle.moment_peak.proofs.OnePeak.{moment_peak_is_one}
use Rattle.moment_peak.proofs.peak_is_one.Goals as goal

pub returns : goal.returns
returns c = moment_peak_is_one
