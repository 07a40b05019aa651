use Rattle.moment_peak.proofs.PeakOfPlaces.{peak_moment_is, peak_moment_alone}
use Rattle.moment_peak.proofs.peak_moment_is_a_function.Goals as goal

pub returns : goal.returns
returns c = record { peak = peak_moment_is; alone = peak_moment_alone }
