use Rattle.shear_peak.proofs.PeakOfPlaces.{peak_shear_is, peak_shear_alone}
use Rattle.shear_peak.proofs.peak_shear_is_a_function.Goals as goal

pub returns : goal.returns
returns c = record { peak = peak_shear_is; alone = peak_shear_alone }
