use Rattle.shear_peak.proofs.OneShear.{shear_peak_is_one}
use Rattle.shear_peak.proofs.peak_is_one.Goals as goal

pub returns : goal.returns
returns c = shear_peak_is_one
