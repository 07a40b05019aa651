use Rattle.axle_limits.proofs.Tridems.{tridem_is_computed}
use Rattle.axle_limits.proofs.laws.tridem_is_computed.Goals as goal

pub returns : goal.returns
returns c = tridem_is_computed
