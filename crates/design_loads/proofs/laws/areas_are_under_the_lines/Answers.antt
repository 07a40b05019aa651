use Rattle.design_loads.proofs.UnderLines.{moment_area_is, moment_area_is_parted, reaction_area_is}
use Rattle.design_loads.proofs.laws.areas_are_under_the_lines.Goals as goal

pub returns : goal.returns
returns c = record { moment = moment_area_is; parted = moment_area_is_parted; reaction = reaction_area_is }
