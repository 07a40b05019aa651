use Rattle.design_loads.proofs.OneLane.{lane_is_the_peaks, lane_is_one}
use Rattle.design_loads.proofs.Choosing.{greatest_is_of_the_peaks, greatest_is_one}
use Rattle.design_loads.proofs.laws.design_loads_are_the_peaks.Goals as goal

pub returns : goal.returns
returns c = record {
  lane = lane_is_the_peaks;
  lane_alone = lane_is_one;
  greatest = greatest_is_of_the_peaks;
  greatest_alone = greatest_is_one;
}
