use Rattle.hs20_truck.proofs.OneEffects.{effects_are_the_peaks, design_is_the_peaks, effects_are_one, design_is_one}
use Rattle.hs20_truck.proofs.effects_are_the_peaks.Goals as goal

pub returns : goal.returns
returns c = record {
  train = effects_are_the_peaks;
  design = design_is_the_peaks;
  train_alone = effects_are_one;
  design_alone = design_is_one;
}
