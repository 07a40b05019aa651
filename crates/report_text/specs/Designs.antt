-- The report of `design`, line by line. Words are separated by one space, numbers are decimal, and each line ends with a line feed.
use Rattle.std.specs.Prelude.{◌≡◌, ℕ, List, [], ◌∷◌, ◌++◌, codes}
use Rattle.axle_train.specs.declared.axle.Axle.{Axle}
use Rattle.influence_line.specs.Fractions.{Ratio, ratio_text}
use Rattle.influence_line.specs.Peaks.{IsTrainPlaced}
use Rattle.span_rating.specs.declared.loading.Effects.{Effects}
use Rattle.span_rating.specs.Loading.{AreEffects}
use Rattle.span_rating.specs.Judgement.{fit_of}
use Rattle.design_loads.specs.declared.governing.By.{By}
use Rattle.design_loads.specs.declared.governing.By.TheVariants.{Truck, Lane, Military}
use Rattle.design_loads.specs.declared.governing.GreatestEffects.{GreatestEffects}
use Rattle.design_loads.specs.Greatest.{AreGreatest, effects_in}
use Rattle.day_text.specs.declared.check_file.CheckFile.{CheckFile}
use Rattle.day_text.specs.declared.check_file.Probe.{Probe}
use Rattle.report_text.specs.Probes.{AreTexts, rating_line, span_line}

-- the word for a design load
abbrev pub load_name : By → List ℕ
load_name Truck = codes "truck"
load_name Lane = codes "lane"
load_name Military = codes "military"

-- moment FRACTION BY, the greatest moment of the three design loads and the first load that reaches it
abbrev pub governing_moment_line : Ratio → By → List ℕ
governing_moment_line moment by = codes "moment " ++ (ratio_text moment ++ (codes " " ++ (load_name by ++ (10 ∷ []))))

-- shear FRACTION BY, the same of the end shear
abbrev pub governing_shear_line : Ratio → By → List ℕ
governing_shear_line shear by = codes "shear " ++ (ratio_text shear ++ (codes " " ++ (load_name by ++ (10 ∷ []))))

-- the first three lines on a probe: the span, and the greatest effects of the design loads on it
abbrev pub governing_text : Probe → GreatestEffects → List ℕ
governing_text probe design =
    span_line probe ++ governing_moment_line design.moment design.moment_by ++ governing_shear_line design.shear design.shear_by

-- the four lines on a probe of a truck with these effects: the last says whether they are within the rating, in thousandths of
-- the greatest effects of the design loads
abbrev pub design_text : Probe → Effects → GreatestEffects → List ℕ
design_text probe truck design =
    governing_text probe design ++ rating_line probe.rating (fit_of truck (effects_in design) probe.rating)

-- what is written of a truck on one probe, by its peaks and those of the design loads, each over all of its placements
pub record IsDesignText (axles : List Axle) (probe : Probe) (text : List ℕ) : Type 0 where
  pub truck : Effects
  pub design : GreatestEffects
  pub peaks : AreEffects (IsTrainPlaced axles) probe.inches truck
  pub greatest : AreGreatest probe.inches design
  pub lines : text ≡ design_text probe truck design

-- the report on a check file: what is written of its truck on each probe, in their order
abbrev pub IsDesignReport : CheckFile → List ℕ → Type 0
IsDesignReport file text = AreTexts (IsDesignText file.truck.load.train) file.probes text

-- no other text is the report on this file
abbrev pub IsOnlyDesignReport : CheckFile → List ℕ → Type 0
IsOnlyDesignReport file text = (other : List ℕ) → IsDesignReport file other → other ≡ text
