-- What a study says of a train on spans of one length, and what it keeps of it.
use Rattle.std.specs.Prelude.{◌≡◌, ℕ, ◌+◌, List, Option, Vec, IfSome, length, slice_index}
use Rattle.std.specs.Global.{Global}
use Rattle.axle_train.specs.declared.axle.Axle.{Axle}
use Rattle.influence_line.specs.Peaks.{IsTrainPlaced, IsHs20Placed}
use Rattle.span_rating.specs.declared.loading.Study.{Study}
use Rattle.span_rating.specs.Loading.{AreEffects, AreEffectsOfSomeTrain}
use Rattle.span_rating.specs.Carrying.{CarriesFrom}

-- the study has the peaks of the train on spans of so many inches, and those of the HS20-44 truck
pub record IsStudyOf (axles : List Axle) (inches : ℕ) (study : Study) : Type 0 where
  pub truck : AreEffects (IsTrainPlaced axles) inches study.truck
  pub design : AreEffects IsHs20Placed inches study.design
  pub design_train : AreEffectsOfSomeTrain inches study.design

-- what is kept for spans of so many inches: 0 says nothing, and any other number is one more than the least rating with which
-- they carry the truck
abbrev pub IsNumberFor : List Axle → ℕ → ℕ → Type 0
IsNumberFor axles inches number = (least : ℕ) → number ≡ least + 1 → CarriesFrom axles inches least

-- a table of what is kept, with a number for each length from 0 to 6,000 inches
pub record IsTable (axles : List Axle) (numbers : List ℕ) : Type 0 where
  pub many : length numbers ≡ 6001
  pub each : (inches : ℕ) → IsNumberFor axles inches (slice_index numbers inches)

-- a study keeps such a table, or nothing
abbrev pub IsTableKept : List Axle → Option (Vec ℕ Global) → Type 0
IsTableKept axles numbers = IfSome numbers (λ table. IsTable axles table.items)

-- a table says all that is kept, whose train ever it is
abbrev pub SaysAllOf : Option (Vec ℕ Global) → List ℕ → Type 0
SaysAllOf numbers table = (axles : List Axle) → IsTableKept axles numbers → IsTable axles table
