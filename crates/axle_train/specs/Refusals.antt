-- Why a list of axles is no train: the rules one by one, what each refusal says of the list, and the first refusal, computed.
use Rattle.std.specs.Prelude.{ℕ, zero, suc, ◌+◌, ◌-◌, ◌<◌, ◌≤◌, ◌⊎◌, List, [], ◌∷◌, length, Option, Some, None, nat_lt, nat_le, ◌&&◌, ◌==◌, if◌then◌else◌, sum_by}
use Rattle.axle_train.specs.declared.axle.Axle.{Axle}
use Rattle.axle_train.specs.declared.refusal.TrainRefusal.{TrainRefusal}
use Rattle.axle_train.specs.declared.refusal.TrainRefusal.TheVariants.{TooFew, TooMany, PlaceOrder, Weight, Gross, TooLong}
use Rattle.axle_train.specs.Trains.{axle_at}

-- axle i is out of order: the first one is not at 0, a later one is not behind the axle before it
abbrev pub IsOutOfOrder : List Axle → ℕ → Type 0
IsOutOfOrder axles zero = 0 < (axle_at axles 0).place
IsOutOfOrder axles (suc i) = (axle_at axles (suc i)).place ≤ (axle_at axles i).place

-- axle i weighs less than 1 lb or more than 200,000 lb
abbrev pub IsOutOfRange : List Axle → ℕ → Type 0
IsOutOfRange axles i = ((axle_at axles i).weight < 1) ⊎ (200000 < (axle_at axles i).weight)

-- no axle breaks the rule
abbrev pub NoneBreaks : (ℕ → Type 0) → List Axle → Type 0
NoneBreaks Breaks axles = (i : ℕ) → i < length axles → ¬ Breaks i

-- `at` is the least index of an axle that breaks the rule
pub record IsLeastBreach (Breaks : ℕ → Type 0) (axles : List Axle) (at : ℕ) : Type 0 where
  pub within : at < length axles
  pub breaks : Breaks at
  pub least : (i : ℕ) → i < at → ¬ Breaks i

-- the list has as many axles as a train
abbrev pub HasTrainLength : List Axle → Type 0
HasTrainLength axles = (2 ≤ length axles) × (length axles ≤ 32)

-- what each refusal says: its rule is broken, `at` is the least index that breaks it, and no rule before it is broken
abbrev pub IsRefused : List Axle → TrainRefusal → Type 0
IsRefused axles TooFew = length axles < 2
IsRefused axles TooMany = 32 < length axles
IsRefused axles (PlaceOrder at) = HasTrainLength axles × IsLeastBreach (IsOutOfOrder axles) axles at
IsRefused axles (Weight at) =
    HasTrainLength axles × NoneBreaks (IsOutOfOrder axles) axles × IsLeastBreach (IsOutOfRange axles) axles at
IsRefused axles Gross =
    HasTrainLength axles × NoneBreaks (IsOutOfOrder axles) axles × NoneBreaks (IsOutOfRange axles) axles
    × (2000000 < sum_by (λ a. a.weight) axles)
IsRefused axles TooLong =
    HasTrainLength axles × NoneBreaks (IsOutOfOrder axles) axles × NoneBreaks (IsOutOfRange axles) axles
    × (sum_by (λ a. a.weight) axles ≤ 2000000) × (3000 < (axle_at axles (length axles - 1)).place)

-- the index of the first axle whose place is below the least that may follow
abbrev pub rise_fault : ℕ → ℕ → List Axle → Option ℕ
rise_fault least index [] = None
rise_fault least index (a ∷ rest) = if nat_le least a.place then rise_fault (a.place + 1) (index + 1) rest else Some index

-- the same, where the first place is to be 0
abbrev pub place_fault : List Axle → Option ℕ
place_fault [] = None
place_fault (a ∷ rest) = if a.place == 0 then rise_fault 1 1 rest else Some 0

-- the index of the first axle whose weight is out of range
abbrev pub weight_fault : ℕ → List Axle → Option ℕ
weight_fault index [] = None
weight_fault index (a ∷ rest) = if nat_le 1 a.weight && nat_le a.weight 200000 then weight_fault (index + 1) rest else Some index

-- what is wrong with the gross weight, or else with the length
abbrev pub total_fault : List Axle → Option TrainRefusal
total_fault axles =
    if nat_lt 2000000 (sum_by (λ a. a.weight) axles) then Some Gross
    else (if nat_lt 3000 (axle_at axles (length axles - 1)).place then Some TooLong else None)

-- a wrong weight, or else what comes after it
abbrev pub weight_refusal : Option ℕ → Option TrainRefusal → Option TrainRefusal
weight_refusal None rest = rest
weight_refusal (Some at) rest = Some (Weight at)

-- a wrong place, or else what comes after it
abbrev pub place_refusal : Option ℕ → Option TrainRefusal → Option TrainRefusal
place_refusal None rest = rest
place_refusal (Some at) rest = Some (PlaceOrder at)

-- the first rule that a list breaks
abbrev pub refusal_of : List Axle → Option TrainRefusal
refusal_of axles =
    if nat_lt (length axles) 2 then Some TooFew
    else (if nat_lt 32 (length axles) then Some TooMany
    else place_refusal (place_fault axles) (weight_refusal (weight_fault 0 axles) (total_fault axles)))
