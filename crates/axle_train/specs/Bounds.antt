-- The bounds of a train. They are this project's own; 23 CFR 658.17 limits axles and groups, and not their number.
use Rattle.std.specs.Prelude.{◌≡◌, ℕ, ◌+◌, ◌≤◌, List, [], ◌∷◌, length, sum_by}
use Rattle.axle_train.specs.declared.axle.Axle.{Axle}

-- the first place is at least `least`, and each later place is above the one before it
abbrev pub RisesFrom : ℕ → List Axle → Type 0
RisesFrom least [] = Unit {0}
RisesFrom least (a ∷ rest) = (least ≤ a.place) × RisesFrom (a.place + 1) rest

-- each place is at most 3,000 in, and each weight is 1 to 200,000 lb
abbrev pub EachFits : List Axle → Type 0
EachFits [] = Unit {0}
EachFits (a ∷ rest) = (a.place ≤ 3000) × (1 ≤ a.weight) × (a.weight ≤ 200000) × EachFits rest

-- the first place is 0
abbrev pub BeginsAtZero : List Axle → Type 0
BeginsAtZero [] = Unit {0}
BeginsAtZero (a ∷ rest) = a.place ≡ 0

-- a list of axles that is a train: 2 to 32 axles, the first at 0, in rising order, each in range, at most 2,000,000 lb
pub record IsTrain (axles : List Axle) : Type 0 where
  pub many : 2 ≤ length axles
  pub few : length axles ≤ 32
  pub first : BeginsAtZero axles
  pub rising : RisesFrom 0 axles
  pub each : EachFits axles
  pub gross : sum_by (λ a. a.weight) axles ≤ 2000000
