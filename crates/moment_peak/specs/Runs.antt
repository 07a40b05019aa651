-- A run of neighbouring axles, its vertices, and when it can be the axles on the span.
use Rattle.std.specs.Prelude.{ℕ, ◌+◌, ◌-◌, ◌*◌, ◌<◌, ◌≤◌, List, sum_by, take, drop, length}
use Rattle.axle_train.specs.declared.axle.Axle.{Axle}
use Rattle.axle_train.specs.Trains.{axle_at, spread}

-- the axles first to last
abbrev pub run : List Axle → ℕ → ℕ → List Axle
run axles first last = take (last + 1 - first) (drop first axles)

-- the weight of some axles in pounds
abbrev pub weight_in : List Axle → ℕ
weight_in axles = sum_by (λ a. a.weight) axles

-- their weight times place, in pounds times inches from the train's first axle
abbrev pub moment_in : List Axle → ℕ
moment_in axles = sum_by (λ a. a.weight * a.place) axles

-- weight times distance of the axles in front of a place
abbrev pub front_in : ℕ → List Axle → ℕ
front_in place axles = sum_by (λ a. a.weight * (place - a.place)) axles

-- weight times distance of the axles behind a place
abbrev pub back_in : ℕ → List Axle → ℕ
back_in place axles = sum_by (λ a. a.weight * (a.place - place)) axles

-- the weight of the axles first to last
abbrev pub run_weight : List Axle → ℕ → ℕ → ℕ
run_weight axles first last = weight_in (run axles first last)

-- the weight times place of the axles first to last
abbrev pub run_moment : List Axle → ℕ → ℕ → ℕ
run_moment axles first last = moment_in (run axles first last)

-- The greatest moment of a run's loads under one of them is this over 4 * weight * span. It is reached where that axle stands at the first factor, in units of 1 / (2 * weight) inch; the second is what is left to the right support. It is 0 where that place is off the span
unfoldable pub vertex_value : ℕ → ℕ → ℕ → ℕ → ℕ
vertex_value span weight front back =
    let at = weight * span + front - back in
    let rest = weight * span + back - front in
    at * rest - 2 * (front * rest + back * at)

abbrev pub run_value : ℕ → List Axle → ℕ → ℕ → ℕ → ℕ
run_value span axles k first last =
    vertex_value span (run_weight axles first last) (front_in (axle_at axles k).place (run axles first last)) (back_in (axle_at axles k).place (run axles first last))

-- an axle and a run with it
pub record IsRunWith (axles : List Axle) (k first last : ℕ) : Type 0 where
  pub from : first ≤ k
  pub to : k ≤ last
  pub within : last < length axles

-- the axles first to last can be exactly those on the span: they fit on it, and it is shorter than from the axle before them to the one after them
pub record CanBeOnSpan (span : ℕ) (axles : List Axle) (first last : ℕ) : Type 0 where
  pub ordered : first ≤ last
  pub within : last < length axles
  pub fits : spread axles first last ≤ span
  pub alone : 0 < first → last + 1 < length axles → span < spread axles (first - 1) (last + 1)
