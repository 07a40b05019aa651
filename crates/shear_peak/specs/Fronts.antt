-- Running sums over the first axles of a train.
use Rattle.std.specs.Prelude.{◌≡◌, ℕ, ◌+◌, ◌*◌, ◌<◌, ◌≤◌, List, length, sum_by, take}
use Rattle.axle_train.specs.declared.axle.Axle.{Axle}
use Rattle.axle_train.specs.Trains.{axle_at}
use Rattle.shear_peak.specs.declared.reactions.Front.{Front}
use Rattle.shear_peak.specs.declared.reactions.OnSpan.{OnSpan}

-- the sums are those of so many first axles, and are bounded by that number of the heaviest and furthest ones
pub record IsFront (axles : List Axle) (front : Front) : Type 0 where
  pub within : front.axles ≤ length axles
  pub weight : front.weight ≡ sum_by (λ a. a.weight) (take front.axles axles)
  pub moment : front.moment ≡ sum_by (λ a. a.weight * a.place) (take front.axles axles)
  pub light : front.weight ≤ 200000 * front.axles
  pub small : front.moment ≤ 600000000 * front.axles

-- the first n axles stand before a place; all others stand there or behind it
abbrev pub StandBefore : List Axle → ℕ → ℕ → Type 0
StandBefore axles n place = (i : ℕ) → i < n → (axle_at axles i).place < place

abbrev pub StandFrom : List Axle → ℕ → ℕ → Type 0
StandFrom axles n place = (i : ℕ) → n ≤ i → i < length axles → place ≤ (axle_at axles i).place

-- with axle k at the left support, these are the axles on the span: those from axle k on that stand in front of the right support
pub record AreFromLeft (axles : List Axle) (span k : ℕ) (here : OnSpan) : Type 0 where
  pub within : k < length axles
  pub before : IsFront axles here.before
  pub through : IsFront axles here.through
  pub first : here.before.axles ≡ k
  pub on : StandBefore axles here.through.axles ((axle_at axles k).place + span)
  pub past : StandFrom axles here.through.axles ((axle_at axles k).place + span)

-- with axle k at the right support, these are the axles on the span: those up to axle k that stand right of the left support
pub record AreToRight (axles : List Axle) (span k : ℕ) (here : OnSpan) : Type 0 where
  pub within : k < length axles
  pub before : IsFront axles here.before
  pub through : IsFront axles here.through
  pub last : here.through.axles ≡ k + 1
  pub off : (i : ℕ) → i < here.before.axles → (axle_at axles i).place + span ≤ (axle_at axles k).place
  pub on : (i : ℕ) → here.before.axles ≤ i → i < length axles → (axle_at axles k).place < (axle_at axles i).place + span
