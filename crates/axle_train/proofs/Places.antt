-- Places of a train's axles.
use Rattle.std.proofs.Common.{◌≡◌, ℕ, zero, suc, ◌+◌, ◌≤◌, List, [], ◌∷◌, length, take, drop, sum_by, arith, get_or-take, ◌<◌}
use Rattle.std.proofs.lemmas.List.Sums.{sum_by-take-le, sum_by-take-drop}
use Rattle.axle_train.specs.declared.axle.Axle.{Axle}
use Rattle.axle_train.specs.Bounds.{RisesFrom, EachFits}
use Rattle.axle_train.specs.Trains.{no_axle, axle_at}

-- each place is at least the first bound
pub place_least : (axles : List Axle) (least i : ℕ) → RisesFrom least axles → i < length axles → least ≤ (axle_at axles i).place
place_least [] least i rises within = omega arith
place_least (a ∷ rest) least zero rises within = rises.0
place_least (a ∷ rest) least (suc i) rises within = omega (arith, rises.0, place_least rest (a.place + 1) i rises.1 (omega arith))

-- places rise
pub place_rises : (axles : List Axle) (least i j : ℕ) → RisesFrom least axles → i < j → j < length axles → (axle_at axles i).place < (axle_at axles j).place
place_rises [] least i j rises below within = omega arith
place_rises (a ∷ rest) least zero zero rises below within = omega arith
place_rises (a ∷ rest) least zero (suc j) rises below within = omega (arith, place_least rest (a.place + 1) j rises.1 (omega arith))
place_rises (a ∷ rest) least (suc i) zero rises below within = omega arith
place_rises (a ∷ rest) least (suc i) (suc j) rises below within = place_rises rest (a.place + 1) i j rises.1 (omega arith) (omega arith)

pub axle_fits : (axles : List Axle) (i : ℕ) → EachFits axles → i < length axles → ((axle_at axles i).place ≤ 3000) × (1 ≤ (axle_at axles i).weight) × ((axle_at axles i).weight ≤ 200000)
axle_fits [] i each within = omega arith
axle_fits (a ∷ rest) zero each within = (each.0, each.1, each.2)
axle_fits (a ∷ rest) (suc i) each within = axle_fits rest i each.3 (omega arith)

abbrev weight_of : Axle → ℕ
weight_of a = a.weight

-- a group weighs no more than the whole train
pub group_light : (axles : List Axle) (i n : ℕ) → sum_by (λ a. a.weight) (take n (drop i axles)) ≤ sum_by (λ a. a.weight) axles
group_light axles i n = omega (arith, sum_by-take-le weight_of (drop i axles) n, sum_by-take-drop weight_of axles i)

pub place_ordered : (axles : List Axle) (least i j : ℕ) → RisesFrom least axles → i ≤ j → j < length axles → (axle_at axles i).place ≤ (axle_at axles j).place
place_ordered [] least i j rises below within = omega arith
place_ordered (a ∷ rest) least zero zero rises below within = omega arith
place_ordered (a ∷ rest) least zero (suc j) rises below within = omega (arith, place_least rest (a.place + 1) j rises.1 (omega arith))
place_ordered (a ∷ rest) least (suc i) zero rises below within = omega arith
place_ordered (a ∷ rest) least (suc i) (suc j) rises below within = place_ordered rest (a.place + 1) i j rises.1 (omega arith) (omega arith)

-- an axle of the first n
pub front_fits : (axles : List Axle) (n i : ℕ) → EachFits (take n axles) → length (take n axles) ≡ n → i < length (take n axles) → ((axle_at axles i).place ≤ 3000) × (1 ≤ (axle_at axles i).weight) × ((axle_at axles i).weight ≤ 200000)
front_fits axles n i each e h =
    let k : i < n = omega arith in
    let same : axle_at (take n axles) i ≡ axle_at axles i = get_or-take n axles i no_axle k in
    rw same at (axle_fits (take n axles) i each h)
