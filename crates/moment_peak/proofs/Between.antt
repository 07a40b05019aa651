-- The places of the axles of a run, and what they say of its sums.
use Rattle.std.proofs.Common.{◌≡◌, ℕ, zero, suc, ◌+◌, ◌-◌, ◌*◌, ◌<◌, ◌≤◌, List, [], ◌∷◌, ◌++◌, length, take, drop, arith, refl, ap}
use Rattle.std.proofs.Math.Nat.{mul-le-mul_left}
use Rattle.std.proofs.Math.Seq.{take-add}
use Rattle.std.proofs.lemmas.List.{drop-drop}
use Rattle.std.specs.List.{AllByRecursion}
use Rattle.axle_train.specs.declared.axle.Axle.{Axle}
use Rattle.axle_train.specs.Bounds.{RisesFrom}
use Rattle.axle_train.specs.Trains.{axle_at}
use Rattle.axle_train.proofs.Places.{place_least}
use Rattle.influence_line.proofs.Totals.{total}
use Rattle.moment_peak.specs.Runs.{run}
use Rattle.moment_peak.proofs.Runs.{weight_of, front_of, back_of}

-- places rise from each axle on
pub rises_on : (axles : List Axle) (least i : ℕ) → RisesFrom least axles → i < length axles → RisesFrom (axle_at axles i).place (drop i axles)
rises_on [] least i rises within = absurd (omega arith)
rises_on (a ∷ rest) least zero rises within = (omega arith, rises.1)
rises_on (a ∷ rest) least (suc i) rises within = rises_on rest (a.place + 1) i rises.1 (omega arith)

rises_less : (axles : List Axle) (m least : ℕ) → m ≤ least → RisesFrom least axles → RisesFrom m axles
rises_less [] m least h rises = tt
rises_less (a ∷ rest) m least h rises = (omega (arith, rises.0), rises.1)

-- an axle at or behind a place, and one at or in front of it
abbrev pub IsFrom : ℕ → Axle → Type 0
IsFrom place a = place ≤ a.place

abbrev pub IsUpTo : ℕ → Axle → Type 0
IsUpTo place a = a.place ≤ place

pub all_from : (axles : List Axle) (least : ℕ) → RisesFrom least axles → AllByRecursion (IsFrom least) axles
all_from [] least rises = tt
all_from (a ∷ rest) least rises = (rises.0, all_from rest least (rises_less rest least (a.place + 1) (omega (arith, rises.0)) rises.1))

pub all_up_to : (axles : List Axle) (least n end : ℕ) → RisesFrom least axles → n ≤ end + 1 → end < length axles → AllByRecursion (IsUpTo (axle_at axles end).place) (take n axles)
all_up_to [] least n end rises h within = absurd (omega arith)
all_up_to (a ∷ rest) least zero end rises h within = tt
all_up_to (a ∷ rest) least (suc n) zero rises h within =
    let none : n ≡ 0 = omega arith in
    rw none (omega arith, tt)
all_up_to (a ∷ rest) least (suc n) (suc end) rises h within = (omega (arith, place_least rest (a.place + 1) end rises.1 (omega arith)), all_up_to rest (a.place + 1) n end rises.1 (omega arith) (omega arith))

pub all_take : (P : Axle → Type 0) (n : ℕ) (axles : List Axle) → AllByRecursion P axles → AllByRecursion P (take n axles)
all_take P zero axles h = tt
all_take P (suc n) [] h = tt
all_take P (suc n) (a ∷ rest) h = (h.0, all_take P n rest h.1)

-- nothing is in front of a place before all axles, and nothing behind one after them
pub no_front : (place : ℕ) (axles : List Axle) → AllByRecursion (IsFrom place) axles → total (front_of place) axles ≡ 0
no_front place [] h = refl
no_front place (a ∷ rest) h =
    let none : place - a.place ≡ 0 = omega (arith, h.0) in
    omega (arith, ap (λ t. a.weight * t) none, no_front place rest h.1)

pub no_back : (place : ℕ) (axles : List Axle) → AllByRecursion (IsUpTo place) axles → total (back_of place) axles ≡ 0
no_back place [] h = refl
no_back place (a ∷ rest) h =
    let none : a.place - place ≡ 0 = omega (arith, h.0) in
    omega (arith, ap (λ t. a.weight * t) none, no_back place rest h.1)

-- the sums about a place are at most the weight times the greatest distance
pub front_most : (place least far : ℕ) (axles : List Axle) → AllByRecursion (IsFrom least) axles → place ≤ least + far → total (front_of place) axles ≤ total weight_of axles * far
front_most place least far [] h k = omega arith
front_most place least far (a ∷ rest) h k =
    let gap : place - a.place ≤ far = omega (arith, h.0) in
    omega (arith, mul-le-mul_left a.weight gap, front_most place least far rest h.1 k)

pub back_most : (place end far : ℕ) (axles : List Axle) → AllByRecursion (IsUpTo end) axles → end ≤ place + far → total (back_of place) axles ≤ total weight_of axles * far
back_most place end far [] h k = omega arith
back_most place end far (a ∷ rest) h k =
    let gap : a.place - place ≤ far = omega (arith, h.0) in
    omega (arith, mul-le-mul_left a.weight gap, back_most place end far rest h.1 k)

-- a run is its axles before one of them, and those from that one on
pub run_parts : (axles : List Axle) (first k last : ℕ) → first ≤ k → k ≤ last → run axles first last ≡ take (k - first) (drop first axles) ++ run axles k last
run_parts axles first k last from to =
    let n : last + 1 - first ≡ (k - first) + (last + 1 - k) = omega arith in
    let here : first + (k - first) ≡ k = omega arith in
    rw (n, take-add (k - first) (last + 1 - k) (drop first axles), drop-drop (k - first) first axles, here) refl
