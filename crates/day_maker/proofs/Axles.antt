-- The axles that are made are a train.
use Rattle.std.proofs.Common.{◌≡◌, ◌≤◌, ◌+◌, ◌*◌, ◌-◌, ◌%◌, ◌∷◌, ℕ, zero, suc, List, None, refl, arith, length}
use Rattle.std.specs.Prelude.{sum_by}
use Rattle.std.specs.List.{AllByRecursion}
use Rattle.std.proofs.lemmas.List.Sums.{sum_by-cons}
use Rattle.std.proofs.lemmas.Bool.{le-leb}
use Rattle.axle_train.specs.declared.axle.Axle.{Axle}
use Rattle.axle_train.specs.Refusals.{refusal_of, rise_fault, weight_fault}
use Rattle.axle_train.specs.Trains.{axle_at}
use Rattle.day_maker.specs.Made.{axles, more_axles}
use Rattle.day_maker.specs.Making.{drawn}
use Rattle.day_writer.proofs.Trains.{IsSmall, no_fault}

-- what each axle behind the first keeps, and how many there are
weight_low : (x : ℕ) → 1 ≤ 16000 + 500 * (drawn x % 20)
weight_low x = omega arith

weight_high : (x : ℕ) → 16000 + 500 * (drawn x % 20) ≤ 25500
weight_high x = omega arith

pub more_small : (n place x : ℕ) → place + 54 * n ≤ 1000 → AllByRecursion IsSmall (more_axles n place x).0
more_small zero place x h = tt
more_small (suc n) place x h = (record { place = omega arith; weight = omega (arith, weight_high x) }, more_small n (place + 54) (drawn x) (omega arith))

rises : (n place x least i : ℕ) → least ≤ place → rise_fault least i (more_axles n place x).0 ≡ None
rises zero place x least i h = refl
rises (suc n) place x least i h = rw (le-leb least place h) (rises n (place + 54) (drawn x) (place + 1) (i + 1) (omega arith))

weighs : (n place x i : ℕ) → weight_fault i (more_axles n place x).0 ≡ None
weighs zero place x i = refl
weighs (suc n) place x i = rw (le-leb 1 (16000 + 500 * (drawn x % 20)) (weight_low x), le-leb (16000 + 500 * (drawn x % 20)) 200000 (omega (arith, weight_high x))) (weighs n (place + 54) (drawn x) (i + 1))

counts : (n place x : ℕ) → length (more_axles n place x).0 ≡ n
counts zero place x = refl
counts (suc n) place x = omega (arith, counts n (place + 54) (drawn x))

gross : (n place x : ℕ) → sum_by (λ (a : Axle). a.weight) (more_axles n place x).0 ≤ 25500 * n
gross zero place x = omega arith
gross (suc n) place x =
    let whole : sum_by (λ (a : Axle). a.weight) (more_axles (suc n) place x).0 ≡ (16000 + 500 * (drawn x % 20)) + sum_by (λ (a : Axle). a.weight) (more_axles n (place + 54) (drawn x)).0 = sum_by-cons (λ (a : Axle). a.weight) (record { place = place; weight = 16000 + 500 * (drawn x % 20) }) (more_axles n (place + 54) (drawn x)).0 in
    omega (arith, gross n (place + 54) (drawn x), weight_high x)

-- no axle stands far behind
far : (n place x i : ℕ) → (axle_at (more_axles n place x).0 i).place ≤ place + 54 * n
far zero place x i = omega arith
far (suc n) place x zero = omega arith
far (suc n) place x (suc i) = omega (arith, far n (place + 54) (drawn x) i)

far_all : (n x i : ℕ) → n ≤ 7 → (axle_at (axles n x).0 i).place ≤ 3000
unfolding axles
far_all n x zero h = omega arith
far_all n x (suc i) h = omega (arith, far n 180 x i)

-- the axles are a train
pub is_train : (n x : ℕ) → 1 ≤ n → n ≤ 7 → refusal_of (axles n x).0 ≡ None
unfolding axles
is_train n x some few =
    let behind : List Axle = (more_axles n 180 x).0 in
    let all : List Axle = record { place = 0; weight = 12000 } ∷ behind in
    let whole : sum_by (λ (a : Axle). a.weight) all ≡ 12000 + sum_by (λ (a : Axle). a.weight) behind = sum_by-cons (λ (a : Axle). a.weight) (record { place = 0; weight = 12000 }) behind in
    no_fault all (omega (arith, counts n 180 x)) (omega (arith, counts n 180 x)) (rises n 180 x 1 1 (omega arith)) (weighs n 180 x 1)
    (omega (arith, gross n 180 x)) (far_all n x (length all - 1) few)

pub axles_small : (n x : ℕ) → n ≤ 7 → AllByRecursion IsSmall (axles n x).0
unfolding axles
axles_small n x few = (record { place = omega arith; weight = omega arith }, more_small n 180 x (omega arith))

pub axles_some : (n x : ℕ) → 1 ≤ length (axles n x).0
unfolding axles
axles_some n x = omega arith
