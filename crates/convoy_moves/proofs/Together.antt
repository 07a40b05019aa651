-- The trucks of a convoy that fit together are a train, with exactly the gap between two of them.
use Rattle.std.proofs.Common.{◌≡◌, ℕ, zero, suc, ◌+◌, ◌-◌, ◌*◌, ◌<◌, ◌≤◌, List, [], ◌∷◌, ◌++◌, length, flat_map, sum_by, take, arith, refl, ap, sym, ◌∙◌, length-append, append-nil, append_assoc}
use Rattle.std.proofs.Math.Nat.{mul-le-mul_right}
use Rattle.std.specs.List.{AllByRecursion, range_with_len}
use Rattle.axle_train.specs.declared.axle.Axle.{Axle}
use Rattle.axle_train.specs.Bounds.{IsTrain, BeginsAtZero, RisesFrom, EachFits}
use Rattle.axle_train.specs.Trains.{axle_at}
use Rattle.axle_train.proofs.Places.{place_ordered}
use Rattle.influence_line.proofs.Totals.{total, total_is, total-append}
use Rattle.convoy_moves.specs.Convoys.{EqualTrucks, closest_axles, convoy_of, last_place, moved_back, truck_spacing}
use Rattle.convoy_moves.specs.Refusals.{FitsTogether, axles_together, gross_together}

-- what holds of each axle by its index holds of all
all_from : (P : Axle → Type 0) (axles : List Axle) → ((i : ℕ) → i < length axles → P (axle_at axles i)) → AllByRecursion P axles
all_from P [] h = tt
all_from P (a ∷ rest) h = (h 0 (omega arith), all_from P rest (λ i k. h (suc i) (omega arith)))

-- no axle stands behind the last one
all_up_to : (most : ℕ) (axles : List Axle) → RisesFrom 0 axles → last_place axles ≤ most
    → AllByRecursion (λ a. a.place ≤ most) axles
all_up_to most axles rising last =
    all_from (λ a. a.place ≤ most) axles (λ i k.
    let ordered = place_ordered axles 0 i (length axles - 1) rising (omega (arith, k)) (omega (arith, k)) in
    omega (arith, ordered, last))

-- and so none is further back than the spacing of the trucks
pub within_spacing : (c : EqualTrucks) → IsTrain c.axles → AllByRecursion (λ a. a.place ≤ truck_spacing c) c.axles
within_spacing c train = all_up_to (truck_spacing c) c.axles train.rising (omega arith)

-- the axles of n trucks, from truck k on
abbrev trucks_from : ℕ → List Axle → ℕ → ℕ → List Axle
trucks_from step axles k n = flat_map (λ k. moved_back (k * step) axles) (range_with_len k n)

length-moved : (inches : ℕ) (axles : List Axle) → length (moved_back inches axles) ≡ length axles
length-moved inches [] = refl
length-moved inches (a ∷ rest) = omega (arith, length-moved inches rest)

length-trucks : (step : ℕ) (axles : List Axle) (k n : ℕ) → length (trucks_from step axles k n) ≡ n * length axles
length-trucks step axles k zero = omega arith
length-trucks step axles k (suc n) =
    let both = length-append (moved_back (k * step) axles) (trucks_from step axles (k + 1) n) in
    omega (arith, both, length-moved (k * step) axles, length-trucks step axles (k + 1) n)

abbrev weight_of : Axle → ℕ
weight_of a = a.weight

weight-moved : (inches : ℕ) (axles : List Axle) → total weight_of (moved_back inches axles) ≡ total weight_of axles
weight-moved inches [] = refl
weight-moved inches (a ∷ rest) = omega (arith, weight-moved inches rest)

weight-trucks : (step : ℕ) (axles : List Axle) (k n : ℕ) → total weight_of (trucks_from step axles k n) ≡ n * total weight_of axles
weight-trucks step axles k zero = omega arith
weight-trucks step axles k (suc n) =
    let both = total-append weight_of (moved_back (k * step) axles) (trucks_from step axles (k + 1) n) in
    omega (arith, both, weight-moved (k * step) axles, weight-trucks step axles (k + 1) n)

rises_less : (axles : List Axle) (least m : ℕ) → RisesFrom least axles → m ≤ least → RisesFrom m axles
rises_less [] least m rises less = tt
rises_less (a ∷ rest) least m rises less = (omega (arith, rises.0, less), rises.1)

rises_moved : (inches least : ℕ) (axles : List Axle) → RisesFrom least axles → RisesFrom (inches + least) (moved_back inches axles)
rises_moved inches least [] rises = tt
rises_moved inches least (a ∷ rest) rises =
    let least = inches + (a.place + 1) in
    let later = rises_less (moved_back inches rest) least (inches + a.place + 1) (rises_moved inches (a.place + 1) rest rises.1) in
    (omega (arith, rises.0), later (omega arith))

-- axles in order, and others in order behind all of these
rises_append : (xs ys : List Axle) (least m : ℕ) → RisesFrom least xs → AllByRecursion (λ a. a.place < m) xs → least ≤ m
    → RisesFrom m ys → RisesFrom least (xs ++ ys)
rises_append [] ys least m rises before less later = rises_less ys m least later less
rises_append (a ∷ xs) ys least m rises before less later =
    (rises.0, rises_append xs ys (a.place + 1) m rises.1 before.1 (omega (arith, before.0)) later)

moved_before : (inches last m : ℕ) (axles : List Axle) → AllByRecursion (λ a. a.place ≤ last) axles → inches + last < m
    → AllByRecursion (λ a. a.place < m) (moved_back inches axles)
moved_before inches last m [] h before = tt
moved_before inches last m (a ∷ rest) h before = (omega (arith, h.0, before), moved_before inches last m rest h.1 before)

rises-trucks : (step last : ℕ) (axles : List Axle) (k n : ℕ)
    → RisesFrom 0 axles → AllByRecursion (λ a. a.place ≤ last) axles → last < step
    → RisesFrom (k * step) (trucks_from step axles k n)
rises-trucks step last axles k zero rises h before = tt
rises-trucks step last axles k (suc n) rises h before =
    let truck = moved_back (k * step) axles in
    let next = (k + 1) * step in
    let first = rises_less truck (k * step + 0) (k * step) (rises_moved (k * step) 0 axles rises) (omega arith) in
    let within = moved_before (k * step) last next axles h (omega (arith, before)) in
    let others = rises-trucks step last axles (k + 1) n rises h before in
    rises_append truck (trucks_from step axles (k + 1) n) (k * step) next first within (omega arith) others

fits_append : (xs ys : List Axle) → EachFits xs → EachFits ys → EachFits (xs ++ ys)
fits_append [] ys h k = k
fits_append (a ∷ xs) ys h k = (h.0, h.1, h.2, fits_append xs ys h.3 k)

fits_moved : (inches last : ℕ) (axles : List Axle) → AllByRecursion (λ a. a.place ≤ last) axles → inches + last ≤ 3000
    → EachFits axles → EachFits (moved_back inches axles)
fits_moved inches last [] h short fits = tt
fits_moved inches last (a ∷ rest) h short fits =
    (omega (arith, h.0, short), fits.1, fits.2, fits_moved inches last rest h.1 short fits.3)

fits-trucks : (step last : ℕ) (axles : List Axle) (k n : ℕ) → AllByRecursion (λ a. a.place ≤ last) axles → EachFits axles
    → ((i : ℕ) → i < k + n → i * step + last ≤ 3000) → EachFits (trucks_from step axles k n)
fits-trucks step last axles k zero h fits short = tt
fits-trucks step last axles k (suc n) h fits short =
    let first = fits_moved (k * step) last axles h (short k (omega arith)) fits in
    let others = fits-trucks step last axles (k + 1) n h fits (λ i less. short i (omega (arith, less))) in
    fits_append (moved_back (k * step) axles) (trucks_from step axles (k + 1) n) first others

begins_moved : (step : ℕ) (axles more : List Axle) → 1 ≤ length axles → BeginsAtZero axles
    → BeginsAtZero (moved_back (0 * step) axles ++ more)
begins_moved step [] more some first = absurd (omega (arith, some))
begins_moved step (a ∷ rest) more some first = omega (arith, first)

begins-trucks : (step : ℕ) (axles : List Axle) (n : ℕ) → 1 ≤ length axles → BeginsAtZero axles
    → BeginsAtZero (trucks_from step axles 0 n)
begins-trucks step axles zero some first = tt
begins-trucks step axles (suc n) some first = begins_moved step axles (trucks_from step axles 1 n) some first

-- the last axle of each truck is within the length of the closest convoy
in_length : (trucks last gap i : ℕ) → i < trucks → trucks * last + (trucks - 1) * gap ≤ 3000 → i * (last + gap) + last ≤ 3000
in_length zero last gap i less short = absurd (omega (arith, less))
in_length (suc t) last gap i less short =
    let rest : suc t - 1 ≡ t = omega arith in
    let whole : suc t * last + t * gap ≤ 3000 = rw rest at short in
    let before : i ≤ t = omega (arith, less) in
    omega (arith, mul-le-mul_right (last + gap) before, whole)

-- trucks that fit together are a train
pub is_train : (c : EqualTrucks) → IsTrain c.axles → 2 ≤ c.trucks → 1 ≤ c.gap → FitsTogether c → IsTrain (closest_axles c)
is_train c train several apart fits =
    let step = truck_spacing c in
    let last = last_place c.axles in
    let many = length-trucks step c.axles 0 c.trucks in
    let within = all_up_to last c.axles train.rising (omega arith) in
    let rising = rises-trucks step last c.axles 0 c.trucks train.rising within (omega (arith, apart)) in
    let weight = weight-trucks step c.axles 0 c.trucks in
    let within_length = λ (i : ℕ) (less : i < 0 + c.trucks). in_length c.trucks last c.gap i (omega (arith, less)) fits.short in
    let light : c.trucks * total weight_of c.axles ≤ 2000000 = rw (total_is weight_of c.axles) fits.light in
    record {
      many = omega (arith, many, train.many, mul-le-mul_right (length c.axles) several);
      few = omega (arith, many, fits.few);
      first = begins-trucks step c.axles c.trucks (omega (arith, train.many)) train.first;
      rising = rises_less (closest_axles c) (0 * step) 0 rising (omega arith);
      each = fits-trucks step last c.axles 0 c.trucks within train.each within_length;
      gross = omega (arith, weight, total_is weight_of (closest_axles c), light);
    }

-- how many axles the closest convoy has, and what it weighs
pub axles_of_all : (c : EqualTrucks) → length (closest_axles c) ≡ axles_together c.axles c.trucks
axles_of_all c = length-trucks (truck_spacing c) c.axles 0 c.trucks

pub gross_of_all : (c : EqualTrucks) → sum_by (λ a. a.weight) (closest_axles c) ≡ gross_together c.axles c.trucks
gross_of_all c =
    let all = weight-trucks (truck_spacing c) c.axles 0 c.trucks in
    let one : c.trucks * total weight_of c.axles ≡ gross_together c.axles c.trucks = ap (λ n. c.trucks * n) (total_is weight_of c.axles) in
    sym (total_is weight_of (closest_axles c)) ∙ all ∙ one

-- one truck more
trucks_more : (step : ℕ) (axles : List Axle) (k n j : ℕ) → k + n ≡ j
    → trucks_from step axles k (suc n) ≡ trucks_from step axles k n ++ moved_back (j * step) axles
trucks_more step axles k zero j at =
    let same : k ≡ j = omega arith in
    append-nil (moved_back (k * step) axles) ∙ ap (λ i. moved_back (i * step) axles) same
trucks_more step axles k (suc n) j at =
    let truck = moved_back (k * step) axles in
    ap (λ l. truck ++ l) (trucks_more step axles (k + 1) n j (omega (arith, at)))
    ∙ sym (append_assoc truck (trucks_from step axles (k + 1) n) (moved_back (j * step) axles))

-- the axles of k trucks stand in front, and those of one more are written behind them
pub put_more : (new old axles : List Axle) (k len spacing gap : ℕ) → len ≡ length axles → spacing ≡ last_place axles + gap
    → take (k * len) old ≡ closest_axles (convoy_of axles k gap)
    → take (k * len + length axles) new ≡ take (k * len) old ++ moved_back (k * spacing) axles
    → take ((k + 1) * len) new ≡ closest_axles (convoy_of axles (k + 1) gap)
put_more new old axles k len spacing gap many apart before put =
    let step = last_place axles + gap in
    let end : (k + 1) * len ≡ k * len + length axles = omega arith in
    let on : k + 1 ≡ suc k = omega arith in
    let more = ap (trucks_from step axles 0) on ∙ trucks_more step axles 0 k k (omega arith) in
    ap (λ n. take n new) end ∙ put ∙ rw (before, apart) (sym more)
