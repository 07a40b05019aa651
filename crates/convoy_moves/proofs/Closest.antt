-- The closest convoy is one train, and its peaks are those of all placements of the convoy.
use Rattle.std.proofs.Common.{◌≡◌, ℕ, zero, suc, ◌+◌, ◌*◌, ◌≤◌, List, [], ◌∷◌, length, flat_map, sum_by, arith, refl, ap, ◌∙◌, ℤ, pos, ◌+ℤ◌}
use Rattle.std.proofs.Math.Nat.{mul-le-mul_right}
use Rattle.std.proofs.lemmas.Int.{ints}
use Rattle.std.proofs.lemmas.List.{map-append}
use Rattle.std.specs.List.{range_with_len}
use Rattle.axle_train.specs.Bounds.{IsTrain}
use Rattle.axle_train.specs.declared.axle.Axle.{Axle}
use Rattle.influence_line.specs.Placed.{moment_line, placed}
use Rattle.influence_line.specs.Reactions.{reaction_line}
use Rattle.influence_line.specs.Peaks.{IsPeakMoment, IsPeakShear, IsTrainPlaced}
use Rattle.influence_line.proofs.Totals.{total, total_is}
use Rattle.convoy_moves.specs.Convoys.{EqualTrucks, AreBehind, AreApart, IsConvoyPlaced, IsConvoyKept, StandsAsConvoy, closest_axles, convoy_loads, moved_back, truck_spacing}
use Rattle.convoy_moves.proofs.Unimodal.{IsUnimodal, moment_unimodal, reaction_unimodal, support_at}
use Rattle.convoy_moves.proofs.Closing.{by_line, of_trucks, of_trucks_is, even_leads, closes_up}
use Rattle.convoy_moves.proofs.Together.{within_spacing}

-- axles that are moved back stand as those of a truck with a later lead
back_at : (q inches place : ℕ) (lead : ℤ) → lead +ℤ pos (q * (inches + place)) ≡ (lead +ℤ pos (q * inches)) +ℤ pos (q * place)
back_at q inches place lead = omega (arith, ints)

moved_back_is : (q inches : ℕ) (lead : ℤ) (axles : List Axle)
    → placed q lead (moved_back inches axles) ≡ placed q (lead +ℤ pos (q * inches)) axles
moved_back_is q inches lead [] = refl
moved_back_is q inches lead (a ∷ rest) = rw (back_at q inches a.place lead, moved_back_is q inches lead rest) refl

-- n trucks from truck k on, with exactly the gap between two of them, stand at even leads
next_lead : (q k step : ℕ) (lead : ℤ) → lead +ℤ pos (q * ((k + 1) * step)) ≡ (lead +ℤ pos (q * (k * step))) +ℤ pos (q * step)
next_lead q k step lead = omega (arith, ints)

placed_together : (q step : ℕ) (lead : ℤ) (axles : List Axle) (k n : ℕ)
    → placed q lead (flat_map (λ k. moved_back (k * step) axles) (range_with_len k n))
    ≡ convoy_loads q axles (even_leads (q * step) (lead +ℤ pos (q * (k * step))) n)
placed_together q step lead axles k zero = refl
placed_together q step lead axles k (suc n) =
    map-append _ (moved_back (k * step) axles) (flat_map (λ k. moved_back (k * step) axles) (range_with_len (k + 1) n))
    ∙ rw (moved_back_is q (k * step) lead axles, placed_together q step lead axles (k + 1) n, next_lead q k step lead) refl

first_lead : (q step : ℕ) (lead : ℤ) → lead +ℤ pos (q * (0 * step)) ≡ lead
first_lead q step lead = omega (arith, ints)

closest_is : (q : ℕ) (lead : ℤ) (c : EqualTrucks)
    → placed q lead (closest_axles c) ≡ convoy_loads q c.axles (even_leads (q * truck_spacing c) lead c.trucks)
closest_is q lead c =
    placed_together q (truck_spacing c) lead c.axles 0 c.trucks
    ∙ ap (λ z. convoy_loads q c.axles (even_leads (q * truck_spacing c) z c.trucks)) (first_lead q (truck_spacing c) lead)

even_length : (units : ℕ) (lead : ℤ) (n : ℕ) → length (even_leads units lead n) ≡ n
even_length units lead zero = refl
even_length units lead (suc n) = ap suc (even_length units (lead +ℤ pos units) n)

even_behind : (units : ℕ) (lead : ℤ) (n : ℕ) → AreBehind units lead (even_leads units (lead +ℤ pos units) n)
even_behind units lead zero = tt
even_behind units lead (suc n) = (omega (arith, ints), even_behind units (lead +ℤ pos units) n)

even_apart : (units : ℕ) (lead : ℤ) (n : ℕ) → AreApart units (even_leads units lead n)
even_apart units lead zero = tt
even_apart units lead (suc n) = even_behind units lead n

-- the closest convoy, wherever it stands, is a placement of the convoy
stands_as_convoy : (c : EqualTrucks) → StandsAsConvoy c (closest_axles c)
stands_as_convoy c q lead =
    let units = q * truck_spacing c in
    (even_leads units lead c.trucks, even_length units lead c.trucks, even_apart units lead c.trucks, closest_is q lead c)

-- the closest convoy has a lead at which it gives no less than trucks at these leads
abbrev GivesNoLess : (ℤ → ℕ) → EqualTrucks → ℕ → List ℤ → Type 0
GivesNoLess line c q leads =
    (from : ℤ) × (sum_by (by_line line) (convoy_loads q c.axles leads) ≤ sum_by (by_line line) (placed q from (closest_axles c)))

-- it has one for each placement of the convoy
gives_no_less : (line : ℤ → ℕ) (top : ℕ) → IsUnimodal line top → (c : EqualTrucks) → IsTrain c.axles
    → (q : ℕ) (leads : List ℤ) → length leads ≡ c.trucks → AreApart (q * truck_spacing c) leads → GivesNoLess line c q leads
gives_no_less line top hump c truck q [] many apart = (pos 0, omega arith)
gives_no_less line top hump c truck q (lead ∷ rest) many apart =
    let up = closes_up line top hump q (truck_spacing c) c.axles lead rest (within_spacing c truck) apart in
    let even = even_leads (q * truck_spacing c) up.from in
    let trucks = ap (λ n. of_trucks line q c.axles (even n)) many in
    let train = ap (total (by_line line)) (closest_is q up.from c) in
    let these = of_trucks_is line q c.axles (lead ∷ rest) in (
      up.from,
      omega (arith, up.no_less, trucks, train, these, of_trucks_is line q c.axles (even c.trucks), total_is (by_line line) (convoy_loads q c.axles (lead ∷ rest)), total_is (by_line line) (placed q up.from (closest_axles c))),
    )

-- the closest train that a convoy keeps stands as the convoy
pub kept_stands : (c : EqualTrucks) (closest : List Axle) → IsConvoyKept c closest → StandsAsConvoy c closest
kept_stands c closest kept = rw kept.together (stands_as_convoy c)

-- its peak moment is that of all placements of the convoy
pub kept_moment : (c : EqualTrucks) (closest : List Axle) (span num den : ℕ) → IsConvoyKept c closest
    → IsPeakMoment (IsTrainPlaced closest) span num den → IsPeakMoment (IsConvoyPlaced c) span num den
kept_moment c closest span num den kept peak =
    let h : IsPeakMoment (IsTrainPlaced (closest_axles c)) span num den = rw kept.together at peak in
    let r = h.reached in
    record {
      some = h.some;
      reached = (r.0, r.1, r.2, r.3, r.4, rw r.5.1 (stands_as_convoy c r.0 r.5.0), r.6);
      greatest = λ q section loads some within is_placed.
          let less = gives_no_less (moment_line (q * span) section) section (moment_unimodal (q * span) section within) c kept.truck q is_placed.0 is_placed.1 is_placed.2 in
          let bound = h.greatest q section (placed q less.0 (closest_axles c)) some within (less.0, refl) in
          rw is_placed.3 (omega (arith, mul-le-mul_right den less.1, bound));
    }

-- and so is its peak end shear
pub kept_shear : (c : EqualTrucks) (closest : List Axle) (span num den : ℕ) → IsConvoyKept c closest
    → IsPeakShear (IsTrainPlaced closest) span num den → IsPeakShear (IsConvoyPlaced c) span num den
kept_shear c closest span num den kept peak =
    let h : IsPeakShear (IsTrainPlaced (closest_axles c)) span num den = rw kept.together at peak in
    let r = h.reached in
    record {
      some = h.some;
      reached = (r.0, r.1, r.2, r.3, rw r.4.1 (stands_as_convoy c r.0 r.4.0), r.5);
      greatest = λ q end loads some is_placed.
          let less = gives_no_less (reaction_line (q * span) end) (support_at (q * span) end) (reaction_unimodal (q * span) end) c kept.truck q is_placed.0 is_placed.1 is_placed.2 in
          let bound = h.greatest q end (placed q less.0 (closest_axles c)) some (less.0, refl) in
          rw is_placed.3 (omega (arith, mul-le-mul_right den less.1, bound));
    }
