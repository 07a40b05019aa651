-- The trucks that go on, by their places.
use Rattle.std.proofs.Common.{◌≡◌, ◌<◌, ◌≤◌, ◌+◌, ◌∷◌, [], ℕ, zero, suc, List, Bool, true, false, cond, not, ◌||◌, map, filter, length, get_or, refl, ap, sym, ◌∙◌, Some, None, inl, inr, arith}
use Rattle.std.specs.Prelude.{All, ◌==◌, position, unwrap_or}
use Rattle.std.specs.List.{list_any, position_or_len, range_with_len}
use Rattle.std.proofs.lemmas.Bool.{cases_eq, eq-eqb, eqb-true, false≢true, lt-ltb, or_right}
use Rattle.std.proofs.lemmas.List.{get_or-map, length-map}
use Rattle.std.proofs.lemmas.List.Quantifiers.{position-Some}
use Rattle.std.proofs.lemmas.Option.{slice_get-get_or}
use Rattle.trip_analysis.specs.Bases.{BaseLists, no_truck, truck_of}
use Rattle.trip_analysis.specs.Findings.{is_number_among}
use Rattle.trip_analysis.proofs.Found.{is_in_from_among}
use Rattle.next_day.specs.NextDay.{place_among, trucks_kept, trucks_of}
use Rattle.next_day.specs.Standing.{Standing}

any_within : (p : ℕ → Bool) (xs : List ℕ) → list_any p xs ≡ true → position_or_len p xs < length xs
any_within p [] e = absurd (false≢true e)
any_within p (x ∷ xs) e = by (p x) e (any_within p xs)
  where
    by : (b : Bool) → (b || list_any p xs) ≡ true → (list_any p xs ≡ true → position_or_len p xs < length xs) → cond (not b) (1 + position_or_len p xs) 0 < suc (length xs)
    by true e rest = omega arith
    by false e rest = omega (arith, rest e)

-- the first place of a number
first_place : (kept : List ℕ) (truck : ℕ) → is_number_among truck kept ≡ true → position (λ t. t == truck) kept ≡ Some (position_or_len (λ t. t == truck) kept)
first_place kept truck on = ap (λ b. cond b (Some (position_or_len (λ t. t == truck) kept)) None) (lt-ltb (position_or_len (λ t. t == truck) kept) (length kept) (any_within (λ t. t == truck) kept on))

module _ (kept : List ℕ) (truck : ℕ) (on : is_number_among truck kept ≡ true) where
  place_is : position (λ t. t == truck) kept ≡ Some (place_among kept truck)
  place_is = let is = first_place kept truck on in is ∙ ap Some (sym (ap (λ o. unwrap_or o 0) is))

  pub place_there : place_among kept truck < length kept
  place_there = (position-Some (λ t. t == truck) kept (place_among kept truck) 0 place_is).0

  number_there : get_or kept (place_among kept truck) 0 ≡ truck
  number_there = eqb-true (get_or kept (place_among kept truck) 0) truck (position-Some (λ t. t == truck) kept (place_among kept truck) 0 place_is).1

  -- a truck that goes on is the one at its place
  pub same_truck : (base : BaseLists) → get_or (map (truck_of base) kept) (place_among kept truck) no_truck ≡ truck_of base truck
  same_truck base = get_or-map (truck_of base) kept (place_among kept truck) 0 no_truck place_there ∙ ap (truck_of base) number_there

  pub place_within : (base : BaseLists) → place_among kept truck < length (map (truck_of base) kept)
  place_within base = omega (arith, place_there, length-map kept (truck_of base))

-- a number that passes a test is among those that do
among_passing : (test : ℕ → Bool) (xs : List ℕ) (n : ℕ) → is_number_among n xs ≡ true → test n ≡ true → is_number_among n (filter test xs) ≡ true
among_passing test [] n on passes = on
among_passing test (x ∷ xs) n on passes = by (x == n) refl (test x) refl on (λ rest. among_passing test xs n rest passes)
  where
    by : (b : Bool) → (x == n) ≡ b → (c : Bool) → test x ≡ c → (b || is_number_among n xs) ≡ true → (is_number_among n xs ≡ true → is_number_among n (filter test xs) ≡ true)
        → is_number_among n (cond c (x ∷ filter test xs) (filter test xs)) ≡ true
    by true same true on' e rest = ap (λ d. d || is_number_among n (filter test xs)) same
    by true same false off e rest = let is : x ≡ n = eqb-true x n same in absurd (false≢true (sym off ∙ (ap test is ∙ passes)))
    by false apart true on' e rest = or_right (x == n) (is_number_among n (filter test xs)) (rest e)
    by false apart false off e rest = rest e

among_range : (a k n : ℕ) → a ≤ n → n < a + k → is_number_among n (range_with_len a k) ≡ true
among_range a zero n low high = absurd (omega (arith, low, high))
among_range a (suc k) n low high = elim (cases_eq n a) [
  | inl same ↦ ap (λ b. b || is_number_among n (range_with_len (a + 1) k)) (eq-eqb a n (sym same))
  | inr apart ↦ or_right (a == n) (is_number_among n (range_with_len (a + 1) k)) (among_range (a + 1) k n (omega (arith, low, apart)) (omega (arith, high)))
]

-- the truck of each of these permits is there, so it goes on
pub each_kept : (only : Bool) (trucks : ℕ) (standing : List Standing) → All (λ p. p.trip.truck < trucks) standing
    → All (λ p. is_number_among p.trip.truck (trucks_kept only trucks standing) ≡ true) standing
each_kept only trucks standing there k d within =
    let truck = (get_or standing k d).trip.truck in
    let many : k < length (trucks_of standing) = omega (arith, within, length-map standing (λ (p : Standing). p.trip.truck)) in
    let at = slice_get-get_or (trucks_of standing) k 0 many ∙ ap Some (get_or-map (λ (p : Standing). p.trip.truck) standing k d 0 within) in
    among_passing (λ t. not only || is_number_among t (trucks_of standing)) (range_with_len 0 trucks) truck
    (among_range 0 trucks truck (omega arith) (omega (arith, there k d within)))
    (or_right (not only) (is_number_among truck (trucks_of standing)) (is_in_from_among truck (trucks_of standing) k at))
