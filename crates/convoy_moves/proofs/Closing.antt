-- Trucks that close up towards the top of an influence line never lower what they give together.
use Rattle.std.proofs.Common.{◌≡◌, ℕ, zero, suc, ◌+◌, ◌*◌, ◌≤◌, List, [], ◌∷◌, length, arith, refl, ℤ, pos, ◌+ℤ◌, ◌-ℤ◌, ◌≤ℤ◌, inl, inr, ◌⊎◌}
use Rattle.std.proofs.Math.Nat.{mul-le-mul_left}
use Rattle.std.proofs.lemmas.Int.{ints}
use Rattle.std.specs.List.{AllByRecursion}
use Rattle.axle_train.specs.declared.axle.Axle.{Axle}
use Rattle.influence_line.specs.Placed.{placed, Load}
use Rattle.influence_line.proofs.Totals.{total, total-append}
use Rattle.influence_line.proofs.ReactionLines.{either_side}
use Rattle.convoy_moves.specs.Convoys.{AreBehind, convoy_loads}
use Rattle.convoy_moves.proofs.Unimodal.{IsUnimodal}

-- what a load gives where its influence line is this one
abbrev pub by_line : (ℤ → ℕ) → Load → ℕ
by_line line l = l.weight * line l.at

-- what one truck gives at a lead
abbrev pub of_truck : (ℤ → ℕ) → ℕ → List Axle → ℤ → ℕ
of_truck line q axles lead = total (by_line line) (placed q lead axles)

-- what the trucks at these leads give together
abbrev pub of_trucks : (ℤ → ℕ) → ℕ → List Axle → List ℤ → ℕ
of_trucks line q axles [] = 0
of_trucks line q axles (lead ∷ rest) = of_truck line q axles lead + of_trucks line q axles rest

pub of_trucks_is : (line : ℤ → ℕ) (q : ℕ) (axles : List Axle) (leads : List ℤ)
    → total (by_line line) (convoy_loads q axles leads) ≡ of_trucks line q axles leads
of_trucks_is line q axles [] = refl
of_trucks_is line q axles (lead ∷ rest) =
    omega (arith, total-append (by_line line) (placed q lead axles) (convoy_loads q axles rest), of_trucks_is line q axles rest)

-- so many leads from this one on, each exactly so many units behind the one before it
abbrev pub even_leads : ℕ → ℤ → ℕ → List ℤ
even_leads units lead zero = []
even_leads units lead (suc n) = lead ∷ even_leads units (lead +ℤ pos units) n

module _ (line : ℤ → ℕ) (top : ℕ) (hump : IsUnimodal line top) (q step : ℕ) where
  -- a truck moves left, and no axle of it past the top
  truck_leftward : (lead new : ℤ) (axles : List Axle) → new ≤ℤ lead → pos top ≤ℤ new
      → of_truck line q axles lead ≤ of_truck line q axles new
  truck_leftward lead new [] left near = omega arith
  truck_leftward lead new (a ∷ rest) left near =
      let back : ℤ = pos (q * a.place) in
      let one = hump.falls (lead +ℤ back) (new +ℤ back) (omega (arith, ints, left)) (omega (arith, ints, near)) in
      omega (arith, mul-le-mul_left a.weight one, truck_leftward lead new rest left near)

  -- a truck moves right, and no axle of it past the top
  truck_rightward : (lead new : ℤ) (axles : List Axle) → AllByRecursion (λ a. a.place ≤ step) axles
      → lead ≤ℤ new → (new +ℤ pos (q * step)) ≤ℤ pos top → of_truck line q axles lead ≤ of_truck line q axles new
  truck_rightward lead new [] short right near = omega arith
  truck_rightward lead new (a ∷ rest) short right near =
      let back : ℤ = pos (q * a.place) in
      let before : (new +ℤ back) ≤ℤ pos top = omega (arith, ints, near, mul-le-mul_left q short.0) in
      let one = hump.rises (lead +ℤ back) (new +ℤ back) (omega (arith, ints, right)) before in
      omega (arith, mul-le-mul_left a.weight one, truck_rightward lead new rest short.1 right near)

  -- trucks that follow a lead close up to the left, the first of them to a place at or right of the top
  follow_up : (axles : List Axle) (lead from : ℤ) (rest : List ℤ) → pos top ≤ℤ from → from ≤ℤ (lead +ℤ pos (q * step))
      → AreBehind (q * step) lead rest
      → of_trucks line q axles rest ≤ of_trucks line q axles (even_leads (q * step) from (length rest))
  follow_up axles lead from [] past near behind = omega arith
  follow_up axles lead from (next ∷ rest) past near behind =
      let left : from ≤ℤ next = omega (arith, ints, near, behind.0) in
      let later = from +ℤ pos (q * step) in
      let others = follow_up axles next later rest (omega (arith, ints, past)) (omega (arith, ints, left)) behind.1 in
      omega (arith, truck_leftward next from axles left past, others)

  -- a lead from which the same trucks, closed up, give no less: it is not right of the top, and left of the first lead only to
  -- be at the top
  pub record ClosesUp (axles : List Axle) (lead : ℤ) (rest : List ℤ) : Type 0 where
    pub from : ℤ
    pub reaches : (z : ℤ) → z ≤ℤ lead → z ≤ℤ pos top → z ≤ℤ from
    pub left : from ≤ℤ pos top
    pub no_less : of_trucks line q axles (lead ∷ rest) ≤ of_trucks line q axles (even_leads (q * step) from (suc (length rest)))

  -- the others follow up to a truck that stays, or that moves left to the top
  abbrev CanFollow : List Axle → ℤ → List ℤ → Type 0
  CanFollow axles lead rest = (from : ℤ) → from ≤ℤ lead → (lead ≤ℤ from) ⊎ (pos top ≤ℤ from)
      → of_trucks line q axles rest ≤ of_trucks line q axles (even_leads (q * step) (from +ℤ pos (q * step)) (length rest))

  -- the first truck stays, or moves left to the top where it is right of it
  first_stays : (axles : List Axle) (lead : ℤ) (rest : List ℤ) → CanFollow axles lead rest → ClosesUp axles lead rest
  first_stays axles lead rest follow =
      elim (either_side lead top) [
        | inl before ↦ record {
          from = lead;
          reaches = λ z l t. l;
          left = omega (arith, ints, before);
          no_less = omega (arith, follow lead (omega (arith, ints)) (inl (omega (arith, ints))));
        }
        | inr past ↦ record {
          from = pos top;
          reaches = λ z l t. t;
          left = omega (arith, ints);
          no_less =
              let first = truck_leftward lead (pos top) axles past (omega (arith, ints)) in
              omega (arith, first, follow (pos top) past (inr (omega (arith, ints))));
        }
      ]

  -- the first truck whose spacing ends at or right of the top stays. Those behind follow up to it, and those in front, which end
  -- left of the top, move right until they are just as far in front of it
  pub closes_up : (axles : List Axle) (lead : ℤ) (rest : List ℤ) → AllByRecursion (λ a. a.place ≤ step) axles
      → AreBehind (q * step) lead rest → ClosesUp axles lead rest
  closes_up axles lead [] short behind = first_stays axles lead [] (λ from l t. omega arith)
  closes_up axles lead (next ∷ rest) short behind =
      elim (either_side (lead +ℤ pos (q * step)) top) [
        | inl off ↦
            let c = closes_up axles next rest short behind.1 in
            let end = lead +ℤ pos (q * step) in
            let reaches : end ≤ℤ c.from = c.reaches end behind.0 (omega (arith, ints, off)) in
            let from = c.from -ℤ pos (q * step) in
            let back : from +ℤ pos (q * step) ≡ c.from = omega (arith, ints) in
            let first = truck_rightward lead from axles short (omega (arith, ints, reaches)) (omega (arith, ints, c.left)) in
            record {
              from = from;
              reaches = λ z l t. omega (arith, ints, l, reaches);
              left = omega (arith, ints, c.left);
              no_less = rw back (omega (arith, first, c.no_less));
            }
        | inr on ↦ first_stays axles lead (next ∷ rest) (λ from l t.
            let later = from +ℤ pos (q * step) in
            let past : pos top ≤ℤ later =
            elim t [ inl same ↦ omega (arith, ints, same, on) | inr far ↦ omega (arith, ints, far) ] in
            follow_up axles lead later (next ∷ rest) past (omega (arith, ints, l)) behind)
      ]
