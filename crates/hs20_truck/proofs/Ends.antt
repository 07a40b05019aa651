-- The smallest second spacing is worst for the reactions too.
use Rattle.std.proofs.Common.{◌≡◌, ℕ, ◌+◌, ◌-◌, ◌*◌, ◌≤◌, arith, refl, ap, ◌∙◌, ℤ, pos, ◌+ℤ◌, inl, inr}
use Rattle.std.proofs.Math.Nat.{mul-le-mul_right}
use Rattle.std.proofs.lemmas.Int.{ints}
use Rattle.influence_line.specs.Placed.{placed}
use Rattle.influence_line.specs.Reactions.{reaction_line, reaction_sum}
use Rattle.influence_line.specs.declared.placing.End.{End}
use Rattle.influence_line.specs.declared.placing.End.TheVariants.{Left, Right}
use Rattle.influence_line.specs.Peaks.{IsPeakShear, IsTrainPlaced, IsHs20Placed, hs20_loads}
use Rattle.influence_line.proofs.ReactionLines.{left_before, left_nearer, right_past, right_nearer, either_side}
use Rattle.hs20_truck.specs.Design.{design_axles}
use Rattle.hs20_truck.proofs.Spacing.{placed_is}

-- the reaction at a lead, with a second spacing
abbrev hs20_reaction : ℕ → End → ℤ → ℕ → ℕ → ℕ
hs20_reaction n end lead first second = 8000 * reaction_line n end lead + 32000 * reaction_line n end (lead +ℤ pos first) + 32000 * reaction_line n end (lead +ℤ pos (first + second))

same_at : (n : ℕ) (end : End) (x y : ℤ) → x ≡ y → reaction_line n end x ≤ reaction_line n end y
same_at n end x y e = rw e (omega arith)

-- the lead itself is such a one, where the last axle gives no less there
stays : (n : ℕ) (end : End) (lead : ℤ) (first second : ℕ) → reaction_line n end (lead +ℤ pos (first + second)) ≤ reaction_line n end (lead +ℤ pos (first + first))
    → (d : ℕ) × (hs20_reaction n end lead first second ≤ hs20_reaction n end (lead +ℤ pos d) first first)
stays n end lead first second last =
    let here : lead +ℤ pos 0 ≡ lead = omega (arith, ints) in
    (0, rw here (omega (arith, last)))

-- there is a lead at which the smallest spacing is no better
pub reaction_closest : (n : ℕ) (end : End) (lead : ℤ) (first second : ℕ) → first ≤ second → (d : ℕ) × (hs20_reaction n end lead first second ≤ hs20_reaction n end (lead +ℤ pos d) first first)
reaction_closest n Left lead first second k =
    elim (either_side (lead +ℤ pos first) 0) [
      | inl off ↦
          let d = second - first in
          let one = left_before n lead (omega (arith, ints, off)) in
          let two = left_before n (lead +ℤ pos first) off in
          let at : lead +ℤ pos (first + second) ≡ (lead +ℤ pos d) +ℤ pos (first + first) = omega (arith, ints) in
          let three = same_at n Left (lead +ℤ pos (first + second)) ((lead +ℤ pos d) +ℤ pos (first + first)) at in
          (d, omega (arith, one, two, three))
      | inr on ↦ stays n Left lead first second (left_nearer n (lead +ℤ pos (first + second)) (lead +ℤ pos (first + first)) (omega (arith, ints, on)) (omega (arith, ints)))
    ]
reaction_closest n Right lead first second k =
    elim (either_side (lead +ℤ pos (first + second)) (n + 1)) [
      | inl on ↦
          let d = second - first in
          let at : lead +ℤ pos (first + second) ≡ (lead +ℤ pos d) +ℤ pos (first + first) = omega (arith, ints) in
          let one = right_nearer n lead (lead +ℤ pos d) (omega (arith, ints)) (omega (arith, ints, on)) in
          let two = right_nearer n (lead +ℤ pos first) ((lead +ℤ pos d) +ℤ pos first) (omega (arith, ints)) (omega (arith, ints, on)) in
          let three = same_at n Right (lead +ℤ pos (first + second)) ((lead +ℤ pos d) +ℤ pos (first + first)) at in
          (d, omega (arith, one, two, three))
      | inr off ↦ stays n Right lead first second (omega (arith, right_past n (lead +ℤ pos (first + second)) (omega (arith, ints, off))))
    ]

hs20_sum : (q n : ℕ) (end : End) (lead : ℤ) (second : ℕ) → reaction_sum n end (hs20_loads q lead second) ≡ hs20_reaction n end lead (168 * q) second
hs20_sum q n end lead second = omega arith

-- the peaks of the truck with the smallest spacing are those of all spacings
pub shear_of_all : (span num den : ℕ) → IsPeakShear (IsTrainPlaced design_axles) span num den → IsPeakShear IsHs20Placed span num den
shear_of_all span num den h =
    let r = h.reached in
    let lead = r.4.0 in
    record {
      some = h.some;
      reached = (r.0, r.1, r.2, r.3, (lead, 168 * r.0, omega arith, omega arith, r.4.1 ∙ placed_is r.0 lead), r.5);
      greatest = λ q end loads a is_placed.
          let second = is_placed.1 in
          let closest = reaction_closest (q * span) end is_placed.0 (168 * q) second is_placed.2 in
          let nearer = is_placed.0 +ℤ pos closest.0 in
          let bound = h.greatest q end (placed q nearer design_axles) a (nearer, refl) in
          let same = ap (reaction_sum (q * span) end) (placed_is q nearer) in
          rw is_placed.4 (omega (arith, mul-le-mul_right den closest.1, bound, ap (λ t. t * den) same, hs20_sum q (q * span) end is_placed.0 second, hs20_sum q (q * span) end nearer (168 * q)));
    }
