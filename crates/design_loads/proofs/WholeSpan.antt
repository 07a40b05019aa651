-- The whole span loaded is worst: for the moment with the section and the concentrated load at midspan, for the shear with the
-- concentrated load at the support.
use Rattle.std.proofs.Common.{◌≡◌, ℕ, ◌+◌, ◌-◌, ◌*◌, ◌≤◌, [], ◌∷◌, arith, ◌∙◌, inl, inr, pos}
use Rattle.std.proofs.Math.Nat.{mul-le-mul_left}
use Rattle.std.proofs.lemmas.Bool.{cases_lt}
use Rattle.std.proofs.lemmas.Int.{ints}
use Rattle.influence_line.specs.Placed.{moment_line}
use Rattle.influence_line.specs.Reactions.{reaction_line}
use Rattle.influence_line.specs.declared.placing.End.{End}
use Rattle.influence_line.specs.declared.placing.End.TheVariants.{Left, Right}
use Rattle.influence_line.proofs.Lines.{line_left}
use Rattle.influence_line.proofs.Moves.{moment_rightward, moment_leftward}
use Rattle.influence_line.proofs.Products.{product_under}
use Rattle.influence_line.proofs.ReactionLines.{left_on, right_on}
use Rattle.design_loads.specs.Lane.{LaneLoad, moment_area, reaction_area}
use Rattle.design_loads.specs.LanePeaks.{IsPeakLaneMoment, IsPeakLaneShear}
use Rattle.design_loads.proofs.Areas.{one_interval, area_around, moment_areas_most, reaction_areas_most}

-- the concentrated load gives most where it stands at the section
at_section : (n r s c : ℕ) → r + s ≡ n → moment_line n r (pos c) ≤ r * s
at_section n r s c e =
    let there = line_left n r s r e (omega arith) in
    rw (← there) (elim (cases_lt r c) [
      | inl right ↦ moment_leftward n r (pos c) (pos r) (omega arith) (omega (arith, ints)) (omega (arith, ints))
      | inr left ↦ moment_rightward n r (pos c) (pos r) (omega arith) (omega (arith, ints)) (omega (arith, ints))
    ])

-- with the areas and the line at their most, the section at midspan is worst
moment_bound : (q span r s area line : ℕ) → area ≤ s * r * (q * span) → line ≤ r * s → 4 * (r * s) ≤ q * span * (q * span)
    → (80 * area + 54000 * (q * line)) * 3 ≤ (20 * span * span + 13500 * span) * (3 * q * q * q * span)
moment_bound q span r s area line h k most =
    omega (arith, h, mul-le-mul_left (3 * 54000 * q) k, mul-le-mul_left (60 * (q * span)) most, mul-le-mul_left (40500 * q) most)

-- the whole span in half inches, with the section and the concentrated load at its middle
abbrev at_midspan : ℕ → LaneLoad
at_midspan span = record { q = 2; at = span; loaded = record { from = 0; to = 2 * span } ∷ [] }

midspan_area : (span : ℕ) → 1 ≤ span → moment_area (2 * span) span (record { from = 0; to = 2 * span }) ≡ 2 * (span * span * span)
midspan_area span some =
    let rest : 2 * span - span ≡ span = omega arith in
    let end : 2 * span - 2 * span ≡ 0 = omega arith in
    let square : span * span - 0 * 0 ≡ span * span = omega arith in
    let around = area_around (2 * span) span (record { from = 0; to = 2 * span }) (omega arith) (omega arith) in
    around ∙ rw (rest, end, square) (omega arith)

pub lane_moment_is_peak : (span : ℕ) → 1 ≤ span → IsPeakLaneMoment span (20 * span * span + 13500 * span) 3
lane_moment_is_peak span some = record {
  some = omega arith;
  reached = (
    span,
    at_midspan span,
    omega arith,
    record { scale = omega arith; on = omega arith; loaded = (omega arith, omega arith, omega arith) },
    (let area = one_interval (moment_area (2 * span) span) (record { from = 0; to = 2 * span }) ∙ midspan_area span some in
        let line = line_left (2 * span) span span span (omega arith) (omega arith) in
        omega (arith, area, line)),
  );
  greatest = λ section lane within is.
      let n = lane.q * span in
      let rest : section + (n - section) ≡ n = omega (arith, within) in
      moment_bound lane.q span section (n - section) _ _
      (moment_areas_most n section (n - section) lane.loaded rest is.loaded) (at_section n section (n - section) lane.at rest)
      (product_under section (n - section) n (omega (arith, rest)));
}

on_span : (n : ℕ) (end : End) (c : ℕ) → c ≤ n → reaction_line n end (pos c) ≤ n
on_span n Left c h = rw (left_on n c) (omega arith)
on_span n Right c h = rw (right_on n c h) h

shear_bound : (q span area line : ℕ) → area ≤ q * span * (q * span) → line ≤ q * span
    → (80 * area + 78000 * (q * line)) * 3 ≤ (80 * span + 78000) * (3 * q * q * span)
shear_bound q span area line h k = omega (arith, h, mul-le-mul_left (234000 * q) k)

-- the whole span in inches, with the concentrated load at the left support
abbrev at_support : ℕ → LaneLoad
at_support span = record { q = 1; at = 0; loaded = record { from = 0; to = span } ∷ [] }

support_area : (span : ℕ) → reaction_area (1 * span) Left (record { from = 0; to = span }) ≡ span * span
support_area span =
    let none : 1 * span - span ≡ 0 = omega arith in
    let all : 1 * span - 0 ≡ span = omega arith in
    rw (none, all) (omega arith)

pub lane_shear_is_peak : (span : ℕ) → 1 ≤ span → IsPeakLaneShear span (80 * span + 78000) 3
lane_shear_is_peak span some = record {
  some = omega arith;
  reached = (
    Left,
    at_support span,
    record { scale = omega arith; on = omega arith; loaded = (omega arith, some, omega arith) },
    (let area = one_interval (reaction_area (1 * span) Left) (record { from = 0; to = span }) ∙ support_area span in
        let line = left_on (1 * span) 0 in
        omega (arith, area, line)),
  );
  greatest = λ end lane is.
      let n = lane.q * span in
      shear_bound lane.q span _ _ (reaction_areas_most n end lane.loaded is.loaded) (on_span n end lane.at is.on);
}
