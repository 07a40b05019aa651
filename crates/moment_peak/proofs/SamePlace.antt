-- A vertex with the centre of weight of a run at the peak has the peak's moment.
use Rattle.std.proofs.Common.{◌≡◌, ℕ, ◌+◌, ◌-◌, ◌*◌, ◌<◌, ◌≤◌, List, arith, refl, ap, sym, ◌∙◌, ℤ, pos, ◌+ℤ◌, ◌*ℤ◌}
use Rattle.std.proofs.Math.Nat.{le_of_mul-le-mul_left, eq_of_mul-eq-mul_right, mul-pos, mul-le-mul_right, le_antisymm}
use Rattle.std.proofs.lemmas.Int.{ints}
use borrow.Author.Differences.{up, down}
use Rattle.axle_train.specs.declared.axle.Axle.{Axle}
use Rattle.axle_train.specs.Bounds.{IsTrain}
use Rattle.axle_train.specs.Trains.{axle_at}
use Rattle.influence_line.specs.Peaks.{IsPeakMoment, IsTrainPlaced}
use Rattle.influence_line.specs.Placed.{moment_sum, placed}
use Rattle.influence_line.specs.declared.placing.Place.{Place}
use Rattle.moment_peak.specs.declared.best.Candidate.{Candidate}
use Rattle.moment_peak.specs.declared.run.Run.{Run}
use Rattle.moment_peak.specs.Candidates.{IsAttained}
use Rattle.moment_peak.specs.Centres.{HaveOneCentre, IsWidest}
use Rattle.moment_peak.specs.Runs.{run, front_in, back_in, run_weight, run_moment, run_value, IsRunWith}
use Rattle.moment_peak.specs.Vertices.{IsVertex, HasMomentAt}
use Rattle.moment_peak.proofs.BestBounds.{lead_at, vertex_reaches, inside_left, run_loaded}
use Rattle.moment_peak.proofs.BySums.{balance_in}
use Rattle.moment_peak.proofs.Finer.{moment_scaled}
use Rattle.moment_peak.proofs.Small.{under_from}
use Rattle.moment_peak.proofs.Tight.{section_from}

-- one placement at two scales has one moment
pub same_place : (g q n r h q' n' r' : ℕ) (lead lead' : ℤ) (axles : List Axle) → 0 < g → 0 < h → r ≤ n → r' ≤ n' → g * q ≡ h * q' → g * n ≡ h * n' → g * r ≡ h * r' → pos g *ℤ lead ≡ pos h *ℤ lead' → g * g * moment_sum n r (placed q lead axles) ≡ h * h * moment_sum n' r' (placed q' lead' axles)
same_place g q n r h q' n' r' lead lead' axles g_some h_some on on' eq en er el =
    sym (moment_scaled g q n r lead axles g_some on) ∙ rw (eq, en, er, el) (moment_scaled h q' n' r' lead' axles h_some on')

-- at its vertex a run whose value is the peak has the peak's moment
exact_from : (R L V M num den : ℕ) → M * den ≤ num * (2 * R * (2 * R) * L) → V * R ≤ M → num * (4 * R * L) ≡ V * den → M * den ≡ num * (2 * R * (2 * R) * L)
exact_from R L V M num den above below exact =
    le_antisymm above (omega (arith, mul-le-mul_right den below, ap (λ t. R * t) exact))

-- where the axle of a run at the peak stands, and its moment there
pub record PeakPlace (span : ℕ) (axles : List Axle) (num den k first last : ℕ) : Type 0 where
  pub v : ℕ
  pub section : v + run_moment axles first last ≡ run_weight axles first last * span + run_weight axles first last * (axle_at axles k).place
  pub on : v ≤ 2 * run_weight axles first last * span
  pub reaches : moment_sum (2 * run_weight axles first last * span) v (placed (2 * run_weight axles first last) (lead_at (2 * run_weight axles first last) (axle_at axles k).place v) axles) * den ≡ num * (2 * run_weight axles first last * (2 * run_weight axles first last) * span)

-- the best run is at the peak
best_place : (span : ℕ) (axles : List Axle) (best : Candidate) (num den : ℕ) → IsTrain axles → IsAttained span axles best → IsPeakMoment (IsTrainPlaced axles) span num den → num * (4 * best.run.sums.weight * span) ≡ best.value * den → PeakPlace span axles num den best.axle best.run.first best.run.last
best_place span axles best num den train a peak e =
    let p = (axle_at axles best.axle).place in
    let middle = run axles best.run.first best.run.last in
    let R = run_weight axles best.run.first best.run.last in
    let D = front_in p middle in
    let E = back_in p middle in
    let v = R * span + D - E in
    let loaded : 0 < R = run_loaded axles best.axle best.run.first best.run.last train.each a.is_run in
    let value = rw a.value at a.some in
    let left = inside_left span R D E value in
    let reaches = vertex_reaches span axles best.axle best.run.first best.run.last value in
    let lead = lead_at (2 * R) p v in
    let above = peak.greatest (2 * R) v (placed (2 * R) lead axles) (omega arith) reaches.0 (lead, refl) in
    let m = moment_sum (2 * R * span) v (placed (2 * R) lead axles) in
    record {
      v = v;
      section = section_from R span D E (run_moment axles best.run.first best.run.last) p v (omega arith) (balance_in p middle);
      on = reaches.0;
      reaches = exact_from R span (run_value span axles best.axle best.run.first best.run.last) m num den above reaches.1 (rw (a.value, a.on.sums.weight) at e);
    }

-- the place of a vertex with that centre is the same place, at another scale
place_from : (g R L S p section h T v : ℕ) → section + S ≡ R * L + R * p → v + T ≡ g * L + g * p → S * g ≡ T * R → g * section ≡ R * v
place_from g R L S p section h T v e f c = omega (arith, ap (λ t. g * t) e, ap (λ t. R * t) f, c)

lead_from : (g R p section v : ℕ) (lead : ℤ) → lead +ℤ pos (2 * R * p) ≡ pos section → g * section ≡ R * v → pos g *ℤ lead ≡ pos R *ℤ lead_at (2 * g) p v
lead_from g R p section v lead h e =
    let s : up lead + 2 * R * p ≡ section + down lead = omega (arith, ints, h) in
    let z : up (lead_at (2 * g) p v) + 2 * g * p ≡ v + down (lead_at (2 * g) p v) = omega (arith, ints) in
    omega (arith, ints, e, ap (λ t. g * t) s, ap (λ t. R * t) z)

cancel_scale : (g R m m' num den L : ℕ) → 0 < g → 0 < R → g * g * m ≡ R * R * m' → m' * den ≡ num * (2 * g * (2 * g) * L) → m * den ≡ num * (2 * R * (2 * R) * L)
cancel_scale g R m m' num den L some loaded same e =
    eq_of_mul-eq-mul_right (g * g) (mul-pos some some) (m * den) (num * (2 * R * (2 * R) * L)) (omega (arith, ap (λ t. t * den) same, ap (λ t. R * R * t) e))

-- a vertex with that centre is on the span
pub on_from : (g R L section v : ℕ) → 0 < g → g * section ≡ R * v → v ≤ 2 * g * L → section ≤ 2 * R * L
on_from g R L section v some e on =
    le_of_mul-le-mul_left {m = section} {n = 2 * R * L} {k = g} (omega (arith, e, mul-le-mul_right R on)) some

-- the centre of a run at the peak is no further behind an axle at its vertex than the span
pub left_from : (g R L S p T v : ℕ) → 0 < g → v + T ≡ g * L + g * p → S * g ≡ T * R → S ≤ R * L + R * p
left_from g R L S p T v some f c = le_of_mul-le-mul_left {m = S} {n = R * L + R * p} {k = g} (omega (arith, ap (λ t. R * t) f, c)) some

-- the vertex of axle k and a run with that centre
pub record VertexAtPeak (span : ℕ) (axles : List Axle) (num den k first last : ℕ) (at : Place) : Type 0 where
  pub vertex : IsVertex axles span k first last at
  pub reaches : HasMomentAt axles span num den at

pub vertex_at_peak : (span : ℕ) (axles : List Axle) (num den k first last first' last' : ℕ) (at : Place) → IsTrain axles → IsRunWith axles k first' last' → PeakPlace span axles num den k first' last' → IsRunWith axles k first last → HaveOneCentre axles first last first' last' → at.q ≡ 2 * run_weight axles first last → at.section + run_moment axles first last ≡ run_weight axles first last * span + run_weight axles first last * (axle_at axles k).place → at.lead +ℤ pos (run_moment axles first last + run_weight axles first last * (axle_at axles k).place) ≡ pos (run_weight axles first last * span) → VertexAtPeak span axles num den k first last at
vertex_at_peak span axles num den k first last first' last' at train peak_run place is_run centre scale section lead =
    let p = (axle_at axles k).place in
    let g = run_weight axles first' last' in
    let R = run_weight axles first last in
    let some : 0 < g = run_loaded axles k first' last' train.each peak_run in
    let loaded : 0 < R = run_loaded axles k first last train.each is_run in
    let same = place_from g R span (run_moment axles first last) p at.section span (run_moment axles first' last') place.v section place.section centre in
    let on : at.section ≤ 2 * R * span = on_from g R span at.section place.v some same place.on in
    let under : at.lead +ℤ pos (2 * R * p) ≡ pos at.section = rw scale at (under_from R span (run_moment axles first last) p at.q at.section at.lead scale section lead) in
    let leads = lead_from g R p at.section place.v at.lead under same in
    let moments = same_place g (2 * R) (2 * R * span) at.section R (2 * g) (2 * g * span) place.v at.lead (lead_at (2 * g) p place.v) axles some loaded on place.on (omega arith) (omega arith) same leads in
    record {
      vertex = record { is_run = is_run; scale = scale; section = section; lead = lead; on = rw scale on };
      reaches = rw scale (cancel_scale g R _ _ num den span some loaded moments place.reaches);
    }

-- the vertex that the program found, by the sums that it carries: its run is the widest with the centre of the best
module _ (span : ℕ) (axles : List Axle) (best : Candidate) (num den : ℕ) (found : Run) (axle : Axle) (train : IsTrain axles) (a : IsAttained span axles best) (peak : IsPeakMoment (IsTrainPlaced axles) span num den) (e : num * (4 * best.run.sums.weight * span) ≡ best.value * den) (w : IsWidest axles best.run.sums found) (here : axle ≡ axle_at axles best.axle) where
  found_centre : HaveOneCentre axles found.first found.last best.run.first best.run.last
  found_centre = rw (a.on.sums.weight, a.on.sums.moment) at w.same_centre

  -- each axle of the best run is in it
  pub found_is_run : IsRunWith axles best.axle found.first found.last
  found_is_run =
      let inside = w.inside best.run.first best.run.last a.on.can_be.ordered a.on.can_be.within (rw (a.on.sums.weight, a.on.sums.moment) refl) in
      record { from = omega (arith, inside.0, a.is_run.from); to = omega (arith, inside.1, a.is_run.to); within = w.summed.within }

  pub found_at : (at : Place) → at.q ≡ 2 * found.sums.weight → at.section + found.sums.moment ≡ found.sums.weight * span + found.sums.weight * axle.place → at.lead +ℤ pos (found.sums.moment + found.sums.weight * axle.place) ≡ pos (found.sums.weight * span) → VertexAtPeak span axles num den best.axle found.first found.last at
  found_at at scale section lead =
      vertex_at_peak span axles num den best.axle found.first found.last best.run.first best.run.last at train a.is_run (best_place span axles best num den train a peak e) found_is_run found_centre
      (rw w.summed.sums.weight at scale)
      (rw (here, w.summed.sums.moment, w.summed.sums.weight) at section)
      (rw (here, w.summed.sums.moment, w.summed.sums.weight) at lead)

  -- its centre of weight is no further behind the axle than the span
  pub found_left : found.sums.moment ≤ found.sums.weight * span + found.sums.weight * axle.place
  found_left =
      let place = best_place span axles best num den train a peak e in
      let loaded = run_loaded axles best.axle best.run.first best.run.last train.each a.is_run in
      rw (here, w.summed.sums.moment, w.summed.sums.weight) (left_from (run_weight axles best.run.first best.run.last) (run_weight axles found.first found.last) span (run_moment axles found.first found.last) (axle_at axles best.axle).place (run_moment axles best.run.first best.run.last) place.v loaded place.section found_centre)
