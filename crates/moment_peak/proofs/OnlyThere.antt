-- A vertex has the peak's moment only where the axles on the span are a run that makes the peak with the same axle, and has the same centre of weight.
use Rattle.std.proofs.Common.{◌≡◌, ℕ, zero, suc, ◌+◌, ◌*◌, ◌<◌, ◌≤◌, List, [], ◌∷◌, length, arith, refl, ap, ℤ, pos, inl, inr}
use Rattle.std.proofs.Math.Nat.{mul-le-mul_left, eq_of_mul-eq-mul_right, mul-pos}
use Rattle.std.proofs.lemmas.Bool.{cases_lt}
use Rattle.std.proofs.lemmas.Int.{ints}
use Rattle.axle_train.specs.declared.axle.Axle.{Axle}
use Rattle.axle_train.specs.Bounds.{IsTrain}
use Rattle.axle_train.specs.Trains.{axle_at}
use Rattle.axle_train.proofs.Places.{place_rises}
use Rattle.influence_line.specs.Peaks.{IsPeakMoment, IsTrainPlaced}
use Rattle.influence_line.specs.Placed.{moment_sum, placed}
use Rattle.influence_line.specs.declared.placing.Place.{Place}
use Rattle.influence_line.proofs.Sections.{StandsAt}
use Rattle.moment_peak.specs.declared.best.Candidate.{Candidate}
use Rattle.moment_peak.specs.declared.run.Run.{Run}
use Rattle.moment_peak.specs.Centres.{HaveOneCentre, IsFirstBestPair, IsNoLater, IsWidest}
use Rattle.moment_peak.specs.Pairs.{IsTight}
use Rattle.moment_peak.specs.Runs.{run_weight, run_moment, run_value}
use Rattle.moment_peak.specs.Vertices.{IsVertex, HasMomentAt, IsFirstReached}
use Rattle.moment_peak.proofs.Bound.{SomeVertex, below_vertex_of}
use Rattle.moment_peak.proofs.BestBounds.{run_loaded}
use Rattle.moment_peak.proofs.SamePlace.{VertexAtPeak}
use Rattle.moment_peak.proofs.Small.{vertex_bounds}
use Rattle.moment_peak.proofs.Spans.{at}
use Rattle.moment_peak.proofs.Tight.{peak_at, moment_some}

-- the load of an axle
stands_at : (q x k : ℕ) (lead : ℤ) (axles : List Axle) → k < length axles → at q lead (axle_at axles k) ≡ pos x → StandsAt x (placed q lead axles)
stands_at q x k lead [] within e = absurd (omega arith)
stands_at q x zero lead (a ∷ rest) within e = inl e
stands_at q x (suc k) lead (a ∷ rest) within e = inr (stands_at q x k lead rest (omega arith) e)

not_before : (q x i k : ℕ) (lead : ℤ) (axles : List Axle) → 1 ≤ q → IsTrain axles → k < length axles → at q lead (axle_at axles i) ≡ pos x → at q lead (axle_at axles k) ≡ pos x → i < k → ⊥
not_before q x i k lead axles some train within e h less =
    let rises = place_rises axles 0 i k train.rising less within in
    let more : (axle_at axles i).place + 1 ≤ (axle_at axles k).place = omega arith in
    omega (arith, ints, e, h, some, mul-le-mul_left q more)

-- one axle stands at a place
one_axle : (q x i k : ℕ) (lead : ℤ) (axles : List Axle) → 1 ≤ q → IsTrain axles → i < length axles → k < length axles → at q lead (axle_at axles i) ≡ pos x → at q lead (axle_at axles k) ≡ pos x → i ≡ k
one_axle q x i k lead axles some train i_within k_within e h =
    elim (cases_lt i k) [
      | inl less ↦ absurd (not_before q x i k lead axles some train k_within e h less)
      | inr more ↦ elim (cases_lt k i) [
        | inl less ↦ absurd (not_before q x k i lead axles some train i_within h e less)
        | inr same ↦ omega arith
      ]
    ]

-- the centres of weight are one: v and x are where the axle stands at the vertices of both runs
centre_from : (R G L p S T v x : ℕ) → 0 < R → v + T ≡ G * L + G * p → x + S ≡ R * L + R * p → 2 * R * v ≡ 2 * G * x → S * G ≡ T * R
centre_from R G L p S T v x some e f h = omega (arith, ap (λ t. R * t) e, ap (λ t. G * t) f, h)

-- a tight pair of axle k that makes the peak, with the centre of the axles first to last
pub record TightOf (span : ℕ) (axles : List Axle) (num den k first last : ℕ) : Type 0 where
  pub first' : ℕ
  pub last' : ℕ
  pub tight : IsTight span axles k first' last'
  pub exact : num * (4 * run_weight axles first' last' * span) ≡ run_value span axles k first' last' * den
  pub centre : HaveOneCentre axles first last first' last'

module _ (axles : List Axle) (span num den : ℕ) (some : 1 ≤ span) (long : span ≤ 6000) (train : IsTrain axles) (peak : IsPeakMoment (IsTrainPlaced axles) span num den) where
  from_some : (k first last : ℕ) (at : Place) → IsVertex axles span k first last at → 1 ≤ at.q → 0 < moment_sum (at.q * span) at.section (placed at.q at.lead axles) → HasMomentAt axles span num den at → (s : SomeVertex at.q span (moment_sum (at.q * span) at.section (placed at.q at.lead axles)) at.section at.lead axles) → s.k ≡ k → TightOf span axles num den k first last
  from_some k first last at vertex scale high reaches s same_k =
      let p = peak_at axles span num den some train peak at.q (moment_sum (at.q * span) at.section (placed at.q at.lead axles)) at.section at.lead scale high reaches s in
      let R = run_weight axles first last in
      let G = run_weight axles s.first s.last in
      let loaded : 0 < R = run_loaded axles k first last train.each vertex.is_run in
      let only : 2 * R * p.v ≡ 2 * G * at.section = omega (arith, p.only, ap (λ t. t * p.v) vertex.scale) in
      record {
        first' = s.first;
        last' = s.last;
        tight = rw same_k at p.tight;
        exact = rw same_k at p.exact;
        centre = centre_from R G span (axle_at axles s.k).place (run_moment axles first last) (run_moment axles s.first s.last) p.v at.section loaded p.section (rw (← same_k) at vertex.section) only;
      }

  -- a vertex at which the moment is the peak
  tight_of : (k first last : ℕ) (at : Place) → IsVertex axles span k first last at → HasMomentAt axles span num den at → TightOf span axles num den k first last
  tight_of k first last at vertex reaches =
      let m = moment_sum (at.q * span) at.section (placed at.q at.lead axles) in
      let b = vertex_bounds axles span k first last at long train vertex in
      let high = moment_some axles span num den some train peak m (at.q * at.q * span) reaches (mul-pos (mul-pos b.scale b.scale) some) in
      let within : k < length axles = omega (arith, vertex.is_run.to, vertex.is_run.within) in
      elim (below_vertex_of at.q span at.section at.section at.lead axles b.scale train.rising vertex.on (stands_at at.q at.section k at.lead axles within b.under) (omega arith)) [
        | inl none ↦ absurd (omega (arith, none, high))
        | inr s ↦ from_some k first last at vertex b.scale high reaches s (one_axle at.q at.section s.k k at.lead axles b.scale train (omega (arith, s.is_run.to, s.is_run.within)) within s.stands b.under)
      ]

  as_high : (V R w v : ℕ) → num * (4 * R * span) ≡ V * den → num * (4 * w * span) ≡ v * den → V * w ≡ v * R
  as_high V R w v e h = eq_of_mul-eq-mul_right den peak.some (V * w) (v * R) (omega (arith, ap (λ t. w * t) e, ap (λ t. R * t) h))

  -- the best axle with its widest run is no later than any vertex at the peak
  no_later : (best : Candidate) (found : Run) → IsFirstBestPair span axles best → num * (4 * best.run.sums.weight * span) ≡ best.value * den → IsWidest axles best.run.sums found → (k first last : ℕ) (at : Place) → IsVertex axles span k first last at → HasMomentAt axles span num den at → IsNoLater best.axle found k first last
  no_later best found is_first e w k first last at vertex reaches =
      let t = tight_of k first last at vertex reaches in
      (is_first k t.first' t.last' t.tight).order (as_high (run_value span axles k t.first' t.last') (run_weight axles t.first' t.last') best.run.sums.weight best.value t.exact e) found w first last (omega (arith, vertex.is_run.from, vertex.is_run.to)) vertex.is_run.within t.centre

  -- so it is the first of them
  pub first_reached : (best : Candidate) (found : Run) (at : Place) → IsFirstBestPair span axles best → num * (4 * best.run.sums.weight * span) ≡ best.value * den → IsWidest axles best.run.sums found → VertexAtPeak span axles num den best.axle found.first found.last at → IsFirstReached axles span num den best.axle found.first found.last at
  first_reached best found at is_first e w there =
      let order = no_later best found is_first e w in
      record {
        vertex = there.vertex;
        reaches = there.reaches;
        no_last = λ l less other v r. omega (arith, (order best.axle found.first l other v r).by_last refl refl);
        no_first = λ f l less other v r. omega (arith, (order best.axle f l other v r).by_first refl);
        no_axle = λ k f l less other v r. omega (arith, (order k f l other v r).by_axle);
      }
