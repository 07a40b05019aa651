-- A train has one peak moment on a span, with one place.
use Rattle.std.proofs.Common.{◌≡◌, ℕ, ◌+◌, ◌*◌, ◌<◌, ◌≤◌, List, arith, ap, sym, ◌∙◌, subst, ℤ, pos, ◌*ℤ◌, inl, inr}
use Rattle.std.proofs.lemmas.Bool.{cases_lt}
use Rattle.std.proofs.lemmas.Int.{ints}
use Rattle.std.proofs.Math.Nat.{eq_of_mul-eq-mul_right, mul-pos}
use borrow.Author.Differences.{up, down}
use Rattle.axle_train.specs.declared.axle.Axle.{Axle}
use Rattle.axle_train.specs.Bounds.{IsTrain}
use Rattle.influence_line.specs.Fractions.{Ratio}
use Rattle.influence_line.specs.Peaks.{IsTrainPlaced}
use Rattle.influence_line.specs.declared.placing.Place.{Place}
use Rattle.influence_line.proofs.Lowest.{lowest_unique}
use Rattle.influence_line.proofs.Unique.{moment_unique}
use Rattle.moment_peak.specs.Vertices.{IsVertex, IsFirstReached, IsLowestPlace, IsFirstPlace}
use Rattle.moment_peak.proofs.BestBounds.{run_loaded}
use Rattle.moment_peak.specs.Laws.{MomentPeakIsOne}
use Rattle.moment_peak.specs.declared.MomentPeak.{MomentPeak}

-- a common factor of two integers goes away
int_cancel : (d : ℕ) (s t : ℤ) → 0 < d → pos d *ℤ s ≡ pos d *ℤ t → s ≡ t
int_cancel d s t some e =
    let scaled : (up s + down t) * d ≡ (up t + down s) * d = omega (arith, ints, e) in
    let same : up s + down t ≡ up t + down s = eq_of_mul-eq-mul_right d some (up s + down t) (up t + down s) scaled in
    omega (arith, ints, same)

factor_some : (d q whole : ℕ) → whole ≡ d * q → 1 ≤ whole → 1 ≤ q
factor_some d q whole e h =
    elim (cases_lt 0 q) [
      | inl some ↦ some
      | inr none ↦ (let zero : q ≡ 0 = omega arith in absurd (omega (arith, rw zero at e)))
    ]

-- two pairs of numbers with one multiple each have one quotient
cross : (d e ss sq ts tq S Q : ℕ) → S ≡ d * ss → Q ≡ d * sq → S ≡ e * ts → Q ≡ e * tq → 0 < d → 0 < e → ss * tq ≡ ts * sq
cross d e ss sq ts tq S Q s1 q1 s2 q2 dp ep =
    eq_of_mul-eq-mul_right (d * e) (mul-pos dp ep) (ss * tq) (ts * sq) (omega (arith, ap (λ t. t * (e * tq)) s1, ap (λ t. S * t) q2, ap (λ t. t * (d * sq)) s2, ap (λ t. S * t) q1))

place_same : (a b : Place) → a.q ≡ b.q → a.lead ≡ b.lead → a.section ≡ b.section → a ≡ b
place_same a b h k l = λ i. record { q = h i; lead = k i; section = l i }

-- a place has one form at the coarsest scale
lowest_place_unique : (whole a b : Place) → 1 ≤ whole.q → IsLowestPlace whole a → IsLowestPlace whole b → a ≡ b
lowest_place_unique whole a b some p r =
    let d = p.divisor in
    let e = r.divisor in
    let a_some : 1 ≤ a.q = factor_some d a.q whole.q p.scale some in
    let b_some : 1 ≤ b.q = factor_some e b.q whole.q r.scale some in
    let one = lowest_unique (record { num = a.section; den = a.q }) (record { num = b.section; den = b.q }) (record { some = a_some; coprime = p.coprime }) (record { some = b_some; coprime = r.coprime })
    (cross d e a.section a.q b.section b.q whole.section whole.q p.section p.scale r.section r.scale p.some r.some) in
    let section : a.section ≡ b.section = ap (λ f. f.num) one in
    let scale : a.q ≡ b.q = ap (λ f. f.den) one in
    let factors : d * a.q ≡ e * a.q = sym p.scale ∙ (r.scale ∙ ap (λ t. e * t) (sym scale)) in
    let divisors : d ≡ e = eq_of_mul-eq-mul_right a.q a_some d e factors in
    let leads : pos d *ℤ a.lead ≡ pos d *ℤ b.lead = sym p.lead ∙ (r.lead ∙ ap (λ t. pos t *ℤ b.lead) (sym divisors)) in
    place_same a b scale (int_cancel d a.lead b.lead p.some leads) section

-- an axle and a run have one vertex
vertex_unique : (axles : List Axle) (span k first last : ℕ) (a b : Place) → IsVertex axles span k first last a → IsVertex axles span k first last b → a ≡ b
vertex_unique axles span k first last a b p r =
    place_same a b (p.scale ∙ sym r.scale) (omega (arith, ints, p.lead, r.lead)) (omega (arith, p.section, r.section))

module _ (axles : List Axle) (span num den : ℕ) where
  same_axle : (k f l k' f' l' : ℕ) (a b : Place) → IsFirstReached axles span num den k f l a → IsFirstReached axles span num den k' f' l' b → k ≡ k'
  same_axle k f l k' f' l' a b p r =
      elim (cases_lt k k') [
        | inl before ↦ absurd (r.no_axle k f l before a p.vertex p.reaches)
        | inr from ↦ elim (cases_lt k' k) [ inl before ↦ absurd (p.no_axle k' f' l' before b r.vertex r.reaches) | inr to ↦ omega arith ]
      ]

  same_first : (k f l f' l' : ℕ) (a b : Place) → IsFirstReached axles span num den k f l a → IsFirstReached axles span num den k f' l' b → f ≡ f'
  same_first k f l f' l' a b p r =
      elim (cases_lt f f') [
        | inl before ↦ absurd (r.no_first f l before a p.vertex p.reaches)
        | inr from ↦ elim (cases_lt f' f) [ inl before ↦ absurd (p.no_first f' l' before b r.vertex r.reaches) | inr to ↦ omega arith ]
      ]

  same_last : (k f l l' : ℕ) (a b : Place) → IsFirstReached axles span num den k f l a → IsFirstReached axles span num den k f l' b → l ≡ l'
  same_last k f l l' a b p r =
      elim (cases_lt l l') [
        | inl before ↦ absurd (r.no_last l before a p.vertex p.reaches)
        | inr from ↦ elim (cases_lt l' l) [ inl before ↦ absurd (p.no_last l' before b r.vertex r.reaches) | inr to ↦ omega arith ]
      ]

peak_same : (a b : MomentPeak) → a.value ≡ b.value → a.place ≡ b.place → a.axle ≡ b.axle → a.first ≡ b.first → a.last ≡ b.last → a ≡ b
peak_same a b h1 h2 h3 h4 h5 = λ i. record { value = h1 i; place = h2 i; axle = h3 i; first = h4 i; last = h5 i }

-- the run of a vertex has weight
scale_some : (axles : List Axle) (span k first last : ℕ) (a : Place) → IsVertex axles span k first last a → IsTrain axles → 1 ≤ a.q
scale_some axles span k first last a v train = omega (arith, v.scale, run_loaded axles k first last train.each v.is_run)

pub moment_peak_is_one : MomentPeakIsOne
moment_peak_is_one axles span a b train some p r =
    let value = moment_unique (IsTrainPlaced axles) span a.value b.value some p.lowest r.lowest p.peak r.peak in
    let second = subst (λ (f : Ratio). IsFirstPlace axles span f.num f.den b.axle b.first b.last b.place) (sym value) r.first in
    let num = a.value.num in
    let den = a.value.den in
    let k = same_axle axles span num den a.axle a.first a.last b.axle b.first b.last p.first.whole second.whole p.first.is_first second.is_first in
    let at_k = subst (λ (i : ℕ). IsFirstReached axles span num den i b.first b.last second.whole) (sym k) second.is_first in
    let f = same_first axles span num den a.axle a.first a.last b.first b.last p.first.whole second.whole p.first.is_first at_k in
    let at_f = subst (λ (i : ℕ). IsFirstReached axles span num den a.axle i b.last second.whole) (sym f) at_k in
    let l = same_last axles span num den a.axle a.first a.last b.last p.first.whole second.whole p.first.is_first at_f in
    let at_l = subst (λ (i : ℕ). IsFirstReached axles span num den a.axle a.first i second.whole) (sym l) at_f in
    let whole = vertex_unique axles span a.axle a.first a.last p.first.whole second.whole p.first.is_first.vertex at_l.vertex in
    let small = subst (λ (w : Place). IsLowestPlace w b.place) (sym whole) second.lowest in
    let scale = scale_some axles span a.axle a.first a.last p.first.whole p.first.is_first.vertex train in
    peak_same a b value (lowest_place_unique p.first.whole a.place b.place scale p.first.lowest small) k f l
