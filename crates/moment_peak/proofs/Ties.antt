-- The better of two candidates, and the earlier of two that are as good.
use Rattle.std.proofs.Common.{◌≡◌, ℕ, zero, suc, ◌+◌, ◌*◌, ◌<◌, ◌≤◌, List, arith, ap, refl}
use Rattle.std.proofs.Math.Nat.{mul-le-mul_left, mul-le-mul_right, eq_of_mul-eq-mul_right, mul-pos}
use Rattle.axle_train.specs.declared.axle.Axle.{Axle}
use Rattle.axle_train.specs.Bounds.{IsTrain}
use Rattle.moment_peak.specs.declared.best.Candidate.{Candidate}
use Rattle.moment_peak.specs.Centres.{IsFirstTo, IsNoBetter, HasEarlierRun}
use Rattle.moment_peak.specs.Sweeps.{IsSummed}
use Rattle.influence_line.proofs.Cross.{cross_trans}
use Rattle.moment_peak.proofs.OneCentre.{inside_later, one_widest, summed_loaded, centre_of}

-- what is at most the one is below the other, where that one is greater
below : (v w bv bw nv nw : ℕ) → v * bw ≤ bv * w → bv * nw < nv * bw → v * nw ≡ nv * w → 0 < w → ⊥
below v w bv bw nv nw most more same some =
    let step : w * (bv * nw + 1) ≤ w * (nv * bw) = mul-le-mul_left w (let next : bv * nw + 1 ≤ nv * bw = omega arith in next) in
    omega (arith, mul-le-mul_right nw most, step, ap (λ t. bw * t) same, some)

-- a greater candidate in place of the best
pub kept_by_more : (axles : List Axle) (best next : Candidate) (v w k first last : ℕ) → 0 < best.run.sums.weight → best.value * next.run.sums.weight < next.value * best.run.sums.weight → 0 < w → IsNoBetter axles best v w k first last → IsNoBetter axles next v w k first last
kept_by_more axles best next v w k first last loaded more some n = record {
  most = cross_trans v w best.value best.run.sums.weight next.value next.run.sums.weight n.most (omega arith) loaded;
  order = λ same. absurd (below v w best.value best.run.sums.weight next.value next.run.sums.weight n.most more same some);
}

-- a candidate is first to its own run
pub own_first : (axles : List Axle) (next : Candidate) → IsTrain axles → IsSummed axles next.run → IsFirstTo axles next next.axle next.run.first next.run.last
own_first axles next train s = λ wide w first last ordered within same.
    inside_later axles next.run.sums wide next.axle first last train (summed_loaded axles next.run train s) w ordered within (centre_of axles next.run s first last same)

pub met_by_itself : (axles : List Axle) (next : Candidate) → IsTrain axles → IsSummed axles next.run → IsNoBetter axles next next.value next.run.sums.weight next.axle next.run.first next.run.last
met_by_itself axles next train s = record { most = omega arith; order = λ _. own_first axles next train s }

-- the earlier one of two is first to the run of the other
earlier_first : (axles : List Axle) (best next : Candidate) → IsTrain axles → IsSummed axles next.run → best.axle ≡ next.axle → HasEarlierRun axles best.run.sums next.run.sums → IsFirstTo axles best next.axle next.run.first next.run.last
earlier_first axles best next train s same e = λ wide w first last ordered within centre.
    let one = one_widest axles best.run.sums wide e.wide w e.is_widest in
    let later = own_first axles next train s e.wide' e.is_widest' first last ordered within centre in
    record {
      by_axle = omega (arith, same);
      by_first = λ _. omega (arith, one.0, e.by_first, later.by_first refl);
      by_last = λ _ begin.
          let other : e.wide'.first ≡ first = omega (arith, one.0, e.by_first, later.by_first refl, begin) in
          omega (arith, one.1, e.by_last (omega (arith, one.0, begin, other)), later.by_last refl other);
    }

pub met_by_earlier : (axles : List Axle) (best next : Candidate) → IsTrain axles → IsSummed axles next.run → best.axle ≡ next.axle → next.value * best.run.sums.weight ≡ best.value * next.run.sums.weight → HasEarlierRun axles best.run.sums next.run.sums → IsNoBetter axles best next.value next.run.sums.weight next.axle next.run.first next.run.last
met_by_earlier axles best next train s same high e = record { most = omega (arith, high); order = λ _. earlier_first axles best next train s same e }

-- one as good and earlier in place of the best
pub kept_by_earlier : (axles : List Axle) (best next : Candidate) (v w k first last : ℕ) → 0 < best.run.sums.weight → 0 < next.run.sums.weight → best.axle ≡ next.axle → next.value * best.run.sums.weight ≡ best.value * next.run.sums.weight → HasEarlierRun axles next.run.sums best.run.sums → IsNoBetter axles best v w k first last → IsNoBetter axles next v w k first last
kept_by_earlier axles best next v w k first' last' loaded some axle high e n = record {
  most = cross_trans v w best.value best.run.sums.weight next.value next.run.sums.weight n.most (omega (arith, high)) loaded;
  order = λ same wide u first last ordered within centre.
      let as_high : v * best.run.sums.weight ≡ best.value * w = eq_of_mul-eq-mul_right next.run.sums.weight some (v * best.run.sums.weight) (best.value * w) (omega (arith, ap (λ t. best.run.sums.weight * t) same, ap (λ t. w * t) high)) in
      let later = n.order as_high e.wide' e.is_widest' first last ordered within centre in
      let one = one_widest axles next.run.sums wide e.wide u e.is_widest in
      record {
        by_axle = omega (arith, later.by_axle, axle);
        by_first = λ here. omega (arith, one.0, e.by_first, later.by_first (omega (arith, here, axle)));
        by_last = λ here begin.
            let from = later.by_first (omega (arith, here, axle)) in
            let other : e.wide'.first ≡ first = omega (arith, one.0, e.by_first, from, begin) in
            omega (arith, one.1, e.by_last (omega (arith, one.0, begin, other)), later.by_last (omega (arith, here, axle)) other);
      };
}

-- what is at least a value above 0 is above 0
some_from : (bv bw rv rw : ℕ) → bv * rw ≤ rv * bw → 0 < bv → 0 < rw → 0 < rv
some_from bv bw zero rw h some loaded = absurd (omega (arith, h, mul-pos some loaded))
some_from bv bw (suc rv) rw h some loaded = omega arith

pub still_some : (axles : List Axle) (best result : Candidate) → IsTrain axles → IsSummed axles best.run → 0 < best.value → 0 < result.run.sums.weight → ((v w k first last : ℕ) → 0 < w → IsNoBetter axles best v w k first last → IsNoBetter axles result v w k first last) → 0 < result.value
still_some axles best result train s some loaded kept =
    let n = kept best.value best.run.sums.weight best.axle best.run.first best.run.last (summed_loaded axles best.run train s) (met_by_itself axles best train s) in
    some_from best.value best.run.sums.weight result.value result.run.sums.weight n.most some loaded
