-- The widest run with a centre of weight, by runs that lose an axle after another at either end.
use Rattle.std.proofs.Common.{◌≡◌, ℕ, ◌+◌, ◌-◌, ◌*◌, ◌<◌, ◌≤◌, List, length, take, drop, arith, ap, refl, ◌∙◌, inl, inr}
use Rattle.std.proofs.Math.Nat.{mul-le-mul_left, mul-le-mul_right, le_of_mul-le-mul_left}
use Rattle.std.proofs.lemmas.Bool.{cases_lt}
use Rattle.axle_train.specs.declared.axle.Axle.{Axle}
use Rattle.axle_train.specs.Bounds.{IsTrain}
use Rattle.axle_train.specs.Trains.{axle_at}
use Rattle.axle_train.proofs.Places.{place_ordered, place_rises}
use Rattle.influence_line.proofs.Totals.{total, total_is, total-append}
use Rattle.moment_peak.specs.declared.run.Run.{Run}
use Rattle.moment_peak.specs.declared.run.Sums.{Sums}
use Rattle.moment_peak.specs.Centres.{HasCentre, HaveOneCentre, HoldsCentres, IsWidest, IsNoLater}
use Rattle.moment_peak.specs.Runs.{run, run_weight, run_moment}
use Rattle.moment_peak.specs.Sweeps.{IsSummed}
use Rattle.moment_peak.proofs.BestBounds.{run_loaded}
use Rattle.moment_peak.proofs.Between.{run_parts}
use Rattle.moment_peak.proofs.Pointer.{centre_from, centre_to}
use Rattle.moment_peak.proofs.Runs.{weight_of, moment_of}

-- a run in two parts
parts : (f : Axle → ℕ) (axles : List Axle) (first m n last : ℕ) → first ≤ m → m + 1 ≡ n → n ≤ last → total f (run axles first last) ≡ total f (run axles first m) + total f (run axles n last)
parts f axles first m n last from next to =
    omega (arith, ap (total f) (run_parts axles first n last (omega arith) to) ∙ total-append f (take (n - first) (drop first axles)) (run axles n last), ap (λ i. total f (take (i - first) (drop first axles))) next)

weight_parts : (axles : List Axle) (first m n last : ℕ) → first ≤ m → m + 1 ≡ n → n ≤ last → run_weight axles first last ≡ run_weight axles first m + run_weight axles n last
weight_parts axles first m n last from next to = omega (arith, parts weight_of axles first m n last from next to, total_is weight_of (run axles first last), total_is weight_of (run axles first m), total_is weight_of (run axles n last))

moment_parts : (axles : List Axle) (first m n last : ℕ) → first ≤ m → m + 1 ≡ n → n ≤ last → run_moment axles first last ≡ run_moment axles first m + run_moment axles n last
moment_parts axles first m n last from next to = omega (arith, parts moment_of axles first m n last from next to, total_is moment_of (run axles first last), total_is moment_of (run axles first m), total_is moment_of (run axles n last))

-- where all axles of the first part are at most as far back as the centre of the second, both together are not further back
not_behind : (W M W' M' R S p p' : ℕ) → M ≤ W * p → W' * p' ≤ M' → p ≤ p' → M' * R ≡ S * W' → 0 < W' → (M + M') * R ≤ S * (W + W')
not_behind W M W' M' R S p p' most least order same some =
    let far : p' * R ≤ S = le_of_mul-le-mul_left {m = p' * R} {n = S} {k = W'} (omega (arith, mul-le-mul_right R least, same)) some in
    omega (arith, mul-le-mul_right R most, mul-le-mul_left W (mul-le-mul_right R order), mul-le-mul_left W far, same)

-- and where the first has the centre, both together are not further in front
not_in_front : (W M W' M' R S p p' : ℕ) → M ≤ W * p → W' * p' ≤ M' → p ≤ p' → M * R ≡ S * W → 0 < W → S * (W + W') ≤ (M + M') * R
not_in_front W M W' M' R S p p' most least order same some =
    let near : S ≤ p * R = le_of_mul-le-mul_left {m = S} {n = p * R} {k = W} (omega (arith, mul-le-mul_right R most, same)) some in
    omega (arith, mul-le-mul_right R least, mul-le-mul_left W' (mul-le-mul_right R order), mul-le-mul_left W' near, same)

loaded : (axles : List Axle) (first last : ℕ) → IsTrain axles → first ≤ last → last < length axles → 0 < run_weight axles first last
loaded axles first last train ordered within = run_loaded axles first first last train.each (record { from = omega arith; to = ordered; within = within })

-- a run is not further back than another that ends with it and has the centre
front_bound : (axles : List Axle) (wide first last R S : ℕ) → IsTrain axles → wide ≤ first → first ≤ last → last < length axles → run_moment axles first last * R ≡ S * run_weight axles first last → run_moment axles wide last * R ≤ S * run_weight axles wide last
front_bound axles wide first last R S train outer ordered within same =
    elim (cases_lt wide first) [
      | inr no_more ↦ let one : first ≡ wide = omega arith in omega (arith, rw one at same)
      | inl before ↦
          let m = first - 1 in
          let next : m + 1 ≡ first = omega arith in
          rw (weight_parts axles wide m first last (omega arith) next ordered, moment_parts axles wide m first last (omega arith) next ordered) (not_behind (run_weight axles wide m) (run_moment axles wide m) (run_weight axles first last) (run_moment axles first last) R S (axle_at axles m).place (axle_at axles first).place
          (centre_to axles wide m train (omega arith) (omega arith)) (centre_from axles first last train ordered within) (place_ordered axles 0 m first train.rising (omega arith) (omega arith)) same (loaded axles first last train ordered within))
    ]

-- nor further in front than another that begins with it and has the centre
back_bound : (axles : List Axle) (first last wide R S : ℕ) → IsTrain axles → last ≤ wide → first ≤ last → wide < length axles → run_moment axles first last * R ≡ S * run_weight axles first last → S * run_weight axles first wide ≤ run_moment axles first wide * R
back_bound axles first last wide R S train outer ordered within same =
    elim (cases_lt last wide) [
      | inr no_more ↦ let one : last ≡ wide = omega arith in omega (arith, rw one at same)
      | inl behind ↦
          rw (weight_parts axles first last (last + 1) wide ordered refl (omega arith), moment_parts axles first last (last + 1) wide ordered refl (omega arith)) (not_in_front (run_weight axles first last) (run_moment axles first last) (run_weight axles (last + 1) wide) (run_moment axles (last + 1) wide) R S (axle_at axles last).place (axle_at axles (last + 1)).place
          (centre_to axles first last train ordered (omega arith)) (centre_from axles (last + 1) wide train (omega arith) within) (place_ordered axles 0 last (last + 1) train.rising (omega arith) (omega arith)) same (loaded axles first last train ordered (omega arith)))
    ]

-- both parts have no one centre with the first
strictly_behind : (W M W' M' R S p p' : ℕ) → M ≤ W * p → W' * p' ≤ M' → p < p' → M * R ≡ S * W → (M + M') * R ≡ S * (W + W') → 0 < W → 0 < W' → 0 < R → ⊥
strictly_behind W M W' M' R S p p' most least order same both some some' loaded =
    let near : S ≤ p * R = le_of_mul-le-mul_left {m = S} {n = p * R} {k = W} (omega (arith, mul-le-mul_right R most, same)) some in
    let far : p' * R ≤ S = le_of_mul-le-mul_left {m = p' * R} {n = S} {k = W'} (omega (arith, mul-le-mul_right R least, same, both)) some' in
    omega (arith, near, far, loaded, mul-le-mul_right R (let next : p + 1 ≤ p' = omega arith in next))

-- where the wide run is too far back, no run with the centre has its last axle
pub inside_without_last : (axles : List Axle) (centre : Sums) (wide : Run) → IsTrain axles → IsSummed axles wide → HoldsCentres axles centre wide → centre.moment * wide.sums.weight < wide.sums.moment * centre.weight → (first last : ℕ) → first ≤ last → last < length axles → HasCentre axles first last centre → (wide.first ≤ first) × (last + 1 ≤ wide.last)
inside_without_last axles centre wide train s holds behind first last ordered within same =
    let inside = holds first last ordered within same in (
      inside.0,
      elim (cases_lt last wide.last) [
        | inl before ↦ omega arith
        | inr not_before ↦
            let end : last ≡ wide.last = omega (arith, inside.1) in
            let bound = front_bound axles wide.first first last centre.weight centre.moment train inside.0 ordered within same in
            absurd (omega (arith, rw end at bound, rw (s.sums.weight, s.sums.moment) at behind))
      ],
    )

-- where it is too far in front, none has its first axle
pub inside_without_first : (axles : List Axle) (centre : Sums) (wide : Run) → IsTrain axles → IsSummed axles wide → HoldsCentres axles centre wide → wide.sums.moment * centre.weight < centre.moment * wide.sums.weight → (first last : ℕ) → first ≤ last → last < length axles → HasCentre axles first last centre → (wide.first + 1 ≤ first) × (last ≤ wide.last)
inside_without_first axles centre wide train s holds front first last ordered within same =
    let inside = holds first last ordered within same in (
      elim (cases_lt wide.first first) [
        | inl after ↦ omega arith
        | inr not_after ↦
            let begin : first ≡ wide.first = omega (arith, inside.0) in
            let bound = back_bound axles first last wide.last centre.weight centre.moment train inside.1 ordered s.within same in
            absurd (omega (arith, rw begin at bound, rw (s.sums.weight, s.sums.moment) at front))
      ],
      inside.1,
    )

-- a run has its own centre
pub own_centre : (axles : List Axle) (run : Run) → IsSummed axles run → HasCentre axles run.first run.last run.sums
own_centre axles run s = rw (s.sums.weight, s.sums.moment) refl

-- there is one widest run
pub one_widest : (axles : List Axle) (centre : Sums) (a b : Run) → IsWidest axles centre a → IsWidest axles centre b → (a.first ≡ b.first) × (a.last ≡ b.last)
one_widest axles centre a b w v =
    let outer = w.inside b.first b.last v.summed.ordered v.summed.within v.same_centre in
    let inner = v.inside a.first a.last w.summed.ordered w.summed.within w.same_centre in
    (omega (arith, outer, inner), omega (arith, outer, inner))

-- runs that begin with one axle and have one centre end with one
pub one_last : (axles : List Axle) (centre : Sums) (wide : Run) (last : ℕ) → IsTrain axles → 0 < centre.weight → IsWidest axles centre wide → wide.first ≤ last → last < length axles → HasCentre axles wide.first last centre → wide.last ≤ last
one_last axles centre wide last train some w ordered within same =
    elim (cases_lt last wide.last) [
      | inr no_longer ↦ no_longer
      | inl shorter ↦ absurd (strictly_behind (run_weight axles wide.first last) (run_moment axles wide.first last) (run_weight axles (last + 1) wide.last) (run_moment axles (last + 1) wide.last) centre.weight centre.moment (axle_at axles last).place (axle_at axles (last + 1)).place
          (centre_to axles wide.first last train ordered within) (centre_from axles (last + 1) wide.last train (omega arith) w.summed.within) (place_rises axles 0 last (last + 1) train.rising (omega arith) (omega (arith, w.summed.within)))
          same (rw (weight_parts axles wide.first last (last + 1) wide.last ordered refl (omega arith), moment_parts axles wide.first last (last + 1) wide.last ordered refl (omega arith)) at w.same_centre)
          (loaded axles wide.first last train ordered within) (loaded axles (last + 1) wide.last train (omega arith) w.summed.within) some)
    ]

-- a run that is inside the widest one is no earlier
pub inside_later : (axles : List Axle) (centre : Sums) (wide : Run) (axle first last : ℕ) → IsTrain axles → 0 < centre.weight → IsWidest axles centre wide → first ≤ last → last < length axles → HasCentre axles first last centre → IsNoLater axle wide axle first last
inside_later axles centre wide axle first last train some w ordered within same =
    let inside = w.inside first last ordered within same in
    record {
      by_axle = omega arith;
      by_first = λ _. inside.0;
      by_last = λ _ begin.
          let from : wide.first ≤ last = omega (arith, begin, ordered) in
          let here : HasCentre axles wide.first last centre = rw begin same in
          one_last axles centre wide last train some w from within here;
    }

pub summed_loaded : (axles : List Axle) (run : Run) → IsTrain axles → IsSummed axles run → 0 < run.sums.weight
summed_loaded axles run train s = rw s.sums.weight (loaded axles run.first run.last train s.ordered s.within)

-- the centre of a run is that of its sums
pub centre_of : (axles : List Axle) (run : Run) → IsSummed axles run → (first last : ℕ) → HaveOneCentre axles first last run.first run.last → HasCentre axles first last run.sums
centre_of axles run s first last same = rw (s.sums.weight, s.sums.moment) same
