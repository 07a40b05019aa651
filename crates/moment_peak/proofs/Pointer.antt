-- The axle under which the shear passes 0, as the train rolls over the span.
use Rattle.std.proofs.Common.{◌≡◌, ℕ, zero, suc, ◌+◌, ◌-◌, ◌*◌, ◌<◌, ◌≤◌, List, [], ◌∷◌, length, take, drop, arith, ap, refl, length-drop, get_or-drop, inl, inr}
use Rattle.std.proofs.Math.Nat.{mul-le-mul_left}
use Rattle.std.proofs.lemmas.Bool.{cases_lt}
use Rattle.axle_train.specs.declared.axle.Axle.{Axle}
use Rattle.axle_train.specs.Bounds.{IsTrain}
use Rattle.axle_train.specs.Trains.{axle_at, spread}
use Rattle.axle_train.proofs.Places.{place_ordered}
use Rattle.influence_line.proofs.Totals.{total, total_is}
use Rattle.moment_peak.specs.declared.pair.Pair.{Pair}
use Rattle.moment_peak.specs.declared.run.Run.{Run}
use Rattle.moment_peak.specs.declared.run.Sums.{Sums}
use Rattle.moment_peak.specs.Pairs.{far_support, weight_to, IsTight, IsShearFrom, IsPair, IsRunEnd, IsLastOfRun}
use Rattle.moment_peak.specs.Runs.{run, run_weight, run_moment}
use Rattle.moment_peak.specs.Sweeps.{AreSums, IsMore, IsSummed, IsOnSpan, IsFullRun}
use Rattle.moment_peak.proofs.Runs.{weight_of, moment_of, balance}
use Rattle.moment_peak.proofs.Between.{rises_on, all_from, all_up_to, all_take, no_front, no_back, IsFrom}
use Rattle.moment_peak.proofs.Sweep.{can_be-longer, can_be-shorter, can_be-alone}

-- the centre of weight of a run is not in front of its first axle
pub centre_from : (axles : List Axle) (first last : ℕ) → IsTrain axles → first ≤ last → last < length axles → run_weight axles first last * (axle_at axles first).place ≤ run_moment axles first last
centre_from axles first last train ordered within =
    let p = (axle_at axles first).place in
    let middle = run axles first last in
    let rises = rises_on axles 0 first train.rising (omega arith) in
    let none = no_front p middle (all_take (IsFrom p) (last + 1 - first) (drop first axles) (all_from (drop first axles) p rises)) in
    omega (arith, none, balance p middle, total_is weight_of middle, total_is moment_of middle, ap (λ t. t * p) (total_is weight_of middle))

-- and not behind its last
pub centre_to : (axles : List Axle) (first last : ℕ) → IsTrain axles → first ≤ last → last < length axles → run_moment axles first last ≤ run_weight axles first last * (axle_at axles last).place
centre_to axles first last train ordered within =
    let p = (axle_at axles last).place in
    let middle = run axles first last in
    let rises = rises_on axles 0 first train.rising (omega arith) in
    let here : first + (last - first) ≡ last = omega arith in
    let end : (axle_at (drop first axles) (last - first)).place ≡ p = rw (get_or-drop, here) refl in
    let up = rw end at (all_up_to (drop first axles) (axle_at axles first).place (last + 1 - first) (last - first) rises (omega arith) (omega (arith, length-drop first axles))) in
    omega (arith, no_back p middle up, balance p middle, total_is weight_of middle, total_is moment_of middle, ap (λ t. t * p) (total_is weight_of middle))

front_rises : (f : Axle → ℕ) (axles : List Axle) (m n : ℕ) → m ≤ n → total f (take m axles) ≤ total f (take n axles)
front_rises f axles zero n h = omega arith
front_rises f [] (suc m) n h = omega arith
front_rises f (a ∷ rest) (suc m) zero h = absurd (omega arith)
front_rises f (a ∷ rest) (suc m) (suc n) h = omega (arith, front_rises f rest m n (omega arith))

-- before a later axle there is no less weight
pub weight_rises : (axles : List Axle) (first j k : ℕ) → j ≤ k → weight_to axles first j ≤ weight_to axles first k
weight_rises axles first j k h =
    omega (arith, front_rises weight_of (drop first axles) (j - first) (k - first) (omega arith), total_is weight_of (take (j - first) (drop first axles)), total_is weight_of (take (k - first) (drop first axles)))

-- where the shear under the axle behind is below 0 as the run ends, no tight pair of the run is behind
pub last_of_run : (span : ℕ) (axles : List Axle) (pair : Pair) (place : ℕ) (next : Sums) → IsPair span axles pair → IsRunEnd span axles pair.run place → AreSums axles pair.run.first (pair.axle + 1) next → pair.run.sums.weight * place < span * next.weight + pair.run.sums.moment → IsLastOfRun span axles pair
last_of_run span axles pair place next p end n below = λ k t.
    elim (cases_lt pair.axle k) [
      | inr rest ↦ rest
      | inl behind ↦
          let first = pair.run.first in
          let last = pair.run.last in
          let more = mul-le-mul_left span (weight_rises axles first (pair.axle + 1) k (omega arith)) in
          let under : run_weight axles first last * place < span * weight_to axles first (pair.axle + 1) + run_moment axles first last = rw (p.on.sums.weight, p.on.sums.moment, n.weight) at below in
          absurd (omega (arith, more, under, t.shear_from, end.is_end k t))
    ]

-- the shear under the axle behind is at least 0 as the run ends
pub raised_pair : (span : ℕ) (axles : List Axle) (pair : Pair) (before : Sums) (place : ℕ) → IsPair span axles pair → IsRunEnd span axles pair.run place → AreSums axles pair.run.first (pair.axle + 1) before → pair.axle < pair.run.last → span * before.weight + pair.run.sums.moment ≤ pair.run.sums.weight * place → IsPair span axles (record { run = pair.run; axle = pair.axle + 1; before = before })
raised_pair span axles pair before place p end b behind lost = record {
  on = p.on;
  from = omega (arith, p.from);
  to = omega arith;
  before = b;
  to_first = omega (arith, lost, mul-le-mul_left pair.run.sums.weight end.to_first);
  to_next = λ more. omega (arith, lost, mul-le-mul_left pair.run.sums.weight (end.to_next more));
}

-- a run's first axle, and no axle in front of it
pub fresh_pair : (span : ℕ) (axles : List Axle) (pair : Pair) → IsTrain axles → IsOnSpan span axles pair.run → pair.axle ≡ pair.run.first → AreSums axles pair.run.first pair.axle pair.before → pair.before.weight ≡ 0 → IsPair span axles pair
fresh_pair span axles pair train on same before none =
    let first = pair.run.first in
    let last = pair.run.last in
    let R = run_weight axles first last in
    let most = centre_to axles first last train on.can_be.ordered on.can_be.within in
    let near : (axle_at axles last).place ≤ (axle_at axles first).place + span = omega (arith, on.can_be.fits) in
    record {
      on = on;
      from = omega arith;
      to = omega (arith, on.can_be.ordered);
      before = before;
      to_first = rw (none, on.sums.weight, on.sums.moment) (omega (arith, most, mul-le-mul_left R near));
      to_next = λ more. rw (none, on.sums.weight, on.sums.moment) (omega (arith, most, mul-le-mul_left R (place_ordered axles 0 last (last + 1) train.rising (omega arith) more)));
    }

-- the axles in front of the middle can be on the span alone
pub start_on : (span : ℕ) (axles : List Axle) (run : Run) → IsSummed axles run → run.first ≡ 0 → 2 * (axle_at axles run.last).place < span → IsOnSpan span axles run
start_on span axles run s first half = record {
  can_be = record { ordered = s.ordered; within = s.within; fits = omega arith; alone = λ some more. absurd (omega (arith, first)) };
  sums = s.sums;
}

-- an axle alone, where the one before it is further from it than the span
pub alone_on : (span : ℕ) (axles : List Axle) (run next : Run) → IsTrain axles → IsFullRun span axles run → run.first ≡ run.last → run.last + 1 < length axles → IsSummed axles next → next.first ≡ run.last + 1 → next.last ≡ run.last + 1 → IsOnSpan span axles next
alone_on span axles run next train full one more s first last =
    let here : run.last + 1 - 1 ≡ run.last = omega arith in
    let far : span < spread axles (run.last + 1 - 1) (run.last + 1) = rw here (rw one at (full more)) in
    record { can_be = rw (first, last) (can_be-alone span axles (run.last + 1) train more far); sums = s.sums }

-- the run without its first axle
pub shorter_on : (span : ℕ) (axles : List Axle) (run next : Run) → IsTrain axles → IsOnSpan span axles run → IsFullRun span axles run → run.first < run.last → IsSummed axles next → next.first ≡ run.first + 1 → next.last ≡ run.last → IsOnSpan span axles next
shorter_on span axles run next train on full longer s first last = record {
  can_be = rw (first, last) (can_be-shorter span axles run.first run.last train on.can_be longer full);
  sums = s.sums;
}

-- the axle behind comes on
pub longer_pair : (span : ℕ) (axles : List Axle) (pair next : Pair) → IsTrain axles → IsPair span axles pair → pair.run.last + 1 < length axles → spread axles pair.run.first (pair.run.last + 1) ≤ span → IsSummed axles next.run → next.run.first ≡ pair.run.first → next.run.last ≡ pair.run.last + 1 → next.axle ≡ pair.axle → next.before ≡ pair.before → IsMore pair.run.sums next.run.sums (axle_at axles (pair.run.last + 1)) → IsPair span axles next
longer_pair span axles pair next train p within fits summed first last axle before more =
    let end = axle_at axles (pair.run.last + 1) in
    let can = can_be-longer span axles pair.run.first pair.run.last train p.on.can_be within fits in
    let shear : IsShearFrom span next end.place = rw (before, more.weight, more.moment) (omega (arith, p.to_next within)) in
    let near : end.place ≤ (axle_at axles pair.run.first).place + span = omega (arith, fits) in
    record {
      on = record { can_be = rw (first, last) can; sums = summed.sums };
      from = rw (first, axle) p.from;
      to = rw (last, axle) (omega (arith, p.to));
      before = rw (first, axle, before) p.before;
      to_first = rw first (omega (arith, shear, mul-le-mul_left next.run.sums.weight near));
      to_next = λ further. rw last (omega (arith, shear, mul-le-mul_left next.run.sums.weight (place_ordered axles 0 (pair.run.last + 1) (pair.run.last + 1 + 1) train.rising (omega arith) (rw last at further))));
    }

-- where the shear under a pair's axle is at least 0 while the far support is in front of a place, and the vertices of its run's tight pairs have it there or behind, none of these is in front
fresh : (span : ℕ) (axles : List Axle) (next : Pair) (place : ℕ) → IsPair span axles next → IsShearFrom span next place
    → ((k : ℕ) → IsTight span axles k next.run.first next.run.last → 2 * (run_weight axles next.run.first next.run.last * place) ≤ far_support span axles k next.run.first next.run.last)
    → (k : ℕ) → IsTight span axles k next.run.first next.run.last → next.axle ≤ k
fresh span axles next place n shear on k t =
    elim (cases_lt k next.axle) [
      | inr rest ↦ rest
      | inl front ↦
          let under : span * weight_to axles next.run.first next.axle + run_moment axles next.run.first next.run.last ≤ run_weight axles next.run.first next.run.last * place = rw (n.before.weight, n.on.sums.weight, n.on.sums.moment) at shear in
          let rises = mul-le-mul_left span (weight_rises axles next.run.first (k + 1) next.axle (omega arith)) in
          absurd (omega (arith, under, rises, on k t, t.shear_to (omega (arith, n.to))))
    ]

-- no tight pair of the longer run is in front
pub longer_fresh : (span : ℕ) (axles : List Axle) (pair next : Pair) → IsPair span axles pair → IsPair span axles next → pair.run.last + 1 < length axles → next.run.last ≡ pair.run.last + 1 → next.axle ≡ pair.axle → next.before ≡ pair.before → IsMore pair.run.sums next.run.sums (axle_at axles (pair.run.last + 1)) → (k : ℕ) → IsTight span axles k next.run.first next.run.last → next.axle ≤ k
longer_fresh span axles pair next p n within last axle before more =
    let end = (axle_at axles (pair.run.last + 1)).place in
    fresh span axles next end n (rw (before, more.weight, more.moment) (omega (arith, p.to_next within)))
    (λ k t. omega (arith, t.last_on, ap (λ (i : ℕ). run_weight axles next.run.first next.run.last * (axle_at axles i).place) last))

-- what the shear loses with the first axle, the run loses too
shear_without : (span B' B R' R S' S w p : ℕ) → B ≡ B' + w → R ≡ R' + w → S ≡ S' + w * p → span * B + S ≤ R * (p + span) → span * B' + S' ≤ R' * (p + span)
shear_without span B' B R' R S' S w p b r s h = omega (arith, h, s, ap (λ t. span * t) b, ap (λ t. t * (p + span)) r)

-- the first axle goes off, and the pair's axle is another
pub shorter_pair : (span : ℕ) (axles : List Axle) (pair next : Pair) → IsTrain axles → IsPair span axles pair → pair.run.first < pair.axle → IsFullRun span axles pair.run → IsSummed axles next.run → next.run.first ≡ pair.run.first + 1 → next.run.last ≡ pair.run.last → next.axle ≡ pair.axle → AreSums axles (pair.run.first + 1) pair.axle next.before → IsMore next.before pair.before (axle_at axles pair.run.first) → IsMore next.run.sums pair.run.sums (axle_at axles pair.run.first) → IsShearFrom span next ((axle_at axles pair.run.first).place + span) × IsPair span axles next
shorter_pair span axles pair next train p behind full summed first last axle before front more =
    let off = axle_at axles pair.run.first in
    let shear : IsShearFrom span next (off.place + span) = shear_without span next.before.weight pair.before.weight next.run.sums.weight pair.run.sums.weight next.run.sums.moment pair.run.sums.moment off.weight off.place front.weight more.weight more.moment p.to_first in
    let near : off.place ≤ (axle_at axles (pair.run.first + 1)).place = place_ordered axles 0 pair.run.first (pair.run.first + 1) train.rising (omega arith) (omega (arith, p.on.can_be.within)) in
    let near_span : off.place + span ≤ (axle_at axles (pair.run.first + 1)).place + span = omega arith in (
      shear,
      record {
        on = shorter_on span axles pair.run next.run train p.on full (omega (arith, p.to)) summed first last;
        from = rw (first, axle) (omega arith);
        to = rw (last, axle) p.to;
        before = rw (first, axle) before;
        to_first = rw first (omega (arith, shear, mul-le-mul_left next.run.sums.weight near_span));
        to_next = λ more.
            let apart = full (rw last at more) in
            let far : off.place + span ≤ (axle_at axles (pair.run.last + 1)).place = omega (arith, apart) in
            rw last (omega (arith, shear, mul-le-mul_left next.run.sums.weight far));
      },
    )

-- no tight pair of the shorter run is in front
pub shorter_fresh : (span : ℕ) (axles : List Axle) (pair next : Pair) → IsPair span axles next → next.run.first ≡ pair.run.first + 1 → IsShearFrom span next ((axle_at axles pair.run.first).place + span) → (k : ℕ) → IsTight span axles k next.run.first next.run.last → next.axle ≤ k
shorter_fresh span axles pair next n first shear =
    let here : next.run.first - 1 ≡ pair.run.first = omega (arith, first) in
    fresh span axles next ((axle_at axles pair.run.first).place + span) n shear (λ k t. rw here at (t.front_off (omega (arith, first))))
