-- The sums of neighbouring axles, one axle more or less at a time.
use Rattle.std.proofs.Common.{◌≡◌, ℕ, suc, ◌+◌, ◌-◌, ◌*◌, ◌<◌, ◌≤◌, List, [], ◌∷◌, length, take, drop, sum_by, arith, length-drop, get_or-drop, refl}
use Rattle.std.proofs.Math.Nat.{sub_self, mul-le-mul_left}
use Rattle.std.proofs.Math.Seq.{drop-cons}
use Rattle.std.proofs.lemmas.List.Sums.{sum_by_more, sum_by-take-le, sum_by-take-drop, sum_by-cons}
use Rattle.axle_train.specs.declared.axle.Axle.{Axle}
use Rattle.axle_train.specs.Bounds.{EachFits, IsTrain}
use Rattle.axle_train.specs.Trains.{axle_at, no_axle}
use Rattle.influence_line.proofs.Totals.{total, total_is}
use Rattle.moment_peak.proofs.Runs.{weight_of, moment_of}
use Rattle.moment_peak.specs.declared.run.Run.{Run}
use Rattle.moment_peak.specs.declared.run.Sums.{Sums}
use Rattle.moment_peak.specs.Runs.{weight_in, moment_in}
use Rattle.moment_peak.specs.Sweeps.{AreSums, IsMore, IsSummed}

-- one axle more at the end
pub sum_more : (f : Axle → ℕ) (axles : List Axle) (first last : ℕ) → first ≤ last → last < length axles → sum_by f (take (last + 1 - first) (drop first axles)) ≡ sum_by f (take (last - first) (drop first axles)) + f (axle_at axles last)
sum_more f axles first last ordered within =
    let n : last + 1 - first ≡ (last - first) + 1 = omega arith in
    let here : first + (last - first) ≡ last = omega arith in
    let h : last - first < length (drop first axles) = omega (arith, length-drop first axles) in
    rw (n, sum_by_more f (drop first axles) (last - first) no_axle h, get_or-drop, here) refl

-- no axle
pub sum_none : (f : Axle → ℕ) (axles : List Axle) (first : ℕ) → sum_by f (take (first - first) (drop first axles)) ≡ 0
sum_none f axles first = rw (sub_self first) refl

-- one axle less at the front
pub sum_less : (f : Axle → ℕ) (axles : List Axle) (first end : ℕ) → first < end → end ≤ length axles → sum_by f (take (end - first) (drop first axles)) ≡ f (axle_at axles first) + sum_by f (take (end - (first + 1)) (drop (first + 1) axles))
sum_less f axles first end ordered within =
    let n : end - first ≡ suc (end - suc first) = omega arith in
    let next : first + 1 ≡ suc first = omega arith in
    rw (n, drop-cons axles first no_axle (omega arith), next) (sum_by-cons f (axle_at axles first) (take (end - suc first) (drop (suc first) axles)))

-- neighbouring axles give no more than the train
pub sum_part : (f : Axle → ℕ) (axles : List Axle) (first n : ℕ) → sum_by f (take n (drop first axles)) ≤ sum_by f axles
sum_part f axles first n = omega (arith, sum_by-take-le f (drop first axles) n, sum_by-take-drop f axles first)

moment_most : (axles : List Axle) → EachFits axles → total moment_of axles ≤ 3000 * total weight_of axles
moment_most [] each = omega arith
moment_most (a ∷ rest) each = omega (arith, mul-le-mul_left a.weight each.0, moment_most rest each.3)

-- the sums of a train's axles are within their bounds
pub are_sums : (axles : List Axle) (first end : ℕ) (sums : Sums) → IsTrain axles → sums.weight ≡ weight_in (take (end - first) (drop first axles)) → sums.moment ≡ moment_in (take (end - first) (drop first axles)) → AreSums axles first end sums
are_sums axles first end sums train weight moment = record {
  weight = weight;
  moment = moment;
  light = omega (arith, sum_part weight_of axles first (end - first), train.gross);
  near = omega (arith, sum_part moment_of axles first (end - first), moment_most axles train.each, total_is moment_of axles, total_is weight_of axles, train.gross);
}

-- the sums with one axle more
pub sums_with : (axles : List Axle) (first k : ℕ) (before after : Sums) → IsTrain axles → first ≤ k → k < length axles → AreSums axles first k before → IsMore before after (axle_at axles k) → AreSums axles first (k + 1) after
sums_with axles first k before after train from within b more =
    are_sums axles first (k + 1) after train
    (omega (arith, more.weight, b.weight, sum_more weight_of axles first k from within))
    (omega (arith, more.moment, b.moment, sum_more moment_of axles first k from within))

-- and without the first of them
pub sums_without : (axles : List Axle) (first k : ℕ) (before next : Sums) → IsTrain axles → first < k → k ≤ length axles → AreSums axles first k before → IsMore next before (axle_at axles first) → AreSums axles (first + 1) k next
sums_without axles first k before next train behind within b more =
    are_sums axles (first + 1) k next train
    (omega (arith, b.weight, more.weight, sum_less weight_of axles first k behind within))
    (omega (arith, b.moment, more.moment, sum_less moment_of axles first k behind within))

-- no axle
pub sums_none : (axles : List Axle) (first : ℕ) (sums : Sums) → IsTrain axles → sums.weight ≡ 0 → sums.moment ≡ 0 → AreSums axles first first sums
sums_none axles first sums train weight moment = are_sums axles first first sums train (omega (arith, weight, sum_none weight_of axles first)) (omega (arith, moment, sum_none moment_of axles first))

-- a run with the axle behind it
pub summed_with : (axles : List Axle) (run next : Run) → IsTrain axles → IsSummed axles run → run.last + 1 < length axles → next.first ≡ run.first → next.last ≡ run.last + 1 → IsMore run.sums next.sums (axle_at axles (run.last + 1)) → IsSummed axles next
summed_with axles run next train s within first last more = record {
  ordered = omega (arith, s.ordered, first, last);
  within = omega (arith, last);
  sums = rw (first, last) (sums_with axles run.first (run.last + 1) run.sums next.sums train (omega (arith, s.ordered)) within s.sums more);
}

-- a run without its first axle
pub summed_without_first : (axles : List Axle) (run next : Run) → IsTrain axles → IsSummed axles run → run.first < run.last → next.first ≡ run.first + 1 → next.last ≡ run.last → IsMore next.sums run.sums (axle_at axles run.first) → IsSummed axles next
summed_without_first axles run next train s longer first last more = record {
  ordered = omega (arith, first, last);
  within = omega (arith, last, s.within);
  sums = rw (first, last) (sums_without axles run.first (run.last + 1) run.sums next.sums train (omega arith) (omega (arith, s.within)) s.sums more);
}

-- a run without its last axle
pub summed_without_last : (axles : List Axle) (run next : Run) → IsTrain axles → IsSummed axles run → run.first < run.last → next.first ≡ run.first → next.last + 1 ≡ run.last → IsMore next.sums run.sums (axle_at axles run.last) → IsSummed axles next
summed_without_last axles run next train s longer first last more = record {
  ordered = omega (arith, first, last);
  within = omega (arith, last, s.within);
  sums = rw (first, last) (are_sums axles run.first run.last next.sums train
      (omega (arith, s.sums.weight, more.weight, sum_more weight_of axles run.first run.last s.ordered s.within))
      (omega (arith, s.sums.moment, more.moment, sum_more moment_of axles run.first run.last s.ordered s.within)));
}

-- the first axle is part of the sums of those before a later one, and the last one of a run of its sums
pub front_part : (axles : List Axle) (first k : ℕ) (before : Sums) → first < k → k ≤ length axles → AreSums axles first k before → ((axle_at axles first).weight ≤ before.weight) × ((axle_at axles first).weight * (axle_at axles first).place ≤ before.moment)
front_part axles first k before behind within b =
    (omega (arith, b.weight, sum_less weight_of axles first k behind within), omega (arith, b.moment, sum_less moment_of axles first k behind within))

pub last_part : (axles : List Axle) (run : Run) → IsSummed axles run → ((axle_at axles run.last).weight ≤ run.sums.weight) × ((axle_at axles run.last).weight * (axle_at axles run.last).place ≤ run.sums.moment)
last_part axles run s =
    (omega (arith, s.sums.weight, sum_more weight_of axles run.first run.last s.ordered s.within), omega (arith, s.sums.moment, sum_more moment_of axles run.first run.last s.ordered s.within))
