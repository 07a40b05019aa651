-- The reaction with an axle at a support, by the sums of the axles before the first and before the last on the span.
use Rattle.std.proofs.Common.{◌≡◌, ℕ, zero, suc, ◌+◌, ◌-◌, ◌*◌, ◌<◌, ◌≤◌, List, [], ◌∷◌, length, take, sum_by, arith, refl, ap, sym, ◌∙◌, ℤ, pos, negsuc, neg_ℤ, ◌+ℤ◌, ◌-ℤ◌, ◌≤ℤ◌, inl, inr}
use Rattle.std.proofs.lemmas.Int.{ints}
use Rattle.std.proofs.lemmas.Bool.{cases_lt}
use Rattle.axle_train.specs.declared.axle.Axle.{Axle}
use Rattle.axle_train.specs.Bounds.{RisesFrom, IsTrain}
use Rattle.axle_train.specs.Trains.{axle_at}
use Rattle.axle_train.proofs.Places.{place_rises, place_ordered}
use Rattle.influence_line.specs.Placed.{right_line, Load, placed}
use Rattle.influence_line.specs.Reactions.{reaction_line}
use Rattle.influence_line.specs.declared.placing.End.{End}
use Rattle.influence_line.specs.declared.placing.End.TheVariants.{Left, Right}
use Rattle.influence_line.proofs.Totals.{total, total_is}
use Rattle.influence_line.proofs.ReactionLines.{left_on, left_before, right_on, right_le, right_past}
use Rattle.shear_peak.specs.Ends.{lead_to, reaction_to}
use Rattle.shear_peak.specs.Fronts.{AreFromLeft, AreToRight}
use Rattle.shear_peak.specs.declared.reactions.OnSpan.{OnSpan}

none_of : (g : Axle → ℕ) (axles : List Axle) → ((i : ℕ) → i < length axles → g (axle_at axles i) ≡ 0) → total g axles ≡ 0
none_of g [] zeros = refl
none_of g (a ∷ rest) zeros = omega (arith, zeros 0 (omega arith), none_of g rest (λ i h. zeros (suc i) (omega (arith, h))))

-- where g is 0 outside a run and g + h is f inside, the sum of g is the difference of the sums of f and h over the run, each by two prefixes
between : (g h f : Axle → ℕ) (axles : List Axle) (first end : ℕ) → first ≤ end → end ≤ length axles →
    ((i : ℕ) → i < first → g (axle_at axles i) ≡ 0) →
    ((i : ℕ) → end ≤ i → i < length axles → g (axle_at axles i) ≡ 0) →
    ((i : ℕ) → first ≤ i → i < end → g (axle_at axles i) + h (axle_at axles i) ≡ f (axle_at axles i)) →
    total g axles + (total h (take end axles) + total f (take first axles)) ≡ total f (take end axles) + total h (take first axles)
between g h f [] first zero ordered within before past on = let none : first ≡ 0 = omega (arith, ordered) in rw none refl
between g h f [] first (suc end) ordered within before past on = absurd (omega (arith, within))
between g h f (a ∷ rest) zero zero ordered within before past on = omega (arith, none_of g (a ∷ rest) (λ i. past i (omega arith)))
between g h f (a ∷ rest) (suc first) zero ordered within before past on = absurd (omega (arith, ordered))
between g h f (a ∷ rest) zero (suc end) ordered within before past on =
    omega (arith, on 0 (omega arith) (omega arith), between g h f rest 0 end (omega arith) (omega (arith, within)) (λ i off. absurd (omega (arith, off))) (λ i at to. past (suc i) (omega (arith, at)) (omega (arith, to))) (λ i at to. on (suc i) (omega arith) (omega (arith, to))))
between g h f (a ∷ rest) (suc first) (suc end) ordered within before past on =
    omega (arith, before 0 (omega arith), between g h f rest first end (omega (arith, ordered)) (omega (arith, within)) (λ i off. before (suc i) (omega (arith, off))) (λ i at to. past (suc i) (omega (arith, at)) (omega (arith, to))) (λ i at to. on (suc i) (omega (arith, at)) (omega (arith, to))))

abbrev pub weight_of : Axle → ℕ
weight_of a = a.weight

abbrev pub moment_of : Axle → ℕ
moment_of a = a.weight * a.place

-- a multiple of the weight, and a multiple with the moment
weights : (c : ℕ) (axles : List Axle) → total (λ (a : Axle). c * a.weight) axles ≡ c * total weight_of axles
weights c [] = omega arith
weights c (a ∷ rest) = omega (arith, weights c rest)

weights_and_moments : (c : ℕ) (axles : List Axle) → total (λ (a : Axle). c * a.weight + a.weight * a.place) axles ≡ c * total weight_of axles + total moment_of axles
weights_and_moments c [] = omega arith
weights_and_moments c (a ∷ rest) = omega (arith, weights_and_moments c rest)

-- a sum over the loads of a placed train is one over its axles
over_axles : (f : Load → ℕ) (q : ℕ) (lead : ℤ) (axles : List Axle) → total f (placed q lead axles) ≡ total (λ (a : Axle). f (record { at = lead +ℤ pos (q * a.place); weight = a.weight })) axles
over_axles f q lead [] = refl
over_axles f q lead (a ∷ rest) = ap (λ t. f (record { at = lead +ℤ pos (q * a.place); weight = a.weight }) + t) (over_axles f q lead rest)

abbrev part_at : ℕ → End → ℤ → Axle → ℕ
part_at span end lead a = a.weight * reaction_line (1 * span) end (lead +ℤ pos (1 * a.place))

reaction_is : (axles : List Axle) (span : ℕ) (end : End) (k : ℕ) → reaction_to axles span end k ≡ total (part_at span end (lead_to span end (axle_at axles k).place)) axles
reaction_is axles span end k =
    sym (total_is (λ (l : Load). l.weight * reaction_line (1 * span) end l.at) (placed 1 (lead_to span end (axle_at axles k).place) axles))
    ∙ over_axles (λ (l : Load). l.weight * reaction_line (1 * span) end l.at) 1 (lead_to span end (axle_at axles k).place) axles

-- what an axle gives to the left reaction with `place` at the left support: nothing in front of it and nothing on or past the right support
left_off : (span place : ℕ) (a : Axle) → a.place < place → part_at span Left (neg_ℤ (pos place)) a ≡ 0
left_off span place a off = rw (left_before (1 * span) (neg_ℤ (pos place) +ℤ pos (1 * a.place)) (omega (arith, ints))) (omega arith)

left_at : (span place : ℕ) (a : Axle) → place ≤ a.place → part_at span Left (neg_ℤ (pos place)) a ≡ a.weight * (span - (a.place - place))
left_at span place a at =
    let here : neg_ℤ (pos place) +ℤ pos (1 * a.place) ≡ pos (a.place - place) = omega (arith, ints) in
    let one : 1 * span ≡ span = omega arith in
    rw (here, one, left_on span (a.place - place)) refl

left_beyond : (span place : ℕ) (a : Axle) → place + span ≤ a.place → part_at span Left (neg_ℤ (pos place)) a ≡ 0
left_beyond span place a off =
    let gone : span - (a.place - place) ≡ 0 = omega arith in
    left_at span place a (omega arith) ∙ rw gone (omega arith)

left_over : (span place : ℕ) (a : Axle) → place ≤ a.place → a.place < place + span → part_at span Left (neg_ℤ (pos place)) a + a.weight * a.place ≡ (place + span) * a.weight
left_over span place a at on =
    let sum : (span - (a.place - place)) + a.place ≡ place + span = omega arith in
    omega (arith, left_at span place a at, ap (λ t. a.weight * t) sum)

right_none : (n : ℕ) (x : ℤ) → x ≤ℤ pos 0 → right_line n x ≡ 0
right_none n (pos x) off = omega (arith, ints, off, right_le n x)
right_none n (negsuc x) off = refl

-- and to the right reaction with `place` at the right support: nothing on or past the left support and nothing behind it
right_off : (span place : ℕ) (a : Axle) → a.place + span ≤ place → part_at span Right (pos span -ℤ pos place) a ≡ 0
right_off span place a off = rw (right_none (1 * span) ((pos span -ℤ pos place) +ℤ pos (1 * a.place)) (omega (arith, ints))) (omega arith)

right_at : (span place : ℕ) (a : Axle) → a.place ≤ place → place < a.place + span → part_at span Right (pos span -ℤ pos place) a ≡ a.weight * (span + a.place - place)
right_at span place a at on =
    let here : (pos span -ℤ pos place) +ℤ pos (1 * a.place) ≡ pos (span + a.place - place) = omega (arith, ints) in
    let one : 1 * span ≡ span = omega arith in
    rw (here, one, right_on span (span + a.place - place) (omega arith)) refl

right_over : (span place : ℕ) (a : Axle) → a.place ≤ place → place < a.place + span → part_at span Right (pos span -ℤ pos place) a + place * a.weight ≡ span * a.weight + a.weight * a.place
right_over span place a at on =
    let sum : (span + a.place - place) + place ≡ span + a.place = omega arith in
    omega (arith, right_at span place a at on, ap (λ t. a.weight * t) sum)

right_beyond : (span place : ℕ) (a : Axle) → place < a.place → part_at span Right (pos span -ℤ pos place) a ≡ 0
right_beyond span place a off = rw (right_past (1 * span) ((pos span -ℤ pos place) +ℤ pos (1 * a.place)) (omega (arith, ints))) (omega arith)

-- the left reaction with axle k at the left support, where the axles from k to `end` are those in front of the right one
pub left_by_sums : (span : ℕ) (axles : List Axle) (k end : ℕ) → RisesFrom 0 axles → k ≤ end → k < length axles → end ≤ length axles →
    ((i : ℕ) → i < end → (axle_at axles i).place < (axle_at axles k).place + span) →
    ((i : ℕ) → end ≤ i → i < length axles → (axle_at axles k).place + span ≤ (axle_at axles i).place) →
    reaction_to axles span Left k + (sum_by moment_of (take end axles) + ((axle_at axles k).place + span) * sum_by weight_of (take k axles))
    ≡ ((axle_at axles k).place + span) * sum_by weight_of (take end axles) + sum_by moment_of (take k axles)
left_by_sums span axles k end rises ordered within short on past =
    let place = (axle_at axles k).place in
    let reach = place + span in
    let sums = between (part_at span Left (neg_ℤ (pos place))) moment_of (λ (a : Axle). reach * a.weight) axles k end ordered short
    (λ i off. left_off span place (axle_at axles i) (place_rises axles 0 i k rises off within))
    (λ i at to. left_beyond span place (axle_at axles i) (past i at to))
    (λ i at to. left_over span place (axle_at axles i) (place_ordered axles 0 k i rises at (omega (arith, to, short))) (on i to)) in
    rw (reaction_is axles span Left k, ← total_is moment_of (take end axles), ← total_is moment_of (take k axles), ← total_is weight_of (take end axles), ← total_is weight_of (take k axles))
    (omega (arith, sums, weights reach (take end axles), weights reach (take k axles)))

-- the right reaction with axle k at the right support, where the axles from `first` to k are those behind the left one
pub right_by_sums : (span : ℕ) (axles : List Axle) (first k : ℕ) → RisesFrom 0 axles → first ≤ k → k < length axles →
    ((i : ℕ) → i < first → (axle_at axles i).place + span ≤ (axle_at axles k).place) →
    ((i : ℕ) → first ≤ i → i < length axles → (axle_at axles k).place < (axle_at axles i).place + span) →
    reaction_to axles span Right k + ((axle_at axles k).place * sum_by weight_of (take (k + 1) axles) + (span * sum_by weight_of (take first axles) + sum_by moment_of (take first axles)))
    ≡ span * sum_by weight_of (take (k + 1) axles) + sum_by moment_of (take (k + 1) axles) + (axle_at axles k).place * sum_by weight_of (take first axles)
right_by_sums span axles first k rises ordered within off on =
    let place = (axle_at axles k).place in
    let sums = between (part_at span Right (pos span -ℤ pos place)) (λ (a : Axle). place * a.weight) (λ (a : Axle). span * a.weight + a.weight * a.place) axles first (k + 1) (omega (arith, ordered)) (omega (arith, within))
    (λ i before. right_off span place (axle_at axles i) (off i before))
    (λ i at to. right_beyond span place (axle_at axles i) (place_rises axles 0 k i rises (omega (arith, at)) to))
    (λ i at to. right_over span place (axle_at axles i) (place_ordered axles 0 i k rises (omega (arith, to)) within) (on i at (omega (arith, to, within)))) in
    rw (reaction_is axles span Right k, ← total_is moment_of (take (k + 1) axles), ← total_is moment_of (take first axles), ← total_is weight_of (take (k + 1) axles), ← total_is weight_of (take first axles))
    (omega (arith, sums, weights place (take (k + 1) axles), weights place (take first axles), weights_and_moments span (take (k + 1) axles), weights_and_moments span (take first axles)))

-- the same by running sums
pub left_of_fronts : (span : ℕ) (axles : List Axle) (k : ℕ) (on : OnSpan) → 1 ≤ span → IsTrain axles → AreFromLeft axles span k on →
    reaction_to axles span Left k + (on.through.moment + ((axle_at axles k).place + span) * on.before.weight) ≡ ((axle_at axles k).place + span) * on.through.weight + on.before.moment
left_of_fronts span axles k on some train are =
    let ordered : k ≤ on.through.axles = elim (cases_lt on.through.axles k) [ inl less ↦ absurd (omega (arith, are.past k (omega arith) are.within)) | inr more ↦ more ] in
    let sums = left_by_sums span axles k on.through.axles train.rising ordered are.within are.through.within are.on are.past in
    rw (are.through.weight, are.through.moment, are.before.weight, are.before.moment, are.first) sums

pub right_of_fronts : (span : ℕ) (axles : List Axle) (k : ℕ) (on : OnSpan) → 1 ≤ span → IsTrain axles → AreToRight axles span k on →
    reaction_to axles span Right k + ((axle_at axles k).place * on.through.weight + (span * on.before.weight + on.before.moment)) ≡ span * on.through.weight + on.through.moment + (axle_at axles k).place * on.before.weight
right_of_fronts span axles k on some train are =
    let ordered : on.before.axles ≤ k = elim (cases_lt k on.before.axles) [ inl less ↦ absurd (omega (arith, are.off k less)) | inr more ↦ more ] in
    let sums = right_by_sums span axles on.before.axles k train.rising ordered are.within are.off are.on in
    rw (are.through.weight, are.through.moment, are.before.weight, are.before.moment, are.last) sums
