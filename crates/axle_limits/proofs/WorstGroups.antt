-- Some group is the worst, and it is the one that is computed.
use Rattle.std.proofs.Common.{◌≡◌, ℕ, suc, ◌*◌, ◌<◌, ◌≤◌, List, [], ◌∷◌, length, find, get_or, Bool, true, false, Option, Some, None, All, Contains, subst, arith, refl, sym, ap, ◌∙◌, inl, inr}
use Rattle.std.specs.Prelude.{unwrap_or}
use Rattle.std.specs.List.{list_all}
use Rattle.std.proofs.lemmas.Bool.{cases_lt, leb-true, le-leb, true≢false}
use Rattle.std.proofs.lemmas.List.Elements.{All-cons, All-head, All-tail, at_from_Contains}
use Rattle.std.proofs.lemmas.List.Sums.{AllPass-from_list_all, list_all-from_AllPass}
use Rattle.axle_train.specs.declared.axle.Axle.{Axle}
use Rattle.axle_train.specs.Trains.{group_weight}
use Rattle.axle_limits.specs.declared.worst_group.WorstGroup.{WorstGroup}
use Rattle.axle_limits.specs.Limits.{computed_limit_of}
use Rattle.axle_limits.specs.Groups.{group_at, groups_of, IsEarlierGroup}
use Rattle.axle_limits.specs.Worst.{IsWorst, IsBetter, is_no_worse, worst_of, WorstIsThere, WorstIsOne}
use Rattle.axle_limits.proofs.Cross.{cross_trans}
use Rattle.axle_limits.proofs.Lists.{IsFirst, found_first, found_none}
use Rattle.axle_limits.proofs.Groups.{group_is, group_from, groups_all, groups_contain, groups_rise, each_group}
use Rattle.axle_limits.proofs.SoFar.{limit_some}

-- the second group is no worse than the first
abbrev NoWorse : WorstGroup → WorstGroup → Type 0
NoWorse g h = h.weight * g.limit ≤ g.weight * h.limit

-- of some groups, none is worse than one of them
record HasWorst (gs : List WorstGroup) : Type 0 where
  it : WorstGroup
  among : Contains gs it
  some : 0 < it.limit
  most : All (NoWorse it) gs

worst_among : (g : WorstGroup) (gs : List WorstGroup) → All (λ h. 0 < h.limit) (g ∷ gs) → HasWorst (g ∷ gs)
worst_among g [] some = record { it = g; among = (0, omega arith, refl); some = All-head (λ h. 0 < h.limit) g [] some; most = λ k d h. only k d h }
  where
    only : (k : ℕ) (d : WorstGroup) → k < length (g ∷ []) → NoWorse g (get_or (g ∷ []) k d)
    only k d h = let first : k ≡ 0 = omega (arith, h) in rw first (omega arith)
worst_among g (h ∷ gs) some =
    let rest = worst_among h gs (All-tail (λ h. 0 < h.limit) g (h ∷ gs) some) in
    let own : 0 < g.limit = All-head (λ h. 0 < h.limit) g (h ∷ gs) some in
    elim (cases_lt (rest.it.weight * g.limit) (g.weight * rest.it.limit)) [
      | inl worse ↦ record {
        it = g;
        among = (0, omega arith, refl);
        some = own;
        most = All-cons (NoWorse g) g (h ∷ gs) (omega arith) (λ k d inside.
            cross_trans (get_or (h ∷ gs) k d).weight (get_or (h ∷ gs) k d).limit rest.it.weight rest.it.limit g.weight g.limit (rest.most k d inside) (omega (arith, worse)) rest.some);
      }
      | inr least ↦ record {
        it = rest.it;
        among = (let (k, inside, at) = rest.among in (suc k, omega (arith, inside), at));
        some = rest.some;
        most = All-cons (NoWorse rest.it) g (h ∷ gs) least rest.most;
      }
    ]

has_worst : (gs : List WorstGroup) (g : WorstGroup) → Contains gs g → All (λ h. 0 < h.limit) gs → HasWorst gs
has_worst [] g (k, inside, at) some = absurd (omega (arith, inside))
has_worst (h ∷ gs) g there some = worst_among h gs some

-- no group of these axles is worse
abbrev is_worst : List Axle → WorstGroup → Bool
is_worst axles g = list_all (is_no_worse g) (groups_of axles)

-- a group than which another is worse is better than one than which none is
fails_then_better : (axles : List Axle) (w g : WorstGroup) → 0 < w.limit → is_worst axles w ≡ true → is_worst axles g ≡ false → g.weight * w.limit < w.weight * g.limit
fails_then_better axles w g some passes fails = elim (cases_lt (g.weight * w.limit) (w.weight * g.limit)) [
  | inl better ↦ better
  | inr equal ↦ absurd (true≢false (sym (list_all-from_AllPass (is_no_worse g) (groups_of axles) (λ k d inside.
      let h = get_or (groups_of axles) k d in
      le-leb (h.weight * g.limit) (g.weight * h.limit) (cross_trans h.weight h.limit w.weight w.limit g.weight g.limit
      (leb-true (h.weight * w.limit) (w.weight * h.limit) (AllPass-from_list_all (is_no_worse w) (groups_of axles) passes k d inside)) equal some))) ∙ fails))
]

not_itself : (g : WorstGroup) → IsEarlierGroup g g → ⊥
not_itself g (inl row) = omega (arith, row)
not_itself g (inr (row, last)) = omega (arith, last)

not_both : (g h : WorstGroup) → IsEarlierGroup g h → IsEarlierGroup h g → ⊥
not_both g h (inl row) (inl other) = omega (arith, row, other)
not_both g h (inl row) (inr (other, last)) = omega (arith, row, other)
not_both g h (inr (row, last)) (inl other) = omega (arith, row, other)
not_both g h (inr (row, last)) (inr (other, first)) = omega (arith, last, first)

-- a test that first passes at one group fails at the earlier ones
earlier_fails : (p : WorstGroup → Bool) (axles : List Axle) (w g : WorstGroup) → IsFirst p (groups_of axles) w → Contains (groups_of axles) g → IsEarlierGroup g w → p g ≡ false
earlier_fails p axles w g first there earlier =
    let (k, inside, at) = at_from_Contains (groups_of axles) g there in
    elim (cases_lt k first.place) [
      | inl before ↦ ap p (sym (at g)) ∙ first.before k g before
      | inr past ↦ elim (cases_lt first.place k) [
        | inl after ↦ absurd (not_both w g (rw (first.at g, at g) at (groups_rise axles first.place k g after inside)) earlier)
        | inr same ↦ (
            let e : k ≡ first.place = omega (arith, past, same) in
            let one : g ≡ w = sym (at g) ∙ ap (λ n. get_or (groups_of axles) n g) e ∙ first.at g in
            absurd (not_itself w (subst (λ h. IsEarlierGroup h w) one earlier))
            )
      ]
    ]

first_is_worst : (axles : List Axle) (w : WorstGroup) → IsFirst (is_worst axles) (groups_of axles) w → IsWorst axles w
first_is_worst axles w first =
    let group = group_from axles w (first.place, first.within, first.at w) in
    let some : 0 < w.limit = rw group.limit_is (limit_some axles w.i w.j) in
    let better = λ (g : WorstGroup) (there : Contains (groups_of axles) g) (earlier : IsEarlierGroup g w).
    fails_then_better axles w g some first.passes (earlier_fails (is_worst axles) axles w g first there earlier) in
    record {
      is_group = group;
      greatest = λ a b ordered within. leb-true (group_weight axles a b * w.limit) (w.weight * computed_limit_of axles a b) (each_group (is_no_worse w) axles a b first.passes ordered within);
      first_row = λ a b before ordered within. better (group_at axles a b) (groups_contain axles a b ordered within) (inl before);
      first_in_row = λ b ordered before. better (group_at axles w.i b) (groups_contain axles w.i b ordered (omega (arith, before, group.within))) (inr (refl, before));
    }

-- the group that is computed is the worst one
pub worst_is_there : WorstIsThere
unfolding worst_of
worst_is_there axles some = by (find (is_worst axles) (groups_of axles)) refl
  where
    by : (o : Option WorstGroup) → find (is_worst axles) (groups_of axles) ≡ o → IsWorst axles (unwrap_or o (group_at axles 0 0))
    by (Some w) e = first_is_worst axles w (found_first (is_worst axles) (groups_of axles) w e)
    by None e =
        let limits = groups_all (λ h. 0 < h.limit) axles (λ i j ordered within. limit_some axles i j) in
        let w = has_worst (groups_of axles) (group_at axles 0 0) (groups_contain axles 0 0 (omega arith) some) limits in
        let passes = list_all-from_AllPass (is_no_worse w.it) (groups_of axles) (λ k d inside.
        let h = get_or (groups_of axles) k d in le-leb (h.weight * w.it.limit) (w.it.weight * h.limit) (w.most k d inside)) in
        absurd (true≢false (sym passes ∙ found_none (is_worst axles) (groups_of axles) e w.it w.among))

not_earlier : (axles : List Axle) (g h : WorstGroup) → IsWorst axles g → IsWorst axles h → IsEarlierGroup g h → ⊥
not_earlier axles g h is other earlier =
    let low : IsBetter axles g.i g.j h = better earlier in
    let high = is.greatest h.i h.j other.is_group.ordered other.is_group.within in
    omega (arith, rw (← is.is_group.weight_is, ← is.is_group.limit_is) at low, rw (← other.is_group.weight_is, ← other.is_group.limit_is) at high)
  where
    better : IsEarlierGroup g h → IsBetter axles g.i g.j h
    better (inl row) = other.first_row g.i g.j row is.is_group.ordered is.is_group.within
    better (inr (row, last)) = subst (λ t. IsBetter axles t g.j h) (sym row) (other.first_in_row g.j (omega (arith, row, is.is_group.ordered)) last)

-- two worst groups are one
pub worst_is_one : WorstIsOne
worst_is_one axles g is =
    sym (group_is axles g is.is_group) ∙ ap (λ i. group_at axles i g.j) first ∙ ap (λ j. group_at axles h.i j) last ∙ group_is axles h other.is_group
  where
    h : WorstGroup
    h = worst_of axles

    other : IsWorst axles h
    other = worst_is_there axles (omega (arith, is.is_group.within))

    first : g.i ≡ h.i
    first = elim (cases_lt g.i h.i) [
      | inl row ↦ absurd (not_earlier axles g h is other (inl row))
      | inr from ↦ elim (cases_lt h.i g.i) [ inl row ↦ absurd (not_earlier axles h g other is (inl row)) | inr to ↦ omega (arith, from, to) ]
    ]

    last : g.j ≡ h.j
    last = elim (cases_lt g.j h.j) [
      | inl before ↦ absurd (not_earlier axles g h is other (inr (first, before)))
      | inr from ↦ elim (cases_lt h.j g.j) [ inl before ↦ absurd (not_earlier axles h g other is (inr (sym first, before))) | inr to ↦ omega (arith, from, to) ]
    ]
