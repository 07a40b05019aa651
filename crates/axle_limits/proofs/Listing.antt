-- The computed findings are those of the groups and of the gross weight, in order.
use Rattle.std.proofs.Common.{◌≡◌, ℕ, zero, suc, ◌-◌, ◌<◌, ◌≤◌, List, [], ◌∷◌, ◌++◌, length, map, filter, get_or, Bool, true, false, cond, ltb, All, Contains, AllPairs, arith, refl, sym, ap, ◌∙◌, inl, inr, subst, ◌↔◌}
use Rattle.std.proofs.lemmas.Bool.{cases_lt, ltb-true, ltb-false, lt-ltb}
use Rattle.std.proofs.lemmas.List.{map-append}
use Rattle.std.proofs.lemmas.List.Elements.{All-contains, All-map, All-filter, filter_passes, filter-append, Contains-append_cases, Contains-append_left, Contains-append_right}
use Rattle.std.proofs.lemmas.List.Kept.{AllPairs-filter}
use Rattle.axle_train.specs.declared.axle.Axle.{Axle}
use Rattle.axle_train.specs.Trains.{group_weight}
use Rattle.axle_limits.specs.declared.legal.TheConstants.{GROSS_LIMIT}
use Rattle.axle_limits.specs.declared.group.GroupLimit.{GroupLimit}
use Rattle.axle_limits.specs.declared.group.Rule.{Rule}
use Rattle.axle_limits.specs.declared.group.Rule.TheVariants.{Single, Tandem, Formula, TwoTandem, Gross}
use Rattle.axle_limits.specs.declared.finding.Finding.{Finding}
use Rattle.axle_limits.specs.declared.worst_group.WorstGroup.{WorstGroup}
use Rattle.axle_limits.specs.Limits.{IsGroupLimit, group_limit_of, computed_limit_of}
use Rattle.axle_limits.specs.Groups.{gross_of, group_at, groups_of, IsGroup, IsEarlierGroup}
use Rattle.axle_limits.specs.Findings.{IsGroupFinding, IsGrossFinding, ComesBefore, AreFindings, IsLegalByWeight, is_over_limit, finding_of, over_limit, gross_finding, findings_of}
use Rattle.axle_limits.proofs.Lists.{contains_filter, contains_map, pairs_append, pairs_map}
use Rattle.axle_limits.proofs.Groups.{groups_all, groups_contain, groups_rise}
use Rattle.axle_limits.proofs.OneLimit.{group_limit_is, group_limit_only}

-- the findings of two lists of groups, one after the other
pub over_limit-append : (axles : List Axle) (front back : List WorstGroup) → over_limit axles (front ++ back) ≡ over_limit axles front ++ over_limit axles back
over_limit-append axles front back =
    ap (map (finding_of axles)) (filter-append is_over_limit front back) ∙ map-append (finding_of axles) (filter is_over_limit front) (filter is_over_limit back)

-- the groups that are over their limits
abbrev over : List Axle → List WorstGroup
over axles = filter is_over_limit (groups_of axles)

-- each of them is told as it is
told : (axles : List Axle) (g : WorstGroup) → IsGroup axles g → is_over_limit g ≡ true → IsGroupFinding axles (finding_of axles g)
told axles g is high = record {
  ordered = is.ordered;
  within = is.within;
  weight_is = is.weight_is;
  limit_is = rw is.limit_is (group_limit_is axles g.i g.j is.ordered);
  over = ltb-true g.limit g.weight high;
}

each_is_over : (axles : List Axle) → All (λ g. IsGroup axles g × (is_over_limit g ≡ true)) (over axles)
each_is_over axles k d inside = (
  All-filter is_over_limit (IsGroup axles) (groups_of axles) (groups_all (IsGroup axles) axles (λ i j ordered within. record { ordered = ordered; within = within; weight_is = refl; limit_is = refl })) k d inside,
  filter_passes is_over_limit (groups_of axles) k d inside,
)

group_findings_only : (axles : List Axle) (f : Finding) → Contains (over_limit axles (groups_of axles)) f → IsGroupFinding axles f
group_findings_only axles f there = All-contains (IsGroupFinding axles) (over_limit axles (groups_of axles)) f
    (All-map (IsGroupFinding axles) (finding_of axles) (over axles) (λ k d inside. let is = each_is_over axles k d inside in told axles (get_or (over axles) k d) is.0 is.1)) there

-- and each group over its limit is told
all_group_findings : (axles : List Axle) (f : Finding) → IsGroupFinding axles f → Contains (over_limit axles (groups_of axles)) f
all_group_findings axles f is =
    let only : group_limit_of axles f.i f.j ≡ record { limit = f.limit; rule = f.rule } = group_limit_only axles f.i f.j f.limit f.rule is.ordered is.limit_is in
    let limit : computed_limit_of axles f.i f.j ≡ f.limit = ap (λ (l : GroupLimit). l.limit) only in
    let high : computed_limit_of axles f.i f.j < group_weight axles f.i f.j = omega (arith, limit, is.weight_is, is.over) in
    let passes = lt-ltb (computed_limit_of axles f.i f.j) (group_weight axles f.i f.j) high in
    let told : finding_of axles (group_at axles f.i f.j) ≡ f =
    λ t. record { i = f.i; j = f.j; weight = sym is.weight_is t; limit = (only t).limit; rule = (only t).rule } in
    subst (Contains (over_limit axles (groups_of axles))) told
    (contains_map (finding_of axles) (over axles) (group_at axles f.i f.j)
    (contains_filter is_over_limit (groups_of axles) (group_at axles f.i f.j) passes (groups_contain axles f.i f.j is.ordered is.within)))

-- no group has the rule of the gross weight
not_gross : (axles : List Axle) (i j limit : ℕ) (rule : Rule) → IsGroupLimit axles i j limit rule → ¬ (rule ≡ Gross)
not_gross axles i j limit Single h e = absurd cc
not_gross axles i j limit Tandem h e = absurd cc
not_gross axles i j limit Formula h e = absurd cc
not_gross axles i j limit TwoTandem h e = absurd cc
not_gross axles i j limit Gross h e = h

group_findings_rise : (axles : List Axle) → AllPairs ComesBefore (over_limit axles (groups_of axles))
group_findings_rise axles =
    pairs_map IsEarlierGroup ComesBefore (finding_of axles) (group_at axles 0 0) (over axles) (AllPairs-filter IsEarlierGroup is_over_limit (groups_of axles) (groups_rise axles)) (λ g h one other earlier.
    let is = (All-contains (λ g. IsGroup axles g × (is_over_limit g ≡ true)) (over axles) g (each_is_over axles) one).0 in
    let limit = group_limit_is axles g.i g.j is.ordered in
    (not_gross axles g.i g.j (computed_limit_of axles g.i g.j) (group_limit_of axles g.i g.j).rule limit, inr earlier))

-- the gross weight's finding, where it is over its limit
abbrev gross_computed : List Axle → Finding
gross_computed axles = record { i = 0; j = length axles - 1; weight = gross_of axles; limit = GROSS_LIMIT; rule = Gross }

-- a finding of the gross weight is this one
gross_only : (axles : List Axle) (f : Finding) → IsGrossFinding axles f → gross_computed axles ≡ f
gross_only axles f h = λ t. record { i = sym h.from_first t; j = sym h.to_last t; weight = sym h.weight_is t; limit = sym h.limit_is t; rule = sym h.rule_is t }

-- the list of the gross weight's finding: it is empty, or has this one
record GrossIsTold (axles : List Axle) (list : List Finding) : Type 0 where
  only : (f : Finding) → Contains list f → IsGrossFinding axles f
  all : (f : Finding) → IsGrossFinding axles f → Contains list f
  short : length list ≤ 1

gross_is_told : (axles : List Axle) (high : Bool) → ltb GROSS_LIMIT (gross_of axles) ≡ high → GrossIsTold axles (cond high (gross_computed axles ∷ []) [])
gross_is_told axles true h = record {
  only = λ f (k, inside, at). let one : gross_computed axles ≡ f = the_one k f inside at in subst (IsGrossFinding axles) one (record {
    from_first = refl;
    to_last = refl;
    weight_is = refl;
    limit_is = refl;
    rule_is = refl;
    over = ltb-true GROSS_LIMIT (gross_of axles) h;
  });
  all = λ f is. (0, omega arith, gross_only axles f is);
  short = omega arith;
}
  where
    the_one : (k : ℕ) (f : Finding) → k < length (gross_computed axles ∷ []) → get_or (gross_computed axles ∷ []) k f ≡ f → gross_computed axles ≡ f
    the_one zero f inside at = at
    the_one (suc k) f inside at = absurd (omega (arith, inside))
gross_is_told axles false h = record {
  only = λ f (k, inside, at). absurd (omega (arith, inside));
  all = λ f is. absurd (omega (arith, is.weight_is, is.over, ltb-false GROSS_LIMIT (gross_of axles) h));
  short = omega arith;
}

-- the computed list has exactly the findings, in order
pub are_findings : (axles : List Axle) → AreFindings axles (findings_of axles)
are_findings axles = record {
  listed = λ f. (
    (λ there. elim (Contains-append_cases groups (gross_finding axles) f there) [ inl group ↦ inl (group_findings_only axles f group) | inr whole ↦ inr (gross.only f whole) ]),
    (λ is. elim is [
      | inl group ↦ Contains-append_left groups (gross_finding axles) f (all_group_findings axles f group)
      | inr whole ↦ Contains-append_right groups (gross_finding axles) f (gross.all f whole)
    ]),
  );
  rising = pairs_append ComesBefore groups (gross_finding axles) (group_findings_rise axles) (λ i j d before inside. absurd (omega (arith, before, inside, gross.short))) (λ f g one other.
      let is = group_findings_only axles f one in
      (not_gross axles f.i f.j f.limit f.rule is.limit_is, inl (gross.only g other).rule_is));
}
  where
    groups : List Finding
    groups = over_limit axles (groups_of axles)

    gross : GrossIsTold axles (gross_finding axles)
    gross = gross_is_told axles (ltb GROSS_LIMIT (gross_of axles)) refl

none_contained : (f : Finding) → Contains [] f → ⊥
none_contained f h = omega (arith, h.1)

-- a truck without findings is legal by weight
legal_if_none : (axles : List Axle) (list : List Finding) → AreFindings axles list → list ≡ [] → IsLegalByWeight axles
legal_if_none axles list are none = record {
  groups = λ i j limit rule ordered within is. elim (cases_lt limit (group_weight axles i j)) [
    | inl over ↦ (let f : Finding = record { i = i; j = j; weight = group_weight axles i j; limit = limit; rule = rule } in
        absurd (none_contained f (subst (λ t. Contains t f) none ((are.listed f).1 (inl (record { ordered = ordered; within = within; weight_is = refl; limit_is = is; over = over }))))))
    | inr fits ↦ fits
  ];
  gross = elim (cases_lt GROSS_LIMIT (gross_of axles)) [
    | inl over ↦ absurd (none_contained (gross_computed axles) (subst (λ t. Contains t (gross_computed axles)) none ((are.listed (gross_computed axles)).1 (inr (record { from_first = refl; to_last = refl; weight_is = refl; limit_is = refl; rule_is = refl; over = over })))))
    | inr fits ↦ fits
  ];
}

-- a truck that is legal by weight has no findings
none_if_legal : (axles : List Axle) (list : List Finding) → AreFindings axles list → IsLegalByWeight axles → list ≡ []
none_if_legal axles [] are legal = refl
none_if_legal axles (f ∷ rest) are legal =
    absurd (elim ((are.listed f).0 (0, omega arith, refl)) [
      | inl group ↦ omega (arith, group.over, group.weight_is, legal.groups f.i f.j f.limit f.rule group.ordered group.within group.limit_is)
      | inr gross ↦ omega (arith, gross.over, gross.weight_is, legal.gross)
    ])

-- the list is empty exactly where the truck is legal by weight
pub none_iff_legal : (axles : List Axle) (list : List Finding) → AreFindings axles list → (list ≡ []) ↔ IsLegalByWeight axles
none_iff_legal axles list are = (legal_if_none axles list are, none_if_legal axles list are)
