-- Among some fractions, at least one, there is one that none exceeds, and `greatest` finds such a one.
use Rattle.std.proofs.Common.{◌≡◌, zero, suc, ◌*◌, ◌<◌, ◌≤◌, List, [], ◌∷◌, length, Bool, true, Some, arith, refl, ◌∙◌, inl, inr}
use Rattle.std.specs.List.{All, find, list_all, AllByRecursion, Contains}
use Rattle.std.proofs.lemmas.Bool.{cases_Bool, cases_lt, and_parts, and_from, leb-true, le-leb, cond-true, cond-false}
use Rattle.std.proofs.lemmas.List.Elements.{All-contains, All-from_recursion, All-weaker, recursion_from_All, Contains-append_right}
use Rattle.influence_line.specs.Fractions.{Ratio}
use Rattle.influence_line.specs.Greatest.{greatest, ratio_le}
use Rattle.influence_line.proofs.Cross.{cross_trans}

-- a fraction is no more than another
abbrev pub IsNoMore : Ratio → Ratio → Type 0
IsNoMore f g = f.num * g.den ≤ g.num * f.den

-- one of the fractions, which none of them exceeds
pub record IsGreatest (values : List Ratio) (f : Ratio) : Type 0 where
  pub among : Contains values f
  pub most : AllByRecursion (λ g. IsNoMore g f) values

most_above : (f g : Ratio) (values : List Ratio) → 1 ≤ f.den → IsNoMore f g → AllByRecursion (λ h. IsNoMore h f) values → AllByRecursion (λ h. IsNoMore h g) values
most_above f g [] some le most = tt
most_above f g (h ∷ rest) some le most = (cross_trans h.num h.den f.num f.den g.num g.den most.0 le some, most_above f g rest some le most.1)

has_greatest : (f : Ratio) (rest : List Ratio) → 1 ≤ f.den → AllByRecursion (λ g. 1 ≤ g.den) rest → (g : Ratio) × IsGreatest (f ∷ rest) g
has_greatest f [] some dens = (f, record { among = (0, omega arith, refl); most = (omega arith, tt) })
has_greatest f (g ∷ rest) some dens =
    let best = has_greatest g rest dens.0 dens.1 in
    let den : 1 ≤ best.0.den = All-contains (λ h. 1 ≤ h.den) (g ∷ rest) best.0 (All-from_recursion (λ h. 1 ≤ h.den) (g ∷ rest) dens) best.1.among in
    elim (cases_lt (best.0.num * f.den) (f.num * best.0.den)) [
      | inl less ↦ (f, record { among = (0, omega arith, refl); most = (omega arith, most_above best.0 f (g ∷ rest) den (omega arith) best.1.most) })
      | inr least ↦ (best.0, record { among = Contains-append_right (f ∷ []) (g ∷ rest) best.0 best.1.among; most = (least, best.1.most) })
    ]

-- what is found in a list with an element that passes
record IsFound {X : Type 0} (test : X → Bool) (xs : List X) : Type 0 where
  it : X
  found : find test xs ≡ Some it
  among : Contains xs it
  passes : test it ≡ true

finds : {X : Type 0} (test : X → Bool) (xs : List X) (x : X) → Contains xs x → test x ≡ true → IsFound test xs
finds test [] x c passes = absurd (omega (arith, c.1))
finds test (y ∷ rest) x (zero, h, e) passes =
    let here : test y ≡ true = rw e passes in
    record { it = y; found = cond-true (test y) (Some y) (find test rest) here; among = (0, omega arith, refl); passes = here }
finds test (y ∷ rest) x (suc k, h, e) passes =
    let later = finds test rest x (k, omega arith, e) passes in
    elim (cases_Bool (test y)) [
      | inl here ↦ record { it = y; found = cond-true (test y) (Some y) (find test rest) here; among = (0, omega arith, refl); passes = here }
      | inr past ↦ record { it = later.it; found = cond-false (test y) (Some y) (find test rest) past ∙ later.found; among = Contains-append_right (y ∷ []) rest later.it later.among; passes = later.passes }
    ]

-- the test of `greatest`
most_passes : (f : Ratio) (values : List Ratio) → AllByRecursion (λ g. IsNoMore g f) values → list_all (λ g. ratio_le g f) values ≡ true
most_passes f [] most = refl
most_passes f (g ∷ rest) most = and_from (ratio_le g f) (list_all (λ h. ratio_le h f) rest) (le-leb _ _ most.0) (most_passes f rest most.1)

passes_most : (f : Ratio) (values : List Ratio) → list_all (λ g. ratio_le g f) values ≡ true → AllByRecursion (λ g. IsNoMore g f) values
passes_most f [] passes = tt
passes_most f (g ∷ rest) passes =
    let parts = and_parts (ratio_le g f) (list_all (λ h. ratio_le h f) rest) passes in
    (leb-true _ _ parts.0, passes_most f rest parts.1)

greatest_found : (values : List Ratio) (g : Ratio) → IsGreatest values g → IsGreatest values (greatest values)
unfolding greatest
greatest_found values g is_greatest =
    let f = finds (λ f. list_all (λ h. ratio_le h f) values) values g is_greatest.among (most_passes g values is_greatest.most) in
    rw f.found (record { among = f.among; most = passes_most f.it values f.passes })

-- `greatest` is one of the fractions, and none of them exceeds it
pub greatest_is : (values : List Ratio) → 0 < length values → AllByRecursion (λ f. 1 ≤ f.den) values → IsGreatest values (greatest values)
greatest_is [] any dens = absurd (omega arith)
greatest_is (f ∷ rest) any dens =
    let best = has_greatest f rest dens.0 dens.1 in
    greatest_found (f ∷ rest) best.0 best.1

-- so it has what each of them has
pub greatest_has : (P : Ratio → Type 0) (values : List Ratio) → ((f : Ratio) → P f → 1 ≤ f.den) → 0 < length values → All P values → P (greatest values) × All (λ g. IsNoMore g (greatest values)) values
greatest_has P values some any each =
    let best = greatest_is values any (recursion_from_All (λ f. 1 ≤ f.den) values (All-weaker P (λ f. 1 ≤ f.den) some values each)) in
    (All-contains P values (greatest values) each best.among, All-from_recursion (λ g. IsNoMore g (greatest values)) values best.most)
