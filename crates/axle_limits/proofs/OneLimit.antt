-- The rules give each group one limit, and the tests compute it.
use Rattle.std.proofs.Common.{◌≡◌, ℕ, ◌+◌, ◌-◌, ◌<◌, ◌≤◌, ◌&&◌, List, Bool, true, false, cond, leb, ltb, eqb, arith, refl, sym, ap, ◌∙◌, inl, inr}
use Rattle.std.proofs.lemmas.Bool.{cases_lt}
use Rattle.std.proofs.lemmas.Bool.Decides.{nat_tests}
use Rattle.axle_train.specs.declared.axle.Axle.{Axle}
use Rattle.axle_train.specs.Trains.{spread}
use Rattle.bridge_formula.specs.Formula.{formula_limit}
use Rattle.bridge_formula.proofs.Quotient.{formula_limit_is, formula_limit_only}
use Rattle.axle_limits.specs.declared.legal.TheConstants.{TWO_TANDEM_SPREAD, SINGLE_SPREAD, TANDEM_SPREAD, TWO_TANDEM_LIMIT, SINGLE_LIMIT, TANDEM_LIMIT}
use Rattle.axle_limits.specs.declared.group.GroupLimit.{GroupLimit}
use Rattle.axle_limits.specs.declared.group.Rule.TheVariants.{Single, Tandem, Formula, TwoTandem, Gross}
use Rattle.axle_limits.specs.Limits.{IsTandem, IsTwoTandem, IsGroupLimit, is_tandem, is_two_tandem, group_limit_of, GroupLimitIsComputed}

is_le : (m n : ℕ) → m ≤ n → leb m n ≡ true
is_le m n h = grind (arith, nat_tests)

is_not_le : (m n : ℕ) → n < m → leb m n ≡ false
is_not_le m n h = grind (arith, nat_tests)

at_most : (m n : ℕ) → leb m n ≡ true → m ≤ n
at_most m n h = grind (arith, nat_tests)

above : (m n : ℕ) → leb m n ≡ false → n < m
above m n h = grind (arith, nat_tests)

-- the four tests of two tandems, over plain numbers
tests_pass : (d s f r : ℕ) → d ≡ 3 → TWO_TANDEM_SPREAD ≤ s → IsTandem f → IsTandem r → (eqb d 3 && leb TWO_TANDEM_SPREAD s && is_tandem f && is_tandem r) ≡ true
tests_pass d s f r four far front rear = grind (arith, nat_tests, front.0, front.1, rear.0, rear.1)

tests_say : (d s f r : ℕ) → (eqb d 3 && leb TWO_TANDEM_SPREAD s && is_tandem f && is_tandem r) ≡ true → (d ≡ 3) × (TWO_TANDEM_SPREAD ≤ s) × IsTandem f × IsTandem r
tests_say d s f r h = (grind (arith, nat_tests), grind (arith, nat_tests), (grind (arith, nat_tests), grind (arith, nat_tests)), (grind (arith, nat_tests), grind (arith, nat_tests)))

-- two tandems pass the test, and nothing else does
pub two_tandem_passes : (axles : List Axle) (i j : ℕ) → IsTwoTandem axles i j → is_two_tandem axles i j ≡ true
two_tandem_passes axles i j h =
    tests_pass (j - i) (spread axles i j) (spread axles i (i + 1)) (spread axles (i + 2) j) (omega (arith, h.four)) h.far h.front h.rear

pub two_tandem_only : (axles : List Axle) (i j : ℕ) → i ≤ j → is_two_tandem axles i j ≡ true → IsTwoTandem axles i j
two_tandem_only axles i j ordered h =
    let tests = tests_say (j - i) (spread axles i j) (spread axles i (i + 1)) (spread axles (i + 2) j) h in
    record {
      four = omega (arith, tests.0, ordered);
      far = tests.1;
      front = tests.2;
      rear = tests.3;
    }

-- axles that are apart are two
pub several : (axles : List Axle) (i j : ℕ) → i ≤ j → 0 < spread axles i j → 2 ≤ j - i + 1
several axles i j ordered apart =
    elim (cases_lt i j) [
      | inl before ↦ omega arith
      | inr same ↦ (let e : j ≡ i = omega arith in absurd (omega (arith, rw e at apart)))
    ]

low_and_exempt : (f : ℕ) (two : Bool) → (ltb f TWO_TANDEM_LIMIT && two) ≡ true → (f < TWO_TANDEM_LIMIT) × (two ≡ true)
low_and_exempt f two h = (grind (arith, nat_tests), grind (arith, nat_tests))

not_low_if_exempt : (f : ℕ) (two : Bool) → (ltb f TWO_TANDEM_LIMIT && two) ≡ false → two ≡ true → TWO_TANDEM_LIMIT ≤ f
not_low_if_exempt f two h e = grind (arith, nat_tests)

-- the choice that the code makes
abbrev pub chosen : Bool → Bool → Bool → ℕ → GroupLimit
chosen single tandem exempt formula =
    cond single (record { limit = SINGLE_LIMIT; rule = Single })
    (cond tandem (record { limit = TANDEM_LIMIT; rule = Tandem })
    (cond exempt (record { limit = TWO_TANDEM_LIMIT; rule = TwoTandem }) (record { limit = formula; rule = Formula })))

chosen_is_limit : (axles : List Axle) (i j : ℕ) (single tandem exempt : Bool) → i ≤ j → leb (spread axles i j) SINGLE_SPREAD ≡ single → leb (spread axles i j) TANDEM_SPREAD ≡ tandem → (ltb (formula_limit (spread axles i j) (j - i + 1)) TWO_TANDEM_LIMIT && is_two_tandem axles i j) ≡ exempt → IsGroupLimit axles i j (chosen single tandem exempt (formula_limit (spread axles i j) (j - i + 1))).limit (chosen single tandem exempt (formula_limit (spread axles i j) (j - i + 1))).rule
chosen_is_limit axles i j true tandem exempt ordered a b c = (at_most (spread axles i j) SINGLE_SPREAD a, refl)
chosen_is_limit axles i j false true exempt ordered a b c = ((above (spread axles i j) SINGLE_SPREAD a, at_most (spread axles i j) TANDEM_SPREAD b), refl)
chosen_is_limit axles i j false false true ordered a b c =
    let both = low_and_exempt (formula_limit (spread axles i j) (j - i + 1)) (is_two_tandem axles i j) c in
    let wide = above (spread axles i j) TANDEM_SPREAD b in (
      two_tandem_only axles i j ordered both.1,
      (formula_limit (spread axles i j) (j - i + 1), formula_limit_is (spread axles i j) (j - i + 1) (several axles i j ordered (omega (arith, wide))), both.0),
      refl,
    )
chosen_is_limit axles i j false false false ordered a b c =
    let wide = above (spread axles i j) TANDEM_SPREAD b in (
      wide,
      formula_limit_is (spread axles i j) (j - i + 1) (several axles i j ordered (omega (arith, wide))),
      λ two. not_low_if_exempt (formula_limit (spread axles i j) (j - i + 1)) (is_two_tandem axles i j) c (two_tandem_passes axles i j two),
    )

-- the computed limit is one by the rules
pub group_limit_is : (axles : List Axle) (i j : ℕ) → i ≤ j → IsGroupLimit axles i j (group_limit_of axles i j).limit (group_limit_of axles i j).rule
group_limit_is axles i j ordered =
    chosen_is_limit axles i j (leb (spread axles i j) SINGLE_SPREAD) (leb (spread axles i j) TANDEM_SPREAD) (ltb (formula_limit (spread axles i j) (j - i + 1)) TWO_TANDEM_LIMIT && is_two_tandem axles i j) ordered refl refl refl

is_low : (f : ℕ) (two : Bool) → f < TWO_TANDEM_LIMIT → two ≡ true → (ltb f TWO_TANDEM_LIMIT && two) ≡ true
is_low f two h e = grind (arith, nat_tests)

is_not_exempt : (f : ℕ) (two : Bool) → (two ≡ true → TWO_TANDEM_LIMIT ≤ f) → (ltb f TWO_TANDEM_LIMIT && two) ≡ false
is_not_exempt f true h = (let high = h refl in grind (arith, nat_tests))
is_not_exempt f false h = grind (arith, nat_tests)

-- what is chosen where the tests are known
chosen_by : (single tandem exempt : Bool) (formula : ℕ) (a b c : Bool) → single ≡ a → tandem ≡ b → exempt ≡ c → chosen single tandem exempt formula ≡ chosen a b c formula
chosen_by single tandem exempt formula a b c ea eb ec = rw (ea, eb, ec) refl

-- and no other limit is
pub group_limit_only : GroupLimitIsComputed
group_limit_only axles i j limit Single ordered h =
    ap (λ t. cond t (record { limit = SINGLE_LIMIT; rule = Single }) (chosen false (leb (spread axles i j) TANDEM_SPREAD) (ltb (formula_limit (spread axles i j) (j - i + 1)) TWO_TANDEM_LIMIT && is_two_tandem axles i j) (formula_limit (spread axles i j) (j - i + 1)))) (is_le (spread axles i j) SINGLE_SPREAD h.0)
    ∙ ap (λ (l : ℕ). record { limit = l; rule = Single }) (sym h.1)
group_limit_only axles i j limit Tandem ordered h =
    chosen_by (leb (spread axles i j) SINGLE_SPREAD) (leb (spread axles i j) TANDEM_SPREAD) (ltb (formula_limit (spread axles i j) (j - i + 1)) TWO_TANDEM_LIMIT && is_two_tandem axles i j) (formula_limit (spread axles i j) (j - i + 1)) false true _ (is_not_le (spread axles i j) SINGLE_SPREAD h.0.0) (is_le (spread axles i j) TANDEM_SPREAD h.0.1) refl
    ∙ ap (λ (l : ℕ). record { limit = l; rule = Tandem }) (sym h.1)
group_limit_only axles i j limit Formula ordered h =
    let same = formula_limit_only (spread axles i j) (j - i + 1) limit (several axles i j ordered (omega (arith, h.0))) h.1 in
    let high = is_not_exempt (formula_limit (spread axles i j) (j - i + 1)) (is_two_tandem axles i j) (λ two. omega (arith, same, h.2 (two_tandem_only axles i j ordered two))) in
    chosen_by (leb (spread axles i j) SINGLE_SPREAD) (leb (spread axles i j) TANDEM_SPREAD) (ltb (formula_limit (spread axles i j) (j - i + 1)) TWO_TANDEM_LIMIT && is_two_tandem axles i j) (formula_limit (spread axles i j) (j - i + 1)) false false false (is_not_le (spread axles i j) SINGLE_SPREAD (omega (arith, h.0))) (is_not_le (spread axles i j) TANDEM_SPREAD h.0) high
    ∙ ap (λ (l : ℕ). record { limit = l; rule = Formula }) (sym same)
group_limit_only axles i j limit TwoTandem ordered h =
    let (formula, is_formula, low) = h.1 in
    let wide : TANDEM_SPREAD < spread axles i j = omega (arith, h.0.far) in
    let same = formula_limit_only (spread axles i j) (j - i + 1) formula (several axles i j ordered (omega (arith, wide))) is_formula in
    let exempt = is_low (formula_limit (spread axles i j) (j - i + 1)) (is_two_tandem axles i j) (omega (arith, same, low)) (two_tandem_passes axles i j h.0) in
    chosen_by (leb (spread axles i j) SINGLE_SPREAD) (leb (spread axles i j) TANDEM_SPREAD) (ltb (formula_limit (spread axles i j) (j - i + 1)) TWO_TANDEM_LIMIT && is_two_tandem axles i j) (formula_limit (spread axles i j) (j - i + 1)) false false true (is_not_le (spread axles i j) SINGLE_SPREAD (omega (arith, wide))) (is_not_le (spread axles i j) TANDEM_SPREAD wide) exempt
    ∙ ap (λ (l : ℕ). record { limit = l; rule = TwoTandem }) (sym h.2)
group_limit_only axles i j limit Gross ordered h = absurd h
