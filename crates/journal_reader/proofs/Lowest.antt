-- Which fractions are in lowest terms.
use Rattle.std.proofs.Common.{◌≡◌, ◌<◌, ◌+◌, ◌%◌, ◌↔◌, ℕ, zero, suc, List, Option, Some, None, Bool, true, false, cond, eqb, leb, refl, subst, arith}
use Rattle.std.specs.Prelude.{IsSome, IfSome}
use Rattle.std.specs.Cmp.{first_so, second_so}
use Rattle.std.specs.Int.{IsGcd}
use Rattle.std.proofs.lemmas.Bool.{eqb-true, le-leb, leb-true}
use Rattle.std.proofs.lemmas.Bool.Decides.{nat_tests}
use Rattle.std.proofs.lemmas.Nat.{mod_below}
use Rattle.std.proofs.lemmas.Nat.Gcd.{IsGcd-from_zero, IsGcd-from_mod, same_from_IsGcd}
use Rattle.influence_line.specs.Fractions.{IsLowest, Ratio}
use Rattle.journal_reader.specs.Words.{divisor_in, fraction_of, is_lowest, pair_of, wide_of}

divisor_is : (steps a b : ℕ) → b < steps → IsGcd a b (divisor_in steps a b)
unfolding divisor_in
divisor_is zero a b h = absurd (omega arith)
divisor_is (suc steps) a b h = by (eqb b 0) refl (divisor_is steps b (a % b))
  where
    some : eqb b 0 ≡ false → 0 < b
    some e = grind (arith, nat_tests)

    by : (t : Bool) → eqb b 0 ≡ t → (a % b < steps → IsGcd b (a % b) (divisor_in steps b (a % b))) → IsGcd a b (cond t a (divisor_in steps b (a % b)))
    by true e more = IsGcd-from_zero a b (eqb-true b 0 e)
    by false e more = let l = mod_below a b (some e) in IsGcd-from_mod a b _ (more (omega (arith, l)))

-- the test says what it should
pub lowest_from : (f : Ratio) → is_lowest f ≡ true → IsLowest f
unfolding is_lowest
lowest_from f h =
    let greatest = divisor_in (f.den + 1) f.num f.den in
    record {
      some = leb-true 1 f.den (first_so (leb 1 f.den) (eqb greatest 1) h);
      coprime = subst (IsGcd f.num f.den) (eqb-true _ 1 (second_so (leb 1 f.den) (eqb greatest 1) h)) (divisor_is (f.den + 1) f.num f.den (omega arith));
    }

pub lowest_test : (f : Ratio) → IsLowest f → is_lowest f ≡ true
unfolding is_lowest
lowest_test f h =
    let one : divisor_in (f.den + 1) f.num f.den ≡ 1 = same_from_IsGcd f.num f.den _ 1 (divisor_is (f.den + 1) f.num f.den (omega arith)) h.coprime in
    rw (le-leb 1 f.den h.some, one) refl

-- a fraction that is made exactly of lowest terms
pub lowest_taken : (f : Ratio) (made : Option Ratio) → (IsSome made ↔ IsLowest f) → IfSome made (λ g. g ≡ f) → made ≡ cond (is_lowest f) (Some f) None
lowest_taken f None taken value = by (is_lowest f) refl
  where
    by : (b : Bool) → is_lowest f ≡ b → None ≡ cond b (Some f) None
    by true e = absurd (cc (taken.1 (lowest_from f e)))
    by false e = refl
lowest_taken f (Some g) taken value = rw (lowest_test f (taken.0 refl), value) refl

-- a fraction that is made of the two numbers of a word
pub fraction_made : (word : List ℕ) (num den : ℕ) (made : Option Ratio) → pair_of 47 wide_of wide_of word ≡ Some (num, den)
    → (IsSome made ↔ IsLowest (record { num = num; den = den })) → IfSome made (λ g. g ≡ record { num = num; den = den }) → made ≡ fraction_of word
unfolding fraction_of
fraction_made word num den made is taken value = rw is (lowest_taken (record { num = num; den = den }) made taken value)
