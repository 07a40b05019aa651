-- A fraction over its greatest common divisor is in lowest terms, and has the same value; no fraction of that value has lesser terms.
use Rattle.std.proofs.Common.{◌≡◌, ℕ, zero, suc, ◌%◌, ◌≤◌, ◌&&◌, eqb, arith, ◌∙◌, inl, inr}
use Rattle.std.specs.Int.{IsGcd}
use Rattle.std.proofs.lemmas.Bool.{cases_Bool, cases_lt, and_parts, and_from, both_ways, eqb-true, eq-eqb, cond-true, cond-false}
use Rattle.std.proofs.lemmas.Nat.Gcd.{dvd_of_mod-eq-zero, mod-eq-zero_of_dvd, le_from_IsGcd, le_of_dvd}
use Rattle.influence_line.specs.Fractions.{Ratio, IsLowest, IsRatio}
use Rattle.influence_line.proofs.Lowest.{gcd_pos, gcd_quotients, has_gcd, quotient_some, same_ratio}
use Rattle.influence_line.specs.Greatest.{greatest_divisor, lowest_of}

-- the greatest number that divides both is found from any number up that is no less
found : (a b n g : ℕ) → IsGcd a b g → 1 ≤ g → g ≤ n → greatest_divisor a b n ≡ g
unfolding greatest_divisor
found a b zero g h some most = omega (arith, some, most)
found a b (suc n) g h some most =
    elim (cases_Bool (eqb (a % suc n) 0 && eqb (b % suc n) 0)) [
      | inl both ↦
          let parts = and_parts (eqb (a % suc n) 0) (eqb (b % suc n) 0) both in
          let over_a = dvd_of_mod-eq-zero (suc n) (eqb-true (a % suc n) 0 parts.0) in
          let over_b = dvd_of_mod-eq-zero (suc n) (eqb-true (b % suc n) 0 parts.1) in
          let least = le_from_IsGcd a b g (suc n) h some over_a over_b in
          cond-true _ (suc n) (greatest_divisor a b n) both ∙ omega (arith, least, most)
      | inr fails ↦
          elim (cases_lt g (suc n)) [
            | inl below ↦ cond-false _ (suc n) (greatest_divisor a b n) fails ∙ found a b n g h some (omega arith)
            | inr above ↦
                let same : suc n ≡ g = omega arith in
                let over_a = eq-eqb (a % g) 0 (mod-eq-zero_of_dvd g h.0) in
                let over_b = eq-eqb (b % g) 0 (mod-eq-zero_of_dvd g h.1) in
                let both = and_from (eqb (a % g) 0) (eqb (b % g) 0) over_a over_b in
                absurd (both_ways (eqb (a % g) 0 && eqb (b % g) 0) (rw same at fails) both)
          ]
    ]

-- the divisor of a fraction is its greatest common divisor
is_gcd : (a b : ℕ) → 1 ≤ b → IsGcd a b (greatest_divisor a b b)
is_gcd a b some =
    let gcd = has_gcd (suc b) a b (omega arith) in
    let least : 1 ≤ gcd.0 = gcd_pos a b gcd.0 gcd.1 some in
    rw (found a b b gcd.0 gcd.1 least (le_of_dvd some gcd.1.1)) gcd.1

pub lowest_same : (f : Ratio) → 1 ≤ f.den → IsRatio (lowest_of f) f.num f.den
unfolding lowest_of
lowest_same f some = same_ratio f.num f.den (greatest_divisor f.num f.den f.den) (is_gcd f.num f.den some)

pub lowest_is : (f : Ratio) → 1 ≤ f.den → IsLowest (lowest_of f)
unfolding lowest_of
lowest_is f some =
    let divisor = greatest_divisor f.num f.den f.den in
    let gcd = is_gcd f.num f.den some in
    record { some = quotient_some f.num f.den divisor gcd some; coprime = gcd_quotients f.num f.den divisor gcd some }
