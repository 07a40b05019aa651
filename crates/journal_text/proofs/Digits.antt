-- The digits of short numbers.
use Rattle.std.proofs.Common.{◌≡◌, ◌∙◌, ◌<◌, ◌≤◌, ◌+◌, ◌/◌, ◌%◌, ◌∷◌, ◌++◌, [], ℕ, List, ap, arith}
use Rattle.std.specs.Fmt.{decimal}
use Rattle.std.proofs.lemmas.Fmt.{decimal_digit, decimal_step}

more : (n : ℕ) (front : List ℕ) → 10 ≤ n → n < 10000 → decimal (n / 10) ≡ front → decimal n ≡ front ++ ((48 + n % 10) ∷ [])
more n front low high is = decimal_step n low (omega arith) ∙ ap (λ (t : List ℕ). t ++ ((48 + n % 10) ∷ [])) is

pub one : (n : ℕ) → n < 10 → decimal n ≡ (48 + n % 10) ∷ []
one n small = let e : n % 10 ≡ n = omega arith in rw e (decimal_digit n small)

pub two : (n : ℕ) → 10 ≤ n → n < 100 → decimal n ≡ (48 + n / 10 % 10) ∷ (48 + n % 10) ∷ []
two n low high = more n _ low (omega arith) (one (n / 10) (omega arith))

pub three : (n : ℕ) → 100 ≤ n → n < 1000 → decimal n ≡ (48 + n / 10 / 10 % 10) ∷ (48 + n / 10 % 10) ∷ (48 + n % 10) ∷ []
three n low high = more n _ (omega arith) (omega arith) (two (n / 10) (omega arith) (omega arith))

pub four : (n : ℕ) → 1000 ≤ n → n < 10000 → decimal n ≡ (48 + n / 10 / 10 / 10 % 10) ∷ (48 + n / 10 / 10 % 10) ∷ (48 + n / 10 % 10) ∷ (48 + n % 10) ∷ []
four n low high = more n _ (omega arith) (omega arith) (three (n / 10) (omega arith) (omega arith))
