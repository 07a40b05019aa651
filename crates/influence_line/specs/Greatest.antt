-- The greatest of some fractions, and a fraction in lowest terms.
use Rattle.std.specs.Prelude.{ℕ, zero, suc, ◌*◌, ◌/◌, ◌%◌, Bool, ◌&&◌, nat_eq, nat_le, if◌then◌else◌, List, unwrap_or}
use Rattle.std.specs.List.{find, list_all}
use Rattle.influence_line.specs.Fractions.{Ratio}

-- whether a fraction is no more than another, by their cross products
abbrev pub ratio_le : Ratio → Ratio → Bool
ratio_le f g = nat_le (f.num * g.den) (g.num * f.den)

-- the first of some fractions that none of them exceeds; of none it is 0
unfoldable pub greatest : List Ratio → Ratio
greatest values = unwrap_or (find (λ f. list_all (λ g. ratio_le g f) values) values) (record { num = 0; den = 1 })

-- the greatest number from 1 to n that divides both a and b
unfoldable pub greatest_divisor : ℕ → ℕ → ℕ → ℕ
greatest_divisor a b zero = 1
greatest_divisor a b (suc n) = if nat_eq (a % suc n) 0 && nat_eq (b % suc n) 0 then suc n else greatest_divisor a b n

-- a fraction in lowest terms: both of its terms over their greatest common divisor
unfoldable pub lowest_of : Ratio → Ratio
lowest_of f = let divisor = greatest_divisor f.num f.den f.den in record { num = f.num / divisor; den = f.den / divisor }
