-- The least rating that an effect is within is a quotient, rounded up.
use Rattle.std.proofs.Common.{◌≡◌, ℕ, ◌+◌, ◌*◌, ◌/◌, ◌%◌, ◌≤◌, ◌<◌, ◌↔◌, min, arith, inl, inr}
use Rattle.std.proofs.Math.Nat.{mul-le-mul_right}
use Rattle.std.proofs.lemmas.Bool.{cases_lt}
use Rattle.std.proofs.lemmas.Grind.{div_ceil_times}
use Rattle.influence_line.specs.Fractions.{Ratio}
use Rattle.span_rating.specs.Judgement.{IsLeastWithin}

-- it is the least number whose multiple is as much
pub quotient_is_least : (has unit q r : ℕ) → 0 < unit → q ≡ has / unit + min 1 (has % unit) → (has ≤ r * unit) ↔ (q ≤ r)
quotient_is_least has unit q r some e =
    let (enough, least) = rw (← e) at (div_ceil_times has unit some) in (
      λ h. elim (cases_lt r q) [
        | inl less ↦ absurd (omega (arith, h, least, mul-le-mul_right unit less))
        | inr no_less ↦ no_less
      ],
      λ h. omega (arith, enough, mul-le-mul_right unit h),
    )

pub quotient_within : (effect design : Ratio) (has unit q : ℕ) → has ≡ 1000 * effect.num * design.den → unit ≡ design.num * effect.den → 0 < unit
    → q ≡ has / unit + min 1 (has % unit) → IsLeastWithin effect design q
quotient_within effect design has unit q eh eu some e rating long =
    let is = quotient_is_least has unit q rating some e in
    let one : rating * unit ≡ rating * design.num * effect.den = rw eu (omega arith) in
    (λ h. is.0 (omega (arith, h, eh, one)), λ h. omega (arith, is.1 h, eh, one))
