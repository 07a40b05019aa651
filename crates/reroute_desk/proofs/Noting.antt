-- A trip that is noted under its permit's number.
use Rattle.std.proofs.Common.{◌≡◌, ◌∙◌, ◌⊎◌, inl, inr, ap, sym, refl, ℕ, ◌<◌, ◌≤◌, ◌==◌, Bool, true, false, cond, Option, None, Some, arith}
use Rattle.std.specs.Cmp.{nat_cmp_is}
use Rattle.std.specs.declared.cmp.Ordering.TheVariants.{Equal, Greater, Less}
use Rattle.std.specs.Option.{option_map, option_or}
use Rattle.std.specs.Ordering.{is_eq, nat_cmp}
use Rattle.std.proofs.lemmas.Bool.{cases_Bool, cases_lt, eqb-true}
use Rattle.std.proofs.lemmas.Bool.Decides.{nat_tests}
use Rattle.trip_analysis.specs.declared.application.Application.{Application}
use Rattle.reroute_desk.specs.Replacements.{unasked}

-- whether two numbers are in the same place of the order
same_place : (a b : ℕ) → is_eq (nat_cmp a b) ≡ (a == b)
same_place a b = by (cases_Bool (a == b))
  where
    apart : (a == b) ≡ false → (a < b) ⊎ (b ≤ a) → is_eq (nat_cmp a b) ≡ false
    apart e (inl less) = ap is_eq (sym (nat_cmp_is a b Less less))
    apart e (inr more) = let less : b < a = grind (arith, nat_tests, e, more) in ap is_eq (sym (nat_cmp_is a b Greater less))

    by : ((a == b) ≡ true) ⊎ ((a == b) ≡ false) → is_eq (nat_cmp a b) ≡ (a == b)
    by (inl e) = ap is_eq (sym (nat_cmp_is a b Equal (eqb-true a b e))) ∙ sym e
    by (inr e) = apart e (cases_lt a b) ∙ sym e

-- what is noted of each permit then
pub noted_by : (number n : ℕ) (given : Option Application) (a : Application) (old new : Option Application) → Some a ≡ given → new ≡ cond (is_eq (nat_cmp number n)) (Some (unasked a)) old → new ≡ option_or (cond (number == n) (option_map unasked given) None) old
noted_by number n given a old new is now =
    now ∙ (ap (λ (b : Bool). cond b (Some (unasked a)) old) (same_place number n)
    ∙ (either (number == n) ∙ ap (λ (o : Option Application). option_or (cond (number == n) (option_map unasked o) None) old) is))
  where
    either : (b : Bool) → cond b (Some (unasked a)) old ≡ option_or (cond b (option_map unasked (Some a)) None) old
    either true = refl
    either false = refl
