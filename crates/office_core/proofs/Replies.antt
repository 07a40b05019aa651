-- What each answer to an application says.
use Rattle.std.proofs.Common.{◌≡◌, ◌+◌, ◌∷◌, [], List, ℕ, Bool, false, not, length, ap, refl, Option, Some, None, is_none, is_some, ◌||◌, arith}
use Rattle.std.specs.List.{concat, list_any}
use Rattle.restriction_log.specs.States.{InForce}
use Rattle.clearance_rules.specs.declared.limit.Limit.{Limit}
use Rattle.trip_analysis.specs.declared.application.Application.{Application}
use Rattle.trip_analysis.specs.declared.failing.Failing.{Failing}
use Rattle.trip_analysis.specs.declared.finding.What.{What}
use Rattle.trip_analysis.specs.Bases.{BaseLists}
use Rattle.trip_analysis.specs.Passing.{limit_for, is_passable, first_on, first_or}
use Rattle.office_words.specs.declared.entry.Reply.{Reply}
use Rattle.office_core.specs.Machine.{Machine, version_of, state_in, reply_in}
use Rattle.office_words.specs.declared.entry.Reply.TheVariants as reply
use Rattle.office_core.proofs.Cases.{apply_cases}

-- of a reply that issues routes, that no segment of them fails
abbrev pub IssuedMeets : BaseLists → InForce → ℕ → Reply → Type 0
IssuedMeets base state truck (reply.Issued number version routes) = first_on base state truck (concat routes) ≡ None
IssuedMeets base state truck _ = Unit {0}

pub apply_meets : (base : BaseLists) (m : Machine) (a : Application) (w : What) → IssuedMeets base (state_in base m) a.truck (reply_in base m a w)
apply_meets base m a w = apply_cases base (state_in base m) (version_of m) m.day (length m.permits + 1) a w (IssuedMeets base (state_in base m) a.truck) tt tt (record {
  not_needed = λ _. tt;
  no_road = λ _ _ _. tt;
  now_fails = λ _ _ _ _. tt;
  issued = λ routes e meets. meets;
  refused = λ _ _ _ _. tt;
  now_meets = λ _ _ _. tt;
  cut_refused = λ _ _ _ _ _ _ _ _. tt;
  cut_meets = λ _ _ _ _. tt;
})

pub first_or_none : (l : Option Limit) (s : ℕ) (rest : Option Failing) → first_or l s rest ≡ None → (l ≡ None) × (rest ≡ None)
first_or_none (Some l) s rest e = absurd (grind (arith, e))
first_or_none None s rest e = (refl, e)

-- where none of these segments fails, no permit along them does
pub none_fails : (base : BaseLists) (state : InForce) (truck : ℕ) (segments : List ℕ) → first_on base state truck segments ≡ None → list_any (λ s. not (is_passable base state truck s)) segments ≡ false
none_fails base state truck [] e = refl
none_fails base state truck (s ∷ rest) e = let both = first_or_none (limit_for base state truck s) s (first_on base state truck rest) e in
    let one : not (is_passable base state truck s) ≡ false = ap (λ l. not (is_none l)) both.0 in
    rw (one, none_fails base state truck rest both.1) refl

some_fails : (base : BaseLists) (state : InForce) (truck s : ℕ) (l : Option Limit) (rest : Option Failing) (b : Bool) → limit_for base state truck s ≡ l → is_some rest ≡ b → is_some (first_or l s rest) ≡ (not (is_none l) || b)
some_fails base state truck s (Some l) rest b e h = refl
some_fails base state truck s None rest b e h = h
