-- Two cases of a `Bool`, and what two equal options say.
use Rattle.std.proofs.Common.{◌≡◌, Bool, true, false, Option, Some, None, sym, refl, true≢false, ap, subst}

abbrev value_or : {A : Type 0} → A → Option A → A
value_or d None = d
value_or d (Some x) = x

pub false_not_true : false ≡ true → ⊥
false_not_true e = true≢false (sym e)

pub bool_cases : {A : Type 0} (b : Bool) → (b ≡ true → A) → (b ≡ false → A) → A
bool_cases true hit miss = hit refl
bool_cases false hit miss = miss refl

pub some_same : {A : Type 0} (a b : A) → Some a ≡ Some b → a ≡ b
some_same a b e = ap (value_or a) e

abbrev is_there : {A : Type 0} → Option A → Type 0
is_there None = ⊥
is_there (Some x) = Unit {0}

pub some_not_none : {A : Type 0} (a : A) → Some a ≡ None → ⊥
some_not_none a e = subst is_there e tt
