-- What a chain of steps keeps, where it is not refused.
use Rattle.std.proofs.Common.{◌≡◌, ◌+◌, ◌∷◌, [], List, ℕ, Bool, true, false, cond, Result, Ok, Err, Option, Some, None, IfOk, refl, subst}
use Rattle.day_text.specs.Causes.{◌>>=◌, demand, limit, or_bad, unless_refused}
use Rattle.day_text.specs.Records.{Row, go_on, is_record, judge_record, judged}
use Rattle.day_text.specs.declared.refusal.Cause.{Cause}
use Rattle.day_text.specs.declared.refusal.Cause.TheVariants as why
use Rattle.day_text.specs.declared.refusal.RecordCause.{RecordCause}
use Rattle.day_text.specs.declared.refusal.RecordCause.TheVariants as bad
use Rattle.day_text.specs.declared.refusal.Kind.{Kind}

-- what a step gives, where it is not refused, is so
pub record Gives {A : Type 0} (P : A → Type 0) (r : Result A Cause) : Type 0 where
  pub ok : (x : A) → r ≡ Ok x → P x

pub gives : {A : Type 0} (P : A → Type 0) (x : A) → P x → Gives P (Ok x)
gives P x h = record { ok = λ y e. let same : x ≡ y = cc in subst P same h }

pub refuses : {A : Type 0} (P : A → Type 0) (e : Cause) → Gives P (Err e)
refuses P e = record { ok = λ y h. absurd (cc h) }

-- two steps give what the second gives, whatever the first gave
pub then_gives : {A B : Type 0} {P : B → Type 0} {r : Result A Cause} {f : A → Result B Cause} → ((x : A) → r ≡ Ok x → Gives P (f x)) → Gives P (r >>= f)
then_gives {A} {B} {P} {r} {f} h = by r h
  where
    by : (o : Result A Cause) → ((x : A) → o ≡ Ok x → Gives P (f x)) → Gives P (o >>= f)
    by (Ok x) k = k x refl
    by (Err e) k = refuses P e

-- a step that gave something
pub found_some : {A : Type 0} (cause : RecordCause) (o : Option A) (x : A) → or_bad cause o ≡ Ok x → o ≡ Some x
found_some cause None x e = cc
found_some cause (Some y) x e = cc

-- a value that nothing refused
pub not_refused : {A R : Type 0} (cause : R → RecordCause) (x y : A) (o : Option R) → unless_refused cause x o ≡ Ok y → (x ≡ y) × (o ≡ None)
not_refused cause x y None e = (cc, refl)
not_refused cause x y (Some refusal) e = absurd (cc e)

pub was_demanded : (b : Bool) (cause : RecordCause) (x : Unit {0}) → demand b cause ≡ Ok x → b ≡ true
was_demanded true cause x e = refl
was_demanded false cause x e = cc

pub was_within : (b : Bool) (kind : Kind) (x : Unit {0}) → limit b kind ≡ Ok x → b ≡ true
was_within true kind x e = refl
was_within false kind x e = cc

module _ {P : Type 0} (judge : P → Row → Result P Cause) (Holds : P → Type 0) (step : (p : P) (fields : Row) → Holds p → Gives Holds (judge p fields)) where
  record_gives : (p : P) (fields : Row) → Holds p → Gives Holds (judge_record judge p fields)
  record_gives p fields h = by (is_record fields)
    where
      by : (b : Bool) → Gives Holds (cond b (judge p fields) (Err (why.Bad bad.Fields)))
      by true = step p fields h
      by false = refuses Holds (why.Bad bad.Fields)

  on_keeps : (row : ℕ) (r : Result P Cause) (more : P → Result (ℕ × P) (ℕ × Cause)) → Gives Holds r → ((next : P) → Holds next → IfOk (more next) (λ (x : ℕ × P). Holds x.1)) → IfOk (go_on row r more) (λ (x : ℕ × P). Holds x.1)
  on_keeps row (Ok next) more h k = k next (h.ok next refl)
  on_keeps row (Err e) more h k = tt

  -- what each record keeps all of them keep
  pub records_keep : (rows : List Row) (row : ℕ) (p : P) → Holds p → IfOk (judged judge row p rows) (λ (x : ℕ × P). Holds x.1)
  records_keep [] row p h = h
  records_keep (fields ∷ rows) row p h =
      on_keeps row (judge_record judge p fields) (λ next. judged judge (row + 1) next rows) (record_gives p fields h) (λ next k. records_keep rows (row + 1) next k)
