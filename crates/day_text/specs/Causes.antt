-- The causes of refusals, and the first that holds.
use Rattle.std.specs.Prelude.{◌≡◌, ℕ, Bool, if◌then◌else◌, Option, Some, None, Result, Ok, Err}
use Rattle.day_text.specs.declared.refusal.Cause.{Cause}
use Rattle.day_text.specs.declared.refusal.Cause.TheVariants as why
use Rattle.day_text.specs.declared.refusal.RecordCause.{RecordCause}
use Rattle.day_text.specs.declared.refusal.Kind.{Kind}
use Rattle.day_text.specs.declared.refusal.RecordRefusal.{RecordRefusal}
use Rattle.day_text.specs.declared.refusal.RecordRefusal.TheVariants as refusal
use Rattle.day_text.specs.declared.refusal.FileRefusal.{FileRefusal}
use Rattle.day_text.specs.declared.refusal.FileRefusal.TheVariants as file

infixl 10 ◌>>=◌
-- the first refusal of two steps
abbrev pub ◌>>=◌ : {A B E : Type 0} → Result A E → (A → Result B E) → Result B E
(Ok x) >>= f = f x
(Err e) >>= f = Err e

-- a value, or this record is bad
abbrev pub or_bad : {A : Type 0} → RecordCause → Option A → Result A Cause
or_bad cause None = Err (why.Bad cause)
or_bad cause (Some x) = Ok x

-- a value, or this record is bad for what refuses it
abbrev pub unless_refused : {A R : Type 0} → (R → RecordCause) → A → Option R → Result A Cause
unless_refused cause x None = Ok x
unless_refused cause x (Some refusal) = Err (why.Bad (cause refusal))

-- where a test fails, this record is bad
abbrev pub demand : Bool → RecordCause → Result (Unit {0}) Cause
demand holds cause = if holds then Ok tt else Err (why.Bad cause)

-- where a test fails, there is one too many of this kind
abbrev pub limit : Bool → Kind → Result (Unit {0}) Cause
limit holds kind = if holds then Ok tt else Err (why.TooMany kind)

-- what a call answered of a record is what the definition says, unless memory ran out
abbrev pub Judges : {T : Type 0} → Result T RecordRefusal → Result T Cause → Type 0
Judges (Ok x) judged = judged ≡ Ok x
Judges (Err (refusal.Refused cause)) judged = judged ≡ Err cause
Judges (Err refusal.NoMemory) judged = Unit {0}

-- what a call made of its argument is what the definition says, unless memory ran out
abbrev pub Grows : {T : Type 0} → Result (Unit {0}) RecordRefusal → T → Result T Cause → Type 0
Grows (Ok x) new judged = judged ≡ Ok new
Grows (Err (refusal.Refused cause)) new judged = judged ≡ Err cause
Grows (Err refusal.NoMemory) new judged = Unit {0}

-- what a call answered of some bytes is what the definition says, unless memory ran out
abbrev pub Tells : {T : Type 0} → Result T FileRefusal → Result T (ℕ × Cause) → Type 0
Tells (Ok x) told = told ≡ Ok x
Tells (Err (file.Refused row cause)) told = told ≡ Err (row, cause)
Tells (Err file.NoMemory) told = Unit {0}

-- the refusal of a record, at its row
abbrev pub located : ℕ → RecordRefusal → FileRefusal
located row (refusal.Refused cause) = file.Refused row cause
located row refusal.NoMemory = file.NoMemory
