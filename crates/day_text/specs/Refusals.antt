-- What is told of a refusal.
use Rattle.std.specs.Prelude.{◌≡◌, ℕ, Result, Err}
use Rattle.day_text.specs.declared.refusal.Cause.{Cause}
use Rattle.day_text.specs.declared.refusal.FileRefusal.{FileRefusal}
use Rattle.day_text.specs.declared.refusal.FileRefusal.TheVariants.{NoMemory, Refused}

-- the file is refused just so: the refusal has the row and the cause that the definition gives, unless memory ran out
abbrev pub IsRefusedAs : {T : Type 0} → Result T (ℕ × Cause) → FileRefusal → Type 0
IsRefusedAs told (Refused row cause) = told ≡ Err (row, cause)
IsRefusedAs told NoMemory = Unit {0}
