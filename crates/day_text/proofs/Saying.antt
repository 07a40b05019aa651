-- What fields of some forms say.
use Rattle.std.proofs.Common.{◌≡◌, ◌+◌, ◌∷◌, [], List, ℕ, Some}
use Rattle.std.specs.Prelude.{◌-◌, length}
use Rattle.day_text.specs.Causes.{or_bad}
use Rattle.day_text.specs.Fields.{field_of}
use Rattle.day_text.specs.Forms.{AllSaid, Form, said_as, said_from, said_in}
use Rattle.day_text.specs.Records.{Row, has_only}
use Rattle.day_text.specs.declared.refusal.RecordCause.TheVariants as bad
use Rattle.day_text.proofs.Steps.{Gives, found_some, gives, then_gives}

-- the fields from a number on say this
abbrev pub AreSaid : ℕ → (forms : List Form) → Row → AllSaid forms → Type 0
AreSaid number [] fields said = Unit {0}
AreSaid number (form ∷ forms) fields said = (said_as form (field_of fields (number - 1)) ≡ Some said.0) × AreSaid (number + 1) forms fields said.1

said_so : (number : ℕ) (forms : List Form) (fields : Row) → Gives (AreSaid number forms fields) (said_from number forms fields)
said_so number [] fields = gives (AreSaid number [] fields) tt tt
said_so number (form ∷ forms) fields =
    then_gives {r = or_bad (bad.Field number) (said_as form (field_of fields (number - 1)))} (λ said e.
    then_gives {r = said_from (number + 1) forms fields} (λ others e'.
    gives (AreSaid number (form ∷ forms) fields) (said, others)
    (found_some (bad.Field number) (said_as form (field_of fields (number - 1))) said e, (said_so (number + 1) forms fields).ok others e')))

-- each field says what was read of it
pub all_said : (forms : List Form) (fields : Row) → Gives (AreSaid 2 forms fields) (said_in forms fields)
all_said forms fields = then_gives {r = has_only (length forms + 1) fields} (λ rest _. said_so 2 forms fields)
