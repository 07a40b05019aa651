-- The forms of the fields of a record, and what a record says whose fields have some forms.
use Rattle.std.specs.Prelude.{ℕ, ◌+◌, ◌-◌, List, [], ◌∷◌, length, Option, Result, Ok}
use Rattle.axle_train.specs.declared.axle.Axle.{Axle}
use Rattle.road_graph.specs.declared.values.What.{What}
use Rattle.road_graph.specs.Words.{what_of}
use Rattle.day_text.specs.Causes.{◌>>=◌, or_bad}
use Rattle.day_text.specs.Fields.{axles_of, day_field, field_of, name_field, number_field, posted_of, routes_field}
use Rattle.day_text.specs.Records.{Row, has_only}
use Rattle.day_text.specs.declared.posted.Posted.{Posted as PostedWord}
use Rattle.day_text.specs.declared.refusal.Cause.{Cause}
use Rattle.day_text.specs.declared.refusal.RecordCause.TheVariants as bad

-- a name, a number, a day, the axles of a truck, routes, the word of a limit, and the word of what a posting replaces
pub data Form : Type 0 where
  Name : Form
  Number : Form
  Day : Form
  Axles : Form
  Routes : Form
  Limit : Form
  Posted : Form

-- what a field of a form says; a day that the calendar lacks is none
abbrev pub Said : Form → Type 0
Said Name = List ℕ
Said Number = ℕ
Said Day = Option (List ℕ)
Said Axles = List Axle
Said Routes = List (List (List ℕ))
Said Limit = What
Said Posted = PostedWord

-- what a text says, where it has the form
abbrev pub said_as : (form : Form) → List ℕ → Option (Said form)
said_as Name text = name_field text
said_as Number text = number_field text
said_as Day text = day_field text
said_as Axles text = axles_of text
said_as Routes text = routes_field text
said_as Limit text = what_of text
said_as Posted text = posted_of text

-- what fields of these forms say
abbrev pub AllSaid : List Form → Type 0
AllSaid [] = Unit {0}
AllSaid (form ∷ forms) = Said form × AllSaid forms

-- what the fields say from this number on, counted from 1; the first that has not its form is refused
abbrev pub said_from : ℕ → (forms : List Form) → Row → Result (AllSaid forms) Cause
said_from number [] fields = Ok tt
said_from number (form ∷ forms) fields = do
  said ← or_bad (bad.Field number) (said_as form (field_of fields (number - 1)))
  others ← said_from (number + 1) forms fields
  Ok (said, others)

-- what the fields behind the kind say, where they have these forms and those behind them are empty
abbrev pub said_in : (forms : List Form) → Row → Result (AllSaid forms) Cause
said_in forms fields = has_only (length forms + 1) fields >>= (λ rest. said_from 2 forms fields)
