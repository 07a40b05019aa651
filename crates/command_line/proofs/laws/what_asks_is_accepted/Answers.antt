use Rattle.std.proofs.Common.{◌≡◌, true, List, [], ◌∷◌, Option, Some, None, is_some, refl}
use Rattle.std.specs.Prelude.{option_and_then}
use Rattle.clap.specs.Words.{Row, fault_of, matches_of}
use Rattle.clap.specs.Kinds.{Kinds}
use Rattle.command_line.specs.declared.asked.Asked.{Asked}
use Rattle.command_line.specs.Asking.{AreAccepted, asked_in, asked_of, task_at, where_taken}
use Rattle.command_line.specs.Office.{office}
use Rattle.command_line.proofs.laws.what_asks_is_accepted.Goals as goal

has_first : {T X : Type 0} (o : Option T) (f : T → Option X) (x : X) → option_and_then f o ≡ Some x → is_some o ≡ true
has_first None f x h = cc
has_first (Some t) f x h = refl

accepted : (kinds : Kinds) (rows : List Row) (asked : Asked) → where_taken kinds (asked_in rows) ≡ Some asked → (kinds ≡ []) × (is_some (task_at rows) ≡ true)
accepted [] rows asked h = (refl, has_first (task_at rows) _ asked h)
accepted (kind ∷ kinds) rows asked h = cc

pub returns : goal.returns
unfolding asked_of AreAccepted
returns c = λ words asked h. accepted (fault_of office words) (matches_of office words) asked h
