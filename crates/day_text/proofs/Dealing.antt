-- The scripts of actors who have no commands yet.
use Rattle.std.proofs.Common.{◌≡◌, ◌<◌, List, [], ◌∷◌, ◌++◌, Vec, length, length-append, ap, sym, ◌∙◌, arith}
use mathlib.Core.Logic.{dite}
use native.Mathlib.Decide.{ℕ_discrete}
use Rattle.std.specs.Global.{Global}
use Rattle.std.proofs.lemmas.List.{get_or_append_left, get_or_push}
use Rattle.office_words.specs.declared.entry.Command.{Command}
use Rattle.day_text.specs.Scripts.{AreScripts}

-- one actor more, who has no commands
pub one_script_more : (scripts : List (Vec Command Global)) (fresh : Vec Command Global) → fresh.items ≡ [] → AreScripts scripts [] → AreScripts (scripts ++ fresh ∷ []) []
one_script_more scripts fresh empty all i d low = dite (ℕ_discrete i (length scripts))
    (λ last. ap (λ (v : Vec Command Global). v.items) (get_or_push scripts fresh d i (sym last)) ∙ empty)
    (λ ne. let near : i < length scripts = omega (arith, length-append scripts (fresh ∷ [])) in
    ap (λ (v : Vec Command Global). v.items) (get_or_append_left scripts (fresh ∷ []) d i near) ∙ all i d near)
