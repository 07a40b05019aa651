use Rattle.std.proofs.Common.{◌≤◌, ◌+◌, ◌≡◌, List, ap, sym, subst, ◌∙◌, length, length-append, ◌∷◌, ◌++◌, [], ℕ, Vec, arith}
use Rattle.std.specs.Global.{Global}
use Rattle.office_words.specs.declared.entry.Command.{Command}
use Rattle.day_text.specs.Scripts.{AreScripts}
use Rattle.day_text.proofs.Dealing.{one_script_more}
use Rattle.day_text.proofs.scripts.scripts_of.Goals as goal

one_longer : {A : Type 0} (n : ℕ) (xs : List A) (x : A) → length xs ≡ n → length (xs ++ x ∷ []) ≡ n + 1
one_longer n xs x is = omega (arith, length-append xs (x ∷ []), is)

pub actors-preserved : goal.actors-preserved
actors-preserved c = let i = c.actors.invariant in record {
  room = subst (λ (n : ℕ). c.args.actors ≤ n) (sym c.push_reserved.ensures.capacity) i.room;
  count = ap length c.push_reserved.ensures.items ∙ one_longer _ c.actors.scripts.items c.new.result i.count;
  empty = subst (λ (scripts : List (Vec Command Global)). AreScripts scripts []) (sym c.push_reserved.ensures.items) (one_script_more c.actors.scripts.items c.new.result c.new.ensures.items i.empty);
}
