-- The history of a day of at most one actor.
use Rattle.std.proofs.Common.{◌≡◌, ◌<◌, ◌≤◌, ℕ, List, [], ◌∷◌, All, filter, length, map, cond, eqb, eq-eqb, refl, ap, sym, subst, arith}
use mathlib.Core.Logic.{dite}
use native.Mathlib.Decide.{ℕ_discrete}
use Rattle.std.proofs.lemmas.List.Elements.{All-head, All-tail}
use Rattle.day_text.specs.declared.orders.Order.{Order}
use Rattle.day_text.specs.Scripts.{script_of}
use Rattle.day_text.proofs.EveryDay.{day_keeps}
use Rattle.office_words.specs.declared.entry.Command.{Command}
use Rattle.office_words.specs.declared.entry.Entry.{Entry}
use Rattle.analyst_pool.specs.Unfolds.{AreFinished, IsFinished}
use Rattle.day_run.proofs.Callers.{lone_by, none_by}
use Rattle.day_trial.specs.Serial.{CarriesOut}
use Rattle.permit_program.specs.Laws.{LoneDaysAreSerial}

-- the finished commands of the one actor are those of the file
in_order : (orders : List Order) (es : List Entry) → All (λ o. o.actor < 1) orders → AreFinished 0 (script_of 0 orders) es → CarriesOut orders es
in_order [] es all done = done
in_order (order ∷ orders) es all done = parts (subst (λ (cs : List Command). AreFinished 0 cs es) mine done) (in_order orders)
  where
    first : order.actor ≡ 0
    first = omega (arith, All-head (λ (o : Order). o.actor < 1) order orders all)

    mine : script_of 0 (order ∷ orders) ≡ order.command ∷ script_of 0 orders
    mine = ap (λ b. map (λ (o : Order). o.command) (cond b (order ∷ filter (λ o. eqb o.actor 0) orders) (filter (λ o. eqb o.actor 0) orders))) (eq-eqb order.actor 0 first)

    parts : AreFinished 0 (order.command ∷ script_of 0 orders) es
        → ((rest : List Entry) → All (λ o. o.actor < 1) orders → AreFinished 0 (script_of 0 orders) rest → CarriesOut orders rest) → CarriesOut (order ∷ orders) es
    parts (front, back, finished, behind, whole) later = record {
      front = front;
      back = back;
      finished = subst (λ (n : ℕ). IsFinished n order.command front) (sym first) finished;
      behind = later back (All-tail (λ (o : Order). o.actor < 1) order orders all) behind;
      whole = whole;
    }

-- where there is no actor there is no command
no_orders : (orders : List Order) → All (λ o. o.actor < 0) orders → orders ≡ []
no_orders [] all = refl
no_orders (order ∷ orders) all = absurd (omega (arith, All-head (λ (o : Order). o.actor < 0) order orders all))

pub lone_serial : LoneDaysAreSerial
lone_serial bytes journal h few = record {
  legal = h.legal;
  promises = h.promises;
  commands = dite (ℕ_discrete (length h.file.actors) 1) by_one by_none;
  memory = h.memory;
}
  where
    most : length h.file.actors ≤ 1
    most = few h.file h.read

    callers : All (λ o. o.actor < length h.file.actors) h.file.commands
    callers = (day_keeps bytes h.file h.read).callers

    by_one : length h.file.actors ≡ 1 → CarriesOut h.file.commands h.history
    by_one is = in_order h.file.commands h.history (subst (λ (n : ℕ). All (λ o. o.actor < n) h.file.commands) is callers)
        (subst (AreFinished 0 (script_of 0 h.file.commands)) (lone_by h.history (subst (λ (n : ℕ). All (λ e. e.caller < n) h.history) is h.callers))
        (h.commands 0 (omega (arith, is))))

    by_none : (length h.file.actors ≡ 1 → ⊥) → CarriesOut h.file.commands h.history
    by_none not_one =
        let none : length h.file.actors ≡ 0 = omega (arith, most, not_one) in
        subst (λ (orders : List Order). CarriesOut orders h.history) (sym (no_orders h.file.commands (subst (λ (n : ℕ). All (λ o. o.actor < n) h.file.commands) none callers)))
        (none_by h.history (subst (λ (n : ℕ). All (λ e. e.caller < n) h.history) none h.callers))
