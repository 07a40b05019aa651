-- A history that grows by one entry.
use Rattle.std.proofs.Common.{◌≡◌, ◌∷◌, ◌++◌, [], List, ℕ, false, refl, ap, sym, subst, ◌∙◌}
use Rattle.trip_analysis.specs.Bases.{BaseLists}
use Rattle.office_words.specs.declared.entry.Reply.{Reply}
use Rattle.office_words.specs.declared.entry.Entry.{Entry}
use Rattle.office_core.specs.Machine.{Machine, opened, MayAsk, IsAnswer, after, Step, after_entry, IsLegal, machine_of}
use Rattle.office_core.specs.Replies.{is_full}
use Rattle.office_core.specs.Registers.{LeavesParts, RegisterParts}
use Rattle.office_core.proofs.Cases.{never_full}
use Rattle.office_core.proofs.Prefixes.{legal_join, legal_later, after_all-append}

pub legal_more : (base : BaseLists) (day : List ℕ) (es : List Entry) (e : Entry) → IsLegal base day es → MayAsk base (machine_of base day es) e.call → IsAnswer base (machine_of base day es) e.caller e.call e.reply → IsLegal base day (es ++ e ∷ [])
legal_more base day es e legal ask answer = legal_join base (opened day) es (e ∷ []) legal (record { asked = ask; answer = answer; next_is = refl }, tt)

pub machine_more : (base : BaseLists) (day : List ℕ) (es : List Entry) (e : Entry) → machine_of base day (es ++ e ∷ []) ≡ after_entry base (machine_of base day es) e
machine_more base day es e = after_all-append base (opened day) es (e ∷ [])

pub step_more : (base : BaseLists) (day : List ℕ) (es : List Entry) (e : Entry) → MayAsk base (machine_of base day es) e.call → IsAnswer base (machine_of base day es) e.caller e.call e.reply → Step base (machine_of base day es) e (machine_of base day (es ++ e ∷ []))
step_more base day es e ask answer = record { asked = ask; answer = answer; next_is = machine_more base day es e }

-- the last entry of a legal history is a step from what the entries before it leave
pub last_step : (base : BaseLists) (day : List ℕ) (es : List Entry) (e : Entry) → IsLegal base day (es ++ e ∷ []) → Step base (machine_of base day es) e (machine_of base day (es ++ e ∷ []))
last_step base day es e legal = let (step, _) = legal_later base (opened day) es (e ∷ []) legal in step_more base day es e step.asked step.answer

-- all that a step leaves: a legal history, its machine, and the step
pub record Goes (r next : RegisterParts) (day : List ℕ) (old new : List Entry) (e : Entry) : Type 0 where
  pub legal : IsLegal next.base day new
  pub machine : next.machine ≡ machine_of next.base day new
  pub step : Step r.base (machine_of r.base day old) e (machine_of next.base day new)
  pub not_full : is_full e.reply ≡ false

pub stepped : (r next : RegisterParts) (day : List ℕ) (old new : List Entry) (e : Entry) (given : Reply) → IsLegal r.base day old → r.machine ≡ machine_of r.base day old → MayAsk r.base (machine_of r.base day old) e.call
    → e.reply ≡ given → next.base ≡ r.base → IsAnswer r.base r.machine e.caller e.call given → LeavesParts r e.caller e.call next given → new ≡ old ++ e ∷ [] → Goes r next day old new e
stepped r next day old new e given legal is ask told stays answer goes longer =
    let m : Machine = machine_of r.base day old in
    let at : IsAnswer r.base m e.caller e.call e.reply =
    subst (λ (n : Machine). IsAnswer r.base n e.caller e.call e.reply) is (subst (IsAnswer r.base r.machine e.caller e.call) (sym told) answer) in
    let then : next.machine ≡ after_entry r.base m e =
    goes ∙ (ap (after r.base r.machine e.caller e.call) (sym told) ∙ ap (λ (n : Machine). after_entry r.base n e) is) in
    record {
      legal = rw (stays, longer) (legal_more r.base day old e legal ask at);
      machine = rw (stays, longer) (then ∙ sym (machine_more r.base day old e));
      step = rw (stays, longer) (step_more r.base day old e ask at);
      not_full = never_full r.base m e.caller e.call e.reply at;
    }
