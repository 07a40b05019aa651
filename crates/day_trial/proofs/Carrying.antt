-- An office that carries out one command after another.
use Rattle.std.proofs.Common.{◌≡◌, ◌≢◌, ◌+◌, ◌<◌, ◌≤◌, ◌++◌, ◌∷◌, [], ℕ, List, Some, None, Bool, true, false, length, Result, Ok, Err, OnOk, refl, ap, sym, ◌∙◌, subst, append_assoc}
use Rattle.std.specs.Prelude.{nat_le, if◌then◌else◌}
use Rattle.std.specs.Borrow.{GName}
use Rattle.std.specs.List.{All}
use Rattle.std.proofs.lemmas.Bool.{leb-true}
use Rattle.std.proofs.lemmas.List.{append-nil, length-append}
use Rattle.std.proofs.lemmas.List.Elements.{All-append, All-nil, All-weaker}
use Rattle.names.specs.declared.refusal.NoMemory.{NoMemory}
use Rattle.trip_analysis.specs.Bases.{BaseLists}
use Rattle.day_text.specs.declared.orders.Order.{Order}
use Rattle.day_text.specs.Days.{DayParts}
use Rattle.office_words.specs.declared.entry.Command.{Command}
use Rattle.office_words.specs.declared.entry.Entry.{Entry}
use Rattle.office_words.specs.declared.entry.Reply.{Reply}
use Rattle.office_words.specs.declared.entry.Reply.TheVariants as reply
use Rattle.office_core.specs.Calls.{Calling, Who, full_in, one_seat}
use Rattle.office_core.specs.Machine.{IsLegal}
use Rattle.office_core.specs.Offices.{IsFull, Opened, newly_opened}
use Rattle.office_core.specs.Promises.{KeepsPromises}
use Rattle.office_core.specs.Replies.{is_full}
use Rattle.analyst_pool.specs.Laws.{FinishedFoundMemory, StoppedAreShorter, UnfoldingsAreShort}
use Rattle.analyst_pool.specs.Leaves.{CarriedOut}
use Rattle.office_words.specs.Commands.{MayCarryOut}
use Rattle.analyst_pool.specs.Unfolds.{IsFinished, Unfolds}
use Rattle.day_trial.specs.Serial.{CarriesOut, IsSerial}
use Rattle.day_trial.specs.Serving.{HasCarriedOut, HasServed, WasCarriedOut, grown_by}
use Rattle.day_trial.proofs.Lengths.{few_callers, few_more, has_place}

-- where an office is full with a number its history holds the most entries
full_means : (o : Opened) (n : ℕ) → full_in o ≡ Some n → IsFull o
full_means o n e = by (nat_le o.most (length o.history)) refl e
  where
    by : (b : Bool) → nat_le o.most (length o.history) ≡ b → (if b then Some o.most else None) ≡ Some n → o.most ≤ length o.history
    by true is e = leb-true o.most (length o.history) is
    by false is e = absurd (cc e)

-- and its number is that of these entries
full_most : (o : Opened) (n : ℕ) → full_in o ≡ Some n → n ≡ o.most
full_most o n e = by (nat_le o.most (length o.history)) e
  where
    by : (b : Bool) → (if b then Some o.most else None) ≡ Some n → n ≡ o.most
    by true e = cc
    by false e = cc

-- what a command leaves of the calls of one seat is what it leaves of the office
module _ {P : Type 0} where
  same_who : (g : GName) (caller : ℕ) (o next : Opened) → (let w : Calling P = one_seat g caller next in w.who) ≡ (let v : Calling P = one_seat g caller o in v.who)
      → (next.base ≡ o.base) × (next.opening ≡ o.opening) × (next.most ≡ o.most)
  same_who g caller o next is = (ap (λ (w : Who P). w.base) is, ap (λ (w : Who P). w.opening) is, ap (λ (w : Who P). w.most) is)

  grown_alone : (g : GName) (caller : ℕ) (o next : Opened) (c : Command) (r : Reply)
      → (h : CarriedOut {P = P} (one_seat g caller o) c r (one_seat g caller next)) → next ≡ grown_by o h.entries
  grown_alone g caller o next c r h =
      let same = same_who g caller o next h.grew.who in
      let sees = h.grew.sees in
      let longer : next.history ≡ o.history ++ h.entries = sees.seen ∙ ap (λ l. o.history ++ l) (sees.alone refl) in
      λ i. record { base = same.0 i; opening = same.1 i; most = same.2 i; history = longer i }

  pub carried_alone : (g : GName) (o next : Opened) (order : Order) (r : Reply)
      → CarriedOut {P = P} (one_seat g order.actor o) order.command r (one_seat g order.actor next) → WasCarriedOut o order r next
  carried_alone g o next order r h = record {
    entries = h.entries;
    unfolds = h.unfolds;
    grown = grown_alone g order.actor o next order.command r h;
    full = λ most is. full_means next most (h.full most is);
    most = λ most is. full_most next most (h.full most is) ∙ (same_who g order.actor o next h.grew.who).2;
  }

-- with a reply, and memory for it, the command is finished
pub finishes : UnfoldingsAreShort → (o next : Opened) (order : Order) (r : Reply) → WasCarriedOut o order r next → is_full r ≡ false → r ≢ reply.NoMemory → HasCarriedOut o order next
finishes short o next order r h room memory = record {
  entries = h.entries;
  finished = record { last = r; unfolds = h.unfolds; room = room; memory = memory };
  short = short order.actor order.command h.entries r h.unfolds;
  grown = h.grown;
}

-- the reply that the history is full
pub full_reply : (r : Reply) → is_full r ≡ true → (most : ℕ) × (r ≡ reply.Full most)
full_reply (reply.Full most) is = (most, refl)
full_reply _ is = cc

-- the history is not full where it has 17 places left
pub not_full : StoppedAreShorter → (o next : Opened) (order : Order) (r : Reply) → WasCarriedOut o order r next → length o.history + 17 ≤ o.most → is_full r ≡ false
not_full short o next order r h room = by (is_full r) refl
  where
    by : (b : Bool) → is_full r ≡ b → is_full r ≡ false
    by false is = is
    by true is =
        let (most, full) = full_reply r is in
        let few = short order.actor order.command h.entries most (subst (λ (q : Reply). Unfolds order.actor order.command h.entries q) full h.unfolds) in
        let all : next.most ≤ length next.history = h.full most full in
        absurd (has_place o.most next.most (length next.history) (length (o.history ++ h.entries)) (length o.history) (length h.entries) all few room
        (ap (λ (n : Opened). length n.history) h.grown) (ap (λ (n : Opened). n.most) h.grown) (length-append o.history h.entries))

-- what is so where a command is finished
pub where_done : {A B : Type 0} (r : Result (Unit {0}) NoMemory) → (A → B) → OnOk r A → OnOk r B
where_done (Ok done) on h = on h
where_done (Err e) on h = tt

carries_more : (orders : List Order) (history es : List Entry) (order : Order) → CarriesOut orders history → IsFinished order.actor order.command es → CarriesOut (orders ++ order ∷ []) (history ++ es)
carries_more [] history es order h f = record {
  front = es;
  back = [];
  finished = f;
  behind = refl;
  whole = ap (λ l. l ++ es) h ∙ sym (append-nil es);
}
carries_more (o ∷ os) history es order h f = record {
  front = h.front;
  back = h.back ++ es;
  finished = h.finished;
  behind = carries_more os h.back es order h.behind f;
  whole = ap (λ l. l ++ es) h.whole ∙ append_assoc h.front h.back es;
}

-- the commands so far, and one more
pub served_more : (o now next : Opened) (orders : List Order) (order : Order) → HasServed o now orders → HasCarriedOut now order next → HasServed o next (orders ++ order ∷ [])
served_more o now next orders order h more = record {
  base = ap (λ (p : Opened). p.base) more.grown ∙ h.base;
  opening = ap (λ (p : Opened). p.opening) more.grown ∙ h.opening;
  most = ap (λ (p : Opened). p.most) more.grown ∙ h.most;
  commands = subst (λ (p : Opened). CarriesOut (orders ++ order ∷ []) p.history) (sym more.grown) (carries_more orders now.history more.entries order h.commands more.finished);
  few = few_more (length now.history) (length more.entries) (length next.history) (length (now.history ++ more.entries)) (length orders) (length (orders ++ order ∷ [])) h.few more.short
      (ap (λ (p : Opened). length p.history) more.grown) (length-append now.history more.entries) (length-append orders (order ∷ []));
}

-- finished commands found memory
found_memory : FinishedFoundMemory → (orders : List Order) (history : List Entry) → CarriesOut orders history → All (λ (e : Entry). e.reply ≢ reply.NoMemory) history
found_memory found [] history h = subst (λ (l : List Entry). All (λ (e : Entry). e.reply ≢ reply.NoMemory) l) (sym h) (All-nil (λ (e : Entry). e.reply ≢ reply.NoMemory))
found_memory found (o ∷ os) history h =
    subst (λ (l : List Entry). All (λ (e : Entry). e.reply ≢ reply.NoMemory) l) (sym h.whole)
    (All-append (λ (e : Entry). e.reply ≢ reply.NoMemory) h.front h.back
    (found o.actor (o.command ∷ []) h.front (h.front, [], h.finished, refl, sym (append-nil h.front))) (found_memory found os h.back h.behind))

module _ (file : DayParts) (orders : List Order) (are : orders ≡ file.commands) where
  -- the callers of a file are few
  pub callers_for : length file.actors ≤ 16 → All (λ o. o.actor < length file.actors) file.commands → All (λ o. o.actor < 65536) orders
  callers_for few h =
      All-weaker (λ (o : Order). o.actor < length file.actors) (λ (o : Order). o.actor < 65536) (λ o low. few_callers o.actor (length file.actors) few low) orders (subst (λ (l : List Order). All (λ o. o.actor < length file.actors) l) (sym are) h)

  module _ (o : Opened) (most : ℕ) (is : o ≡ newly_opened file.base file.day most) where
    -- its commands are sound for the roads and trucks that the office opened with
    pub sound_for : All (λ k. MayCarryOut file.base k.command) file.commands → All (λ k. MayCarryOut o.base k.command) orders
    sound_for h =
        subst (λ (n : Opened). All (λ k. MayCarryOut n.base k.command) orders) (sym is) (subst (λ (l : List Order). All (λ k. MayCarryOut file.base k.command) l) (sym are) h)

    module _ (now : Opened) (has : HasServed o now orders) where
      base_is : now.base ≡ file.base
      base_is = has.base ∙ ap (λ (n : Opened). n.base) is

      day_is : now.opening ≡ file.day
      day_is = has.opening ∙ ap (λ (n : Opened). n.opening) is

      -- where it carried out all the file's commands, it has served it
      pub served : FinishedFoundMemory → IsLegal now.base now.opening now.history → KeepsPromises now.base now.opening now.history → IsSerial file now.history
      served found legal promises = record {
        legal = subst (λ (b : BaseLists). IsLegal b file.day now.history) base_is (subst (λ (d : List ℕ). IsLegal now.base d now.history) day_is legal);
        promises = subst (λ (b : BaseLists). KeepsPromises b file.day now.history) base_is (subst (λ (d : List ℕ). KeepsPromises now.base d now.history) day_is promises);
        commands = subst (λ (l : List Order). CarriesOut l now.history) are has.commands;
        memory = found_memory found orders now.history has.commands;
      }
