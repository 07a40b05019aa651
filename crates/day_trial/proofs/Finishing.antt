-- What a command leaves of the office, by its reply.
use Rattle.std.proofs.Common.{◌≡◌, ◌≢◌, ap, sym, refl, subst, ℕ, ◌≤◌, [], ◌∷◌, ◌++◌, length, false, Result, Ok, Err, IfErr, OnOk}
use Rattle.std.proofs.lemmas.List.{append-nil}
use Rattle.road_graph.specs.Roads.{IsRoads}
use Rattle.day_text.specs.declared.orders.Order.{Order}
use Rattle.office_words.specs.declared.entry.Reply.{Reply}
use Rattle.office_words.specs.declared.entry.Reply.TheVariants as reply
use Rattle.office_core.specs.Machine.{IsLegal, IsLegalFrom, opened}
use Rattle.office_core.specs.Offices.{Opened, machine_in}
use Rattle.office_core.specs.Replies.{is_full}
use Rattle.office_core.proofs.Prefixes.{legal_later}
use Rattle.analyst_pool.specs.Laws.{FinishedFoundMemory, FirstAttemptsDecide}
use Rattle.analyst_pool.specs.Unfolds.{IsFinished, IsStopped, Unfolds}
use Rattle.day_trial.specs.Serving.{WasCarriedOut}
use Rattle.day_trial.specs.declared.refusal.ServingRefusal.{ServingRefusal}
use Rattle.day_trial.specs.declared.refusal.ServingRefusal.TheVariants.{TooMany}
use Rattle.day_trial.specs.Rerouting.{HasFinished, IsLongAlone, WasStopped}
use Rattle.day_trial.proofs.AtOnce.{at_once, early_found, stopped_early, stopped_shorter}
use Rattle.day_trial.proofs.RerouteLengths.{longer_alone, of_two}

module _ (first : FirstAttemptsDecide) (o next : Opened) (order : Order) (r : Reply) (roads : IsRoads o.base.roads) (h : WasCarriedOut o order r next) (legal : IsLegal next.base next.opening next.history) where
  own_legal : IsLegalFrom o.base (machine_in o) h.entries
  own_legal = legal_later o.base (opened o.opening) o.history h.entries (subst (λ (n : Opened). IsLegal n.base n.opening n.history) h.grown legal)

  -- with a reply, and memory for it, the command is finished
  pub finishes : FinishedFoundMemory → is_full r ≡ false → r ≢ reply.NoMemory → HasFinished o order next
  finishes found room memory =
      let done : IsFinished order.actor order.command h.entries = record { last = r; unfolds = h.unfolds; room = room; memory = memory } in
      record {
        own = h.entries;
        finished = done;
        at_once = at_once first o.base (machine_in o) order.actor order.command h.entries roads done own_legal;
        memory = found order.actor (order.command ∷ []) h.entries (h.entries, [], done, refl, sym (append-nil h.entries));
        grown = h.grown;
      }

  -- where the history is full, the command was stopped
  pub halts : (n : ℕ) → r ≡ reply.Full n → WasStopped o order next
  halts n is =
      let stopped : IsStopped order.actor order.command h.entries o.most =
      subst (λ (k : ℕ). Unfolds order.actor order.command h.entries (reply.Full k)) (h.most n is) (subst (λ (q : Reply). Unfolds order.actor order.command h.entries q) is h.unfolds) in
      record {
        own = h.entries;
        stopped = stopped;
        memory = early_found order.actor h.entries (stopped_early order.actor o.most o.base (machine_in o) order.command h.entries roads stopped own_legal);
        grown = h.grown;
        full = h.full n is;
      }

  -- where the history is full, the command would make more entries
  pub stops : (most : ℕ) → r ≡ reply.Full most → IsLongAlone o order
  stops most is own done whole =
      let fewer = stopped_shorter order.actor most first o.base (machine_in o) order.command h.entries own roads (subst (λ (q : Reply). Unfolds order.actor order.command h.entries q) is h.unfolds) own_legal done whole in
      let all : next.most ≤ length next.history = h.full most is in
      longer_alone o.most next.most (length next.history) (length (o.history ++ h.entries)) (length (o.history ++ own)) (length o.history) (length h.entries) (length own) fewer all
      (ap (λ (n : Opened). n.most) h.grown) (ap (λ (n : Opened). length n.history) h.grown) (of_two o.history h.entries) (of_two o.history own)

-- what is so of a refusal for length
pub where_too_many : {A B : Type 0} (r : Result (Unit {0}) ServingRefusal) → (A → B) → IfErr r (λ q. q ≡ TooMany → A) → IfErr r (λ q. q ≡ TooMany → B)
where_too_many (Ok done) on h = tt
where_too_many (Err q) on h = λ is. on (h is)

-- what is so where a command is finished
pub where_done : {A B C : Type 0} (r : Result (Unit {0}) ServingRefusal) → (A → B → C) → OnOk r A → OnOk r B → OnOk r C
where_done (Ok done) on h k = on h k
where_done (Err q) on h k = tt
