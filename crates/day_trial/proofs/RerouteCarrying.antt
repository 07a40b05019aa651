-- One command more, with the applications of the desk for what it recalled.
use Rattle.std.proofs.Common.{◌≡◌, ◌≢◌, ◌∙◌, ap, sym, refl, subst, ℕ, ◌<◌, List, [], ◌∷◌, ◌++◌, length, Bool, ◌==◌, ◌||◌, true, false, IfErr, is_some, Ok, Err, Result, append_assoc}
use Rattle.std.proofs.lemmas.List.{append-nil, append_cancel_left, length-map, map-append}
use Rattle.std.proofs.lemmas.List.Elements.{All-append, filter-append}
use Rattle.std.proofs.lemmas.List.Folds.{list_any-append}
use Rattle.std.proofs.lemmas.List.Sums.{fold-append}
use Rattle.road_graph.specs.Roads.{IsRoads}
use Rattle.permit_days.specs.Days.{is_before}
use Rattle.trip_analysis.specs.declared.application.Application.{Application}
use Rattle.trip_analysis.specs.Findings.{is_number_among}
use Rattle.day_text.specs.declared.orders.Order.{Order}
use Rattle.office_words.specs.declared.entry.Entry.{Entry}
use Rattle.office_words.specs.declared.entry.Reply.TheVariants as reply
use Rattle.office_core.specs.Became.{IsInForce, RecallsAt, WasIssuedFor}
use Rattle.office_core.specs.Happened.{Day, History, Numbers, Stands, day_after, day_by}
use Rattle.office_core.specs.Machine.{IsLegal, opened}
use Rattle.office_core.specs.Offices.{IsFull, Opened, entry, machine_in}
use Rattle.office_core.specs.Promises.{KeepsPromises}
use Rattle.office_core.proofs.Prefixes.{legal_front, legal_later}
use Rattle.reroute_desk.specs.Issues.{recalled_in}
use Rattle.analyst_pool.specs.Laws.{FinishedAreOne, FoundMemory}
use Rattle.analyst_pool.specs.Unfolds.{IsFinished}
use Rattle.reroute_desk.specs.declared.handled.Handled.{Handled}
use Rattle.reroute_desk.specs.declared.refusal.RerouteRefusal.{RerouteRefusal}
use Rattle.reroute_desk.specs.declared.refusal.RerouteRefusal.TheVariants as refusal
use Rattle.reroute_desk.specs.Desks.{AreFirst, AskAgain, Desk, HasGoneOn, HasHandledAll, IsRerouteCause, IsTimely, KeepsUp, Placed, answered_by, office_day, is_ended, is_wanting, kept_reply, olds_of, placed_behind, renewals}
use Rattle.reroute_desk.specs.Laws.{CallsOfOthersKeepUp}
use Rattle.reroute_desk.proofs.Keeping.{recalled_more}
use Rattle.reroute_desk.proofs.Recalling.{issued_stays, recalls_at}
use Rattle.day_trial.specs.Serving.{grown_by}
use Rattle.day_trial.specs.Rerouted.{AreRenewed, owing, stopped}
use Rattle.day_trial.specs.declared.refusal.ServingRefusal.{ServingRefusal}
use Rattle.day_trial.specs.declared.refusal.ServingRefusal.TheVariants.{TooMany}
use Rattle.day_trial.specs.Rerouting.{HasFinished, HasReroutedOne, IsAtOnce, IsCaughtUp, IsLongAlone, IsLongWith, WasCutShort, WasStopped, serving_refusal}
use Rattle.day_trial.proofs.AtOnce.{keeps_behind, same_day}
use Rattle.day_trial.proofs.RerouteLengths.{apart, longer, longer_with, of_three, of_three_behind, of_two}
use Rattle.day_trial.proofs.Renewing.{answered_all, ask_behind, asked_many, one_trip, renewals_few, renewals_whole, renewed_by, renewed_many}

-- an entry among more entries, with others before and behind them
seam : (before at more own : History) (e : Entry) → (before ++ (at ++ e ∷ more)) ++ own ≡ (before ++ at) ++ e ∷ (more ++ own)
seam before at more own e =
    append_assoc before (at ++ e ∷ more) own
    ∙ (ap (λ l. before ++ l) (append_assoc at (e ∷ more) own) ∙ sym (append_assoc before at (e ∷ (more ++ own))))

-- what a desk that keeps up behind a command has done
module _ (d : Desk) (o : Opened) (es : List Entry) (all : HasHandledAll d o) (keeps : KeepsUp d (grown_by o es)) (r : Result (Unit {0}) RerouteRefusal) (next : Desk) (now : Opened) (gone : HasGoneOn d (grown_by o es) r next now) (enough : is_wanting r ≡ false) where
  history : now.history ≡ (o.history ++ es) ++ gone.own
  history = ap (λ (n : Opened). n.history) gone.grown

  recalled : recalled_in now.history ≡ recalled_in o.history ++ recalled_in es
  recalled = gone.recalls_none ∙ recalled_more o.history es

  olds : olds_of next.handled ≡ recalled_in o.history ++ olds_of gone.items
  olds = ap olds_of gone.handled ∙ (map-append (λ (h : Handled). h.old) d.handled gone.items ∙ ap (λ l. l ++ olds_of gone.items) all)

  -- its entries are those for the items that it added
  asked : AskAgain o.opening d.caller (renewals gone.items) (placed_behind (o.history ++ es) gone.own)
  asked =
      let k : KeepsUp next (grown_by (grown_by o es) gone.own) = subst (KeepsUp next) gone.grown gone.kept in
      let own : AskAgain o.opening d.caller (renewals next.handled) (answered_by d.caller ((o.history ++ es) ++ gone.own)) =
      subst (λ (c : ℕ). AskAgain o.opening c (renewals next.handled) (answered_by c ((o.history ++ es) ++ gone.own))) gone.caller k.asked in
      let parts : renewals next.handled ≡ renewals d.handled ++ renewals gone.items =
      ap renewals gone.handled ∙ filter-append (λ (h : Handled). is_some (kept_reply h.what)) d.handled gone.items in
      ask_behind o.opening d.caller (renewals d.handled) (renewals gone.items) (answered_by d.caller (o.history ++ es)) (placed_behind (o.history ++ es) gone.own) keeps.asked
      (subst (λ (l : List Handled). AskAgain o.opening d.caller l (answered_by d.caller (o.history ++ es) ++ placed_behind (o.history ++ es) gone.own)) parts
      (subst (λ (l : List Placed). AskAgain o.opening d.caller (renewals next.handled) l) (answered_all d.caller (o.history ++ es) gone.own gone.by_caller (gone.memory enough)) own))

  -- where some numbers are left, they are the last that the command recalled
  recalled_parts : (left : Numbers) → AreFirst next.handled now.history left → recalled_in es ≡ olds_of gone.items ++ left
  recalled_parts left first =
      append_cancel_left (recalled_in o.history) (recalled_in es) (olds_of gone.items ++ left)
      (sym recalled ∙ (first ∙ (ap (λ l. l ++ left) olds ∙ append_assoc (recalled_in o.history) (olds_of gone.items) left)))

  -- where a number is left, more entries would come
  pub long : FinishedAreOne → (order : Order) → IsRoads o.base.roads → IsFinished order.actor order.command es → IsLegal now.base now.opening now.history → IsFull now → (left : ℕ) (rest : Numbers) → AreFirst next.handled now.history (left ∷ rest) → IsLongWith o d.caller order
  long one order roads done legal full left rest first own behind done' renewed whole =
      let mine : IsLegal o.base o.opening ((o.history ++ es) ++ gone.own) = subst (λ (n : Opened). IsLegal n.base n.opening n.history) gone.grown legal in
      let es_legal = legal_later o.base (opened o.opening) o.history es (legal_front o.base (opened o.opening) (o.history ++ es) gone.own mine) in
      let own_legal = legal_front o.base (machine_in o) own behind (legal_later o.base (opened o.opening) o.history (own ++ behind) whole) in
      let same : own ≡ es = one o.base (machine_in o) order.actor order.command own es roads done' done own_legal es_legal in
      longer_with o.most now.most (length now.history) (length (o.history ++ (own ++ behind))) (length o.history) (length es) (length gone.own) (length (renewals gone.items)) (length gone.items) (length (olds_of gone.items))
      (length (recalled_in now.history)) (length (recalled_in o.history)) (length (recalled_in es)) (length (olds_of next.handled)) (length rest) (length own) (length (recalled_in own)) (length behind)
      full (ap (λ (n : Opened). n.most) gone.grown) (ap length history ∙ of_three o.history es gone.own)
      (asked_many o.opening d.caller (o.history ++ es) gone.own (renewals gone.items) asked) (renewals_few gone.items) (length-map gone.items (λ (h : Handled). h.old))
      (ap length first ∙ of_two (olds_of next.handled) (left ∷ rest)) (ap length recalled ∙ of_two (recalled_in o.history) (recalled_in es)) (ap length olds ∙ of_two (recalled_in o.history) (olds_of gone.items))
      (ap length same) (ap (λ (l : List Entry). length (recalled_in l)) same) (renewed_many o.opening d.caller (o.history ++ own) (recalled_in own) behind renewed)
      (of_three_behind o.history own behind)

  module _ (promises : KeepsPromises now.base now.opening now.history) (caller : ℕ) (once : IsAtOnce caller es) where
    -- no permit that the command recalled has expired
    not_ended : (h : Handled) → is_number_among h.old (recalled_in es) ≡ true → IsTimely now.history (office_day (grown_by o es)) h → is_ended h.what ≡ false
    not_ended h on timely = by (recalls_at es h.old on)
      where
        by : (at : History) × RecallsAt es h.old at → is_ended h.what ≡ false
        by (at, (v, (who, c, ns, there, (more, stands)))) =
            let posting = entry who c (reply.Posted v ns) in
            let parts : now.history ≡ (o.history ++ at) ++ posting ∷ (more ++ gone.own) =
            history ∙ (ap (λ (l : History). (o.history ++ l) ++ gone.own) stands ∙ seam o.history at more gone.own posting) in
            let place : Stands now.history (o.history ++ at) posting = (more ++ gone.own, parts) in
            let force = ((promises.posted (o.history ++ at) who c v ns place).exact h.old).0 there in
            let p : IsInForce now.opening (o.history ++ at) h.old = force.0 in
            let issued : WasIssuedFor now.history h.old p.trip p.routes =
            subst (λ (l : History). WasIssuedFor l h.old p.trip p.routes) (sym parts) (issued_stays (o.history ++ at) (posting ∷ (more ++ gone.own)) h.old p.trip p.routes p.issued) in
            let same : timely.trip ≡ p.trip =
            one_trip now.base now.opening now.history (o.history ++ at) h.old promises (v, (who, c, ns, there, place)) timely.trip p.trip timely.routes p.routes timely.issued issued in
            let day : day_after now.opening (o.history ++ at) ≡ office_day (grown_by o es) =
            ap (λ (n : Opened). day_after n.opening (o.history ++ at)) gone.grown
            ∙ (fold-append (λ d e. day_by d e.reply) o.opening o.history at
            ∙ (same_day (day_after o.opening o.history) caller es at more who c v ns once stands
            ∙ sym (fold-append (λ d e. day_by d e.reply) o.opening o.history es))) in
            timely.ended ∙ (ap (λ (t : Application). is_before t.last (office_day (grown_by o es))) same
            ∙ (ap (λ (l : Day). is_before p.trip.last l) (sym day) ∙ p.not_expired))

    -- its entries apply again for the first that the command recalled
    renewed_first : (left : Numbers) → recalled_in es ≡ olds_of gone.items ++ left → AreRenewed o.opening d.caller (o.history ++ es) (olds_of gone.items) gone.own
    renewed_first left parts =
        let whole : renewals gone.items ≡ gone.items =
        renewals_whole now.history (office_day (grown_by o es)) (recalled_in es) not_ended gone.items gone.timely
        (λ n on. ap (λ (l : Numbers). is_number_among n l) parts ∙ (list_any-append (λ k. k == n) (olds_of gone.items) left ∙ ap (λ (b : Bool). b || is_number_among n left) on)) in
        renewed_by o.opening d.caller (o.history ++ es) gone.own gone.items
        (subst (λ (l : List Handled). AskAgain o.opening d.caller l (placed_behind (o.history ++ es) gone.own)) whole asked)

    -- they apply again for all that it recalled
    pub renewed : HasHandledAll next now → AreRenewed o.opening d.caller (o.history ++ es) (recalled_in es) gone.own
    renewed handled =
        let numbers : recalled_in es ≡ olds_of gone.items ++ [] = recalled_parts [] (sym (append-nil (olds_of next.handled) ∙ handled)) in
        subst (λ (ns : Numbers). AreRenewed o.opening d.caller (o.history ++ es) ns gone.own) (sym (numbers ∙ append-nil (olds_of gone.items)))
        (renewed_first [] numbers)

    -- where one of them is left, what was to come behind the command was cut short
    pub cut_behind : (order : Order) → IsFinished order.actor order.command es → FoundMemory es → IsFull now → (old : ℕ) (rest : Numbers) → AreFirst next.handled now.history (old ∷ rest) → WasCutShort o d.caller order now
    cut_behind order done memory full old rest first =
        let parts = recalled_parts (old ∷ rest) first in
        record {
          last = es ++ gone.own;
          cut = owing (record {
            own = es;
            renewals = gone.own;
            again = olds_of gone.items;
            next = old;
            left = rest;
            finished = done;
            recalled = parts;
            renewed = renewed_first (old ∷ rest) parts;
            whole = refl;
          });
          memory = All-append (λ (e : Entry). e.reply ≢ reply.NoMemory) es gone.own memory (gone.memory enough);
          grown = gone.grown ∙ ap (λ (l : History). record o { history = l }) (append_assoc o.history es gone.own);
          full = full;
        }

    pub one_more : (order : Order) → order.actor ≡ caller → IsFinished order.actor order.command es → FoundMemory es → HasHandledAll next now → HasReroutedOne o d.caller order now
    one_more order is done memory handled = record {
      own = es;
      renewals = gone.own;
      finished = done;
      renewed = renewed handled;
      memory = All-append (λ (e : Entry). e.reply ≢ reply.NoMemory) es gone.own memory (gone.memory enough);
      grown = gone.grown ∙ ap (λ (l : History). record o { history = l }) (append_assoc o.history es gone.own);
    }

-- what is too long with a command alone is so with what comes behind it
pub long_with : (o : Opened) (caller : ℕ) (order : Order) → IsLongAlone o order → IsLongWith o caller order
long_with o caller order long own behind done renewed whole =
    let legal = legal_front o.base (machine_in o) own behind (legal_later o.base (opened o.opening) o.history (own ++ behind) whole) in
    longer o.most (length o.history) (length own) (length behind) (length (o.history ++ own)) (length (o.history ++ (own ++ behind))) (long own done legal) (of_two o.history own) (of_three_behind o.history own behind)

-- a command that was stopped was cut short
pub cut_alone : (o next : Opened) (caller : ℕ) (order : Order) → WasStopped o order next → WasCutShort o caller order next
cut_alone o next caller order h = record { last = h.own; cut = stopped h.stopped; memory = h.memory; grown = h.grown; full = h.full }

-- the refusal of a day, by what its desk answers
abbrev pub served_as : Result (Unit {0}) RerouteRefusal → Result (Unit {0}) ServingRefusal
served_as (Ok done) = Ok done
served_as (Err refusal) = Err (serving_refusal refusal)

-- what comes of the desk behind a command that is finished
module _ (one : FinishedAreOne) (d : Desk) (o mid : Opened) (order : Order) (roads : IsRoads o.base.roads) (caught : IsCaughtUp d o) (f : HasFinished o order mid) (next : Desk) (now : Opened) where
  module _ (keeps : KeepsUp d mid) where
    kept : KeepsUp d (grown_by o f.own)
    kept = subst (KeepsUp d) f.grown keeps

    pub refused_with : IsLegal now.base now.opening now.history → (r : Result (Unit {0}) RerouteRefusal) → HasGoneOn d mid r next now → IfErr r (λ q. IsRerouteCause next now q) → IfErr (served_as r) (λ q. q ≡ TooMany → IsLongWith o d.caller order)
    refused_with legal (Ok done) gone cause = tt
    refused_with legal (Err (refusal.Full n)) gone (entries, full, (left, is_left)) = λ _.
        long d o f.own caught.all kept (Err (refusal.Full n)) next now (subst (λ (m : Opened). HasGoneOn d m (Err (refusal.Full n)) next now) f.grown gone) refl one order roads f.finished legal full left is_left.next.0 is_left.next.1
    refused_with legal (Err refusal.NoMemory) gone cause = λ is. absurd cc

    pub cut_with : KeepsPromises now.base now.opening now.history → (r : Result (Unit {0}) RerouteRefusal) → HasGoneOn d mid r next now → IfErr r (λ q. IsRerouteCause next now q) → IfErr (served_as r) (λ q. q ≡ TooMany → WasCutShort o d.caller order now)
    cut_with promises (Ok done) gone cause = tt
    cut_with promises (Err (refusal.Full n)) gone (entries, full, (left, is_left)) = λ _.
        cut_behind d o f.own caught.all kept (Err (refusal.Full n)) next now (subst (λ (m : Opened). HasGoneOn d m (Err (refusal.Full n)) next now) f.grown gone) refl promises order.actor f.at_once order f.finished f.memory full left is_left.next.0 is_left.next.1
    cut_with promises (Err refusal.NoMemory) gone cause = λ is. absurd cc

    pub carried : KeepsPromises now.base now.opening now.history → HasGoneOn d mid (Ok tt) next now → HasHandledAll next now → HasReroutedOne o d.caller order now
    carried promises gone handled =
        one_more d o f.own caught.all kept (Ok tt) next now (subst (λ (m : Opened). HasGoneOn d m (Ok tt) next now) f.grown gone) refl promises order.actor f.at_once order refl f.finished f.memory handled

-- a desk that has caught up keeps up behind a command of another
pub keeps_mid : CallsOfOthersKeepUp → (d : Desk) (o mid : Opened) (order : Order) → order.actor < d.caller → IsCaughtUp d o → HasFinished o order mid → KeepsUp d mid
keeps_mid keep d o mid order less caught f =
    subst (KeepsUp d) (sym f.grown) (keeps_behind keep d o order.actor f.own f.at_once (λ same. apart order.actor d.caller less same) caught.kept)
