-- What a desk does while it catches up, step by step.
use Rattle.std.proofs.Common.{◌≡◌, ◌≢◌, ◌∙◌, ap, sym, refl, subst, ℕ, List, [], ◌∷◌, ◌++◌, Bool, true, false, All, None, Some, Result, Ok, Err, append_assoc, eq-eqb}
use Rattle.std.proofs.lemmas.List.{append-nil, map-append}
use Rattle.std.proofs.lemmas.List.Elements.{All-append, All-cons, All-nil}
use Rattle.std.proofs.lemmas.List.Sums.{fold-append}
use Rattle.permit_days.specs.Days.{is_before}
use Rattle.trip_analysis.specs.declared.application.Application.{Application}
use Rattle.office_words.specs.declared.entry.Call.{Call}
use Rattle.office_words.specs.declared.entry.Call.TheVariants as call
use Rattle.office_words.specs.declared.entry.Entry.{Entry}
use Rattle.office_words.specs.declared.entry.Reply.{Reply}
use Rattle.office_words.specs.declared.entry.Reply.TheVariants as reply
use Rattle.office_core.specs.Became.{WasIssuedFor}
use Rattle.office_core.specs.Happened.{Day, History, Numbers, Routes, day_after, day_by}
use Rattle.office_core.specs.Offices.{Opened, entry}
use Rattle.reroute_desk.specs.Issues.{recalled_in, recalled_numbers}
use Rattle.reroute_desk.specs.declared.handled.Handled.{Handled}
use Rattle.reroute_desk.specs.declared.handled.HandledAs.{HandledAs}
use Rattle.reroute_desk.specs.declared.handled.HandledAs.TheVariants.{Ended, Refused, Replaced}
use Rattle.reroute_desk.specs.declared.refusal.RerouteRefusal.{RerouteRefusal}
use Rattle.reroute_desk.specs.declared.refusal.RerouteRefusal.TheVariants as refusal
use Rattle.reroute_desk.specs.Desks.{AreFirst, AskAgain, AsksAgain, Desk, HasGoneOn, IsTimely, KeepsUp, Placed, answered_by, is_answered, is_ended, is_lack, kept_reply, olds_of, renewals}
use Rattle.reroute_desk.specs.Notes.{AreNotes, Noted}
use Rattle.reroute_desk.specs.Replacements.{again_behind}
use Rattle.reroute_desk.proofs.Keeping.{noted_more, recalled_one}
use Rattle.reroute_desk.proofs.Placing.{answered_other, answered_own, ask_more, renewals_other, renewals_own}
use Rattle.reroute_desk.proofs.Recalling.{issued_stays}

-- what holds of one holds of a list of it alone
one_of : {A : Type 0} (P : A → Type 0) (x : A) → P x → All P (x ∷ [])
one_of P x h = All-cons P x [] h (All-nil P)

-- a reply that is an answer, recalls nothing and sets no day
pub record IsPlain (r : Reply) : Type 0 where
  pub answers : is_lack r ≡ false
  pub recalls_none : recalled_numbers r ≡ []
  pub sets_no_day : (day : Day) → day_by day r ≡ day

-- a reply that is kept is one
pub kept_plain : (what : HandledAs) (r : Reply) → kept_reply what ≡ Some r → IsPlain r
kept_plain Ended r kept = absurd cc
kept_plain (Replaced n v routes) r kept = let is : reply.Issued n v routes ≡ r = cc in subst IsPlain is (record { answers = refl; recalls_none = refl; sets_no_day = λ day. refl })
kept_plain (Refused v l) r kept = let is : reply.Refused v l ≡ r = cc in subst IsPlain is (record { answers = refl; recalls_none = refl; sets_no_day = λ day. refl })

answers_all : (r : Reply) → is_lack r ≡ false → r ≢ reply.NoMemory
answers_all r answers lacks = absurd (contrary (ap is_lack lacks) answers)
  where
    contrary : {b : Bool} → b ≡ true → b ≡ false → ⊥
    contrary e f = cc

own_answered : (caller : ℕ) (c : Call) (r : Reply) → is_lack r ≡ false → is_answered caller (entry caller c r) ≡ true
own_answered caller c r answers = rw (eq-eqb caller caller refl, answers) refl

lack_unanswered : (caller : ℕ) (c : Call) → is_answered caller (entry caller c reply.NoMemory) ≡ false
lack_unanswered caller c = rw (eq-eqb caller caller refl) refl

recalls_same : (es : History) (e : Entry) → IsPlain e.reply → recalled_in (es ++ e ∷ []) ≡ recalled_in es
recalls_same es e plain = recalled_one es e ∙ (ap (λ l. recalled_in es ++ l) plain.recalls_none ∙ append-nil (recalled_in es))

day_same : (opening : Day) (es : History) (e : Entry) → IsPlain e.reply → day_after opening (es ++ e ∷ []) ≡ day_after opening es
day_same opening es e plain = fold-append (λ d f. day_by d f.reply) opening es (e ∷ []) ∙ plain.sets_no_day (day_after opening es)

abbrev pub with_entries : Opened → List Entry → Opened
with_entries o own = record o { history = o.history ++ own }

-- nothing was done beside other notes
pub gone_nowhere : (desk : Desk) (o : Opened) (r : Result (Unit {0}) RerouteRefusal) (notes : Noted) → KeepsUp desk o → AreNotes notes o.history → HasGoneOn desk o r (record desk { notes = notes }) o
gone_nowhere desk o r notes keeps are = record {
  own = [];
  grown = ap (λ (l : History). record o { history = l }) (sym (append-nil o.history));
  by_caller = All-nil (λ e. e.caller ≡ desk.caller);
  recalls_none = refl;
  sets_no_day = refl;
  memory = λ _. All-nil (λ e. e.reply ≢ reply.NoMemory);
  caller = refl;
  items = [];
  handled = sym (append-nil desk.handled);
  timely = All-nil (IsTimely o.history (day_after o.opening o.history));
  kept = record { caller = keeps.caller; first = keeps.first; asked = keeps.asked; noted = are };
}

-- one step after another
pub gone_further : (desk : Desk) (o : Opened) (next : Desk) (mid : Opened) (r : Result (Unit {0}) RerouteRefusal) (last : Desk) (now : Opened) → HasGoneOn desk o (Ok tt) next mid → HasGoneOn next mid r last now → HasGoneOn desk o r last now
gone_further desk o next mid r last now one two = record {
  own = one.own ++ two.own;
  grown = two.grown ∙ (ap (λ (m : Opened). with_entries m two.own) one.grown ∙ ap (λ (l : History). record o { history = l }) (append_assoc o.history one.own two.own));
  by_caller = All-append (λ e. e.caller ≡ desk.caller) one.own two.own one.by_caller (subst (λ (caller : ℕ). All (λ e. e.caller ≡ caller) two.own) one.caller two.by_caller);
  recalls_none = two.recalls_none ∙ one.recalls_none;
  sets_no_day = two.sets_no_day ∙ one.sets_no_day;
  memory = λ wanting. All-append (λ e. e.reply ≢ reply.NoMemory) one.own two.own (one.memory refl) (two.memory wanting);
  caller = two.caller ∙ one.caller;
  items = one.items ++ two.items;
  handled = two.handled ∙ (ap (λ l. l ++ two.items) one.handled ∙ append_assoc desk.handled one.items two.items);
  timely = All-append (IsTimely now.history today) one.items two.items
      (λ k d within. timely_later (one.timely k d within))
      (subst (λ (day : Day). All (IsTimely now.history day) two.items) one.sets_no_day two.timely);
  kept = two.kept;
}
  where
    today : Day
    today = day_after o.opening o.history

    timely_later : {h : Handled} → IsTimely mid.history (day_after o.opening o.history) h → IsTimely now.history (day_after o.opening o.history) h
    timely_later {h} t = record {
      trip = t.trip;
      routes = t.routes;
      issued = subst (λ (l : History). WasIssuedFor l h.old t.trip t.routes) (sym (ap (λ (m : Opened). m.history) two.grown)) (issued_stays mid.history two.own h.old t.trip t.routes t.issued);
      ended = t.ended;
    }

abbrev pub with_item : Desk → Handled → Desk
with_item desk h = record desk { handled = desk.handled ++ h ∷ [] }

-- the first that is left is handled
module _ (desk : Desk) (o : Opened) (keeps : KeepsUp desk o) (h : Handled) (rest : Numbers) (first : AreFirst desk.handled o.history (h.old ∷ rest)) where
  handled_first : (es : History) → recalled_in es ≡ recalled_in o.history → AreFirst (desk.handled ++ h ∷ []) es rest
  handled_first es same =
      same ∙ (first ∙ (sym (append_assoc (olds_of desk.handled) (h.old ∷ []) rest)
      ∙ ap (λ l. l ++ rest) (sym (map-append (λ (g : Handled). g.old) desk.handled (h ∷ [])))))

  -- a permit that has expired
  pub gone_ended : (trip : Application) (routes : Routes) → WasIssuedFor o.history h.old trip routes → is_before trip.last (day_after o.opening o.history) ≡ true → kept_reply h.what ≡ None → is_ended h.what ≡ true → (r : Result (Unit {0}) RerouteRefusal) → HasGoneOn desk o r (with_item desk h) o
  gone_ended trip routes issued expired none ended r = record {
    own = [];
    grown = ap (λ (l : History). record o { history = l }) (sym (append-nil o.history));
    by_caller = All-nil (λ e. e.caller ≡ desk.caller);
    recalls_none = refl;
    sets_no_day = refl;
    memory = λ _. All-nil (λ e. e.reply ≢ reply.NoMemory);
    caller = refl;
    items = h ∷ [];
    handled = refl;
    timely = one_of (IsTimely o.history (day_after o.opening o.history)) h (record { trip = trip; routes = routes; issued = issued; ended = ended ∙ sym expired });
    kept = record {
      caller = keeps.caller;
      first = (rest, handled_first o.history refl);
      asked = subst (λ (l : List Handled). AskAgain o.opening desk.caller l (answered_by desk.caller o.history)) (sym (renewals_other desk.handled h none)) keeps.asked;
      noted = keeps.noted;
    };
  }

  -- a permit that was applied for again
  module _ (trip : Application) (again : again_behind o.opening o.history h.old ≡ Some trip) (r : Reply) (kept : kept_reply h.what ≡ Some r) (plain : IsPlain r) where
    asked_more : AskAgain o.opening desk.caller (renewals (desk.handled ++ h ∷ [])) (answered_by desk.caller (o.history ++ entry desk.caller (call.Held trip) r ∷ []))
    asked_more =
        let one : AsksAgain o.opening desk.caller h (record { front = o.history; entry = entry desk.caller (call.Held trip) r }) = record { trip = trip; is_again = again; by = refl; asked = refl; answer = kept } in
        let both = ask_more o.opening desk.caller (renewals desk.handled) (answered_by desk.caller o.history) h (record { front = o.history; entry = entry desk.caller (call.Held trip) r }) keeps.asked one in
        subst (λ (l : List Handled). AskAgain o.opening desk.caller l (answered_by desk.caller (o.history ++ entry desk.caller (call.Held trip) r ∷ []))) (sym (renewals_own desk.handled h r kept))
        (subst (λ (l : List Placed). AskAgain o.opening desk.caller (renewals desk.handled ++ h ∷ []) l) (sym (answered_own desk.caller o.history (entry desk.caller (call.Held trip) r) (own_answered desk.caller (call.Held trip) r plain.answers))) both)

    pub gone_answered : (was : Application) (routes : Routes) → WasIssuedFor o.history h.old was routes → is_before was.last (day_after o.opening o.history) ≡ false → is_ended h.what ≡ false → HasGoneOn desk o (Ok tt) (with_item desk h) (with_entries o (entry desk.caller (call.Held trip) r ∷ []))
    gone_answered was routes issued in_time not_ended = record {
      own = entry desk.caller (call.Held trip) r ∷ [];
      grown = refl;
      by_caller = one_of (λ e. e.caller ≡ desk.caller) (entry desk.caller (call.Held trip) r) refl;
      recalls_none = recalls_same o.history (entry desk.caller (call.Held trip) r) plain;
      sets_no_day = day_same o.opening o.history (entry desk.caller (call.Held trip) r) plain;
      memory = λ _. one_of (λ e. e.reply ≢ reply.NoMemory) (entry desk.caller (call.Held trip) r) (answers_all r plain.answers);
      caller = refl;
      items = h ∷ [];
      handled = refl;
      timely = one_of (IsTimely (o.history ++ entry desk.caller (call.Held trip) r ∷ []) (day_after o.opening o.history)) h (record { trip = was; routes = routes; issued = issued_stays o.history (entry desk.caller (call.Held trip) r ∷ []) h.old was routes issued; ended = not_ended ∙ sym in_time });
      kept = record {
        caller = keeps.caller;
        first = (rest, handled_first (o.history ++ entry desk.caller (call.Held trip) r ∷ []) (recalls_same o.history (entry desk.caller (call.Held trip) r) plain));
        asked = asked_more;
        noted = noted_more desk.notes o.history (entry desk.caller (call.Held trip) r ∷ []) keeps.noted;
      };
    }

-- memory was wanting for the answer
pub gone_lacked : (desk : Desk) (o : Opened) (keeps : KeepsUp desk o) (trip : Application) → HasGoneOn desk o (Err refusal.NoMemory) desk (with_entries o (entry desk.caller (call.Held trip) reply.NoMemory ∷ []))
gone_lacked desk o keeps trip = record {
  own = entry desk.caller (call.Held trip) reply.NoMemory ∷ [];
  grown = refl;
  by_caller = one_of (λ e. e.caller ≡ desk.caller) (entry desk.caller (call.Held trip) reply.NoMemory) refl;
  recalls_none = recalled_one o.history (entry desk.caller (call.Held trip) reply.NoMemory) ∙ append-nil (recalled_in o.history);
  sets_no_day = fold-append (λ d e. day_by d e.reply) o.opening o.history (entry desk.caller (call.Held trip) reply.NoMemory ∷ []);
  memory = λ wanting. absurd cc;
  caller = refl;
  items = [];
  handled = sym (append-nil desk.handled);
  timely = All-nil (IsTimely (o.history ++ entry desk.caller (call.Held trip) reply.NoMemory ∷ []) (day_after o.opening o.history));
  kept = record {
    caller = keeps.caller;
    first = (keeps.first.0, recalled_one o.history (entry desk.caller (call.Held trip) reply.NoMemory) ∙ (append-nil (recalled_in o.history) ∙ keeps.first.1));
    asked = subst (λ (l : List Placed). AskAgain o.opening desk.caller (renewals desk.handled) l) (sym (answered_other desk.caller o.history (entry desk.caller (call.Held trip) reply.NoMemory) (lack_unanswered desk.caller (call.Held trip)))) keeps.asked;
    noted = noted_more desk.notes o.history (entry desk.caller (call.Held trip) reply.NoMemory ∷ []) keeps.noted;
  };
}
