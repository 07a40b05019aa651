-- Where a caller stands whose entries came next, one after another: behind some finished commands, and in the next one.
use Rattle.std.proofs.Common.{◌≡◌, ◌<◌, ◌≤◌, ◌+◌, ◌++◌, ◌∷◌, [], List, ℕ, Option, Some, None, All, ap, sym, subst, refl, ◌∙◌, true, false, add-one, append_assoc, append-nil, arith, inl, inr, ◌⊎◌}
use Rattle.std.proofs.lemmas.Bool.{cases_Bool, cases_lt}
use Rattle.std.proofs.lemmas.List.Elements.{All-head, All-tail}
use Rattle.trip_analysis.specs.declared.application.Application.{Application}
use Rattle.trip_analysis.specs.declared.finding.What.{What}
use Rattle.office_words.specs.declared.entry.Call.{Call}
use Rattle.office_words.specs.declared.entry.Call.TheVariants as call
use Rattle.office_words.specs.declared.entry.Command.{Command}
use Rattle.office_words.specs.declared.entry.Command.TheVariants as command
use Rattle.office_words.specs.declared.entry.Entry.{Entry}
use Rattle.office_words.specs.declared.entry.Reply.{Reply}
use Rattle.office_words.specs.declared.entry.Reply.TheVariants as reply
use Rattle.office_core.specs.Offices.{entry}
use Rattle.office_core.specs.Replies.{is_outdated}
use Rattle.analyst_pool.specs.Unfolds.{AreFinished, AreOutdated, IsCalled, IsFinished, Unfolds, answered, concluded, held, looked_at, submitted}
use Rattle.analyst_pool.proofs.Runs.{finished_more}
use Rattle.journal_whole.specs.Leaving.{AreNext, IsHeldLast, IsHeldOf, IsNext, IsNextIn, IsSubmitOf, IsTold, Left, after, after_all, after_call, fresh, tried_on}
use Rattle.journal_whole.proofs.Finished.{outdated_again, settled_ended}
use Rattle.journal_whole.proofs.Nexts.{look_is}

-- the snapshot for the next attempt, if one was taken
abbrev looks : ℕ → Option ℕ → List Entry
looks caller None = []
looks caller (Some version) = looked_at caller version ∷ []

-- these entries are of attempts at an application
record IsTrying (caller : ℕ) (a : Application) (tries : ℕ) (looked : Option ℕ) (tried : List Entry) : Type 0 where
  before : List Entry
  outdated : AreOutdated caller a tries before
  is : tried ≡ before ++ looks caller looked
  few : tries ≤ 8
  fewer : (version : ℕ) → looked ≡ Some version → tries ≤ 7

-- nothing has begun
record HasNot (tries : ℕ) (looked : Option ℕ) (tried : List Entry) : Type 0 where
  tries_is : tries ≡ 0
  looked_is : looked ≡ None
  tried_is : tried ≡ []

abbrev HasBegun : ℕ → List Command → ℕ → Option ℕ → List Entry → Type 0
HasBegun caller (command.Apply a ∷ cs) tries looked tried = IsTrying caller a tries looked tried
HasBegun caller _ tries looked tried = HasNot tries looked tried

none_begun : (caller : ℕ) (cs : List Command) → HasBegun caller cs 0 None []
none_begun caller [] = record { tries_is = refl; looked_is = refl; tried_is = refl }
none_begun caller (command.Apply a ∷ cs) = record { before = []; outdated = refl; is = refl; few = omega arith; fewer = λ _ is. omega arith }
none_begun caller (command.Post change ∷ cs) = record { tries_is = refl; looked_is = refl; tried_is = refl }
none_begun caller (command.Day day ∷ cs) = record { tries_is = refl; looked_is = refl; tried_is = refl }
none_begun caller (command.Surrender number ∷ cs) = record { tries_is = refl; looked_is = refl; tried_is = refl }
none_begun caller (command.Show number ∷ cs) = record { tries_is = refl; looked_is = refl; tried_is = refl }

-- the commands of a script that are not left are finished, and what comes behind their entries is of the next one
pub record Stands (caller : ℕ) (script : List Command) (es : List Entry) (l : Left) : Type 0 where
  pub done : List Command
  pub front : List Entry
  pub tried : List Entry
  pub finished : AreFinished caller done front
  pub script_is : script ≡ done ++ l.rest
  pub entries : es ≡ front ++ tried
  begun : HasBegun caller l.rest l.tries l.looked tried

pub stands_none : (caller : ℕ) (script : List Command) → Stands caller script [] (fresh script)
stands_none caller script = record { done = []; front = []; tried = []; finished = refl; script_is = refl; entries = refl; begun = none_begun caller script }

entry_is : (e : Entry) (caller : ℕ) (c : Call) (r : Reply) → e.caller ≡ caller → e.call ≡ c → e.reply ≡ r → e ≡ entry caller c r
entry_is e caller c r mine call_is reply_is = λ k. entry (mine k) (call_is k) (reply_is k)

held_is : (a : Application) (c : Call) → IsHeldOf a c → c ≡ call.Held a
held_is a (call.Held b) same = ap call.Held (sym same)
held_is a _ none = absurd none

submit_is : (a : Application) (version : ℕ) (c : Call) → IsSubmitOf a version c → (w : What) × (c ≡ call.Submit a (record { seen = version; what = w }))
submit_is a version (call.Submit b p) (same, seen) = (p.what, sym there)
  where
    there : call.Submit a (record { seen = version; what = p.what }) ≡ call.Submit b p
    there = λ k. call.Submit (same k) (record { seen = sym seen k; what = p.what })
submit_is a version _ none = absurd none

-- the entry finishes the command
stands_done : (caller : ℕ) (script : List Command) (es : List Entry) (c : Command) (cs : List Command) (x : Entry) (done : List Command) (front tried : List Entry)
    → AreFinished caller done front → script ≡ done ++ c ∷ cs → es ≡ front ++ tried → IsFinished caller c (tried ++ x ∷ []) → Stands caller script (es ++ x ∷ []) (fresh cs)
stands_done caller script es c cs x done front tried finished is entries one = record {
  done = done ++ c ∷ [];
  front = front ++ (tried ++ x ∷ []);
  tried = [];
  finished = finished_more caller done c front (tried ++ x ∷ []) finished one;
  script_is = is ∙ sym (append_assoc done (c ∷ []) cs);
  entries = ap (λ (l : List Entry). l ++ x ∷ []) entries ∙ (append_assoc front tried (x ∷ []) ∙ sym (append-nil (front ++ (tried ++ x ∷ []))));
  begun = none_begun caller cs;
}

-- the entry goes on with the command
stands_on : (caller : ℕ) (script : List Command) (es : List Entry) (l : Left) (x : Entry) (done : List Command) (front tried : List Entry)
    → AreFinished caller done front → script ≡ done ++ l.rest → es ≡ front ++ tried → HasBegun caller l.rest l.tries l.looked (tried ++ x ∷ []) → Stands caller script (es ++ x ∷ []) l
stands_on caller script es l x done front tried finished is entries begun = record {
  done = done;
  front = front;
  tried = tried ++ x ∷ [];
  finished = finished;
  script_is = is;
  entries = ap (λ (l : List Entry). l ++ x ∷ []) entries ∙ append_assoc front tried (x ∷ []);
  begun = begun;
}

abbrev left_at : List Command → ℕ → Option ℕ → Left
left_at rest tries looked = record { rest = rest; tries = tries; looked = looked }

module _ (caller : ℕ) (script : List Command) (es : List Entry) (e : Entry) (mine : e.caller ≡ caller) (cs : List Command) where
  module _ (a : Application) (tries : ℕ) where
    abbrev after_call_at : Call → Option ℕ → Left
    after_call_at c looked = after_call (left_at (command.Apply a ∷ cs) tries looked) c e.reply

    -- a snapshot for an attempt
    stands_look : (version : ℕ) → tries < 8 → (e.call ≡ call.Snapshot) × (e.reply ≡ reply.SnapshotAt version) → Stands caller script es (left_at (command.Apply a ∷ cs) tries None)
        → Stands caller script (es ++ e ∷ []) (after (left_at (command.Apply a ∷ cs) tries None) e)
    stands_look version few at h =
        let is : e ≡ looked_at caller version = entry_is e caller call.Snapshot (reply.SnapshotAt version) mine at.0 at.1 in
        subst (λ (x : Entry). Stands caller script (es ++ x ∷ []) (after (left_at (command.Apply a ∷ cs) tries None) x)) (sym is)
        (stands_on caller script es (left_at (command.Apply a ∷ cs) tries (Some version)) (looked_at caller version) h.done h.front h.tried h.finished h.script_is h.entries
        (record {
          before = h.begun.before;
          outdated = h.begun.outdated;
          is = ap (λ (l : List Entry). l ++ looked_at caller version ∷ []) (h.begun.is ∙ append-nil h.begun.before);
          few = omega (arith, few);
          fewer = λ _ is. omega (arith, few);
        }))

    -- a submit for an attempt that is out of date
    stands_again : (version : ℕ) (w : What) → tries < 8 → e.call ≡ call.Submit a (record { seen = version; what = w }) → is_outdated e.reply ≡ true
        → Stands caller script es (left_at (command.Apply a ∷ cs) tries (Some version)) → Stands caller script (es ++ e ∷ []) (left_at (command.Apply a ∷ cs) (tries + 1) None)
    stands_again version w few call_is late h =
        let x = submitted caller a version w e.reply in
        let is : e ≡ x = entry_is e caller (call.Submit a (record { seen = version; what = w })) e.reply mine call_is refl in
        let pair = looked_at caller version ∷ x ∷ [] in
        subst (λ (y : Entry). Stands caller script (es ++ y ∷ []) (left_at (command.Apply a ∷ cs) (tries + 1) None)) (sym is)
        (stands_on caller script es (left_at (command.Apply a ∷ cs) (tries + 1) None) x h.done h.front h.tried h.finished h.script_is h.entries
        (record {
          before = h.begun.before ++ pair;
          outdated = subst (λ (n : ℕ). AreOutdated caller a n (h.begun.before ++ pair)) (sym (add-one tries))
              (h.begun.before, pair, h.begun.outdated, (e.reply, (version, w, refl), late), refl);
          is = ap (λ (l : List Entry). l ++ x ∷ []) h.begun.is ∙ (append_assoc h.begun.before (looked_at caller version ∷ []) (x ∷ []) ∙ sym (append-nil (h.begun.before ++ pair)));
          few = omega (arith, few);
          fewer = λ v none. absurd cc;
        }))

    -- a submit for an attempt that is not
    stands_settled : (version : ℕ) (w : What) → tries < 8 → e.call ≡ call.Submit a (record { seen = version; what = w }) → IsTold e.reply → is_outdated e.reply ≡ false
        → Stands caller script es (left_at (command.Apply a ∷ cs) tries (Some version)) → Stands caller script (es ++ e ∷ []) (fresh cs)
    stands_settled version w few call_is told settled h =
        let x = submitted caller a version w e.reply in
        let is : e ≡ x = entry_is e caller (call.Submit a (record { seen = version; what = w })) e.reply mine call_is refl in
        let pair = looked_at caller version ∷ x ∷ [] in
        subst (λ (y : Entry). Stands caller script (es ++ y ∷ []) (fresh cs)) (sym is)
        (stands_done caller script es (command.Apply a) cs x h.done h.front h.tried h.finished h.script_is h.entries
        (record {
          last = e.reply;
          unfolds = record {
            tries = tries;
            front = h.begun.before;
            last = pair;
            outdated = h.begun.outdated;
            ends = concluded (omega (arith, few)) (answered (version, w, refl) settled told.room);
            whole = ap (λ (l : List Entry). l ++ x ∷ []) h.begun.is ∙ append_assoc h.begun.before (looked_at caller version ∷ []) (x ∷ []);
          };
          room = told.room;
          memory = told.memory;
        }))

    -- the office finds what is needed
    stands_held : (looked : Option ℕ) → 8 ≤ tries → IsHeldLast a e → Stands caller script es (left_at (command.Apply a ∷ cs) tries looked) → Stands caller script (es ++ e ∷ []) (fresh cs)
    stands_held looked all h_last h =
        let x = entry caller (call.Held a) e.reply in
        let is : e ≡ x = entry_is e caller (call.Held a) e.reply mine (held_is a e.call h_last.held) refl in
        subst (λ (y : Entry). Stands caller script (es ++ y ∷ []) (fresh cs)) (sym is)
        (stands_done caller script es (command.Apply a) cs x h.done h.front h.tried h.finished h.script_is h.entries
        (record {
          last = e.reply;
          unfolds = record {
            tries = tries;
            front = h.begun.before;
            last = x ∷ [];
            outdated = h.begun.outdated;
            ends = held (omega (arith, all, h.begun.few)) (called x h_last.told) h_last.settled;
            whole = ap (λ (l : List Entry). l ++ x ∷ []) (nothing_looked looked h.begun);
          };
          room = h_last.told.room;
          memory = h_last.told.memory;
        }))
      where
        called : (x : Entry) → IsTold e.reply → IsCalled caller (call.Held a) e.reply (entry caller (call.Held a) e.reply ∷ [])
        called x told = record { answered = λ _. refl; full = λ full. absurd (grind (arith, full, told.room)) }

        nothing_looked : (looked : Option ℕ) → (t : IsTrying caller a tries looked h.tried) → h.tried ≡ t.before
        nothing_looked None t = t.is ∙ append-nil t.before
        nothing_looked (Some version) t = absurd (omega (arith, all, t.fewer version refl))

    stands_attempted : (looked : Option ℕ) → IsNext (left_at (command.Apply a ∷ cs) tries looked) e → Stands caller script es (left_at (command.Apply a ∷ cs) tries looked)
        → Stands caller script (es ++ e ∷ []) (after (left_at (command.Apply a ∷ cs) tries looked) e)
    stands_attempted None next h = by (cases_lt tries 8)
      where
        by : (tries < 8) ⊎ (8 ≤ tries) → Stands caller script (es ++ e ∷ []) (after (left_at (command.Apply a ∷ cs) tries None) e)
        by (inl few) = let look = next.goes_on few in stands_look look.0 few (look_is e.call e.reply look.0 look.1) h
        by (inr all) = let last = next.last all in
            subst (λ (c : Call). Stands caller script (es ++ e ∷ []) (after_call_at c None)) (sym (held_is a e.call last.held)) (stands_held None all last h)
    stands_attempted (Some version) next h = by (cases_lt tries 8)
      where
        by : (tries < 8) ⊎ (8 ≤ tries) → Stands caller script (es ++ e ∷ []) (after (left_at (command.Apply a ∷ cs) tries (Some version)) e)
        by (inl few) = let goes = next.goes_on few in let submit = submit_is a version e.call goes.0 in
            subst (λ (c : Call). Stands caller script (es ++ e ∷ []) (after_call_at c (Some version))) (sym submit.1) (by_answer few goes.1 submit.0 submit.1 (cases_Bool (is_outdated e.reply)))
          where
            by_answer : tries < 8 → IsTold e.reply → (w : What) → e.call ≡ call.Submit a (record { seen = version; what = w }) → (is_outdated e.reply ≡ true) ⊎ (is_outdated e.reply ≡ false)
                → Stands caller script (es ++ e ∷ []) (tried_on (left_at (command.Apply a ∷ cs) tries (Some version)) e.reply)
            by_answer few told w call_is (inl late) =
                subst (λ (l : Left). Stands caller script (es ++ e ∷ []) l) (sym (outdated_again (left_at (command.Apply a ∷ cs) tries (Some version)) e.reply late)) (stands_again version w few call_is late h)
            by_answer few told w call_is (inr settled) =
                subst (λ (l : Left). Stands caller script (es ++ e ∷ []) l) (sym (settled_ended (left_at (command.Apply a ∷ cs) tries (Some version)) e.reply settled)) (stands_settled version w few call_is told settled h)
        by (inr all) = let last = next.last all in
            subst (λ (c : Call). Stands caller script (es ++ e ∷ []) (after_call_at c (Some version))) (sym (held_is a e.call last.held)) (stands_held (Some version) all last h)

  -- the one entry of a command that is no application
  stands_called : (c : Command) (k : Call) → e.call ≡ k → IsTold e.reply → ((xs : List Entry) (r : Reply) → IsCalled caller k r xs → Unfolds caller c xs r)
      → (done : List Command) (front tried : List Entry) → AreFinished caller done front → script ≡ done ++ c ∷ cs → es ≡ front ++ tried → tried ≡ []
      → Stands caller script (es ++ e ∷ []) (fresh cs)
  stands_called c k call_is told unfolds done front tried finished is entries none =
      let x = entry caller k e.reply in
      subst (λ (y : Entry). Stands caller script (es ++ y ∷ []) (fresh cs)) (sym (entry_is e caller k e.reply mine call_is refl))
      (stands_done caller script es c cs x done front tried finished is entries
      (record {
        last = e.reply;
        unfolds = unfolds (tried ++ x ∷ []) e.reply (record { answered = λ _. ap (λ (l : List Entry). l ++ x ∷ []) none; full = λ full. absurd (grind (arith, full, told.room)) });
        room = told.room;
        memory = told.memory;
      }))

stands_in : (caller : ℕ) (script : List Command) (es : List Entry) (e : Entry) → e.caller ≡ caller → (rest : List Command) (tries : ℕ) (looked : Option ℕ)
    → IsNextIn rest tries looked e → Stands caller script es (left_at rest tries looked) → Stands caller script (es ++ e ∷ []) (after (left_at rest tries looked) e)
stands_in caller script es e mine [] tries looked next h = absurd next
stands_in caller script es e mine (command.Apply a ∷ cs) tries looked next h = stands_attempted caller script es e mine cs a tries looked next h
stands_in caller script es e mine (command.Post change ∷ cs) tries looked next h =
    subst (λ (k : Call). Stands caller script (es ++ e ∷ []) (after_call (left_at (command.Post change ∷ cs) tries looked) k e.reply)) (sym next.0)
    (stands_called caller script es e mine cs (command.Post change) (call.Post change) next.0 next.1 (λ xs r is. is) h.done h.front h.tried h.finished h.script_is h.entries h.begun.tried_is)
stands_in caller script es e mine (command.Day day ∷ cs) tries looked next h =
    subst (λ (k : Call). Stands caller script (es ++ e ∷ []) (after_call (left_at (command.Day day ∷ cs) tries looked) k e.reply)) (sym next.0)
    (stands_called caller script es e mine cs (command.Day day) (call.Day day) next.0 next.1 (λ xs r is. is) h.done h.front h.tried h.finished h.script_is h.entries h.begun.tried_is)
stands_in caller script es e mine (command.Surrender number ∷ cs) tries looked next h =
    subst (λ (k : Call). Stands caller script (es ++ e ∷ []) (after_call (left_at (command.Surrender number ∷ cs) tries looked) k e.reply)) (sym next.0)
    (stands_called caller script es e mine cs (command.Surrender number) (call.Surrender number) next.0 next.1 (λ xs r is. is) h.done h.front h.tried h.finished h.script_is h.entries h.begun.tried_is)
stands_in caller script es e mine (command.Show number ∷ cs) tries looked next h =
    subst (λ (k : Call). Stands caller script (es ++ e ∷ []) (after_call (left_at (command.Show number ∷ cs) tries looked) k e.reply)) (sym next.0)
    (stands_called caller script es e mine cs (command.Show number) (call.Show number) next.0 next.1 (λ xs r is. is) h.done h.front h.tried h.finished h.script_is h.entries h.begun.tried_is)

-- an entry of the caller that comes next
pub stands_more : (caller : ℕ) (script : List Command) (es : List Entry) (l : Left) (e : Entry) → e.caller ≡ caller → IsNext l e → Stands caller script es l → Stands caller script (es ++ e ∷ []) (after l e)
stands_more caller script es l e mine next h = stands_in caller script es e mine l.rest l.tries l.looked next h

-- all that come next
pub stands_all : (caller : ℕ) (script : List Command) (es fs : List Entry) (l : Left) → All (λ e. e.caller ≡ caller) fs → AreNext l fs → Stands caller script es l → Stands caller script (es ++ fs) (after_all l fs)
stands_all caller script es [] l mine next h = subst (λ (xs : List Entry). Stands caller script xs l) (sym (append-nil es)) h
stands_all caller script es (f ∷ fs) l mine next h =
    subst (λ (xs : List Entry). Stands caller script xs (after_all (after l f) fs)) (append_assoc es (f ∷ []) fs)
    (stands_all caller script (es ++ f ∷ []) fs (after l f) (All-tail (λ (e : Entry). e.caller ≡ caller) f fs mine) next.1
    (stands_more caller script es l f (All-head (λ (e : Entry). e.caller ≡ caller) f fs mine) next.0 h))

-- where nothing is left, all commands are finished
pub stands_finished : (caller : ℕ) (script : List Command) (es : List Entry) (l : Left) → l.rest ≡ [] → Stands caller script es l → AreFinished caller script es
stands_finished caller script es l none h = by l.rest l.tries l.looked h none
  where
    by : (rest : List Command) (tries : ℕ) (looked : Option ℕ) → Stands caller script es (left_at rest tries looked) → rest ≡ [] → AreFinished caller script es
    by [] tries looked g none =
        subst (λ (xs : List Entry). AreFinished caller script xs) (sym (g.entries ∙ (ap (λ l. g.front ++ l) g.begun.tried_is ∙ append-nil g.front)))
        (subst (λ (cs : List Command). AreFinished caller cs g.front) (sym (g.script_is ∙ append-nil g.done)) g.finished)
    by (c ∷ cs) tries looked g none = absurd cc
