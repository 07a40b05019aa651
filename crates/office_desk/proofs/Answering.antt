-- A turn with one step answers its call.
use Rattle.std.proofs.Common.{◌≡◌, ◌++◌, ◌∷◌, [], ℕ, List, Some, false, refl, ap, sym, subst, ◌∙◌}
use Rattle.office_core.specs.declared.calls.Looked.{Looked}
use Rattle.office_core.specs.declared.calls.Looked.TheVariants as looked
use Rattle.office_words.specs.declared.entry.Call.{Call}
use Rattle.office_words.specs.declared.entry.Call.TheVariants as call
use Rattle.office_words.specs.declared.entry.Entry.{Entry}
use Rattle.office_words.specs.declared.entry.Reply.{Reply}
use Rattle.office_words.specs.declared.entry.Reply.TheVariants as reply
use Rattle.office_core.specs.Calls.{Added, Answered, Looks, stored_seen}
use Rattle.office_core.specs.Machine.{IsLegal, entries_by, machine_of, stored_of, version_of}
use Rattle.office_core.specs.Offices.{Opened, entry, grown, machine_in, stored_in_office}
use Rattle.office_core.specs.Replies.{is_full}
use Rattle.snapshot_store.specs.Stores.{store_version_of as postings_of}
use Rattle.office_turn.specs.Story.{StartsWith, entries_of}
use Rattle.office_turn.specs.Told.{Passing, after_hold, after_pass_on}
use Rattle.office_desk.specs.Desks.{HandsOut, Terms, calls_with_pass, terms_in, terms_of}
use Rattle.office_desk.proofs.Turns.{terms_found}

-- A pass that holds a turn, in which one entry is added to the office found there, and that passes the turn on.
pub record IsTurn (old held new : Passing Entry Terms) (found after : Opened) (e : Entry) : Type 0 where
  pub holds : held ≡ after_hold old found.history
  pub extends : StartsWith found.history old.seen
  pub terms : Some (terms_of found) ≡ old.lock.terms
  pub by : e.caller ≡ old.number
  pub grows : after ≡ grown found e
  pub legal : IsLegal after.base after.opening after.history
  pub passes : new ≡ after_pass_on held after.history
  pub own : (x : Entry) → after.history ≡ held.seen ++ x ∷ [] → new.own ≡ held.own ++ x ∷ []
  pub whole : entries_of (λ (x : Entry). x.caller) new.number new.seen ≡ new.own

module _ (old held new : Passing Entry Terms) (found after : Opened) (e : Entry) (t : IsTurn old held new found after e) where
  abbrev pub left : Passing Entry Terms
  left = after_pass_on (after_hold old found.history) after.history

  left_is : new ≡ left
  left_is = t.passes ∙ ap (λ (p : Passing Entry Terms). after_pass_on p after.history) t.holds

  history_is : after.history ≡ found.history ++ e ∷ []
  history_is = ap (λ (o : Opened). o.history) t.grows

  own_is : left.own ≡ old.own ++ e ∷ []
  own_is = sym (ap (λ (p : Passing Entry Terms). p.own) left_is)
      ∙ (t.own e (history_is ∙ ap (λ (es : List Entry). es ++ e ∷ []) (sym (ap (λ (p : Passing Entry Terms). p.seen) t.holds)))
      ∙ ap (λ (p : Passing Entry Terms). p.own ++ e ∷ []) t.holds)

  whole_is : left.own ≡ entries_by left.number left.seen
  whole_is = sym (ap (λ (p : Passing Entry Terms). p.own) left_is) ∙ (sym t.whole ∙ ap (λ (p : Passing Entry Terms). entries_by p.number p.seen) left_is)

  after_terms : terms_of after ≡ terms_in old.lock
  after_terms = ap (λ (o : Opened). terms_of o) t.grows ∙ terms_found old.lock found t.terms

  legal_there : IsLegal (terms_in old.lock).0 (terms_in old.lock).1 after.history
  legal_there = subst (λ (x : Terms). IsLegal x.0 x.1 after.history) after_terms t.legal

  added : Added (calls_with_pass old) e (calls_with_pass left)
  added = record {
    own = own_is;
    sees = record {
      between = t.extends.0;
      seen = history_is ∙ ap (λ (es : List Entry). es ++ e ∷ []) t.extends.1;
      alone = λ none. cc;
    };
    legal = legal_there;
    whole = whole_is;
    full = λ most is. is;
  }

-- the call is answered by that entry's reply
pub answered : (old held new : Passing Entry Terms) (found after : Opened) (number : ℕ) (c : Call) (r : Reply)
    → number ≡ old.number → is_full r ≡ false → IsTurn old held new found after (entry number c r) → Answered (calls_with_pass old) c r (calls_with_pass new)
answered old held new found after number c r is not_full t =
    subst (λ (p : Passing Entry Terms). Answered (calls_with_pass old) c r (calls_with_pass p)) (sym (left_is old held new found after (entry number c r) t))
    (record {
      who = refl;
      full = λ most full. cc (ap is_full full, not_full);
      entry = λ room. subst (λ (n : ℕ). Added (calls_with_pass old) (entry n c r) (calls_with_pass (after_pass_on (after_hold old found.history) after.history))) is
          (added old held new found after (entry number c r) t);
    })

-- a look is answered by what is then posted
pub looks : (old held new : Passing Entry Terms) (found after : Opened) (number : ℕ) (l : Looked)
    → number ≡ old.number → HandsOut l after
    → IsTurn old held new found after (entry number call.Snapshot (reply.SnapshotAt (version_of (machine_in after)))) → Looks (calls_with_pass old) l (calls_with_pass new)
looks old held new found after number l is out t = by l out
  where
    turned : Entry
    turned = entry number call.Snapshot (reply.SnapshotAt (version_of (machine_in after)))

    stored_is : stored_in_office after ≡ stored_seen (calls_with_pass new)
    stored_is = ap (λ (x : Terms). stored_of x.0 (machine_of x.0 x.1 after.history)) (after_terms old held new found after turned t)
        ∙ ap (λ (p : Passing Entry Terms). stored_seen (calls_with_pass p)) (sym (left_is old held new found after turned t))

    done : Answered (calls_with_pass old) call.Snapshot (reply.SnapshotAt (version_of (machine_in after))) (calls_with_pass new)
    done = answered old held new found after number call.Snapshot (reply.SnapshotAt (version_of (machine_in after))) is refl t

    by : (l : Looked) → HandsOut l after → Looks (calls_with_pass old) l (calls_with_pass new)
    by (looked.At s) out = (
      subst (λ (v : ℕ). Answered (calls_with_pass old) call.Snapshot (reply.SnapshotAt v) (calls_with_pass new)) (sym (ap postings_of out)) done,
      out ∙ stored_is,
    )
    by looked.NoMemory out = (version_of (machine_in after), done)
    by (looked.Full most) out = absurd out
