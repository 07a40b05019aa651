-- A step of an office is what a call of one seat leaves.
use Rattle.std.proofs.Common.{◌≡◌, ◌∷◌, ◌++◌, [], List, ℕ, ◌⊎◌, inl, inr, cond, true, false, eqb, length, Some, None, nat_le, if◌then◌else◌, arith, refl, ap, sym, ◌∙◌, eq-eqb}
use Rattle.std.specs.Borrow.{GName}
use Rattle.std.proofs.lemmas.Bool.{cases_lt}
use Rattle.std.proofs.lemmas.Bool.Decides.{nat_tests}
use Rattle.std.proofs.lemmas.List.{append-nil}
use Rattle.std.proofs.lemmas.List.Elements.{filter-append}
use Rattle.office_words.specs.declared.entry.Call.{Call}
use Rattle.office_words.specs.declared.entry.Entry.{Entry}
use Rattle.office_words.specs.declared.entry.Reply.{Reply}
use Rattle.office_words.specs.declared.entry.Reply.TheVariants as reply
use Rattle.office_core.specs.Replies.{is_full}
use Rattle.office_core.specs.Machine.{IsLegal, entries_by}
use Rattle.office_core.specs.Offices.{HasPlace, IsFull, Opened, entry, grown}
use Rattle.office_core.specs.Calls.{Added, Answered, Calling, AddedNone, full_in, one_seat}

entries_by-push : (es : List Entry) (e : Entry) → entries_by e.caller (es ++ e ∷ []) ≡ entries_by e.caller es ++ e ∷ []
entries_by-push es e = filter-append (λ x. eqb x.caller e.caller) es (e ∷ []) ∙ ap (λ b. entries_by e.caller es ++ cond b (e ∷ []) []) (eq-eqb e.caller e.caller refl)

full_of : (o : Opened) → IsFull o → full_in o ≡ Some o.most
full_of o full = let e : nat_le o.most (length o.history) ≡ true = grind (arith, nat_tests, full) in ap (λ b. if b then Some o.most else None) e

place_of : (o : Opened) (most : ℕ) → HasPlace o → full_in o ≡ Some most → ⊥
place_of o most place full = let e : nat_le o.most (length o.history) ≡ false = grind (arith, nat_tests, place) in absurd (grind (arith, ap (λ b. if b then Some o.most else None) e, full))

abbrev entries_in : Reply → ℕ
entries_in (reply.Full most) = most
entries_in _ = 0

module _ {P : Type 0} (reference : GName) (caller : ℕ) (o next : Opened) (c : Call) (r : Reply) where
  added : HasPlace o → next ≡ grown o (entry caller c r) → IsLegal next.base next.opening next.history → Added {P = P} (one_seat reference caller o) (entry caller c r) (one_seat reference caller next)
  added place longer legal = record {
    own = ap (λ (n : Opened). entries_by caller n.history) longer ∙ entries_by-push o.history (entry caller c r);
    sees = record {
      between = [];
      seen = ap (λ (n : Opened). n.history) longer ∙ ap (λ l. l ++ entry caller c r ∷ []) (sym (append-nil o.history));
      alone = λ _. refl;
    };
    legal = legal;
    whole = refl;
    full = λ most full. absurd (place_of o most place full);
  }

  stopped : IsFull o → next ≡ o → (most : ℕ) → o.most ≡ most → AddedNone {P = P} (one_seat reference caller o) most (one_seat reference caller next)
  stopped full same most is = record {
    seen = ap (λ (n : Opened). n.history) same;
    own = ap (λ (n : Opened). entries_by caller n.history) same;
    full = ap full_in same ∙ (full_of o full ∙ ap Some is);
  }

  same_who : next.base ≡ o.base → next.opening ≡ o.opening → next.most ≡ o.most → (let w : Calling P = one_seat reference caller next in w.who) ≡ (let v : Calling P = one_seat reference caller o in v.who)
  same_who base day most = λ i. let w : Calling P = one_seat reference caller (record { base = base i; opening = day i; most = most i; history = [] }) in w.who

  -- by the clauses of a step
  pub seated : (IsFull o → r ≡ reply.Full o.most) → (IsFull o → next ≡ o) → (HasPlace o → is_full r ≡ false) → (HasPlace o → next ≡ grown o (entry caller c r)) → IsLegal next.base next.opening next.history
      → Answered {P = P} (one_seat reference caller o) c r (one_seat reference caller next)
  seated full unchanged not_full longer legal = by (cases_lt (length o.history) o.most)
    where
      by : HasPlace o ⊎ IsFull o → Answered {P = P} (one_seat reference caller o) c r (one_seat reference caller next)
      by (inl place) = let e = longer place in record {
        who = same_who (ap (λ (n : Opened). n.base) e) (ap (λ (n : Opened). n.opening) e) (ap (λ (n : Opened). n.most) e);
        full = λ most is. absurd (grind (arith, ap is_full is, not_full place));
        entry = λ _. added place e legal;
      }
      by (inr all) = let e = unchanged all in record {
        who = same_who (ap (λ (n : Opened). n.base) e) (ap (λ (n : Opened). n.opening) e) (ap (λ (n : Opened). n.most) e);
        full = λ most is. stopped all e most (ap entries_in (sym (full all) ∙ is));
        entry = λ is. absurd (grind (arith, ap is_full (full all), is));
      }
