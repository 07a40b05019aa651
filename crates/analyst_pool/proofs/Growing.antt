-- Entries that are added to a caller's own, one after another.
use Rattle.std.proofs.Common.{◌≡◌, ◌∷◌, ◌++◌, [], List, ℕ, Bool, true, false, ap, sym, refl, ◌∙◌, append_assoc, arith}
use Rattle.std.proofs.lemmas.List.{append-nil}
use Rattle.office_words.specs.declared.entry.Call.{Call}
use Rattle.office_words.specs.declared.entry.Entry.{Entry}
use Rattle.office_words.specs.declared.entry.Reply.{Reply}
use Rattle.office_core.specs.Calls.{Answered, Calling, Sees, AddedNone, Who}
use Rattle.office_core.specs.Offices.{entry}
use Rattle.office_core.specs.Replies.{is_full}
use Rattle.office_core.proofs.Callings.{full_is}
use Rattle.analyst_pool.specs.Leaves.{Grew, SeesOn}
use Rattle.analyst_pool.specs.Unfolds.{IsCalled}

-- a test is passed or not
pub by_test : {A : Type 0} (b : Bool) → (b ≡ true → A) → (b ≡ false → A) → A
by_test true f g = f refl
by_test false f g = g refl

module _ {P : Type 0} where
  -- the same caller
  pub caller_of : (v w : Calling P) → w.who ≡ v.who → w.who.caller ≡ v.who.caller
  caller_of v w same = ap (λ (t : Who P). t.caller) same

  pub grew_none : (v w : Calling P) (most : ℕ) → w.who ≡ v.who → AddedNone v most w → Grew v [] w
  grew_none v w most same s = record {
    who = same;
    own = s.own ∙ sym (append-nil v.own);
    sees = record { more = []; seen = s.seen ∙ sym (append-nil v.seen); alone = λ _. refl };
  }

  sees_one : (v w : Calling P) (e : Entry) → Sees v e w → SeesOn v (e ∷ []) w
  sees_one v w e s = record {
    more = s.between ++ e ∷ [];
    seen = s.seen ∙ append_assoc v.seen s.between (e ∷ []);
    alone = λ none. ap (λ l. l ++ e ∷ []) (s.alone none);
  }

  pub grew_one : (v w : Calling P) (c : Call) (r : Reply) → is_full r ≡ false → Answered v c r w → Grew v (entry v.who.caller c r ∷ []) w
  grew_one v w c r room s = record {
    who = s.who;
    own = (s.entry room).own;
    sees = sees_one v w (entry v.who.caller c r) (s.entry room).sees;
  }

  sees_join : (u v w : Calling P) (es fs : List Entry) → v.who ≡ u.who → SeesOn u es v → SeesOn v fs w → SeesOn u (es ++ fs) w
  sees_join u v w es fs same g h = record {
    more = g.more ++ h.more;
    seen = h.seen ∙ (ap (λ l. l ++ h.more) g.seen ∙ append_assoc u.seen g.more h.more);
    alone = λ none. ap (λ l. l ++ h.more) (g.alone none) ∙ ap (λ l. es ++ l) (h.alone (ap (λ (t : Who P). t.place) same ∙ none));
  }

  pub grew_join : (u v w : Calling P) (es fs : List Entry) → Grew u es v → Grew v fs w → Grew u (es ++ fs) w
  grew_join u v w es fs g h = record {
    who = h.who ∙ g.who;
    own = h.own ∙ (ap (λ l. l ++ fs) g.own ∙ append_assoc u.own es fs);
    sees = sees_join u v w es fs g.who g.sees h.sees;
  }

  pub grew_nothing : (v : Calling P) → Grew v [] v
  grew_nothing v = record {
    who = refl;
    own = sym (append-nil v.own);
    sees = record { more = []; seen = sym (append-nil v.seen); alone = λ _. refl };
  }

  -- what one call leaves
  pub record Called (v : Calling P) (c : Call) (r : Reply) (w : Calling P) : Type 0 where
    pub entries : List Entry
    pub grew : Grew v entries w
    pub called : IsCalled v.who.caller c r entries

  pub called_by : (v w : Calling P) (c : Call) (r : Reply) → Answered v c r w → Called v c r w
  called_by v w c r s = by_test (is_full r)
      (λ all. let f = full_is r all in record {
        entries = [];
        grew = grew_none v w f.0 s.who (s.full f.0 f.1);
        called = record { answered = λ room. absurd (grind (arith, all, room)); full = λ _. refl };
      })
      (λ room. record {
        entries = entry v.who.caller c r ∷ [];
        grew = grew_one v w c r room s;
        called = record { answered = λ _. refl; full = λ all. absurd (grind (arith, all, room)) };
      })
