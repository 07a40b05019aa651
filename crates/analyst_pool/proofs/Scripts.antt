-- How a script is carried out, one command after another.
use Rattle.std.proofs.Common.{◌≡◌, ◌≢◌, ◌<◌, ◌≤◌, ◌+◌, ◌++◌, ◌∷◌, [], List, ℕ, Some, length, get_or, take, false, ap, sym, refl, subst, ◌∙◌, arith}
use Rattle.std.specs.Prelude.{slice_get}
use Rattle.std.proofs.lemmas.List.{take_all, take_more}
use Rattle.std.proofs.lemmas.Option.{slice_get-get_or}
use Rattle.office_words.specs.declared.entry.Command.{Command}
use Rattle.office_words.specs.declared.entry.Entry.{Entry}
use Rattle.office_words.specs.declared.entry.Reply.{Reply}
use Rattle.office_words.specs.declared.entry.Reply.TheVariants as reply
use Rattle.office_core.specs.Calls.{Calling}
use Rattle.office_core.specs.Replies.{is_full}
use Rattle.analyst_pool.specs.Leaves.{CarriedOut, Grew}
use Rattle.analyst_pool.specs.Unfolds.{AreFinished, IsFinished, Unfolds, WentTo}
use Rattle.analyst_pool.proofs.Growing.{caller_of, grew_join, grew_nothing}
use Rattle.analyst_pool.proofs.Runs.{finished_by, finished_more}

module _ {P : Type 0} where
  -- so many commands of a script were finished
  pub record Through (count : ℕ) (script : List Command) (v w : Calling P) : Type 0 where
    pub entries : List Entry
    pub grew : Grew v entries w
    pub finished : AreFinished v.who.caller (take count script) entries

  pub through_none : (script : List Command) (v : Calling P) → Through 0 script v v
  through_none script v = record { entries = []; grew = grew_nothing v; finished = refl }

  pub through_more : (script : List Command) (i : ℕ) (c : Command) (r : Reply) (u v w : Calling P) → i < length script → c ≡ get_or script i c → Through i script u v → CarriedOut v c r w → is_full r ≡ false → r ≢ reply.NoMemory → Through (i + 1) script u w
  through_more script i c r u v w inside here h one room memory = record {
    entries = h.entries ++ one.entries;
    grew = grew_join u v w h.entries one.entries h.grew one.grew;
    finished =
        let command = subst (λ k. IsFinished k c one.entries) (caller_of u v h.grew.who) (finished_by v w c r one room memory) in
        subst (λ cs. AreFinished u.who.caller cs (h.entries ++ one.entries))
        (sym (take_more script i c inside ∙ ap (λ (d : Command). take i script ++ d ∷ []) (sym here)))
        (finished_more u.who.caller (take i script) c h.entries one.entries h.finished command);
  }

  -- all commands of a script were finished
  pub through_all : (count : ℕ) (script : List Command) (v w : Calling P) → length script ≤ count → (h : Through count script v w) → AreFinished v.who.caller script h.entries
  through_all count script v w all h = subst (λ cs. AreFinished v.who.caller cs h.entries) (take_all count script all) h.finished

  -- a script went no further than a command
  pub grew_to : (script : List Command) (i : ℕ) (c : Command) (r : Reply) (u v w : Calling P) (h : Through i script u v) (one : CarriedOut v c r w) → Grew u (h.entries ++ one.entries) w
  grew_to script i c r u v w h one = grew_join u v w h.entries one.entries h.grew one.grew

  pub went_to : (script : List Command) (k i : ℕ) (c : Command) (q r : Reply) (u v w : Calling P) → k ≡ i → i < length script → c ≡ get_or script i c → r ≡ q → (h : Through i script u v) (one : CarriedOut v c r w) → WentTo u.who.caller script k (λ d es. Unfolds u.who.caller d es q) (h.entries ++ one.entries)
  went_to script k i c q r u v w same inside here is h one = record {
    command = c;
    inside = omega (arith, same, inside);
    here = ap (slice_get script) same ∙ (slice_get-get_or script i c inside ∙ ap Some (sym here));
    front = h.entries;
    last = one.entries;
    finished = subst (λ n. AreFinished u.who.caller (take n script) h.entries) (sym same) h.finished;
    such = subst (λ n. Unfolds n c one.entries q) (caller_of u v h.grew.who) (subst (λ p. Unfolds v.who.caller c one.entries p) is one.unfolds);
    whole = refl;
  }
