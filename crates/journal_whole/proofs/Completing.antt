-- A caller whose entries came next can finish all that is left.
use Rattle.std.proofs.Common.{◌≡◌, ◌≢◌, ◌<◌, ◌≤◌, ◌++◌, ◌∷◌, [], List, ℕ, Option, Some, None, All, sym, subst, refl, append_assoc, append-nil, arith, inl, inr, ◌⊎◌}
use Rattle.std.proofs.lemmas.Bool.{cases_lt}
use Rattle.std.proofs.lemmas.List.Elements.{All-cons, All-nil}
use Rattle.trip_analysis.specs.declared.application.Application.{Application}
use Rattle.trip_analysis.specs.declared.finding.What.TheVariants as what
use Rattle.office_words.specs.declared.entry.Call.{Call}
use Rattle.office_words.specs.declared.entry.Call.TheVariants as call
use Rattle.office_words.specs.declared.entry.Command.{Command}
use Rattle.office_words.specs.declared.entry.Command.TheVariants as command
use Rattle.office_words.specs.declared.entry.Entry.{Entry}
use Rattle.office_words.specs.declared.entry.Reply.{Reply}
use Rattle.office_words.specs.declared.entry.Reply.TheVariants as reply
use Rattle.office_core.specs.Offices.{entry}
use Rattle.analyst_pool.specs.Unfolds.{AreFinished, looked_at, submitted}
use Rattle.journal_whole.specs.Leaving.{IsNext, IsTold, Left, after, fresh}
use Rattle.journal_whole.proofs.Standing.{Stands, stands_finished, stands_more}

-- entries of the caller that finish the script
pub record Completes (caller : ℕ) (script : List Command) (es : List Entry) : Type 0 where
  pub more : List Entry
  pub finished : AreFinished caller script (es ++ more)
  pub mine : All (λ e. e.caller ≡ caller) more
  pub memory : All (λ e. e.reply ≢ reply.NoMemory) more

free_told : IsTold reply.NotNeeded
free_told = record { room = refl; memory = λ lack. absurd cc }

module _ (caller : ℕ) (script : List Command) where
  -- behind one entry more
  completes_one : (es : List Entry) (e : Entry) → e.caller ≡ caller → e.reply ≢ reply.NoMemory → Completes caller script (es ++ e ∷ []) → Completes caller script es
  completes_one es e mine memory h = record {
    more = e ∷ h.more;
    finished = subst (AreFinished caller script) (append_assoc es (e ∷ []) h.more) h.finished;
    mine = All-cons (λ (d : Entry). d.caller ≡ caller) e h.more mine h.mine;
    memory = All-cons (λ (d : Entry). d.reply ≢ reply.NoMemory) e h.more memory h.memory;
  }

  -- by an entry that comes next
  completes_next : (es : List Entry) (l : Left) (c : Call) (r : Reply) → r ≢ reply.NoMemory → IsNext l (entry caller c r)
      → (Stands caller script (es ++ entry caller c r ∷ []) (after l (entry caller c r)) → Completes caller script (es ++ entry caller c r ∷ []))
      → Stands caller script es l → Completes caller script es
  completes_next es l c r memory next go h = completes_one es (entry caller c r) refl memory (go (stands_more caller script es l (entry caller c r) refl next h))

  abbrev left_at : List Command → ℕ → Option ℕ → Left
  left_at rest tries looked = record { rest = rest; tries = tries; looked = looked }

  -- with an application, of which an attempt has begun
  completes_submit : (a : Application) (cs : List Command) (tries version : ℕ) → ((es : List Entry) → Stands caller script es (fresh cs) → Completes caller script es) → tries < 8
      → (es : List Entry) → Stands caller script es (left_at (command.Apply a ∷ cs) tries (Some version)) → Completes caller script es
  completes_submit a cs tries version go few es h =
      completes_next es (left_at (command.Apply a ∷ cs) tries (Some version)) (call.Submit a (record { seen = version; what = what.NotNeeded })) reply.NotNeeded (λ lack. absurd cc)
      (record { goes_on = λ _. ((refl, refl), free_told); last = λ all. absurd (omega (arith, all, few)) })
      (go (es ++ submitted caller a version what.NotNeeded reply.NotNeeded ∷ [])) h

  -- or none has
  completes_attempt : (a : Application) (cs : List Command) (tries : ℕ) → ((es : List Entry) → Stands caller script es (fresh cs) → Completes caller script es) → (tries < 8) ⊎ (8 ≤ tries)
      → (looked : Option ℕ) (es : List Entry) → Stands caller script es (left_at (command.Apply a ∷ cs) tries looked) → Completes caller script es
  completes_attempt a cs tries go (inl few) (Some version) es h = completes_submit a cs tries version go few es h
  completes_attempt a cs tries go (inl few) None es h =
      completes_next es (left_at (command.Apply a ∷ cs) tries None) call.Snapshot (reply.SnapshotAt 0) (λ lack. absurd cc)
      (record { goes_on = λ _. (0, refl); last = λ all. absurd (omega (arith, all, few)) })
      (completes_submit a cs tries 0 go few (es ++ looked_at caller 0 ∷ [])) h
  completes_attempt a cs tries go (inr all) looked es h =
      completes_next es (left_at (command.Apply a ∷ cs) tries looked) (call.Held a) reply.NotNeeded (λ lack. absurd cc)
      (record { goes_on = λ few. absurd (omega (arith, all, few)); last = λ _. record { held = refl; told = free_told; settled = refl } })
      (go (es ++ entry caller (call.Held a) reply.NotNeeded ∷ [])) h

  completes_from : (rest : List Command) (tries : ℕ) (looked : Option ℕ) (es : List Entry) → Stands caller script es (left_at rest tries looked) → Completes caller script es
  completes_from [] tries looked es h = record {
    more = [];
    finished = subst (AreFinished caller script) (sym (append-nil es)) (stands_finished caller script es (left_at [] tries looked) refl h);
    mine = All-nil (λ (e : Entry). e.caller ≡ caller);
    memory = All-nil (λ (e : Entry). e.reply ≢ reply.NoMemory);
  }
  completes_from (command.Apply a ∷ cs) tries looked es h = completes_attempt a cs tries (completes_from cs 0 None) (cases_lt tries 8) looked es h
  completes_from (command.Post change ∷ cs) tries looked es h =
      completes_next es (left_at (command.Post change ∷ cs) tries looked) (call.Post change) reply.NotNeeded (λ lack. absurd cc) (refl, free_told) (completes_from cs 0 None (es ++ entry caller (call.Post change) reply.NotNeeded ∷ [])) h
  completes_from (command.Day day ∷ cs) tries looked es h =
      completes_next es (left_at (command.Day day ∷ cs) tries looked) (call.Day day) reply.NotNeeded (λ lack. absurd cc) (refl, free_told) (completes_from cs 0 None (es ++ entry caller (call.Day day) reply.NotNeeded ∷ [])) h
  completes_from (command.Surrender number ∷ cs) tries looked es h =
      completes_next es (left_at (command.Surrender number ∷ cs) tries looked) (call.Surrender number) reply.NotNeeded (λ lack. absurd cc) (refl, free_told) (completes_from cs 0 None (es ++ entry caller (call.Surrender number) reply.NotNeeded ∷ [])) h
  completes_from (command.Show number ∷ cs) tries looked es h =
      completes_next es (left_at (command.Show number ∷ cs) tries looked) (call.Show number) reply.NotNeeded (λ lack. absurd cc) (refl, free_told) (completes_from cs 0 None (es ++ entry caller (call.Show number) reply.NotNeeded ∷ [])) h

  pub completes : (es : List Entry) (l : Left) → Stands caller script es l → Completes caller script es
  completes es l h = completes_from l.rest l.tries l.looked es h
