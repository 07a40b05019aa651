-- An office whose actors have run: what its history is, and that it is not full.
use Rattle.std.proofs.Common.{◌≡◌, ◌≢◌, ◌*◌, ◌<◌, ◌≤◌, ℕ, zero, suc, Bool, true, false, List, Vec, Option, Some, None, All, length, get_or, refl, ap, sym, ◌∙◌, subst, arith}
use Rattle.std.specs.Prelude.{if◌then◌else◌}
use Rattle.std.specs.Global.{Global}
use Rattle.std.proofs.lemmas.List.{length-append, length-take}
use Rattle.std.proofs.lemmas.List.Elements.{All-contains}
use Rattle.day_text.specs.Days.{DayParts}
use Rattle.day_text.specs.Scripts.{AreScripts, script_of}
use Rattle.day_text.proofs.Counts.{below, below-lt, count_all}
use Rattle.office_words.specs.declared.entry.Command.{Command}
use Rattle.office_words.specs.declared.entry.Entry.{Entry}
use Rattle.office_words.specs.declared.entry.Reply.TheVariants as reply
use Rattle.office_core.specs.Machine.{IsLegal, entries_by}
use Rattle.office_core.specs.Promises.{KeepsPromises}
use Rattle.trip_analysis.specs.Bases.{BaseLists}
use Rattle.office_turn.specs.Told.{Lock}
use Rattle.office_turn.specs.declared.view.Receipt.{Receipt}
use Rattle.office_desk.specs.Desks.{Terms}
use Rattle.analyst_pool.specs.Ran.{AddsEntries}
use Rattle.analyst_pool.specs.Unfolds.{AreFinished}
use Rattle.analyst_pool.specs.declared.worker.Outcome.{Outcome}
use Rattle.analyst_pool.specs.declared.worker.Outcome.TheVariants as outcome
use Rattle.analyst_pool.proofs.Lengths.{short, shorter}
use Rattle.analyst_pool.proofs.Memory.{finished_found}
use Rattle.analyst_pool.proofs.Runs.{finished_short}
use Rattle.day_run.specs.Served.{IsServed}
use Rattle.day_run.proofs.Callers.{all_by}
use Rattle.day_run.specs.Workers.{HasRun, IsFullOutcome, full_by}
use Rattle.day_run.proofs.Lists.{item}

-- whatever the outcome, a script adds at most 17 entries a command
adds_few : (caller : ℕ) (script : List Command) (o : Outcome) (es : List Entry) (full : Option ℕ) → AddsEntries caller script o es full → length es ≤ 17 * length script
adds_few caller script outcome.Waiting es full none = omega (arith, ap length none)
adds_few caller script outcome.Done es full finished = finished_short caller script es finished
adds_few caller script (outcome.NoMemory k) es full went =
    omega (arith, went.inside, ap length went.whole, length-append went.front went.last, length-take k script, finished_short caller _ went.front went.finished, short caller went.command went.last _ went.such)
adds_few caller script (outcome.Full k most) es full (went, is) =
    omega (arith, went.inside, ap length went.whole, length-append went.front went.last, length-take k script, finished_short caller _ went.front went.finished, shorter caller went.command went.last most went.such)

-- and fewer where the history was full
adds_fewer : (caller : ℕ) (script : List Command) (o : Outcome) (es : List Entry) (full : Option ℕ) → IsFullOutcome o → AddsEntries caller script o es full → length es < 17 * length script
adds_fewer caller script outcome.Waiting es full (k, most, is) adds = absurd cc
adds_fewer caller script outcome.Done es full (k, most, is) adds = absurd cc
adds_fewer caller script (outcome.NoMemory k') es full (k, most, is) adds = absurd cc
adds_fewer caller script (outcome.Full k most) es full found (went, is) =
    omega (arith, went.inside, ap length went.whole, length-append went.front went.last, length-take k script, finished_short caller _ went.front went.finished, shorter caller went.command went.last most went.such)

-- a receipt of such an actor is marked
marked : (lock : Lock Terms) (r : Receipt Entry) (caller : ℕ) (script : List Command) (o : Outcome) (es : List Entry) → IsFullOutcome o → AddsEntries caller script o es (full_by lock r) → r.worn ≡ true
marked lock r caller script outcome.Waiting es (k, most, is) adds = absurd cc
marked lock r caller script outcome.Done es (k, most, is) adds = absurd cc
marked lock r caller script (outcome.NoMemory k') es (k, most, is) adds = absurd cc
marked lock r caller script (outcome.Full k most) es found (went, is) = by r.worn is
  where
    by : (b : Bool) → (if b then Some lock.most else None) ≡ Some most → b ≡ true
    by true e = refl
    by false e = absurd (cc e)

below-times : (k : ℕ) (f : ℕ → ℕ) (n : ℕ) → below (λ i. k * f i) n ≡ k * below f n
below-times k f zero = omega arith
below-times k f (suc n) = let front = below-times k f n in grind (arith, front)

module _ (file : DayParts) (lock : Lock Terms) (receipts : List (Receipt Entry)) (scripts : List (Vec Command Global)) (history : List Entry)
    (count : length scripts ≡ length file.actors) (are : AreScripts scripts file.commands)
    (own : All (λ r. entries_by r.number history ≡ r.own) receipts) where
  -- the entries of an actor are what its worker's outcome says of its script
  adds_at : (i : ℕ) (s : Vec Command Global) (o : Outcome) → i < length scripts → (h : HasRun lock receipts i (get_or scripts i s).items o)
      → AddsEntries i (script_of i file.commands) o (entries_by i history) (full_by lock h.receipt)
  adds_at i s o near h =
      let mine : entries_by i history ≡ h.receipt.own = ap (λ (n : ℕ). entries_by n history) (sym h.number) ∙ All-contains (λ r. entries_by r.number history ≡ r.own) receipts h.receipt own h.there in
      subst (λ (y : List Command × List Entry). AddsEntries i y.0 o y.1 (full_by lock h.receipt)) (λ k. (are i s near k, sym mine k)) h.adds

  -- where all are done the entries of each actor are those of its finished commands
  pub all_finished : ((i : ℕ) (s : Vec Command Global) → i < length scripts → HasRun lock receipts i (get_or scripts i s).items outcome.Done)
      → (actor : ℕ) → actor < length file.actors → AreFinished actor (script_of actor file.commands) (entries_by actor history)
  all_finished done actor near = let inside : actor < length scripts = omega (arith, near, count) in let s = item scripts actor inside in
      adds_at actor s outcome.Done inside (done actor s inside)

  -- where one found the history full, there are fewer entries than 17 for each command, and as many as there may be
  pub never_full : ((i : ℕ) (s : Vec Command Global) → i < length scripts → (o : Outcome) × HasRun lock receipts i (get_or scripts i s).items o)
      → ((i : ℕ) × (s : Vec Command Global) × (i < length scripts) × (o : Outcome) × IsFullOutcome o × HasRun lock receipts i (get_or scripts i s).items o)
      → All (λ e. e.caller < length file.actors) history → All (λ r. r.worn ≡ true → length history ≡ lock.most) receipts
      → below (λ i. length (script_of i file.commands)) (length file.actors) ≡ length file.commands → 17 * length file.commands ≤ lock.most → ⊥
  never_full each (j, s, inside, o, found, h) callers worn together enough =
      let n = length file.actors in
      let adds = adds_at j s o inside h in
      let all : length history ≡ lock.most = All-contains (λ r. r.worn ≡ true → length history ≡ lock.most) receipts h.receipt worn h.there (marked lock h.receipt j _ o _ found adds) in
      let fewer : below (λ i. length (entries_by i history)) n < below (λ i. 17 * length (script_of i file.commands)) n =
      below-lt (λ i. length (entries_by i history)) (λ i. 17 * length (script_of i file.commands)) n j
      (λ i near. let in_i : i < length scripts = omega (arith, near, count) in let d = item scripts i in_i in let one = each i d in_i in
      adds_few i _ one.0 _ _ (adds_at i d one.0 in_i one.1))
      (omega (arith, inside, count)) (adds_fewer j _ o _ _ found adds) in
      let sum = count_all (λ (e : Entry). e.caller) n history callers in
      let times = below-times 17 (λ i. length (script_of i file.commands)) n in
      omega (arith, all, fewer, sum, times, together, enough)

  -- so the history serves the file
  pub all_served : (day : List ℕ) (base : BaseLists) → base ≡ file.base → day ≡ file.day → IsLegal base day history → KeepsPromises base day history
      → ((i : ℕ) (s : Vec Command Global) → i < length scripts → HasRun lock receipts i (get_or scripts i s).items outcome.Done)
      → All (λ e. e.caller < length file.actors) history → IsServed file history
  all_served day base is opens legal promises done callers = record {
    legal = subst (λ (y : BaseLists × List ℕ). IsLegal y.0 y.1 history) (λ k. (is k, opens k)) legal;
    promises = subst (λ (y : BaseLists × List ℕ). KeepsPromises y.0 y.1 history) (λ k. (is k, opens k)) promises;
    commands = all_finished done;
    callers = callers;
    memory = all_by (λ e. e.reply ≢ reply.NoMemory) (length file.actors) history callers
        (λ i near. finished_found i (script_of i file.commands) (entries_by i history) (all_finished done i near));
  }
