-- A whole history that an office can have serves its day, and one that serves a day can be had by an office.
use Rattle.std.proofs.Common.{◌≡◌, ◌*◌, ◌≤◌, ℕ, zero, suc, List, Ok, length, arith}
use Rattle.std.proofs.lemmas.List.{length-map}
use Rattle.office_words.specs.declared.entry.Entry.{Entry}
use Rattle.office_core.specs.Machine.{IsLegal, entries_by}
use Rattle.office_core.proofs.Promises.{keep_promises}
use Rattle.analyst_pool.proofs.Runs.{finished_short}
use Rattle.day_text.specs.Days.{DayParts, day_of}
use Rattle.day_text.specs.Scripts.{script_of}
use Rattle.day_text.specs.declared.orders.Order.{Order}
use Rattle.day_text.proofs.Counts.{below, below-le, below-same, count_all, having}
use Rattle.day_text.proofs.EveryDay.{day_bounded, day_keeps}
use Rattle.day_run.specs.Served.{IsServed}
use Rattle.journal_whole.specs.Wholes.{IsWhole}
use Rattle.clerk_program.specs.WholeJournals.{IsOfficeHistory}

module _ (bytes : List ℕ) (file : DayParts) (read : day_of bytes ≡ Ok file) (es : List Entry) where
  pub serves : IsLegal file.base file.day es → IsWhole (length file.actors) file.commands es → IsServed file es
  serves legal whole =
      let bounded = day_bounded bytes file read in
      record {
        legal = legal;
        promises = keep_promises file.base file.day es bounded.roads bounded.base.trains legal;
        commands = whole.commands;
        callers = whole.callers;
        memory = whole.memory;
      }

  pub whole_of : IsServed file es → IsWhole (length file.actors) file.commands es
  whole_of served = record { commands = served.commands; callers = served.callers; memory = served.memory }

  times_below : (k : ℕ) (f : ℕ → ℕ) (n : ℕ) → below (λ i. k * f i) n ≡ k * below f n
  times_below k f zero = omega arith
  times_below k f (suc n) = let front = times_below k f n in grind (arith, front)

  -- there are at most 17 entries for each command
  short : IsServed file es → length es ≤ 17 * length file.commands
  short served =
      let n = length file.actors in
      let entries : below (λ i. length (having (λ (e : Entry). e.caller) i es)) n ≡ length es = count_all (λ (e : Entry). e.caller) n es served.callers in
      let orders : below (λ i. length (having (λ (o : Order). o.actor) i file.commands)) n ≡ length file.commands = count_all (λ (o : Order). o.actor) n file.commands (day_keeps bytes file read).callers in
      let each : below (λ i. length (entries_by i es)) n ≤ below (λ i. 17 * length (script_of i file.commands)) n =
      below-le (λ i. length (entries_by i es)) (λ i. 17 * length (script_of i file.commands)) n (λ i near. finished_short i (script_of i file.commands) (entries_by i es) (served.commands i near)) in
      let scripts : below (λ i. length (script_of i file.commands)) n ≡ below (λ i. length (having (λ (o : Order). o.actor) i file.commands)) n =
      below-same (λ i. length (script_of i file.commands)) (λ i. length (having (λ (o : Order). o.actor) i file.commands)) n (λ i near. length-map (having (λ (o : Order). o.actor) i file.commands) (λ (o : Order). o.command)) in
      omega (arith, entries, orders, each, scripts, times_below 17 (λ i. length (script_of i file.commands)) n)

  pub kept : IsServed file es → IsOfficeHistory file.base file.day es
  kept served = record { legal = served.legal; room = omega (arith, short served, (day_keeps bytes file read).few_commands) }
