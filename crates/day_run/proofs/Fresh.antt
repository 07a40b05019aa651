-- Workers, one after another: admitted, run and taken in.
use Rattle.std.proofs.Common.{◌≡◌, ◌+◌, ◌<◌, ◌≤◌, ℕ, List, [], ◌∷◌, ◌++◌, All, length, get_or, Vec, sym, ap, ◌∙◌, subst, arith, length-append}
use Rattle.std.specs.Prelude.{Contains, vec_len}
use mathlib.Core.Logic.{dite}
use native.Mathlib.Decide.{ℕ_discrete}
use Rattle.std.specs.Global.{Global}
use Rattle.std.proofs.lemmas.List.{get_or_append_left, get_or_push}
use Rattle.std.proofs.lemmas.List.Elements.{Contains-append_left, Contains-push}
use Rattle.office_words.specs.declared.entry.Command.{Command}
use Rattle.office_words.specs.declared.entry.Entry.{Entry}
use Rattle.office_core.specs.Calls.{Who}
use Rattle.office_turn.specs.Told.{Lock, Passing, receipt_for}
use Rattle.office_turn.specs.declared.view.Receipt.{Receipt}
use Rattle.office_desk.specs.Desks.{Terms, calls_with_pass, terms_in}
use Rattle.trip_analysis.specs.Bases.{BaseLists}
use Rattle.office_words.specs.Commands.{MayCarryOut}
use Rattle.analyst_pool.specs.Ran.{AddsEntries, HasNotBegun, Ran}
use Rattle.analyst_pool.specs.declared.worker.Outcome.TheVariants as outcome
use Rattle.analyst_pool.specs.declared.worker.Worker.{Worker}
use Rattle.day_run.specs.declared.ended.Ended.{Ended}
use Rattle.day_run.specs.declared.ended.Ended.TheVariants as ended
use Rattle.day_run.specs.Workers.{AreDoneFrom, AreFresh, AreReceivedFrom, AreShort, AreSound, HasRun, HaveRun, IsFresh, IsFullOutcome, OneIsFull, full_by}
use Rattle.day_run.proofs.Lists.{here_is, item, some_item}

module _ {C : Type 0} (pass_of : C → Passing Entry Terms) where
  -- one worker more
  pub fresh_push : (lock : Lock Terms) (xs : List (Vec Command Global)) (ws : List (Worker C)) (x : Vec Command Global) (w : Worker C)
      → length ws ≡ length xs → AreFresh pass_of lock xs ws → IsFresh pass_of lock x (length xs) w → AreFresh pass_of lock (xs ++ x ∷ []) (ws ++ w ∷ [])
  fresh_push lock xs ws x w same all one i s v inside = dite (ℕ_discrete i (length xs))
      (λ e. subst (λ (y : Vec Command Global × Worker C). IsFresh pass_of lock y.0 i y.1) (λ k. (sym (get_or_push xs x s i (sym e)) k, sym (get_or_push ws w v i (same ∙ sym e)) k)) (subst (λ (n : ℕ). IsFresh pass_of lock x n w) (sym e) one))
      (λ ne. let more : i < length xs = omega (arith, length-append xs (x ∷ [])) in
      subst (λ (y : Vec Command Global × Worker C). IsFresh pass_of lock y.0 i y.1) (λ k. (sym (get_or_append_left xs (x ∷ []) s i more) k, sym (get_or_append_left ws (w ∷ []) v i (omega (arith, same))) k)) (all i s v more))

  -- what was received stays so, and the pass that is taken in now is received too
  pub receives : (receipts : List (Receipt Entry)) (ws : List (Worker C)) (n m : ℕ) (x : Worker C) (p : Passing Entry Terms)
      → m + 1 ≡ n → x ≡ get_or ws m x → p ≡ pass_of x.calls → m < length ws → AreReceivedFrom pass_of n receipts ws → AreReceivedFrom pass_of m (receipts ++ receipt_for p ∷ []) ws
  receives receipts ws n m x p up is of inside old i w low high = dite (ℕ_discrete i m)
      (λ e. let same : receipt_for p ≡ receipt_for (pass_of (get_or ws i w).calls) =
      ap receipt_for (of ∙ ap (λ (v : Worker C). pass_of v.calls) (sym (here_is ws i m w x e inside is))) in
      subst (Contains (receipts ++ receipt_for p ∷ [])) same (Contains-push receipts (receipt_for p)))
      (λ ne. Contains-append_left receipts (receipt_for p ∷ []) _ (old i w (omega (arith, low, up)) high))

  -- the workers of sound scripts can be let work
  pub are_ready : (lock : Lock Terms) (base : BaseLists) (scripts : List (Vec Command Global)) (workers : List (Worker C))
      → (terms_in lock).0 ≡ base → AreSound base scripts → AreShort scripts → AreFresh pass_of lock scripts workers
      → (i : ℕ) (d : Worker C) → i < length scripts → HasNotBegun base (λ c. calls_with_pass (pass_of c)) (get_or workers i d)
  are_ready lock base scripts workers is sound short fresh i d near = let s = item scripts i near in let f = fresh i s d near in record {
    waits = f.waits;
    about = ap (λ (l : Lock Terms). (terms_in l).0) f.ready.lock_is ∙ is;
    sound = subst (λ (v : Vec Command Global). All (MayCarryOut base) v.items) (sym f.given) (sound i s near);
    short = subst (λ (v : Vec Command Global). vec_len v ≤ 4294967295) (sym f.given) (short i s near);
  }

  -- a pass stays at its desk
  pub stays_at : (lock : Lock Terms) (i : ℕ) (script : Vec Command Global) (v w : Worker C) → IsFresh pass_of lock script i v → Ran (λ c. calls_with_pass (pass_of c)) v w → (pass_of w.calls).lock ≡ lock
  stays_at lock i script v w fresh ran = some_item _ _ (ap (λ (y : Who (Lock Terms)). y.place) ran.grew.who) ∙ fresh.ready.lock_is

  -- a worker that has run, and whose pass was taken in, has its receipt
  pub has_run : (lock : Lock Terms) (receipts : List (Receipt Entry)) (i : ℕ) (script : Vec Command Global) (v w : Worker C)
      → IsFresh pass_of lock script i v → Ran (λ c. calls_with_pass (pass_of c)) v w → Contains receipts (receipt_for (pass_of w.calls)) → HasRun lock receipts i script.items w.outcome
  has_run lock receipts i script v w fresh ran there = let p = pass_of w.calls in
      let own : p.own ≡ ran.entries = ran.grew.own ∙ ap (λ l. l ++ ran.entries) fresh.own in
      let number : p.number ≡ i = ap (λ (y : Who (Lock Terms)). y.caller) ran.grew.who ∙ fresh.number in
      let at : p.lock ≡ lock = stays_at lock i script v w fresh ran in record {
        receipt = receipt_for p;
        there = there;
        number = number;
        adds = subst (λ (y : ℕ × List Command × List Entry × Lock Terms). AddsEntries y.0 y.1 w.outcome y.2 (full_by y.3 (receipt_for p)))
            (λ k. (fresh.number k, ap (λ (s : Vec Command Global). s.items) fresh.given k, sym own k, at k)) ran.adds;
      }

  -- all have run, and their passes were taken in
  pub all_run : (lock : Lock Terms) (receipts : List (Receipt Entry)) (scripts : List (Vec Command Global)) (before after : List (Worker C)) (e : Ended)
      → length before ≡ length scripts → length after ≡ length before → AreFresh pass_of lock scripts before
      → ((i : ℕ) (d : Worker C) → i < length before → Ran (λ c. calls_with_pass (pass_of c)) (get_or before i d) (get_or after i d))
      → AreReceivedFrom pass_of 0 receipts after → (e ≡ ended.Done → AreDoneFrom 0 after) → (e ≡ ended.Full → OneIsFull after)
      → HaveRun lock receipts scripts e
  all_run lock receipts scripts before after e count same fresh ran received done full = record {
    each = λ some i s near. let d = item before i (omega (arith, near, count)) in ((get_or after i d).outcome, run_at i s d near);
    done = λ yes i s near. let d = item before i (omega (arith, near, count)) in
        subst (HasRun lock receipts i (get_or scripts i s).items) (done yes i d (omega arith) (omega (arith, near, count, same))) (run_at i s d near);
    full = λ yes. let (k, w, inside, is, found) = full yes in let near : k < length scripts = omega (arith, inside, same, count) in let s = item scripts k near in
        (k, s, near, w.outcome, found, subst (λ (x : Worker C). HasRun lock receipts k (get_or scripts k s).items x.outcome) is (run_at k s w near));
  }
    where
      run_at : (i : ℕ) (s : Vec Command Global) (d : Worker C) → i < length scripts → HasRun lock receipts i (get_or scripts i s).items (get_or after i d).outcome
      run_at i s d near = has_run lock receipts i (get_or scripts i s) (get_or before i d) (get_or after i d) (fresh i s d near) (ran i d (omega (arith, near, count)))
          (received i d (omega arith) (omega (arith, near, count, same)))

-- one worker more is done
pub done_more : {C : Type 0} (ws : List (Worker C)) (n m : ℕ) (x : Worker C)
    → m + 1 ≡ n → x ≡ get_or ws m x → m < length ws → x.outcome ≡ outcome.Done → AreDoneFrom n ws → AreDoneFrom m ws
done_more ws n m x up is inside done old i w low high = dite (ℕ_discrete i m)
    (λ e. ap (λ v. v.outcome) (here_is ws i m w x e inside is) ∙ done)
    (λ ne. old i w (omega (arith, low, up)) high)

-- one of the workers is this one, which found the history full
pub one_is_full : {C : Type 0} (ws : List (Worker C)) (m : ℕ) (x : Worker C) → x ≡ get_or ws m x → m < length ws → IsFullOutcome x.outcome → OneIsFull ws
one_is_full ws m x is inside full = (m, x, inside, sym is, full)
