use Rattle.std.proofs.Common.{rules, arith, ap, sym, ◌∙◌, ◌≡◌, ◌+◌, ◌-◌, ◌<◌, ℕ, length, get_or, take, vec_len, ◌∷◌, [], length-append, subst, ⊎_elim}
use Rattle.day_run.specs.Workers.{IsFullOutcome}
use Rattle.std.proofs.lemmas.List.{get_or-take}
use Rattle.office_turn.specs.Told.{receipt_for}
use Rattle.day_run.proofs.Fresh.{done_more, one_is_full, receives}
use Rattle.day_run.proofs.Lists.{some_item, taken_again}
use Rattle.day_run.proofs.workers.take_all.Goals as goal

pub loop-worker-preserved : goal.loop-worker-preserved
loop-worker-preserved g c =
    let i = c.loop-worker.invariant in let p = c.in-Some.ensures in let old = c.args.workers.items in
    let m : ℕ = vec_len c.pop.new.self in let n : ℕ = vec_len c.loop-worker.workers in
    let up : m + 1 ≡ n = p.cases in let back : n - 1 ≡ m = omega arith in
    let few = i.fewer in let ok = c.args.workers.ok.0 in let inside : m < length old = omega (arith, up, few, ok) in
    let x = c.in-Some.worker in
    let was : x ≡ get_or old m x = some_item _ _ (p.value x (omega (arith, up))) ∙ (ap (λ (k : ℕ). get_or c.loop-worker.workers.items k x) back ∙ (ap (λ l. get_or l m x) i.left ∙ get_or-take n old m x (omega (arith, up)))) in
    let pass = c.into_pass.result in
    let r = ap (λ q. q.receipts) c.leave.ensures.root in
    let of = c.into_pass.ensures.pass ∙ ap (λ s. s.pass) c.into_calls.ensures in
    record {
      lock = search rules;
      admitted = search rules;
      receipts = omega (arith, i.receipts, up, ap {B = ℕ} length r, length-append c.loop-worker.root.receipts (receipt_for pass ∷ []));
      left = p.rest ∙ (ap (λ (k : ℕ). take k c.loop-worker.workers.items) back ∙ (ap (take m) i.left ∙ taken_again m n old (omega (arith, up))));
      fewer = omega (arith, up, few);
      received = rw r (receives (λ s. s.pass) c.loop-worker.root.receipts old n m x pass up was of inside i.received);
      done = λ yes. let t = c.and-ended.ensures.done yes in done_more old n m x up was inside (sym c.outcome.ensures ∙ t.1) (i.done t.0);
      full = λ yes. ⊎_elim i.full (λ now. one_is_full old m x was inside (subst IsFullOutcome c.outcome.ensures now)) (c.and-ended.ensures.full yes);
    }
