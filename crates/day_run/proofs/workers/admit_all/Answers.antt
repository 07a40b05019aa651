use Rattle.std.proofs.Common.{refl, ◌≡◌, ◌+◌, ◌++◌, [], ◌∷◌, ℕ, length, length-append, rules, ap, sym, ◌∙◌, arith, subst, List, Vec, map-id}
use Rattle.std.proofs.lemmas.Iterator.Adapters.{YieldsList-from_vec}
use Rattle.std.proofs.lemmas.Iterator.Consumers.{YieldsList-end}
use Rattle.std.specs.Global.{Global}
use Rattle.office_words.specs.declared.entry.Command.{Command}
use Rattle.day_run.specs.Workers.{AreFresh}
use Rattle.day_run.proofs.Fresh.{fresh_push}
use Rattle.day_run.proofs.workers.admit_all.Goals as goal

one_more : {A : Type 0} (n : ℕ) (xs : List A) (x : A) → n ≡ length xs → n + 1 ≡ length (xs ++ x ∷ [])
one_more n xs x e = omega (arith, length-append xs (x ∷ []), e)

pub loop-script-preserved : goal.loop-script-preserved
loop-script-preserved g c = let i = c.loop-script.invariant in
    let e = c.new-in-loop-script.ensures in let p = ap (λ s. s.pass) e.calls ∙ (c.new.ensures.pass ∙ c.admit-pass.ensures.pass) in record {
      lock = search rules;
      admitted = ap (λ r. r.admitted) c.admit-pass.ensures.root ∙ one_more _ _ _ i.admitted;
      receipts = search rules;
      number = one_more _ _ _ i.number;
      count = ap length c.push_reserved.ensures.items ∙ (sym (one_more _ _ _ refl) ∙ one_more _ _ _ i.count);
      room = c.push_reserved.ensures.capacity ∙ i.room;
      fresh = rw c.push_reserved.ensures.items (fresh_push (λ s. s.pass) _ _ _ _ _ i.count i.fresh (record {
        waits = e.waits;
        given = e.script;
        ready = search rules;
        number = ap (λ q. q.number) p ∙ i.admitted;
        own = ap (λ q. q.own) p;
      }));
    }

pub returns-clause-fresh : goal.returns-clause-fresh
returns-clause-fresh g c = let a = c.into_iter-script-iterator.ensures.into_iter_gives in
    let t = YieldsList-end (YieldsList-from_vec c.args.scripts.items a.0 (a.1 ∙ c.args.scripts.ok.0)) c.loop-script.yielded c.loop-script.script-iterator c.loop-script.yielded_by c.next.result c.next.new.self c.in-None.is c.next.ensures.steps in
    subst (λ (l : List (Vec Command Global)). AreFresh (λ s. s.pass) c.args.desk.now l c.loop-script.workers.items) (sym (map-id c.loop-script.yielded) ∙ t.0) c.loop-script.invariant.fresh
