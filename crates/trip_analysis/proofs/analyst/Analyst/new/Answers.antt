use Rattle.std.proofs.Common.{◌∙◌, ◌++◌, ◌∷◌, [], List, Option, None, ap, get_or, length, subst, sym, arith}
use Rattle.std.specs.Prelude.{IfSome}
use Rattle.std.proofs.lemmas.List.{get_or-replicate, length-replicate, replicate_more}
use Rattle.trip_analysis.specs.declared.known.Known.{Known}
use Rattle.trip_analysis.specs.Known.{IsKnown}
use Rattle.trip_analysis.proofs.analyst.Analyst.new.Goals as goal

pub trucks-preserved : goal.trucks-preserved
trucks-preserved c = c.in_ok-push.ensures.items ∙ (ap (λ (l : List (Option Known)). l ++ None ∷ []) c.trucks.invariant ∙ replicate_more c.trucks.counter None)

pub returns : goal.returns
returns c = λ state.
    let n = c.trucks.counter in let items = c.trucks.invariant in let count = ap length c.fleet-count.ensures.value in let none : Option Known = None in
    record {
      heights = c.in_ok-own_heights.ensures;
      many = omega (arith, ap length items, length-replicate n none, c.trucks-test.false, c.trucks.auto.counter-end, count);
      each = λ truck d less.
          let nothing = ap (λ (l : List (Option Known)). get_or l truck d) items ∙ get_or-replicate n truck None d (omega (arith, less, c.trucks-test.false, count)) in
          subst (λ (o : Option Known). IfSome o (IsKnown c.args.base.now state truck)) (sym nothing) tt;
    }
