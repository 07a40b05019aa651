use Rattle.std.proofs.Common.{◌∙◌, ◌==◌, ◌+◌, [], ℕ, List, ap, arith, length, lit<, subst, sym}
use Rattle.std.specs.Prelude.{unwrap_or}
use Rattle.std.specs.List.{slice_split}
use Rattle.std.proofs.lemmas.Iterator.Consumers.{YieldsList-end, YieldsList-turn}
use Rattle.std.proofs.lemmas.Iterator.Splits.{YieldsList-from_str_split}
use Rattle.std.proofs.lemmas.List.{length_push}
use Rattle.std.proofs.lemmas.List.Splits.{length-slice_split}
use Rattle.road_graph.specs.Roads.{segment_names}
use Rattle.day_text.specs.Fields.{of_each}
use Rattle.day_text.proofs.Each.{IsSoFar, far_all, far_missing, far_more}
use Rattle.day_text.proofs.Asking.{found_all, named}
use Rattle.day_text.proofs.asked.find_routes.Goals as goal

pub returns-in_default : goal.returns-in_default
returns-in_default c =
    let known = segment_names c.args.network.now.segments in
    let parts = slice_split (λ b. b == 124) c.args.text.now in
    let road = YieldsList-from_str_split {s = c.into_iter-part-iterator.result} 124 c.args.text.now (lit< tt) (cc) (cc) (cc) in
    let turn = YieldsList-turn road c.loop-part.yielded _ c.loop-part.yielded_by _ _ c.in-Some.part c.in-Some.is c.next.ensures.steps in
    sym (far_missing (named known) parts (length c.loop-part.yielded) (unwrap_or c.loop-part.found []) c.in-Some.part.now turn.0 turn.1 (sym c.in_ok-route.ensures ∙ c.in_default.is) c.loop-part.invariant.numbers)

pub with_route-requires : goal.with_route-requires
with_route-requires c =
    let road = YieldsList-from_str_split {s = c.into_iter-part-iterator.result} 124 c.args.text.now (lit< tt) (cc) (cc) (cc) in
    let turn = YieldsList-turn road c.loop-part.yielded _ c.loop-part.yielded_by _ _ c.in-Some.part c.in-Some.is c.next.ensures.steps in
    omega (arith, turn.0, c.loop-part.invariant.many, c.requires)

pub loop-part-preserved : goal.loop-part-preserved
loop-part-preserved c =
    let known = segment_names c.args.network.now.segments in
    let parts = slice_split (λ b. b == 124) c.args.text.now in
    let front = unwrap_or c.loop-part.found [] in
    let road = YieldsList-from_str_split {s = c.into_iter-part-iterator.result} 124 c.args.text.now (lit< tt) (cc) (cc) (cc) in
    let turn = YieldsList-turn road c.loop-part.yielded _ c.loop-part.yielded_by _ _ c.in-Some.part c.in-Some.is c.next.ensures.steps in
    let more = far_more (named known) parts (length c.loop-part.yielded) front c.in-Some.part.now c.in-Some-2.route turn.0 turn.1 (sym c.in_ok-route.ensures ∙ c.in-Some-2.is) c.loop-part.invariant.numbers in
    let many = length_push c.loop-part.yielded c.in-Some.part in
    record {
      numbers = subst (λ (n : ℕ). IsSoFar (named known) parts n c.in_ok-with_route.field-0) (sym many) (subst (λ (l : List (List ℕ)). IsSoFar (named known) parts (length c.loop-part.yielded + 1) l) (sym c.in_ok-with_route.ensures) more);
      many = ap length c.in_ok-with_route.ensures ∙ (length_push front c.in-Some-2.route ∙ (ap (λ (n : ℕ). n + 1) c.loop-part.invariant.many ∙ sym many));
    }

pub returns : goal.returns
returns c =
    let known = segment_names c.args.network.now.segments in
    let parts = slice_split (λ b. b == 124) c.args.text.now in
    let front = unwrap_or c.loop-part.found [] in
    let road = YieldsList-from_str_split {s = c.into_iter-part-iterator.result} 124 c.args.text.now (lit< tt) (cc) (cc) (cc) in
    let end = YieldsList-end road c.loop-part.yielded _ c.loop-part.yielded_by _ _ c.in-None.is c.next.ensures.steps in
    found_all c.loop-part.found (of_each (named known) parts) (length c.loop-part.yielded)
    (far_all (named known) parts (length c.loop-part.yielded) front (omega (arith, end.1)) c.loop-part.invariant.numbers) c.loop-part.invariant.many
    (omega (arith, end.1, length-slice_split (λ b. b == 124) c.args.text.now))
