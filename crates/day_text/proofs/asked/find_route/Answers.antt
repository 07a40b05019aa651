use Rattle.std.proofs.Common.{◌≡◌, ◌∙◌, ◌==◌, None, Some, ap, length, lit<, sym, arith}
use Rattle.std.specs.List.{slice_split}
use Rattle.std.proofs.lemmas.Iterator.Consumers.{YieldsList-end, YieldsList-turn}
use Rattle.std.proofs.lemmas.Iterator.Splits.{YieldsList-from_str_split}
use Rattle.std.proofs.lemmas.List.{length_push}
use Rattle.road_graph.specs.Roads.{segment_names}
use Rattle.day_text.proofs.Each.{far_all, far_missing, far_more}
use Rattle.day_text.proofs.Asking.{named_by_parts, named_segment}
use Rattle.day_text.proofs.asked.find_route.Goals as goal

pub returns-in_default : goal.returns-in_default
returns-in_default c =
    let known = segment_names c.args.network.now.segments in
    let parts = slice_split (λ b. b == 32) c.args.text.now in
    let road = YieldsList-from_str_split {s = c.into_iter-part-iterator.result} 32 c.args.text.now (lit< tt) (cc) (cc) (cc) in
    let turn = YieldsList-turn road c.loop-part.yielded _ c.loop-part.yielded_by _ _ c.in-Some.part c.in-Some.is c.next.ensures.steps in
    let unnamed : named_segment known c.in-Some.part.now ≡ None = sym c.segment_of.ensures ∙ c.in_default.is in
    sym (far_missing (named_segment known) parts (length c.loop-part.yielded) c.loop-part.route.items c.in-Some.part.now turn.0 turn.1 unnamed c.loop-part.invariant)
    ∙ named_by_parts known c.args.text.now

pub loop-part-preserved : goal.loop-part-preserved
loop-part-preserved c =
    let known = segment_names c.args.network.now.segments in
    let parts = slice_split (λ b. b == 32) c.args.text.now in
    let road = YieldsList-from_str_split {s = c.into_iter-part-iterator.result} 32 c.args.text.now (lit< tt) (cc) (cc) (cc) in
    let turn = YieldsList-turn road c.loop-part.yielded _ c.loop-part.yielded_by _ _ c.in-Some.part c.in-Some.is c.next.ensures.steps in
    let number = c.in-Some-segment_of.number in
    let numbered : named_segment known c.in-Some.part.now ≡ Some number = sym c.segment_of.ensures ∙ c.in-Some-segment_of.is in
    rw (length_push c.loop-part.yielded c.in-Some.part, c.in_ok-push.ensures.items)
    (far_more (named_segment known) parts (length c.loop-part.yielded) c.loop-part.route.items c.in-Some.part.now number turn.0 turn.1 numbered c.loop-part.invariant)

pub returns : goal.returns
returns c =
    let known = segment_names c.args.network.now.segments in
    let parts = slice_split (λ b. b == 32) c.args.text.now in
    let road = YieldsList-from_str_split {s = c.into_iter-part-iterator.result} 32 c.args.text.now (lit< tt) (cc) (cc) (cc) in
    let end = YieldsList-end road c.loop-part.yielded _ c.loop-part.yielded_by _ _ c.in-None.is c.next.ensures.steps in
    ap Some c.of.ensures
    ∙ (sym (far_all (named_segment known) parts (length c.loop-part.yielded) c.loop-part.route.items (omega (arith, end.1)) c.loop-part.invariant) ∙ named_by_parts known c.args.text.now)
