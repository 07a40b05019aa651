-- The parts in their order, and the spans in theirs.
use Rattle.std.proofs.Common.{get_or, refl, ap, sym, ◌∙◌, true, false}
use Rattle.std.specs.Prelude.{is_some, is_none}
use Rattle.road_graph.specs.declared.segment.Span.{Span}
use Rattle.clearance_rules.specs.Limits.{weights_limit, spans_limit}
use Rattle.clearance_rules.proofs.Meeting.{meets_in_parts, span_judged, span_passed, span_stops}
use Rattle.clearance_rules.proofs.Naming.{no_more_spans}
use Rattle.clearance_rules.proofs.crossing.Crossing.is_met.Goals as goal

pub returns-then-is_some : goal.returns-then-is_some
returns-then-is_some g c =
    let self = c.args.self.now in
    let values = c.segment-values.result in
    meets_in_parts self.network.now self.state.now self.load.now self.segment values true (is_some (weights_limit values self.load.now self.segment))
    (is_none (spans_limit self.network.now self.state.now self.load.now.train self.segment))
    c.segment-values.ensures (c.if-is_some.ensures ∙ ap is_some c.posted_limit.ensures) refl refl

pub returns-then-is_some-2 : goal.returns-then-is_some-2
returns-then-is_some-2 g c =
    let self = c.args.self.now in
    meets_in_parts self.network.now self.state.now self.load.now self.segment c.segment-values.result false true
    (is_none (spans_limit self.network.now self.state.now self.load.now.train self.segment))
    c.segment-values.ensures (c.if-is_some.ensures ∙ ap is_some c.posted_limit.ensures) (c.if-is_some-2.ensures ∙ ap is_some c.weights_limit.ensures) refl

pub returns-then-not-carries : goal.returns-then-not-carries
returns-then-not-carries g c =
    let self = c.args.self.now in
    let judged = span_judged self.network.now self.state.now self.load.now.train self.segment
    (get_or c.spans_of-span-items.result.now c.loop-span.span-index 0) c.span-inches.result.inches c.rating-rating.result c.carries.result
    c.requires c.span-inches.ensures.fits.some c.span-inches.ensures.fits.long
    (ap (λ (t : Span). t.inches) c.span-inches.ensures.at) c.rating-rating.ensures (rw (← self.study_is_of) c.carries.ensures) in
    meets_in_parts self.network.now self.state.now self.load.now self.segment c.segment-values.result false false false
    c.segment-values.ensures (c.if-is_some.ensures ∙ ap is_some c.posted_limit.ensures) (c.if-is_some-2.ensures ∙ ap is_some c.weights_limit.ensures)
    (sym (ap is_none c.loop-span.invariant
    ∙ span_stops self.network.now self.state.now self.load.now.train self.segment c.spans_of-span-items.result.now
    c.loop-span.span-index c.loop-span-test.true (judged ∙ c.if-not-carries.true)))

pub loop-span-preserved : goal.loop-span-preserved
loop-span-preserved g c =
    let self = c.args.self.now in
    let judged = span_judged self.network.now self.state.now self.load.now.train self.segment
    (get_or c.spans_of-span-items.result.now c.loop-span.span-index 0) c.span-inches.result.inches c.rating-rating.result c.carries.result
    c.requires c.span-inches.ensures.fits.some c.span-inches.ensures.fits.long
    (ap (λ (t : Span). t.inches) c.span-inches.ensures.at) c.rating-rating.ensures (rw (← self.study_is_of) c.carries.ensures) in
    c.loop-span.invariant
    ∙ span_passed self.network.now self.state.now self.load.now.train self.segment c.spans_of-span-items.result.now
    c.loop-span.span-index c.loop-span-test.true (judged ∙ c.if-not-carries.false)

pub returns : goal.returns
returns g c =
    let self = c.args.self.now in
    meets_in_parts self.network.now self.state.now self.load.now self.segment c.segment-values.result false false true
    c.segment-values.ensures (c.if-is_some.ensures ∙ ap is_some c.posted_limit.ensures) (c.if-is_some-2.ensures ∙ ap is_some c.weights_limit.ensures)
    (sym (ap is_none (c.loop-span.invariant ∙ no_more_spans self.network.now self.state.now self.load.now.train self.segment
    c.spans_of-span-items.result.now c.loop-span.span-index c.loop-span-test.false)))
