-- The parts in their order, and the spans by rising number.
use Rattle.std.proofs.Common.{refl, sym, ap, ◌∙◌, None, Some}
use Rattle.clearance_rules.specs.Limits.{first_of_spans, weights_limit}
use Rattle.clearance_rules.proofs.Naming.{in_parts, next_span, no_more_spans}
use Rattle.clearance_rules.proofs.crossing.Crossing.first_limit.Goals as goal

pub returns-in-Some : goal.returns-in-Some
returns-in-Some g c =
    let self = c.args.self.now in
    in_parts self.network.now self.state.now self.load.now self.segment c.segment-values.result (Some c.in-Some.limit)
    (weights_limit c.segment-values.result self.load.now self.segment)
    c.segment-values.ensures (sym c.posted_limit.ensures ∙ c.in-Some.is) refl

pub returns-in-Some-weights_limit : goal.returns-in-Some-weights_limit
returns-in-Some-weights_limit g c =
    let self = c.args.self.now in
    in_parts self.network.now self.state.now self.load.now self.segment c.segment-values.result None (Some c.in-Some-weights_limit.limit)
    c.segment-values.ensures (sym c.posted_limit.ensures ∙ c.in_default.is) (sym c.weights_limit.ensures ∙ c.in-Some-weights_limit.is)

pub loop-span-init : goal.loop-span-init
loop-span-init g c =
    let self = c.args.self.now in
    ap (first_of_spans self.network.now self.state.now self.load.now.train self.segment) (sym c.spans_of-span-items.ensures.value)

pub returns-in-Some-span_limit : goal.returns-in-Some-span_limit
returns-in-Some-span_limit g c =
    let self = c.args.self.now in
    sym (c.loop-span.invariant ∙ next_span self.network.now self.state.now self.load.now.train self.segment
    c.spans_of-span-items.result.now c.loop-span.span-index (Some c.in-Some-span_limit.limit) c.loop-span-test.true (sym c.in-Some-span_limit.is ∙ c.span_limit.ensures))
    ∙ in_parts self.network.now self.state.now self.load.now self.segment c.segment-values.result None None
    c.segment-values.ensures (sym c.posted_limit.ensures ∙ c.in_default.is) (sym c.weights_limit.ensures ∙ c.in_default-weights_limit.is)

pub loop-span-preserved : goal.loop-span-preserved
loop-span-preserved g c =
    let self = c.args.self.now in
    c.loop-span.invariant ∙ next_span self.network.now self.state.now self.load.now.train self.segment
    c.spans_of-span-items.result.now c.loop-span.span-index None c.loop-span-test.true (sym c.in_default-span_limit.is ∙ c.span_limit.ensures)

pub returns : goal.returns
returns g c =
    let self = c.args.self.now in
    sym (c.loop-span.invariant ∙ no_more_spans self.network.now self.state.now self.load.now.train self.segment
    c.spans_of-span-items.result.now c.loop-span.span-index c.loop-span-test.false)
    ∙ in_parts self.network.now self.state.now self.load.now self.segment c.segment-values.result None None
    c.segment-values.ensures (sym c.posted_limit.ensures ∙ c.in_default.is) (sym c.weights_limit.ensures ∙ c.in_default-weights_limit.is)
