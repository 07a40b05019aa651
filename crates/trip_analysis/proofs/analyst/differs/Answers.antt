use Rattle.std.proofs.Common.{◌≡◌, ◌∙◌, sym, arith}
use Rattle.restriction_log.specs.States.{values_at}
use Rattle.trip_analysis.proofs.KnownAt.{agree_if, same_values}
use Rattle.trip_analysis.proofs.analyst.differs.Goals as goal

pub returns : goal.returns
returns c = λ e.
    let a = c.args in
    let same : values_at a.old.now.values a.segment ≡ values_at a.new.now.values a.segment = sym c.segment.ensures ∙ (same_values c.segment.result c.segment-2.result (sym c.ne.ensures ∙ c.if-ne.false) ∙ c.segment-2.ensures) in
    agree_if a.network.now a.old.now a.new.now a.segment c.spans.span-index c.spans_of-span-items.result.now same c.spans_of-span-items.ensures.meaning (omega (arith, c.spans-test.false)) c.spans.invariant
