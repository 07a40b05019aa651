use Rattle.std.proofs.Common.{◌≡◌, ◌<◌, ◌++◌, ◌∷◌, [], ℕ, List, length, refl, sym, ap, subst, ◌∙◌, arith}
use Rattle.road_graph.specs.declared.segment.Span.{Span}
use Rattle.road_graph.specs.Roads.{Roads, IsSpan, spans_of}
use Rattle.road_graph.proofs.Growth.{span-fits}
use Rattle.road_graph.proofs.Keeping.{kept-span}
use Rattle.road_graph.proofs.network.Network.add_span.Goals as goal

pub invariant_of-self-2 : goal.invariant_of-self-2
invariant_of-self-2 c =
    let n = c.self.inside in
    let told = c.in_ok-enter_span.ensures in
    let t : Span = record { name = c.args.name; segment = c.args.segment; inches = c.args.inches; rating = c.args.rating } in
    let within : c.args.segment < length n.segments.items = omega (arith, c.if-segment-len.false, c.len.ensures, n.segments.ok.0) in
    let fits : IsSpan (length n.segments.items) t =
    span-fits (length n.segments.items) c.args.name c.args.segment c.args.inches c.args.rating within (sym c.takes.ensures ∙ c.if-not-takes.false) in
    let value : c.spans_of.result.now ≡ spans_of n.spans.items c.args.segment =
    c.spans_of.ensures.value ∙ ap (λ (r : Roads). spans_of r.spans c.args.segment) (sym c.self.view_is) in
    let below : length c.spans_of.result.now < 16 = c.if-spans_of-ge-MOST_ON_SEGMENT.false in
    let few : length (spans_of n.spans.items c.args.segment) < 16 = subst (λ (numbers : List ℕ). length numbers < 16) value below in
    let is : (let r : Roads = record { nodes = n.nodes; segments = n.segments.items; spans = c.enter_span.new.spans.items } in r)
    ≡ (let r : Roads = record { nodes = n.nodes; segments = n.segments.items; spans = n.spans.items ++ t ∷ [] } in r) =
    ap (λ (items : List Span). let r : Roads = record { nodes = n.nodes; segments = n.segments.items; spans = items } in r) told.span in
    kept-span n c.self.invariant _ t (omega (arith, c.if-number-ge-MOST_SPANS.false, c.len-number.ensures, n.spans.ok.0)) few fits (sym c.contains.ensures ∙ c.if-contains.false)
    is refl told.name refl refl told.carried
