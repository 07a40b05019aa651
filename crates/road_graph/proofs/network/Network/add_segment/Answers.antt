use Rattle.std.proofs.Common.{◌≡◌, ◌++◌, ◌∷◌, [], ℕ, List, length, refl, sym, ap, subst, true, ◌∙◌, arith}
use Rattle.std.specs.Prelude.{nat_lt, ◌&&◌}
use Rattle.road_graph.specs.declared.segment.Segment.{Segment}
use Rattle.road_graph.specs.Roads.{Roads, IsSegment}
use Rattle.road_graph.specs.Adding.{new_segment}
use Rattle.road_graph.proofs.Growth.{segment-fits}
use Rattle.road_graph.proofs.Keeping.{kept-segment}
use Rattle.road_graph.proofs.network.Network.add_segment.Goals as goal

pub invariant_of-self-2 : goal.invariant_of-self-2
invariant_of-self-2 c =
    let n = c.self.inside in
    let told = c.in_ok-enter_segment.ensures in
    let s : Segment = record { name = c.args.name; from = c.args.from; to = c.args.to; feet = c.args.feet; base = c.default.result } in
    let same : s ≡ new_segment c.args.name c.args.from c.args.to c.args.feet =
    ap (λ v. let t : Segment = record { name = c.args.name; from = c.args.from; to = c.args.to; feet = c.args.feet; base = v } in t) c.default.ensures in
    let ends : (nat_lt c.args.from (length n.nodes) && nat_lt c.args.to (length n.nodes)) ≡ true =
    subst (λ (count : ℕ). (nat_lt c.args.from count && nat_lt c.args.to count) ≡ true) c.len.ensures.len (sym c.are_below.ensures ∙ c.if-not-are_below.false) in
    let fits : IsSegment (length n.nodes) s =
    rw same (segment-fits (length n.nodes) c.args.name c.args.from c.args.to c.args.feet ends (sym c.takes.ensures ∙ c.if-not-takes.false)) in
    let is : (let r : Roads = record { nodes = n.nodes; segments = c.enter_segment.new.segments.items; spans = n.spans.items } in r)
    ≡ (let r : Roads = record { nodes = n.nodes; segments = n.segments.items ++ s ∷ []; spans = n.spans.items } in r) =
    ap (λ (items : List Segment). let r : Roads = record { nodes = n.nodes; segments = items; spans = n.spans.items } in r) told.segment in
    kept-segment n c.self.invariant _ s (omega (arith, c.if-number-ge-MOST_SEGMENTS.false, c.len-number.ensures, n.segments.ok.0)) fits (sym c.contains.ensures ∙ c.if-contains.false)
    is told.name refl told.outgoing told.incoming told.carried
