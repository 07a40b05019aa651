use Rattle.std.proofs.Common.{◌≡◌, ◌++◌, ◌∷◌, [], ℕ, List, refl, sym, ap, ◌∙◌, arith}
use Rattle.road_graph.specs.Roads.{Roads}
use Rattle.road_graph.proofs.Keeping.{kept-node}
use Rattle.road_graph.proofs.network.Network.add_node.Goals as goal

pub invariant_of-self-2 : goal.invariant_of-self-2
invariant_of-self-2 c =
    let n = c.self.inside in
    let told = c.in_ok-enter_node.ensures in
    let is : (let r : Roads = record { nodes = c.enter_node.new.names; segments = n.segments.items; spans = n.spans.items } in r)
    ≡ (let r : Roads = record { nodes = n.nodes ++ c.args.name ∷ []; segments = n.segments.items; spans = n.spans.items } in r) =
    ap (λ (keys : List (List ℕ)). let r : Roads = record { nodes = keys; segments = n.segments.items; spans = n.spans.items } in r) told.name in
    kept-node n c.self.invariant _ c.args.name (omega (arith, c.len-number.ensures.len)) (sym c.contains.ensures ∙ c.if-contains.false)
    is refl refl told.outgoing told.incoming refl
