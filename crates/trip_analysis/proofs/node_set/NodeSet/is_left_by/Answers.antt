use Rattle.std.proofs.Common.{false, not, ◌&&◌, get_or, ap, sym, ◌∙◌}
use Rattle.trip_analysis.proofs.Marked.{leaves_told}
use Rattle.trip_analysis.proofs.node_set.NodeSet.is_left_by.Goals as goal

pub returns-then-self-here : goal.returns-then-self-here
returns-then-self-here c = let here = c.segment-here in
    ap (λ b. b && not (get_or c.self.inside.marks here.result.to false)) (sym c.if-self-here.true)
    ∙ leaves_told c.args.network.now _ _ _ c.args.segment here.result c.self.view_is c.self.invariant c.lists_are_in_order.ensures here.ensures.at here.ensures.fits

pub returns-else-self-here : goal.returns-else-self-here
returns-else-self-here c = let here = c.segment-here in
    c.if-self-here.false ∙ (ap (λ b. b && not (get_or c.self.inside.marks here.result.to false)) (sym c.if-self-here.false)
    ∙ leaves_told c.args.network.now _ _ _ c.args.segment here.result c.self.view_is c.self.invariant c.lists_are_in_order.ensures here.ensures.at here.ensures.fits)
