use Rattle.std.proofs.Common.{◌≡◌, ◌∷◌, [], ℕ, arith, length, refl, List}
use Rattle.route_search.specs.Walks.{flagged}
use Rattle.route_search.proofs.Reaches.{reaching_done, reaching_first, reaching_popped}
use Rattle.route_search.proofs.reach.reach.Goals as goal

pub nodes-init : goal.nodes-init
nodes-init c =
    let w = c.args.walks.now in
    let e = c.in_ok-marked.ensures.items_if_clones_equal (λ y h. h) in
    let e2 = rw c.nodes-nodes.ensures.count at e in
    let m = rw c.in_ok-waiting.ensures.items at c.in_ok-mark.ensures in
    reaching_first w.way w.roads.network.now (flagged w.roads.flags.now) w.root w.roads.in_order c.in_ok-marked.marked.items c.mark.new.marked.items c.mark.new.waiting.items w.root_is_there e2 m

pub spread-requires : goal.spread-requires
spread-requires c =
    let w = c.args.walks.now in
    let popped = rw c.in-Some.is at c.pop.ensures.items in
    reaching_popped w.way w.roads.network.now (flagged w.roads.flags.now) w.root w.roads.in_order c.nodes.marked.items c.nodes.waiting.items c.pop.new.self.items c.in-Some.node popped c.nodes.invariant

nil_of : (xs : List ℕ) → length xs ≡ 0 → xs ≡ []
nil_of [] e = refl
nil_of (x ∷ xs) e = absurd (omega (arith, e))

pub returns : goal.returns
returns c =
    let w = c.args.walks.now in
    let none : c.nodes.waiting.items ≡ [] = nil_of c.nodes.waiting.items (omega (arith, c.nodes.waiting.ok.0, c.in_default.ensures.cases.0)) in
    reaching_done w.way w.roads.network.now (flagged w.roads.flags.now) w.root w.roads.in_order c.nodes.marked.items (rw none at c.nodes.invariant)
