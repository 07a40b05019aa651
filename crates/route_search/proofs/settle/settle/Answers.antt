use Rattle.std.proofs.Common.{arith, ap, ◌<◌, ◌≡◌, ℕ, length, refl, Some, None, List, Option, get_or, ◌∙◌, sym}
use Rattle.std.proofs.lemmas.Option.{slice_get-get_or, get_or_from_slice_get}
use Rattle.std.proofs.lemmas.Bool.{false≢true}
use Rattle.std.proofs.lemmas.List.{length-replicate}
use Rattle.std.specs.Prelude.{slice_get, IfNone, []}
use Rattle.route_search.specs.declared.waiting.Waiting.{Waiting}
use Rattle.route_search.specs.Walks.{flagged}
use Rattle.route_search.proofs.Steps.{popped_near, popped_stale, popped_within, asked_found, searching_first}
use Rattle.route_search.proofs.settle.settle.Goals as goal

pub note-requires : goal.note-requires
note-requires c =
    let n = length c.args.query.now.roads.network.now.nodes in let none : Option ℕ = None in
    rw c.in_ok-begin.ensures (omega (arith, c.args.query.now.goal_is_there, length-replicate n none))

pub nearest-init : goal.nearest-init
nearest-init c =
    let q = c.args.query.now in
    let w = rw c.in_ok-queue.ensures at c.in_ok-push.ensures in
    rw c.in_ok-note.ensures (searching_first q.roads.network.now (flagged q.roads.flags.now) q.start q.goal c.begin.new.self c.push.new.self q.goal_is_there c.in_ok-begin.ensures w)

pub bounds-as_slice-near : goal.bounds-as_slice-near
bounds-as_slice-near c =
    let q = c.args.query.now in
    let p = c.in-Some.ensures.some in
    rw c.as_slice.ensures (popped_within q.roads.network.now (flagged q.roads.flags.now) q.start q.goal q.roads.in_order c.nearest.table c.nearest.queue c.pop.new.self c.in-Some.near c.nearest.invariant p.one p.no_more p.others)

pub relax-requires-clause-before : goal.relax-requires-clause-before
relax-requires-clause-before c =
    let q = c.args.query.now in let roads = q.roads.network.now in let may = flagged q.roads.flags.now in let ps = c.nearest.table in let x = c.in-Some.near in
    let p = c.in-Some.ensures in
    let within = popped_within roads may q.start q.goal q.roads.in_order ps c.nearest.queue c.pop.new.self x c.nearest.invariant p.some.one p.some.no_more p.some.others in
    let is : get_or ps x.node None ≡ Some x.length = rw c.as_slice.ensures at (c.is_known.ensures.0 c.if-is_known.true) in
    let at : slice_get ps x.node ≡ Some (Some x.length) = slice_get-get_or ps x.node None within ∙ ap (λ (o : Option ℕ). Some o) is in
    popped_near roads may q.start q.goal q.roads.in_order ps c.nearest.queue c.pop.new.self x c.nearest.invariant p.some.one p.some.no_more p.some.others at

pub nearest-preserved : goal.nearest-preserved
nearest-preserved c =
    let q = c.args.query.now in let roads = q.roads.network.now in let may = flagged q.roads.flags.now in let ps = c.nearest.table in let x = c.in-Some.near in
    let p = c.in-Some.ensures in
    let stale : slice_get ps x.node ≡ Some (Some x.length) → ⊥ = (λ at.
    let is : get_or ps x.node None ≡ Some x.length = get_or_from_slice_get ps x.node (Some x.length) None at in
    false≢true (sym c.if-is_known.false ∙ c.is_known.ensures.1 (rw c.as_slice.ensures is))) in
    popped_stale roads may q.start q.goal q.roads.in_order ps c.nearest.queue c.pop.new.self x c.nearest.invariant p.some.one p.some.no_more p.some.others stale

empty : (result : Option Waiting) (queue : List Waiting) → IfNone result (queue ≡ []) → ((x : Waiting) → result ≡ Some x → ⊥) → queue ≡ []
empty None queue h w = h
empty (Some x) queue h w = absurd (w x refl)

pub returns : goal.returns
returns c =
    let q = c.args.query.now in
    let none : c.nearest.queue ≡ [] = empty c.pop.result c.nearest.queue c.pop.ensures.none c.in_default.not-Some in
    asked_found q.roads.network.now q.roads.flags.now q.start q.goal q.roads.in_order c.nearest.table (rw none at c.nearest.invariant)

pub relax-requires-clause-there : goal.relax-requires-clause-there
relax-requires-clause-there c =
    let q = c.args.query.now in
    let within : c.in-Some.near.node < length c.nearest.table = popped_within q.roads.network.now (flagged q.roads.flags.now) q.start q.goal q.roads.in_order c.nearest.table c.nearest.queue c.pop.new.self c.in-Some.near c.nearest.invariant c.in-Some.ensures.some.one c.in-Some.ensures.some.no_more c.in-Some.ensures.some.others in
    omega (arith, within, c.nearest.invariant.kept.many)
