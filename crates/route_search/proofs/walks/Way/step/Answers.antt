use Rattle.route_search.proofs.Reaches.{step_back, step_forth}
use Rattle.route_search.proofs.walks.Way.step.Goals as goal

pub returns-in-Forth : goal.returns-in-Forth
returns-in-Forth c =
    let a = c.args in
    let within = rw c.in-Forth.is at c.requires.k in
    rw c.in-Forth.is (step_forth a.network.now.segments a.node a.k c.outgoing.result.now c.segment-to.result c.outgoing.ensures.value c.outgoing.ensures.meaning within c.segment-to.ensures.value)

pub returns-in-Back : goal.returns-in-Back
returns-in-Back c =
    let a = c.args in
    let within = rw c.in-Back.is at c.requires.k in
    rw c.in-Back.is (step_back a.network.now.segments a.node a.k c.incoming.result.now (record { segment = 0; from = 0; feet = 0 }) c.incoming.ensures.value c.incoming.ensures.meaning within)
