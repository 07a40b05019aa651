use Rattle.std.proofs.Common.{length, sym, ◌∙◌, arith}
use Rattle.office_core.proofs.Retesting.{cut_done, cut_found, cut_none, cut_passed, cut_tried}
use Rattle.office_core.proofs.register.Register.first_meeting.Goals as goal

pub out-init : goal.out-init
out-init g c = cut_none _ _ _ _ _ _ c.requires.met

pub out-preserved : goal.out-preserved
out-preserved g c =
    let a = c.args in let s = c.in-Some.segment in let found = c.in-Some.ensures in
    cut_tried a.self.now.base a.self.now.machine.postings a.seen a.truck a.nodes.now s a.steps.now c.out.steps c.meets_if_leaving.new.steps found.within.1 found.changed
    (sym c.meets_if_leaving.ensures.value ∙ c.if-meets_if_leaving.false) c.meets_if_leaving.ensures.steps
    (cut_passed a.self.now.base a.self.now.machine.postings a.seen a.truck a.nodes.now c.out.from s a.steps.now c.out.steps found.within.0 (let low = found.within.1 in omega (arith, low)) found.first c.out.invariant)

pub returns-then-meets_if_leaving-clause-value : goal.returns-then-meets_if_leaving-clause-value
returns-then-meets_if_leaving-clause-value g c =
    let a = c.args in let s = c.in-Some.segment in let found = c.in-Some.ensures in
    (cut_found a.self.now.base a.self.now.machine.postings a.seen a.truck a.nodes.now s a.steps.now c.out.steps c.meets_if_leaving.new.steps found.within.1 found.changed
    (sym c.meets_if_leaving.ensures.value ∙ c.if-meets_if_leaving.true) c.meets_if_leaving.ensures.steps
    (cut_passed a.self.now.base a.self.now.machine.postings a.seen a.truck a.nodes.now c.out.from s a.steps.now c.out.steps found.within.0 (let low = found.within.1 in omega (arith, low)) found.first c.out.invariant)).0

pub returns-then-meets_if_leaving-clause-steps : goal.returns-then-meets_if_leaving-clause-steps
returns-then-meets_if_leaving-clause-steps g c =
    let a = c.args in let s = c.in-Some.segment in let found = c.in-Some.ensures in
    (cut_found a.self.now.base a.self.now.machine.postings a.seen a.truck a.nodes.now s a.steps.now c.out.steps c.meets_if_leaving.new.steps found.within.1 found.changed
    (sym c.meets_if_leaving.ensures.value ∙ c.if-meets_if_leaving.true) c.meets_if_leaving.ensures.steps
    (cut_passed a.self.now.base a.self.now.machine.postings a.seen a.truck a.nodes.now c.out.from s a.steps.now c.out.steps found.within.0 (let low = found.within.1 in omega (arith, low)) found.first c.out.invariant)).1

pub returns-clause-value : goal.returns-clause-value
returns-clause-value g c =
    let a = c.args in
    (cut_done a.self.now.base a.self.now.machine.postings a.seen a.truck a.nodes.now a.steps.now c.out.steps
    (cut_passed a.self.now.base a.self.now.machine.postings a.seen a.truck a.nodes.now c.out.from (length a.self.now.base.roads.segments) a.steps.now c.out.steps c.out.invariant.within (omega arith) c.in_default.ensures.none c.out.invariant)).0

pub returns-clause-steps : goal.returns-clause-steps
returns-clause-steps g c =
    let a = c.args in
    (cut_done a.self.now.base a.self.now.machine.postings a.seen a.truck a.nodes.now a.steps.now c.out.steps
    (cut_passed a.self.now.base a.self.now.machine.postings a.seen a.truck a.nodes.now c.out.from (length a.self.now.base.roads.segments) a.steps.now c.out.steps c.out.invariant.within (omega arith) c.in_default.ensures.none c.out.invariant)).1
