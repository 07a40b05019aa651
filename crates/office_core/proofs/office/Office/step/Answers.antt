use Rattle.std.proofs.Common.{rules, ◌+◌, ◌<◌, ◌≡◌, ◌∷◌, [], ap, sym, subst, ◌∙◌, length, arith}
use Rattle.std.specs.List.{All}
use Rattle.std.proofs.lemmas.List.{length-append}
use Rattle.std.proofs.lemmas.List.Elements.{All-append, All-cons, All-nil}
use Rattle.office_words.specs.declared.entry.Entry.{Entry}
use Rattle.office_words.specs.declared.entry.Reply.{Reply}
use Rattle.office_core.specs.Costs.{IsCost}
use Rattle.office_core.specs.Machine.{Machine, MayAsk}
use Rattle.office_core.specs.Offices.{IsStep, Opened, entry, machine_in, seen_of}
use Rattle.office_core.specs.Replies.{is_full}
use Rattle.office_core.proofs.Counts.{has_room}
use Rattle.office_core.proofs.Histories.{Goes, stepped}
use Rattle.office_core.proofs.Retesting.{cost_none}
use Rattle.office_core.proofs.office.Office.step.Given.{Over}
use Rattle.office_core.proofs.office.Office.step.Goals as goal

pub answer-answer-requires-clause-room : goal.answer-answer-requires-clause-room
answer-answer-requires-clause-room g c = let i = c.self.inside in let inv = c.self.invariant in
    rw inv.machine (has_room i.register.base i.opening i.history.items inv.legal (omega (arith, c.if-len-self.false, c.len.ensures, inv.bounded)))

-- what the step leaves
went : (g : Over) (c : goal.After-push_reserved g) → Goes c.self.inside.register c.answer-answer.new.self c.self.inside.opening c.self.inside.history.items c.push_reserved.new.self.items (entry c.args.caller c.args.call c.into_replies-reply.result.0)
went g c = let i = c.self.inside in let inv = c.self.invariant in let a = c.answer-answer in
    stepped i.register a.new.self i.opening i.history.items c.push_reserved.new.self.items (entry c.args.caller c.args.call c.into_replies-reply.result.0) a.result inv.legal inv.machine
    (subst (λ (o : Opened). MayAsk o.base (machine_in o) c.args.call) (sym c.self.view_is) c.requires.asked) c.into_replies-reply.ensures.kept a.ensures.base a.ensures.answer a.ensures.after c.push_reserved.ensures.items

pub invariant_of-self : goal.invariant_of-self
invariant_of-self g c = let i = c.self.inside in let inv = c.self.invariant in let a = c.answer-answer in
    let e : Entry = entry c.args.caller c.args.call c.into_replies-reply.result.0 in
    let longer : length c.push_reserved.new.self.items ≡ length i.history.items + 1 = ap length c.push_reserved.ensures.items ∙ omega (arith, length-append i.history.items (e ∷ [])) in
    record {
      legal = (went g c).legal;
      machine = (went g c).machine;
      callers = subst (All (λ (e : Entry). e.caller < 65536)) (sym c.push_reserved.ensures.items)
          (All-append (λ (e : Entry). e.caller < 65536) i.history.items (e ∷ []) inv.callers (All-cons (λ (e : Entry). e.caller < 65536) e [] c.requires.caller (All-nil (λ (e : Entry). e.caller < 65536))));
      room = search rules;
      few = omega (arith, longer, c.if-len-self.false, c.len.ensures);
      bounded = inv.bounded;
    }

pub returns-clause-not_full : goal.returns-clause-not_full
returns-clause-not_full g c = λ _. ap is_full (c.into_replies-reply.ensures.told ∙ sym c.into_replies-reply.ensures.kept) ∙ (went g c).not_full

pub returns-clause-step : goal.returns-clause-step
returns-clause-step g c = let i = c.self.inside in let r = c.into_replies-reply in
    let next : Opened = record { base = c.answer-answer.new.self.base; opening = i.opening; most = i.most; history = c.push_reserved.new.self.items } in
    λ _. subst (λ (o : Opened). IsStep o (entry c.args.caller c.args.call r.result.1) next) c.self.view_is
    (subst (λ (k : Reply). IsStep (seen_of i) (entry c.args.caller c.args.call k) next) (r.ensures.kept ∙ sym r.ensures.told) (went g c).step)

pub returns-clause-legal : goal.returns-clause-legal
returns-clause-legal g c = (went g c).legal

pub returns-then-len-self-clause-cost : goal.returns-then-len-self-clause-cost
returns-then-len-self-clause-cost g c = cost_none c.args.self.now.base (machine_in c.args.self.now) c.args.call c.args.steps.now

pub returns-clause-cost : goal.returns-clause-cost
returns-clause-cost g c = let i = c.self.inside in let a = c.answer-answer in let n = c.args.steps.now in
    subst (λ (o : Opened). IsCost o.base (machine_in o) c.args.call n a.new.steps) c.self.view_is
    (subst (λ (m : Machine). IsCost i.register.base m c.args.call n a.new.steps) c.self.invariant.machine a.ensures.cost)
