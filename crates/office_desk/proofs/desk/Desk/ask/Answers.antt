use Rattle.std.proofs.Common.{ap, sym, subst, ◌∙◌}
use Rattle.office_words.specs.declared.entry.Entry.{Entry}
use Rattle.office_core.specs.Machine.{MayAsk}
use Rattle.office_core.specs.Offices.{Opened, entry, grown, machine_in}
use Rattle.office_turn.specs.Told.{Passing}
use Rattle.office_desk.specs.Desks.{Terms}
use Rattle.office_desk.proofs.Answering.{answered}
use Rattle.office_desk.proofs.Turns.{asked_there}
use Rattle.office_desk.proofs.desk.Desk.ask.Goals as goal

pub step-reply-requires-clause-asked : goal.step-reply-requires-clause-asked
step-reply-requires-clause-asked g c = let found = c.in-Ok.ensures in
    subst (λ (o : Opened). MayAsk o.base (machine_in o) c.args.call) (sym (ap (λ d. d.counted.office) c.value.ensures.value))
    (asked_there c.args.pass.now c.in-Ok.held.value.counted.office c.args.call (found.terms ∙ ap (λ l. l.terms) (c.self.view_is ∙ sym c.requires.ready.lock_is)) found.extends c.requires.asked)

pub returns-in-Ok-clause-answered : goal.returns-in-Ok-clause-answered
returns-in-Ok-clause-answered g c =
    let found = c.in-Ok.ensures in
    let numbered = c.number.ensures.number ∙ ap (λ (p : Passing Entry Terms). p.number) found.pass in
    let office = ap (λ d. d.counted.office) c.value.ensures.value in
    answered c.args.pass.now c.hold.new.pass c.pass_on.new.pass c.in-Ok.held.value.counted.office c.step-reply.new.self.counted.office c.number.result c.args.call c.step-reply.result
    numbered c.step-reply.ensures.not_full
    (record {
      holds = found.pass;
      extends = found.extends;
      terms = found.terms ∙ ap (λ l. l.terms) (c.self.view_is ∙ sym c.requires.ready.lock_is);
      by = numbered;
      grows = c.step-reply.ensures.grown ∙ ap (λ (o : Opened). grown o (entry c.number.result c.args.call c.step-reply.result)) office;
      legal = c.step-reply.ensures.legal;
      passes = c.pass_on.ensures.pass;
      own = c.pass_on.ensures.own;
      whole = c.pass_on.ensures.whole;
    })
