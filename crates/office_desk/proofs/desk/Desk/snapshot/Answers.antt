use Rattle.std.proofs.Common.{ap, sym, ◌∙◌}
use Rattle.office_words.specs.declared.entry.Call.TheVariants as call
use Rattle.office_words.specs.declared.entry.Entry.{Entry}
use Rattle.office_words.specs.declared.entry.Reply.TheVariants as reply
use Rattle.office_core.specs.Machine.{version_of}
use Rattle.office_core.specs.Offices.{Opened, entry, grown, machine_in}
use Rattle.office_turn.specs.Told.{Passing}
use Rattle.office_desk.specs.Desks.{Terms}
use Rattle.office_desk.proofs.Answering.{looks}
use Rattle.office_desk.proofs.desk.Desk.snapshot.Goals as goal

pub returns-in-Ok-clause-answered : goal.returns-in-Ok-clause-answered
returns-in-Ok-clause-answered g c =
    let found = c.in-Ok.ensures in
    let numbered = c.number.ensures.number ∙ ap (λ (p : Passing Entry Terms). p.number) found.pass in
    let office = ap (λ d. d.counted.office) c.value.ensures.value in
    let after = c.look-looked.new.self.counted.office in
    looks c.args.pass.now c.hold.new.pass c.pass_on.new.pass c.in-Ok.held.value.counted.office after c.number.result c.look-looked.result
    numbered c.look-looked.ensures.out
    (record {
      holds = found.pass;
      extends = found.extends;
      terms = found.terms ∙ ap (λ l. l.terms) (c.self.view_is ∙ sym c.requires.ready.lock_is);
      by = numbered;
      grows = c.look-looked.ensures.grown ∙ ap (λ (o : Opened). grown o (entry c.number.result call.Snapshot (reply.SnapshotAt (version_of (machine_in after))))) office;
      legal = c.look-looked.ensures.legal;
      passes = c.pass_on.ensures.pass;
      own = c.pass_on.ensures.own;
      whole = c.pass_on.ensures.whole;
    })
