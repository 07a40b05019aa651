use Rattle.std.proofs.Common.{◌∙◌, ap}
use Rattle.trip_analysis.specs.Bases.{BaseLists}
use Rattle.reroute_desk.specs.RecallLists.{recalls_in}
use Rattle.permit_program.proofs.Only.{headline_made, journal_made}
use Rattle.permit_program.proofs.day.make_journal.Goals as goal

pub returns-clause-made : goal.returns-clause-made
returns-clause-made g c =
    let file = c.in-Ok.file in let office = c.in_ok-office.office in
    journal_made c.lone_actors_are_one.ensures c.args.bytes.now c.in_ok-told.told.journal.items c.in_ok-told.told.recalls.items file office.history c.in-Ok.ensures.ok c.in_ok-office.ensures.roads c.in_ok-office.ensures.served
    c.in_ok-told.ensures.journal
    (c.in_ok-told.ensures.recalls ∙ ap (λ (b : BaseLists). recalls_in b office.history) c.in_ok-office.ensures.base)

pub returns-clause-counted : goal.returns-clause-counted
returns-clause-counted g c =
    let file = c.in-Ok.file in let history = c.in_ok-office.office.history in
    record {
      headline = headline_made c.args.bytes.now c.in_ok-told.told.journal.items file history c.in-Ok.ensures.ok c.in_ok-office.ensures.served c.in_ok-told.ensures.journal;
      counted = c.in_ok-office.ensures.counted;
    }
