use Rattle.std.proofs.Common.{◌∙◌, ◌≡◌, ◌++◌, ap, subst, sym, true}
use Rattle.std.specs.Prelude.{OnOk}
use Rattle.restriction_log.specs.Changes.{replaced_by, takes}
use Rattle.day_text.specs.Bounds.{IsCommandWithin}
use Rattle.day_text.specs.Records.{Row}
use Rattle.day_writer.specs.Orders.{command_row, posting_row}
use Rattle.day_writer.specs.Sheets.{base_in_force, roads_in_force}
use Rattle.day_writer.specs.Texts.{line}
use Rattle.day_writer.proofs.SheetRows.{posting_same, takes_same}
use Rattle.day_writer.proofs.commands.put_command.Goals as goal

pub put_posting-requires : goal.put_posting-requires
put_posting-requires c =
    let base = c.args.sheet.now.base.now in
    let state = c.args.sheet.now.state.now in
    let roads = c.network.ensures in
    let replaced = c.replaced.ensures in
    let within : takes (roads_in_force base.roads state) c.in-Post.change ≡ true = subst (IsCommandWithin (roads_in_force base.roads state)) c.in-Post.is c.requires.within in
    rw (roads, replaced) (sym (takes_same base.roads state (replaced_by c.in-Post.change)) ∙ within)

pub returns-in-Post : goal.returns-in-Post
returns-in-Post c =
    let base = c.args.sheet.now.base.now in
    let state = c.args.sheet.now.state.now in
    let next = base_in_force base state c.args.sheet.now.trucks.now in
    let within : takes (roads_in_force base.roads state) c.in-Post.change ≡ true = subst (IsCommandWithin (roads_in_force base.roads state)) c.in-Post.is c.requires.within in
    let roads = c.network.ensures in
    let replaced = c.replaced.ensures in
    let same : posting_row c.network.result.now c.args.actor c.replaced.result ≡ command_row next c.args.actor c.args.command.now =
    (λ i. posting_row (roads i) c.args.actor (replaced i)) ∙ (sym (posting_same base.roads state c.args.actor (replaced_by c.in-Post.change) within) ∙ ap (command_row next c.args.actor) (sym c.in-Post.is)) in
    subst (λ (fields : Row). OnOk c.put_posting.result (c.put_posting.new.page ≡ c.args.page.now ++ line fields)) same c.put_posting.ensures
