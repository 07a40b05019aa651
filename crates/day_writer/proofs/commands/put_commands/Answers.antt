use Rattle.std.proofs.Common.{◌∙◌, ◌≡◌, ◌<◌, ◌++◌, [], List, ℕ, ap, arith, length, subst, sym}
use Rattle.std.proofs.lemmas.List.{get_or_default}
use Rattle.day_text.specs.declared.orders.Order.{Order}
use Rattle.day_writer.specs.Orders.{command_row, name_at, order_row}
use Rattle.day_writer.specs.Sheets.{parts_of_sheet}
use Rattle.day_writer.specs.Texts.{line}
use Rattle.day_writer.proofs.Writing.{row_more}
use Rattle.day_writer.proofs.commands.put_commands.Goals as goal

pub commands-preserved : goal.commands-preserved
commands-preserved c =
    let file = parts_of_sheet c.args.sheet.now in
    let order = c.index-commands-i.result in
    let is = c.index-commands-i.is in
    let within = c.commands-test.true in
    let low : order.actor < length file.actors =
    subst (λ (o : Order). o.actor < length file.actors) (sym is) (c.requires.writable.kept.callers c.commands.i order (omega (arith, within))) in
    let named : name_at file.actors order.actor ≡ c.index-actors-order.result = get_or_default file.actors order.actor [] c.index-actors-order.result low ∙ sym c.index-actors-order.is in
    row_more (order_row file.base file.actors) file.commands c.commands.i order order c.args.page.now c.commands.page c.put_command.new.page (omega (arith, within)) (sym is) c.commands.invariant
    (c.in_ok-put_command.ensures ∙ ap (λ (name : List ℕ). c.commands.page ++ line (command_row file.base name order.command)) (sym named))
