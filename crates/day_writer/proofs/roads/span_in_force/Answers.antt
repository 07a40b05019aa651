use Rattle.std.proofs.Common.{◌∙◌, sym}
use Rattle.day_writer.proofs.SheetRows.{span_here}
use Rattle.day_writer.proofs.roads.span_in_force.Goals as goal

pub returns-clause-value : goal.returns-clause-value
returns-clause-value c =
    let was = c.span-span.ensures.at in
    let rating = c.rating.ensures in
    (λ i. record (was i) { rating = rating i }) ∙ sym (span_here c.args.network.now c.args.state.now c.args.i c.requires.there)
