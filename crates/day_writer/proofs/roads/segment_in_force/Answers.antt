use Rattle.std.proofs.Common.{◌∙◌, sym}
use Rattle.day_writer.proofs.SheetRows.{segment_here}
use Rattle.day_writer.proofs.roads.segment_in_force.Goals as goal

pub returns : goal.returns
returns c =
    let was = c.segment-segment.ensures.at in
    let limits = c.segment-segment-2.ensures in
    (λ i. record (was i) { base = limits i }) ∙ sym (segment_here c.args.network.now c.args.state.now c.args.i c.requires.there)
