use Rattle.std.proofs.Common.{◌∙◌}
use Rattle.journal_whole.proofs.Seating.{ended_at}
use Rattle.journal_whole.proofs.seat.Seat.behind_command.Goals as goal

pub returns-clause-left : goal.returns-clause-left
returns-clause-left c = c.from_place.ensures.left ∙ ended_at c.args.orders.now c.args.self.now c.requires.there c.requires.seat
