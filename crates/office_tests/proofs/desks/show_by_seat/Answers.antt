use denote.Param.Send.{sendable}
use Rattle.std.proofs.Crossing.{crosses}
use Rattle.office_desk.proofs.Sending.{seat_send}
use Rattle.office_tests.proofs.desks.show_by_seat.Goals as goal

pub sent-seat-requires-send-C : goal.sent-seat-requires-send-C
sent-seat-requires-send-C g c κs = search (sendable, crosses, seat_send) depth 20
