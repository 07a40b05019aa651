use denote.Param.Send.{sendable}
use denote.Param.SendFields.{as_row_send, declared_send}
use Rattle.std.proofs.Crossing.{crosses}
use Rattle.office_desk.proofs.Sending.{desk_sync, pass_send}
use Rattle.office_tests.proofs.desks.both_at_once.Goals as goal

pub join_mut-requires-send-F : goal.join_mut-requires-send-F
join_mut-requires-send-F g c κs within = search (sendable, declared_send, as_row_send, crosses, pass_send, desk_sync, tt) depth 20
