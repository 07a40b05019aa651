use denote.Param.Send.{sendable}
use Rattle.office_core.proofs.Sending.{seat_send}
use Rattle.office_tests.proofs.analysts.run_one.Goals as goal

pub run_worker-ran-requires-send-C : goal.run_worker-ran-requires-send-C
run_worker-ran-requires-send-C g c κs within = search (sendable, seat_send)
