use Rattle.std.proofs.Common.{rules}
use Rattle.office_words.specs.declared.entry.Call.TheVariants as call
use Rattle.office_words.specs.declared.entry.Reply.TheVariants as reply
use Rattle.office_core.specs.Calls.{Answered}
use Rattle.office_core.specs.Machine.{version_of}
use Rattle.office_core.specs.Offices.{machine_in}
use Rattle.office_core.specs.Seats.{calls_of}
use Rattle.office_core.proofs.Callings.{has_room, looked_at}
use Rattle.office_core.proofs.seat.OneSeatOfficeCalls.snapshot.Goals as goal

pub returns-in-Ok-clause-looks : goal.returns-in-Ok-clause-looks
returns-in-Ok-clause-looks g c =
    let at : Answered (calls_of c.args.self.now) call.Snapshot (reply.SnapshotAt (version_of (machine_in c.step.new.self.office.now.office))) (calls_of c.step.new.self) =
    looked_at (calls_of c.args.self.now) (calls_of c.step.new.self) c.step.result c.step.ensures.answered (has_room c.step.result c.in_default.not-Full) in
    search (rules, at)

pub returns-in-Err-clause-looks : goal.returns-in-Err-clause-looks
returns-in-Err-clause-looks g c = (
  version_of (machine_in c.step.new.self.office.now.office),
  looked_at (calls_of c.args.self.now) (calls_of c.step.new.self) c.step.result c.step.ensures.answered (has_room c.step.result c.in_default.not-Full),
)
