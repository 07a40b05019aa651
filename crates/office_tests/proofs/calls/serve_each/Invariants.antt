use Rattle.std.proofs.Common.{IfSome}
use Rattle.office_core.specs.Machine.{MayAsk}
use Rattle.office_core.specs.Offices.{machine_in}
use Rattle.office_tests.proofs.calls.serve_each.Given as goal

abbrev pub invariant-entries : goal.invariant-entries
invariant-entries g l = IfSome l.found (MayAsk l.office.office.base (machine_in l.office.office))
