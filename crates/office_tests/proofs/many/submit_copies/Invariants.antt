use Rattle.office_core.specs.Machine.{MayAsk}
use Rattle.office_core.specs.Offices.{machine_in}
use Rattle.office_tests.proofs.many.submit_copies.Given as goal

abbrev pub invariant-copies : goal.invariant-copies
invariant-copies g l = MayAsk l.office.base (machine_in l.office) l.call
