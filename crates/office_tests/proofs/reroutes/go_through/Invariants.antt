use Rattle.std.proofs.Common.{◌≡◌}
use Rattle.reroute_desk.specs.Desks.{KeepsUp}
use Rattle.office_tests.proofs.reroutes.go_through.Given as goal

abbrev pub invariant-entries : goal.invariant-entries
invariant-entries g l = record {
  caller : l.desk.caller ≡ 1;
  kept : KeepsUp l.desk l.office.office;
}
