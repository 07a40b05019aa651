use Rattle.std.proofs.Common.{◌≡◌, ◌∙◌, [], ap, arith, subst, sym}
use Rattle.office_core.specs.Machine.{entries_by}
use Rattle.office_core.specs.Offices.{Opened}
use Rattle.reroute_desk.specs.Desks.{Desk, KeepsUp}
use Rattle.reroute_desk.proofs.Keeping.{new_keeps}
use Rattle.office_tests.proofs.reroutes.beside.Goals as goal

pub returns-clause-kept : goal.returns-clause-kept
returns-clause-kept g c =
    let none : entries_by 1 c.counted.result.office.history ≡ [] = ap (λ (x : Opened). entries_by 1 x.history) c.counted.ensures ∙ ap (entries_by 1) c.office_about-office.ensures in
    subst (λ (d : Desk). KeepsUp d c.counted.result.office) (sym c.new.ensures) (new_keeps 1 c.counted.result.office (omega arith) none)
