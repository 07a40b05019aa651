use Rattle.std.proofs.Common.{◌≢◌, ap, arith, inl, inr, length, subst, sym}
use Rattle.std.proofs.lemmas.Bool.{cases_lt}
use Rattle.office_core.specs.Offices.{Opened, entry}
use Rattle.reroute_desk.specs.Desks.{KeepsUp}
use Rattle.reroute_desk.proofs.Keeping.{other_keeps}
use Rattle.office_tests.proofs.reroutes.ask.Goals as goal

pub returns : goal.returns
returns g c =
    let d = c.args.desk.now in
    let o = c.args.office.now.office in
    let e = entry 0 c.args.call c.step.result in
    let other : e.caller ≢ d.caller = λ same. absurd (omega (arith, same, c.requires.caller)) in
    elim (cases_lt (length o.history) o.most) [
      | inl place ↦ subst (λ (n : Opened). KeepsUp d n) (sym (c.step.ensures.grown place)) (other_keeps d o e other c.requires.kept)
      | inr full ↦ subst (λ (n : Opened). KeepsUp d n) (sym (ap (λ x. x.office) (c.step.ensures.unchanged full))) c.requires.kept
    ]
