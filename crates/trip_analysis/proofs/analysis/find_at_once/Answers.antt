use Rattle.std.proofs.Common.{◌∙◌, ap, rules, sym, arith}
use Rattle.std.proofs.lemmas.Grind.{common_steps}
use Rattle.std.specs.Prelude.{option_map}
use Rattle.trip_analysis.proofs.AskedRoutes.{asked_there}
use Rattle.trip_analysis.proofs.Found.{asked_found}
use Rattle.trip_analysis.proofs.analysis.find_at_once.Goals as goal

pub first_on-requires : goal.first_on-requires
first_on-requires g c =
    let a = c.args.application.now in
    let asked = sym c.asked.ensures ∙ ap (option_map (λ n. n.now)) c.in-Some.is in
    record { segments = rw c.all.ensures (asked_there c.args.base.now.roads a.from a.to a.asked c.in-Some.routes.now asked c.requires.sound.asked) }

pub returns-in-Some-first_on-clause-found : goal.returns-in-Some-first_on-clause-found
returns-in-Some-first_on-clause-found g c =
    asked_found c.args.base.now c.args.state.now c.args.application.now c.in-Some.routes.now _
    (grind (arith, common_steps)) (sym c.asked.ensures ∙ ap (option_map (λ n. n.now)) c.in-Some.is) (search rules)

pub returns-in_ok-clone-in-None-clause-found : goal.returns-in_ok-clone-in-None-clause-found
returns-in_ok-clone-in-None-clause-found g c =
    asked_found c.args.base.now c.args.state.now c.args.application.now c.in-Some.routes.now _
    (grind (arith, common_steps)) (sym c.asked.ensures ∙ ap (option_map (λ n. n.now)) c.in-Some.is) (search rules)
