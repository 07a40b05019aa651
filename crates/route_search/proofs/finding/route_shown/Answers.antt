use Rattle.std.proofs.Common.{◌≡◌, ◌<◌, ℕ, List, Option, Some, None, length, get_or, arith, ◌∙◌, ap}
use Rattle.std.specs.Prelude.{slice_get}
use Rattle.std.proofs.lemmas.Option.{slice_get-get_or}
use Rattle.route_search.proofs.Outcomes.{none_found, route_found}
use Rattle.route_search.proofs.finding.route_shown.Goals as goal

-- a potential that was read
read_at : (ps : List (Option ℕ)) (i : ℕ) (p : Option ℕ) → i < length ps → get_or ps i None ≡ p → slice_get ps i ≡ Some p
read_at ps i p within e = slice_get-get_or ps i None within ∙ ap (λ (y : Option ℕ). Some y) e

pub follow-requires-clause-start : goal.follow-requires-clause-start
follow-requires-clause-start c =
    let t = c.args.trip.now in let ps = c.args.potentials.now in
    read_at ps t.from (Some c.in-Some.length) (omega (arith, c.requires.many, t.from_is_there)) c.in-Some.is

pub returns-in-None : goal.returns-in-None
returns-in-None c =
    let t = c.args.trip.now in let ps = c.args.potentials.now in
    let at = read_at ps t.from None (omega (arith, c.requires.many, t.from_is_there)) c.in-None.is in
    none_found t.roads.network.now t.roads.flags.now t.from t.to ps c.requires at

pub returns-in_ok-segments-in-Some : goal.returns-in_ok-segments-in-Some
returns-in_ok-segments-in-Some c =
    let t = c.args.trip.now in let ps = c.args.potentials.now in
    let at = read_at ps t.from (Some c.in-Some.length) (omega (arith, c.requires.many, t.from_is_there)) c.in-Some.is in
    rw c.of.ensures (route_found t.roads.network.now t.roads.flags.now t.from t.to c.in_ok-segments-in-Some.segments.items c.in-Some.length ps c.in_ok-segments-in-Some.ensures c.requires at)
