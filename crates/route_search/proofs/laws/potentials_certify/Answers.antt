use Rattle.route_search.proofs.Uniqueness.{certify, zero_at_goal}
use Rattle.route_search.proofs.laws.potentials_certify.Goals as goal

pub returns : goal.returns
returns c = record {
  certify = λ roads may g ps ok h. certify roads may g ps ok h;
  goal = λ roads may g ps ok h. zero_at_goal roads may g ps ok h;
}
