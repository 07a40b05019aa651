use Rattle.std.proofs.Common.{List, ℕ, length, arith, ap}
use Rattle.trip_routes.proofs.Cutting.{cut_length}
use Rattle.trip_routes.proofs.listed.Routes.len.Goals as goal

pub returns-clause-count : goal.returns-clause-count
returns-clause-count c =
    let many = cut_length c.self.inside.ends.items c.self.inside.segments.items in
    let seen = ap (λ (l : List (List ℕ)). length l) c.self.view_is in
    omega (arith, many, seen, c.len.ensures.value)

pub returns-clause-routes : goal.returns-clause-routes
returns-clause-routes c =
    let many = cut_length c.self.inside.ends.items c.self.inside.segments.items in
    let seen = ap (λ (l : List (List ℕ)). length l) c.self.view_is in
    record {
      some = omega (arith, many, seen, c.self.invariant.some);
      few = omega (arith, many, seen, c.self.invariant.few);
    }
