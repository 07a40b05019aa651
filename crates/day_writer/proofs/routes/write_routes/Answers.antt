use Rattle.std.proofs.Common.{◌<◌, ℕ, List, All, arith, length, subst, sym}
use Rattle.trip_analysis.proofs.Joined.{all_on}
use Rattle.day_writer.proofs.routes.write_routes.Goals as goal

pub write_route-requires : goal.write_route-requires
write_route-requires c =
    let there : ℕ → Type 0 = λ s. s < length c.args.network.now.segments in
    subst (λ (route : List ℕ). All (λ s. s < length c.args.network.now.segments) route) (sym c.route.ensures) (all_on there c.args.routes.now 0 (omega (arith, c.len-count.ensures.routes.some)) c.requires)

pub write_route-requires-in-more : goal.write_route-requires-in-more
write_route-requires-in-more c =
    let there : ℕ → Type 0 = λ s. s < length c.args.network.now.segments in
    subst (λ (route : List ℕ). All (λ s. s < length c.args.network.now.segments) route) (sym c.route-in-more.ensures) (all_on there c.args.routes.now c.more.i (omega (arith, c.len-count.ensures.count)) c.requires)
