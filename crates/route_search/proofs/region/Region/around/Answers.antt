use Rattle.route_search.proofs.Regions.{from_every}
use Rattle.route_search.proofs.region.Region.around.Goals as goal

pub returns : goal.returns
returns c =
    let all_set = rw c.segments.ensures.count at (c.in_ok-open.ensures.items_if_clones_equal (λ y h. h)) in
    let any = rw c.as_slice-flags.ensures.value at c.in_ok-any.ensures in
    record {
      passable_is = c.in_ok-passable.ensures;
      any_is = from_every c.args.roads.now.network.now c.in_ok-open.open.items c.args.root c.in_ok-any.any all_set any;
      back_is = c.in_ok-leading_in.ensures;
    }
