use Rattle.route_search.proofs.Outcomes.{lengths_every}
use Rattle.route_search.proofs.heights.lengths.Goals as goal

pub returns : goal.returns
returns c =
    let flags = rw c.segments.ensures.count at (c.in_ok-open.ensures.items_if_clones_equal (λ y h. h)) in
    lengths_every c.args.network.now c.in_ok-open.open.items c.args.node c.in_ok-lengths.lengths.items flags (rw c.as_slice-flags.ensures.value at c.in_ok-lengths.ensures)
