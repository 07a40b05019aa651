use Rattle.std.proofs.Common.{◌≡◌, length}
use Rattle.route_search.specs.Tables.{AreTouched}
use Rattle.route_search.proofs.table.set_back.Given as goal

abbrev pub invariant-back : goal.invariant-back
invariant-back l = record {
  touched : AreTouched l.lengths.items l.touched.items;
  many : length l.lengths.items ≡ length l.fn.lengths.items;
}

abbrev pub decreases-back : goal.decreases-back
decreases-back l = length l.touched.items
