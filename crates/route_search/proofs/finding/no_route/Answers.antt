use Rattle.std.proofs.Common.{◌≡◌, ◌<◌, Some, true, false, length, refl, arith, ◌∙◌, ap, List, Bool, ℕ}
use Rattle.std.specs.Prelude.{slice_get}
use Rattle.std.proofs.lemmas.Option.{slice_get_read}
use Rattle.route_search.proofs.Outcomes.{cut_found, no_road_found}
use Rattle.route_search.proofs.finding.no_route.Goals as goal

-- a bit that was read
bit_at : (all : List Bool) (i : ℕ) (x b : Bool) → slice_get all i ≡ Some x → x ≡ b → slice_get all i ≡ Some b
bit_at all i x b at e = at ∙ ap (λ (y : Bool). Some y) e

pub returns-then-index : goal.returns-then-index
returns-then-index c =
    let t = c.args.trip.now in let roads = t.roads.network.now in
    let flags = rw c.segments.ensures.count at (c.in_ok-open.ensures.items_if_clones_equal (λ y h. h)) in
    let any = rw c.as_slice-flags.ensures.value at c.in_ok-any.ensures in
    let all = c.in_ok-any.any.marks.items in
    let within : t.to < length all = omega (arith, any.marks.many, t.to_is_there) in
    let at = slice_get_read all (length all) t.to c.index.result.now refl within c.index.ensures in
    cut_found roads t.roads.flags.now c.in_ok-open.open.items t.from t.to all c.in_ok-passable.passable.numbers flags c.requires any.marks (bit_at all t.to c.index.result.now true at c.if-index.true) c.in_ok-passable.ensures.numbers

pub returns : goal.returns
returns c =
    let t = c.args.trip.now in let roads = t.roads.network.now in
    let flags = rw c.segments.ensures.count at (c.in_ok-open.ensures.items_if_clones_equal (λ y h. h)) in
    let any = rw c.as_slice-flags.ensures.value at c.in_ok-any.ensures in
    let all = c.in_ok-any.any.marks.items in
    let within : t.to < length all = omega (arith, any.marks.many, t.to_is_there) in
    let at = slice_get_read all (length all) t.to c.index.result.now refl within c.index.ensures in
    no_road_found roads c.in_ok-open.open.items t.from t.to all c.in_ok-any.any.numbers flags any.marks (bit_at all t.to c.index.result.now false at c.if-index.false) any.numbers
