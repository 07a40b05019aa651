use Rattle.std.proofs.Common.{◌≡◌, ◌<◌, Some, length, refl, sym, ◌∙◌, arith}
use Rattle.std.specs.Prelude.{slice_get}
use Rattle.std.proofs.lemmas.Option.{slice_get-get_or}
use Rattle.road_graph.specs.Roads.{no_segment, segment_at}
use Rattle.road_graph.proofs.Keeping.{kept-limit}
use Rattle.road_graph.proofs.network.Network.set_limit.Goals as goal

pub invariant_of-self : goal.invariant_of-self
invariant_of-self c =
    let segments = c.self.inside.segments.items in
    let within : c.args.segment < length segments = omega (arith, c.if-segment-len.false, c.len.ensures, c.self.inside.segments.ok.0) in
    let at : slice_get segments c.args.segment ≡ Some (segment_at segments c.args.segment) = slice_get-get_or segments c.args.segment no_segment within in
    kept-limit c.self.inside c.self.invariant _ c.args.segment (segment_at segments c.args.segment) c.args.what c.args.value at
    (sym c.takes.ensures ∙ c.if-not-takes.false) refl refl c.enter_limit.ensures refl refl refl refl refl
