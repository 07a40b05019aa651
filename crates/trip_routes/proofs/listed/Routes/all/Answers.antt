use Rattle.std.proofs.Common.{ap, sym, ◌∙◌}
use Rattle.std.specs.List.{concat}
use Rattle.trip_routes.proofs.Cutting.{cut_joined}
use Rattle.trip_routes.proofs.listed.Routes.all.Goals as goal

pub returns : goal.returns
returns c = c.as_slice.ensures.value ∙ sym (cut_joined c.self.inside.ends.items c.self.inside.segments.items c.self.invariant) ∙ ap concat c.self.view_is
