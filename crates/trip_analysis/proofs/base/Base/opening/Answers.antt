use Rattle.std.proofs.Common.{Some, subst}
use Rattle.trip_analysis.specs.Bases.{BaseLists}
use Rattle.trip_analysis.specs.Openings.{AreOpenings, lists_in}
use Rattle.trip_analysis.proofs.base.Base.opening.Goals as goal

pub returns-in-Some : goal.returns-in-Some
returns-in-Some c =
    let kept = subst (AreOpenings (lists_in c.self.inside)) c.in-Some.is c.self.invariant.openings in
    let own = subst (λ (base : BaseLists). AreOpenings base (Some c.in-Some.openings)) c.self.view_is kept in
    c.flags_in.ensures c.args.self.now (rw c.as_slice.ensures.value own)
