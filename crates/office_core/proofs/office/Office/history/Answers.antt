use Rattle.std.proofs.Common.{subst}
use Rattle.road_graph.specs.Roads.{IsRoads}
use Rattle.trip_analysis.specs.Bases.{AreTrains, BaseLists}
use Rattle.office_core.specs.Machine.{IsLegal}
use Rattle.office_core.specs.Offices.{Opened}
use Rattle.office_core.proofs.Issuing.{recalled_issued}
use Rattle.office_core.proofs.Promises.{keep_promises}
use Rattle.office_core.proofs.office.Office.history.Goals as goal

kept : goal.returns-clause-promises
kept c = let o : Opened = c.args.self.now in let order = c.lists_are_in_order.ensures in
    keep_promises o.base o.opening o.history (subst (λ (b : BaseLists). IsRoads b.roads) c.base.ensures order.roads) (subst AreTrains c.base.ensures order.trains)
    (subst (λ (p : Opened). IsLegal p.base p.opening p.history) c.self.view_is c.self.invariant.legal)

pub returns-clause-promises : goal.returns-clause-promises
returns-clause-promises c = kept c

pub returns-clause-recalled : goal.returns-clause-recalled
returns-clause-recalled c = let o : Opened = c.args.self.now in recalled_issued o.base o.opening o.history (kept c)
