use Rattle.std.proofs.Common.{◌∙◌, List, [], ◌∷◌, ◌++◌, Err, Ok, ap, subst, sym}
use Rattle.road_graph.specs.Roads.{IsRoads}
use Rattle.trip_analysis.specs.Bases.{AreTrains, BaseLists}
use Rattle.office_core.specs.Offices.{Opened}
use Rattle.office_core.specs.Promises.{KeepsPromises}
use Rattle.reroute_desk.specs.declared.handled.Handled.{Handled}
use Rattle.reroute_desk.specs.Desks.{Desk, HasGoneOn, IsRerouteCause, desk_of}
use Rattle.reroute_desk.proofs.Asking.{gone_on, may_answer, may_ask, refused_so}
use Rattle.reroute_desk.proofs.Going.{gone_nowhere}
use Rattle.reroute_desk.proofs.Handling.{pushed, unpushed}
use Rattle.reroute_desk.proofs.rerouter.Rerouter.apply_again.Given.{Over}
use Rattle.reroute_desk.proofs.rerouter.Rerouter.apply_again.Goals.{In-Err}
use Rattle.reroute_desk.proofs.rerouter.Rerouter.apply_again.Goals as goal

pub returns-in_err-reserve-clause-gone : goal.returns-in_err-reserve-clause-gone
returns-in_err-reserve-clause-gone g c =
    let d = c.args.self.now in
    let o = c.args.office.now.office in
    let r = c.from_residual.result in
    subst (λ (x : Desk). HasGoneOn d o r x o) (sym (unpushed c.self.inside d c.reserve.new.self.items c.self.view_is c.reserve.ensures.items))
    (gone_nowhere d o r d.notes c.requires.kept c.requires.kept.noted)

pub step-requires-clause-asked : goal.step-requires-clause-asked
step-requires-clause-asked g c =
    let promises = subst (λ (x : Opened). KeepsPromises x.base x.opening x.history) c.office.ensures c.history-history.ensures.promises in
    may_ask c.args.self.now c.args.office.now.office promises c.args.old c.requires.next c.args.trip c.requires.trip c.requires.in_time

pub kept-requires : goal.kept-requires
kept-requires g c =
    let promises = subst (λ (x : Opened). KeepsPromises x.base x.opening x.history) c.office.ensures c.history-history.ensures.promises in
    let same = c.base.ensures ∙ ap (λ (x : Opened). x.base) c.office-2.ensures in
    may_answer c.args.self.now c.args.office.now.office promises c.args.old c.requires.next c.args.trip c.requires.trip c.requires.in_time
    c.self.inside.caller c.step.result c.step.new.self.office c.step.ensures.full (λ full. ap (λ x. x.office) (c.step.ensures.unchanged full)) c.step.ensures.not_full c.step.ensures.grown c.step.ensures.legal
    (subst (λ (b : BaseLists). IsRoads b.roads) same c.lists_are_in_order.ensures.roads)
    (subst AreTrains same c.lists_are_in_order.ensures.trains)

pub returns-in-Ok-clause-gone : goal.returns-in-Ok-clause-gone
returns-in-Ok-clause-gone g c =
    let promises = subst (λ (x : Opened). KeepsPromises x.base x.opening x.history) c.office.ensures c.history-history.ensures.promises in
    let d = c.args.self.now in
    let o = c.args.office.now.office in
    let now = c.step.new.self.office in
    let h : Handled = record { old = c.args.old; what = c.in-Ok.what } in
    subst (λ (x : Desk). HasGoneOn d o (Ok tt) x now)
    (sym (pushed c.self.inside d c.push_reserved.new.self.items h c.self.view_is (c.push_reserved.ensures.items ∙ ap (λ (l : List Handled). l ++ h ∷ []) c.reserve.ensures.items)))
    (gone_on d o promises c.args.old c.requires.next c.args.trip c.requires.trip c.requires.in_time
    c.self.inside.caller c.step.result now c.step.ensures.full (λ full. ap (λ x. x.office) (c.step.ensures.unchanged full)) c.step.ensures.not_full c.step.ensures.grown c.step.ensures.legal
    c.requires.kept (ap (λ (x : Desk). x.caller) c.self.view_is) c.in-Ok.what c.in-Ok.ensures.kept c.in-Ok.ensures.not_ended)

-- what the refusal leaves, and why it came
refused : (g : Over) (c : In-Err g) → HasGoneOn c.args.self.now c.args.office.now.office (Err c.in-Err.refusal) (desk_of (record c.self.inside { handled = c.reserve.new.self })) c.step.new.self.office × IsRerouteCause (desk_of (record c.self.inside { handled = c.reserve.new.self })) c.step.new.self.office c.in-Err.refusal
refused g c =
    let promises = subst (λ (x : Opened). KeepsPromises x.base x.opening x.history) c.office.ensures c.history-history.ensures.promises in
    let d = c.args.self.now in
    let o = c.args.office.now.office in
    let now = c.step.new.self.office in
    subst (λ (x : Desk). HasGoneOn d o (Err c.in-Err.refusal) x now × IsRerouteCause x now c.in-Err.refusal) (sym (unpushed c.self.inside d c.reserve.new.self.items c.self.view_is c.reserve.ensures.items))
    (refused_so d o promises c.args.old c.requires.next c.args.trip c.requires.trip c.requires.in_time
    c.self.inside.caller c.step.result now c.step.ensures.full (λ full. ap (λ x. x.office) (c.step.ensures.unchanged full)) c.step.ensures.not_full c.step.ensures.grown c.step.ensures.legal
    c.requires.kept (ap (λ (x : Desk). x.caller) c.self.view_is) c.in-Err.refusal c.in-Err.ensures.refused)

pub returns-in-Err-clause-gone : goal.returns-in-Err-clause-gone
returns-in-Err-clause-gone g c = (refused g c).0

pub returns-in-Err-clause-refused : goal.returns-in-Err-clause-refused
returns-in-Err-clause-refused g c = (refused g c).1
