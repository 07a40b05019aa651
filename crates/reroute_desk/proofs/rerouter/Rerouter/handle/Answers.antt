use Rattle.std.proofs.Common.{◌≡◌, ◌∙◌, List, [], ◌∷◌, ◌++◌, Ok, true, false, ap, refl, subst, sym}
use Rattle.std.specs.Borrow.{Bor}
use Rattle.std.specs.Option.{option_map}
use Rattle.permit_days.specs.Days.{is_before}
use Rattle.trip_analysis.specs.declared.application.Application.{Application}
use Rattle.office_core.specs.Happened.{Day}
use Rattle.office_core.specs.Machine.{IsLegal}
use Rattle.office_core.specs.Offices.{Opened, machine_in}
use Rattle.office_core.specs.Promises.{KeepsPromises}
use Rattle.reroute_desk.specs.declared.handled.Handled.{Handled}
use Rattle.reroute_desk.specs.declared.handled.HandledAs.TheVariants.{Ended}
use Rattle.reroute_desk.specs.Desks.{Desk, HasGoneOn, office_day}
use Rattle.reroute_desk.proofs.Going.{gone_ended, gone_nowhere}
use Rattle.reroute_desk.proofs.Handling.{again_is, k, last_is, none_left, noted_as, pushed, unpushed}
use Rattle.reroute_desk.proofs.Recalling.{was_issued}
use Rattle.reroute_desk.proofs.rerouter.Rerouter.handle.Goals as goal

pub unreachable-requires : goal.unreachable-requires
unreachable-requires g c =
    let promises = subst (λ (x : Opened). KeepsPromises x.base x.opening x.history) c.office.ensures c.history-history.ensures.promises in
    let legal = subst (λ (x : Opened). IsLegal x.base x.opening x.history) c.office.ensures c.history-history.ensures.legal in
    none_left c.self.inside c.args.self.now c.self.view_is c.args.office.now.office promises legal c.requires.kept c.requires.read c.args.old c.requires.left
    (option_map (λ (a : Bor Application). a.now) c.trip.result) c.trip.ensures (ap (option_map (λ (a : Bor Application). a.now)) c.in_default.is)

pub returns-in_err-reserve-clause-gone : goal.returns-in_err-reserve-clause-gone
returns-in_err-reserve-clause-gone g c =
    let d = c.args.self.now in
    let o = c.args.office.now.office in
    let r = c.from_residual.result in
    subst (λ (x : Desk). HasGoneOn d o r x o) (sym (unpushed c.self.inside d c.reserve.new.self.items c.self.view_is c.reserve.ensures.items))
    (gone_nowhere d o r d.notes c.requires.kept c.requires.kept.noted)

pub returns-then-lt-clause-gone : goal.returns-then-lt-clause-gone
returns-then-lt-clause-gone g c =
    let promises = subst (λ (x : Opened). KeepsPromises x.base x.opening x.history) c.office.ensures c.history-history.ensures.promises in
    let legal = subst (λ (x : Opened). IsLegal x.base x.opening x.history) c.office.ensures c.history-history.ensures.legal in
    let i = c.self.inside in
    let d = c.args.self.now in
    let is = c.self.view_is in
    let o = c.args.office.now.office in
    let today = c.today-today.result in
    let trip = c.in-Some.trip.now in
    let day : today ≡ (machine_in o).day = c.today-today.ensures ∙ ap (λ (x : Opened). (machine_in x).day) c.office-2.ensures in
    let before : is_before trip.last today ≡ true = ap (λ (l : Day). is_before l today) (sym c.last.ensures) ∙ (sym c.lt.ensures ∙ c.if-lt.true) in
    let expired = last_is i d is o promises legal c.requires.kept c.requires.read c.args.old c.requires.left today trip true day c.in-Some.ensures before in
    let known = k i d is o promises legal c.requires.kept c.requires.read c.args.old c.requires.left in
    let h : Handled = record { old = c.args.old; what = Ended } in
    subst (λ (x : Desk). HasGoneOn d o (Ok tt) x o)
    (sym (pushed i d c.push_reserved.new.self.items h is (c.push_reserved.ensures.items ∙ ap (λ (l : List Handled). l ++ h ∷ []) c.reserve.ensures.items)))
    (gone_ended d o c.requires.kept h c.requires.left.0 c.requires.left.1 known.trip known.routes (was_issued known) expired refl refl (Ok tt))

pub apply_again-requires-clause-trip : goal.apply_again-requires-clause-trip
apply_again-requires-clause-trip g c =
    let promises = subst (λ (x : Opened). KeepsPromises x.base x.opening x.history) c.office.ensures c.history-history.ensures.promises in
    let legal = subst (λ (x : Opened). IsLegal x.base x.opening x.history) c.office.ensures c.history-history.ensures.legal in
    again_is c.self.inside c.args.self.now c.self.view_is c.args.office.now.office promises legal c.requires.kept c.requires.read c.args.old c.requires.left
    c.today-today.result c.in-Some.trip.now c.renewed-trip.result (c.today-today.ensures ∙ ap (λ (x : Opened). (machine_in x).day) c.office-2.ensures) c.in-Some.ensures c.renewed-trip.ensures

pub apply_again-requires-clause-in_time : goal.apply_again-requires-clause-in_time
apply_again-requires-clause-in_time g c =
    let promises = subst (λ (x : Opened). KeepsPromises x.base x.opening x.history) c.office.ensures c.history-history.ensures.promises in
    let legal = subst (λ (x : Opened). IsLegal x.base x.opening x.history) c.office.ensures c.history-history.ensures.legal in
    let i = c.self.inside in
    let d = c.args.self.now in
    let is = c.self.view_is in
    let o = c.args.office.now.office in
    let today = c.today-today.result in
    let trip = c.in-Some.trip.now in
    let day : today ≡ (machine_in o).day = c.today-today.ensures ∙ ap (λ (x : Opened). (machine_in x).day) c.office-2.ensures in
    let before : is_before trip.last today ≡ false = ap (λ (l : Day). is_before l today) (sym c.last.ensures) ∙ (sym c.lt.ensures ∙ c.if-lt.false) in
    ap (λ (a : Application). is_before a.last (office_day o)) c.renewed-trip.ensures
    ∙ (ap (λ (a : Application). is_before a.last (office_day o)) (noted_as i d is o promises legal c.requires.kept c.requires.read c.args.old c.requires.left trip c.in-Some.ensures)
    ∙ last_is i d is o promises legal c.requires.kept c.requires.read c.args.old c.requires.left today trip false day c.in-Some.ensures before)
