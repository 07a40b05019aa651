use Rattle.std.proofs.Common.{ap, rules, subst, sym, ◌∙◌, ◌≡◌, length, Err, List}
use Rattle.day_text.specs.declared.orders.Order.{Order}
use Rattle.day_trial.proofs.Carrying.{sound_for}
use Rattle.office_core.specs.Offices.{Opened}
use Rattle.day_trial.specs.Rerouting.{HasRerouted, HasStopped, IsServingCause, room_for}
use Rattle.day_trial.proofs.Finishing.{where_too_many}
use Rattle.day_trial.proofs.Served.{always, callers_below, keeps_room, passed_on, roads_of, served, too_long, where_refused}
use Rattle.day_trial.proofs.rerouting.serve_counted.Goals as goal

pub carry_out_all-carried-requires-clause-roads : goal.carry_out_all-carried-requires-clause-roads
carry_out_all-carried-requires-clause-roads g c = roads_of c.args.file c.room_for-most.result c.in_ok-lone.lone c.in_ok-lone.ensures.office c.in_ok-lone.ensures.roads

pub carry_out_all-carried-requires-clause-sound : goal.carry_out_all-carried-requires-clause-sound
carry_out_all-carried-requires-clause-sound g c =
    let opened = c.in_ok-lone.ensures in
    sound_for c.args.file c.as_slice.result.now (c.as_slice.ensures.value ∙ opened.orders) c.in_ok-lone.lone c.room_for-most.result opened.office c.requires.file.sound

pub carry_out_all-carried-requires-clause-callers : goal.carry_out_all-carried-requires-clause-callers
carry_out_all-carried-requires-clause-callers g c =
    let are = c.as_slice.ensures.value ∙ c.in_ok-lone.ensures.orders in
    let caller : length c.actors.result.now ≡ length c.args.file.actors = search rules in
    callers_below c.as_slice.result.now c.args.file.commands (length c.args.file.actors) (length c.actors.result.now) are caller c.requires.file.callers

pub returns-clause-served : goal.returns-clause-served
returns-clause-served g c =
    let opened = c.in_ok-lone.ensures in
    let are = c.as_slice.ensures.value ∙ opened.orders in
    let caller : length c.actors.result.now ≡ length c.args.file.actors = search rules in
    let now = c.into_office-office.result in
    let has = subst (λ (n : Opened). HasRerouted c.in_ok-lone.lone n (length c.actors.result.now) c.as_slice.result.now) (sym c.into_office-office.ensures) c.in_ok-carried.ensures.served in
    served c.args.file c.room_for-most.result c.in_ok-lone.lone (length c.actors.result.now) c.as_slice.result.now opened.office caller are now has c.history-history.ensures.legal c.history-history.ensures.promises

pub returns-clause-room : goal.returns-clause-room
returns-clause-room g c =
    let opened = c.in_ok-lone.ensures in
    let room : c.room_for-most.result ≡ room_for (length c.args.file.commands) = c.room_for-most.ensures.value ∙ ap (λ (l : List Order). room_for (length l)) c.commands.ensures in
    let now = c.into_office-office.result in
    let has = subst (λ (n : Opened). HasRerouted c.in_ok-lone.lone n (length c.actors.result.now) c.as_slice.result.now) (sym c.into_office-office.ensures) c.in_ok-carried.ensures.served in
    keeps_room c.args.file c.room_for-most.result c.in_ok-lone.lone (length c.actors.result.now) c.as_slice.result.now opened.office now has (length c.args.file.commands) room

pub returns-in_err-carried-clause-refused : goal.returns-in_err-carried-clause-refused
returns-in_err-carried-clause-refused g c =
    let opened = c.in_ok-lone.ensures in
    let are = c.as_slice.ensures.value ∙ opened.orders in
    let caller : length c.actors.result.now ≡ length c.args.file.actors = search rules in
    let now = c.into_office-office.result in
    let room : c.room_for-most.result ≡ room_for (length c.args.file.commands) = c.room_for-most.ensures.value ∙ ap (λ (l : List Order). room_for (length l)) c.commands.ensures in
    let q = c.in_err-carried.field-0.0 in
    let has = where_too_many (Err q) (subst (λ (n : Opened). HasStopped c.in_ok-lone.lone n (length c.actors.result.now) c.as_slice.result.now) (sym c.into_office-office.ensures)) c.in_err-carried.ensures.stopped in
    passed_on (IsServingCause c.args.file) c.from_residual-in_err-carried.result q c.from_residual-in_err-carried.ensures.1
    (where_refused c.args.file q (λ stopped long. too_long c.args.file c.room_for-most.result c.in_ok-lone.lone (length c.actors.result.now) c.as_slice.result.now opened.office caller are
    c.runs_are_one.ensures.first opened.roads room now c.history-history.ensures.legal c.history-history.ensures.promises c.history-history.ensures.few stopped long) has c.in_err-carried.ensures.refused)

pub returns-in_err-carried-clause-long_roads : goal.returns-in_err-carried-clause-long_roads
returns-in_err-carried-clause-long_roads g c = always c.from_residual-in_err-carried.result c.in_ok-lone.ensures.roads
