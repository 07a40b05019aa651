use Rattle.std.proofs.Common.{◌∙◌, ◌≡◌, ◌<◌, [], ap, arith, get_or, length, sym}
use Rattle.std.proofs.lemmas.List.{get_or_default, length-map}
use Rattle.std.proofs.lemmas.Option.{get_or_from_slice_get}
use Rattle.trip_analysis.specs.Bases.{no_truck, truck_of}
use Rattle.trip_analysis.specs.declared.base.Truck.{Truck}
use Rattle.trip_analysis.proofs.AskedRoutes.{sound_there}
use Rattle.day_writer.specs.Sheets.{base_in_force}
use Rattle.day_writer.proofs.SheetRows.{application_written, asked_same, truck_here}
use Rattle.day_writer.proofs.commands.put_application.Goals as goal

pub write_asked-requires : goal.write_asked-requires
write_asked-requires c =
    let base = c.args.sheet.now.base.now in
    let state = c.args.sheet.now.state.now in
    let next = base_in_force base state c.args.sheet.now.trucks.now in
    rw (c.network-network.ensures, c.asked.ensures) (asked_same base.roads state c.args.application.now.asked (sound_there next c.args.application.now c.requires.sound).along)

pub returns : goal.returns
returns c =
    let base = c.args.sheet.now.base.now in
    let state = c.args.sheet.now.state.now in
    let trucks = c.args.sheet.now.trucks.now in
    let a = c.args.application.now in
    let there : a.truck < length trucks = omega (arith, c.requires.sound.truck, length-map trucks (truck_of base)) in
    let low : get_or trucks a.truck 0 < length base.fleet = c.requires.trucks a.truck 0 there in
    let truck = c.index-fleet-number.result in
    let is = rw (c.fleet.ensures.value, c.truck.ensures) at c.index-fleet-number.is in
    let same : truck_of (base_in_force base state trucks) a.truck ≡ truck =
    truck_here base trucks a.truck there ∙ (get_or_default base.fleet (get_or trucks a.truck 0) no_truck truck low ∙ sym is) in
    let nodes = base.roads.nodes in
    let from = rw (c.network-network.ensures, c.from.ensures) at c.node-from.ensures in
    let to = rw (c.network-network.ensures, c.to.ensures) at c.node-to.ensures in
    let routes = rw (c.network-network.ensures, c.asked.ensures, c.new-routes.ensures.items) at c.in_ok-write_asked.ensures in
    application_written base state trucks c.args.actor a c.args.page.now c.put.new.self truck.name c.node-from.result c.node-to.result c.deref.result.now c.first.result c.last.result
    (ap (λ (t : Truck). t.name) same) (get_or_from_slice_get nodes a.from c.node-from.result [] from) (get_or_from_slice_get nodes a.to c.node-to.result [] to)
    (sym (c.deref.ensures.value ∙ routes)) (sym c.first.ensures) (sym c.last.ensures) c.in_ok-put.ensures
