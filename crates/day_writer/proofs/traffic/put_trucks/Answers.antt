use Rattle.std.proofs.Common.{◌∙◌, ◌≡◌, ◌<◌, arith, get_or, map, length, sym}
use Rattle.std.proofs.lemmas.List.{get_or_default, length-map}
use Rattle.trip_analysis.specs.Bases.{no_truck, truck_of}
use Rattle.day_writer.specs.Rows.{truck_row}
use Rattle.day_writer.proofs.SheetRows.{truck_here}
use Rattle.day_writer.proofs.Writing.{row_more}
use Rattle.day_writer.proofs.traffic.put_trucks.Goals as goal

pub trucks-preserved : goal.trucks-preserved
trucks-preserved c =
    let base = c.args.base.now in
    let trucks = c.args.trucks.now in
    let truck = c.index-fleet-trucks.result in
    let is = rw c.fleet.ensures.value at c.index-fleet-trucks.is in
    let low : get_or trucks c.trucks.i 0 < length base.fleet = c.requires c.trucks.i 0 (omega (arith, c.trucks-test.true)) in
    let here : get_or (map (truck_of base) trucks) c.trucks.i no_truck ≡ truck =
    truck_here base trucks c.trucks.i (omega (arith, c.trucks-test.true)) ∙ (get_or_default base.fleet (get_or trucks c.trucks.i 0) no_truck truck low ∙ sym is) in
    row_more truck_row (map (truck_of base) trucks) c.trucks.i no_truck truck c.args.page.now c.trucks.page c.put_truck.new.page
    (omega (arith, c.trucks-test.true, length-map trucks (truck_of base))) here c.trucks.invariant c.in_ok-put_truck.ensures
