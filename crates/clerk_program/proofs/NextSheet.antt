-- The sheet of the next day behind a whole one.
use Rattle.std.proofs.Common.{◌≡◌, ◌∙◌, ◌<◌, ◌≤◌, ℕ, Bool, List, length, map, ap, sym, subst, arith}
use Rattle.std.specs.Prelude.{All}
use Rattle.std.specs.Arc.{arc_value}
use Rattle.std.proofs.lemmas.List.{length-map}
use Rattle.restriction_log.specs.States.{AreOf}
use Rattle.trip_analysis.specs.Bases.{BaseLists, truck_of}
use Rattle.office_core.specs.Machine.{Machine, machine_of, state_in}
use Rattle.day_writer.specs.Sheets.{IsSheet, parts_of_sheet, roads_in_force}
use Rattle.day_writer.specs.Writable.{IsWritable}
use Rattle.day_writer.specs.declared.write.Sheet.{Sheet}
use Rattle.next_day.specs.Laws.{IsNextDay}
use Rattle.next_day.specs.NextDay.{next_day, order_for, trucks_kept}
use Rattle.next_day.specs.Standing.{standing_in}
use Rattle.next_day.specs.declared.going_on.NextDay.{NextDay}
use Rattle.next_day.specs.declared.standing.Standing.{Standing}
use Rattle.next_day.proofs.Kept.{kept_there}
use Rattle.next_day.proofs.Writable.{next_days}
use Rattle.clerk_program.specs.declared.whole_day.WholeDay.{WholeDay}
use Rattle.clerk_program.specs.Carrying.{GoesOn, IsReadyToCarry}
use Rattle.clerk_program.specs.Judging.{file_of}

module _ (in_force : Bool) (d : WholeDay) (ready : IsReadyToCarry d) where
  abbrev Left : Machine
  Left = machine_of (arc_value d.base) d.day d.history.items

  abbrev There : List Standing
  There = standing_in Left d.history.items

  abbrev Kept : List ℕ
  Kept = trucks_kept in_force (length (arc_value d.base).fleet) There

  again : IsNextDay in_force (file_of d) d.history.items
  again = next_days in_force (file_of d) d.history.items ready.writable ready.legal ready.whole

  pub few_standing : length There ≤ 1000000
  few_standing = omega (arith, again.writable.kept.few_commands, length-map There (order_for Kept Left.day))

  -- what was found to go on
  module _ (next : NextDay) (found : GoesOn in_force d next) where
    pub standing_is : next.standing.items ≡ There
    standing_is = found.standing ∙ ap (λ (m : Machine). standing_in m d.history.items) ready.left.machine

    trucks_are : next.trucks.items ≡ Kept
    trucks_are = found.kept ∙ ap (trucks_kept in_force (length (arc_value d.base).fleet)) standing_is

    commands_are : next.commands.items ≡ map (order_for Kept Left.day) There
    commands_are = found.commands ∙ (ap (λ (ts : List ℕ). map (order_for ts d.office.machine.day) next.standing.items) trucks_are
        ∙ (ap (λ (m : Machine). map (order_for Kept m.day) next.standing.items) ready.left.machine ∙ ap (map (order_for Kept Left.day)) standing_is))

    -- and the sheet of it
    module _ (s : Sheet) (base : s.base.now ≡ arc_value d.base) (state : s.state.now ≡ state_in d.office.base d.office.machine) (of_trucks : s.trucks.now ≡ next.trucks.items)
        (today : s.day ≡ d.office.machine.day) (actors : s.actors.now ≡ d.actors.items) (orders : s.commands.now ≡ next.commands.items) where
      state_is : s.state.now ≡ state_in (arc_value d.base) Left
      state_is = state ∙ (ap (λ (b : BaseLists). state_in b d.office.machine) ready.left.base_is ∙ ap (state_in (arc_value d.base)) ready.left.machine)

      pub parts_are : parts_of_sheet s ≡ next_day in_force (file_of d) d.history.items
      parts_are =
          let trucks_on = of_trucks ∙ trucks_are in
          let today_is = today ∙ ap (λ (m : Machine). m.day) ready.left.machine in
          let orders_are = orders ∙ commands_are in
          λ i. record {
            base = record { roads = roads_in_force (base i).roads (state_is i); fleet = map (truck_of (base i)) (trucks_on i) };
            day = today_is i;
            actors = actors i;
            commands = orders_are i;
          }

      pub sheet_writable : IsWritable (parts_of_sheet s)
      sheet_writable = subst IsWritable (sym parts_are) again.writable

      pub sheet_there : AreOf d.office.base.roads s.state.now → IsSheet s
      sheet_there of_roads = record {
        of_roads = subst (λ (b : BaseLists). AreOf b.roads s.state.now) (ready.left.base_is ∙ sym base) of_roads;
        trucks = subst (λ (b : BaseLists). All (λ t. t < length b.fleet) s.trucks.now) (sym base)
            (subst (All (λ t. t < length (arc_value d.base).fleet)) (sym (of_trucks ∙ trucks_are)) (kept_there in_force (arc_value d.base) There));
      }
