-- The next day's file of an office.
use Rattle.std.specs.Prelude.{ℕ, Bool, not, ◌||◌, ◌==◌, List, length, filter, map, position, unwrap_or}
use Rattle.std.specs.List.{range_with_len}
use Rattle.trip_analysis.specs.Bases.{BaseLists, truck_of}
use Rattle.trip_analysis.specs.Findings.{is_number_among}
use Rattle.trip_analysis.specs.declared.application.Application.{Application}
use Rattle.day_text.specs.Days.{DayParts}
use Rattle.day_text.specs.declared.orders.Order.{Order}
use Rattle.office_words.specs.declared.entry.Command.TheVariants as command
use Rattle.office_core.specs.Happened.{Day, History}
use Rattle.office_core.specs.Machine.{Machine, machine_of, state_in}
use Rattle.day_writer.specs.Sheets.{roads_in_force}
use Rattle.next_day.specs.Standing.{again_over, standing_in}
use Rattle.next_day.specs.declared.standing.Standing.{Standing}

-- the trucks of these permits, by their numbers
abbrev pub trucks_of : List Standing → List ℕ
trucks_of standing = map (λ p. p.trip.truck) standing

-- the numbers of the trucks that go on: all of them, or only those that hold one of these permits
abbrev pub trucks_kept : Bool → ℕ → List Standing → List ℕ
trucks_kept only trucks standing = filter (λ t. not only || is_number_among t (trucks_of standing)) (range_with_len 0 trucks)

-- the place of a truck among those that go on, which is its number on the next day
abbrev pub place_among : List ℕ → ℕ → ℕ
place_among kept truck = unwrap_or (position (λ t. t == truck) kept) 0

-- the application for a permit once more, where the trucks are counted anew
abbrev pub application_on : List ℕ → Day → Standing → Application
application_on kept today p = record (again_over today p) { truck = place_among kept p.trip.truck }

-- the command of its holder that applies for it
abbrev pub order_for : List ℕ → Day → Standing → Order
order_for kept today p = record { actor = p.holder; command = command.Apply (application_on kept today p) }

-- the next day of an office, from what it holds: the roads as they are in force, the trucks that go on, the day that it is, the
-- actors, and an application for each of these permits
abbrev pub next_from : DayParts → Machine → List ℕ → List Standing → DayParts
next_from file m kept standing = record {
  base = record { roads = roads_in_force file.base.roads (state_in file.base m); fleet = map (truck_of file.base) kept };
  day = m.day;
  actors = file.actors;
  commands = map (order_for kept m.day) standing;
}

-- the next day behind a history, with all trucks or only those that hold a permit in force
abbrev pub next_day : Bool → DayParts → History → DayParts
next_day only file es =
    let m = machine_of file.base file.day es in
    let standing = standing_in m es in
    next_from file m (trucks_kept only (length file.base.fleet) standing) standing
