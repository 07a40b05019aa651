-- What goes on behind a history.
use Rattle.std.specs.Prelude.{◌≡◌, ℕ, Bool, map}
use Rattle.office_core.specs.Happened.{History}
use Rattle.office_core.specs.Machine.{Machine}
use Rattle.next_day.specs.declared.going_on.NextDay.{NextDay}
use Rattle.next_day.specs.NextDay.{order_for, trucks_kept}
use Rattle.next_day.specs.Standing.{standing_in}

-- the permits that stand behind entries which left this machine, the trucks that go on, and an application for each of the permits
pub record IsNext (only : Bool) (trucks : ℕ) (m : Machine) (es : History) (next : NextDay) : Type 0 where
  pub standing : next.standing.items ≡ standing_in m es
  pub kept : next.trucks.items ≡ trucks_kept only trucks next.standing.items
  pub commands : next.commands.items ≡ map (order_for next.trucks.items m.day) next.standing.items
