use Rattle.std.proofs.Common.{◌≡◌, take}
use Rattle.next_day.specs.Standing.{standing_in}
use Rattle.next_day.proofs.standing.find_standing.Given as goal

abbrev pub invariant-entries : goal.invariant-entries
invariant-entries l = l.found.items ≡ standing_in l.office.machine (take l.entry-index l.history)
