use Rattle.std.proofs.Common.{◌≡◌, ℕ, take}
use Rattle.std.specs.BTreeMap.{get}
use Rattle.std.specs.Ordering.{nat_cmp}
use Rattle.reroute_desk.specs.RecallLists.{truck_in}
use Rattle.reroute_desk.proofs.recall_list.issued_trucks.Given as goal

abbrev pub invariant-loop-entry : goal.invariant-loop-entry
invariant-loop-entry l = (n : ℕ) → get nat_cmp l.trucks n ≡ truck_in (take l.entry-index l.history) n
