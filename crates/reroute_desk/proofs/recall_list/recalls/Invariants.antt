use Rattle.std.proofs.Common.{◌≡◌, take}
use Rattle.std.specs.BTreeMap.{get}
use Rattle.std.specs.List.{flat_map}
use Rattle.std.specs.Ordering.{nat_cmp}
use Rattle.reroute_desk.specs.RecallLists.{recalls_by}
use Rattle.reroute_desk.proofs.recall_list.recalls.Given as goal

abbrev pub invariant-loop-entry : goal.invariant-loop-entry
invariant-loop-entry l = l.recalls.items ≡ flat_map (λ e. recalls_by l.base (get nat_cmp l.trucks) e.reply) (take l.entry-index l.history)
