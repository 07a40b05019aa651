use Rattle.std.proofs.Common.{◌≡◌, ◌++◌, map, take}
use Rattle.std.specs.BTreeMap.{get}
use Rattle.std.specs.Ordering.{nat_cmp}
use Rattle.reroute_desk.specs.RecallLists.{recall_of}
use Rattle.reroute_desk.proofs.recall_list.push_recalls.Given as goal

abbrev pub invariant-loop-number : goal.invariant-loop-number
invariant-loop-number l =
    l.recalls.items ≡ l.fn.recalls.items ++ map (recall_of l.base (get nat_cmp l.trucks) l.version) (take l.number-index l.number-items)
