use Rattle.std.proofs.Common.{All, arith, subst}
use Rattle.std.specs.BTreeMap.{get}
use Rattle.std.specs.Ordering.{nat_cmp}
use Rattle.office_words.specs.declared.entry.Reply.{Reply}
use Rattle.reroute_desk.specs.RecallLists.{HasTruck, HasTrucks}
use Rattle.reroute_desk.proofs.recall_list.push_recalls.Goals as goal

pub recall_of-requires : goal.recall_of-requires
recall_of-requires c =
    let all : All (λ n. HasTruck c.args.base.now (get nat_cmp c.args.trucks.now n)) c.as_slice-number-items.result.now =
    rw c.as_slice-number-items.ensures (subst (λ (r : Reply). HasTrucks c.args.base.now (get nat_cmp c.args.trucks.now) r) c.in-Posted.is c.requires) in
    all c.loop-number.number-index 0 (omega arith)
