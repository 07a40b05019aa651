use Rattle.std.proofs.Common.{◌≡◌, ◌<◌, sym, subst, ℕ, Option, All, arith, length}
use Rattle.std.specs.BTreeMap.{get}
use Rattle.std.specs.List.{flat_map}
use Rattle.std.specs.Ordering.{nat_cmp}
use Rattle.std.proofs.lemmas.Grind.{common_steps}
use Rattle.std.proofs.Math.Path.{fun_ext}
use Rattle.office_words.specs.declared.entry.Entry.{Entry}
use Rattle.reroute_desk.specs.RecallLists.{HasTrucks, recalls_by}
use Rattle.reroute_desk.proofs.Trucks.{has_trucks}
use Rattle.reroute_desk.proofs.recall_list.recalls.Goals as goal

pub push_recalls-requires : goal.push_recalls-requires
push_recalls-requires c =
    let within : c.loop-entry.entry-index < length c.args.history.now = omega arith in
    let all : All (λ e. HasTrucks c.args.base.now (get nat_cmp c.in_ok-trucks.trucks) e.reply) c.args.history.now =
    subst (λ (trucks : ℕ → Option ℕ). All (λ e. HasTrucks c.args.base.now trucks e.reply) c.args.history.now)
    (sym (fun_ext c.in_ok-trucks.ensures)) (has_trucks c.args.base.now c.args.history.now c.requires) in
    subst (λ (e : Entry). HasTrucks c.args.base.now (get nat_cmp c.in_ok-trucks.trucks) e.reply) (sym c.entry-item.is)
    (all c.loop-entry.entry-index c.entry-item.result within)

pub returns : goal.returns
returns c =
    let all : c.loop-entry.recalls.items ≡ flat_map (λ e. recalls_by c.args.base.now (get nat_cmp c.in_ok-trucks.trucks) e.reply) c.args.history.now = grind (arith, common_steps) in
    subst (λ (trucks : ℕ → Option ℕ). c.loop-entry.recalls.items ≡ flat_map (λ e. recalls_by c.args.base.now trucks e.reply) c.args.history.now)
    (fun_ext c.in_ok-trucks.ensures) all
