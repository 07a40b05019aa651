use Rattle.std.proofs.Common.{rules, ◌≡◌, ◌∙◌, ap, List, length}
use Rattle.std.proofs.lemmas.List.{with_items_is}
use Rattle.trip_analysis.specs.declared.base.Truck.{Truck}
use Rattle.trip_analysis.proofs.Learnt.{same_at_each}
use Rattle.trip_analysis.proofs.base.Base.learn_at_once.Goals as goal

pub returns : goal.returns
returns g c =
    let lent : List Truck = c.as_mut_slice.result.now in
    let same : c.for_each_mut.new.s ≡ lent = same_at_each lent c.for_each_mut.new.s (search rules) (λ i d l. let at = (c.for_each_mut.ensures i d l).1 in search rules) in
    let many : length c.for_each_mut.new.s ≡ c.self.inside.fleet.len = search rules in
    let back = with_items_is c.self.inside.fleet c.for_each_mut.new.s many in
    ap (λ (trucks : List Truck). record { roads = c.self.inside.network; fleet = trucks }) (back ∙ same ∙ c.as_mut_slice.ensures.value) ∙ c.self.view_is
