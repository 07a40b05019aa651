use Rattle.std.proofs.Common.{◌≡◌, ◌++◌, drop, map, option_map}
use Rattle.day_text.specs.Fields.{axle_of, of_each}
use Rattle.day_text.proofs.axles.parse_axles.Given as goal

abbrev pub invariant-parts : goal.invariant-parts
invariant-parts l =
    option_map (λ more. l.list.items ++ more) (of_each axle_of (map (λ x. x.now) (drop l.part-index l.part-items))) ≡ of_each axle_of (map (λ x. x.now) l.part-items)
