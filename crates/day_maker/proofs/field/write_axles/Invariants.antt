use Rattle.std.proofs.Common.{◌≡◌, ◌∷◌, ◌++◌, take}
use Rattle.std.specs.Prelude.{flat_map}
use Rattle.day_writer.specs.Texts.{axle_text}
use Rattle.day_maker.proofs.field.write_axles.Given as goal

abbrev pub invariant-more : goal.invariant-more
invariant-more l = l.out.items ≡ l.initial.out.items ++ flat_map (λ a. 32 ∷ axle_text a) (take l.axle-index l.more)
