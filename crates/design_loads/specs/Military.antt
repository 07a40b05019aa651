-- The alternate military loading of the AASHTO Standard Specifications for Highway Bridges.
use Rattle.std.specs.Prelude.{List, [], ◌∷◌}
use Rattle.axle_train.specs.declared.axle.Axle.{Axle}

-- two axles four feet apart with each axle weighing 24,000 pounds (3.7.4)
abbrev pub military_axles : List Axle
military_axles = record { place = 0; weight = 24000 } ∷ record { place = 48; weight = 24000 } ∷ []
