-- The HS20-44 truck of the AASHTO Standard Specifications for Highway Bridges.
use Rattle.std.specs.Prelude.{List, [], ◌∷◌}
use Rattle.axle_train.specs.declared.axle.Axle.{Axle}

-- the truck with its smallest second spacing: 8,000 lb, and 32,000 lb 14 and 28 feet behind it
abbrev pub design_axles : List Axle
design_axles = record { place = 0; weight = 8000 } ∷ record { place = 168; weight = 32000 } ∷ record { place = 336; weight = 32000 } ∷ []
