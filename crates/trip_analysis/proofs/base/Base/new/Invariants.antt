use Rattle.std.proofs.Common.{take}
use Rattle.std.specs.List.{All}
use Rattle.axle_train.specs.Bounds.{IsTrain}
use Rattle.trip_analysis.proofs.base.Base.new.Given as goal

abbrev pub invariant-trucks : goal.invariant-trucks
invariant-trucks l = All (λ t. IsTrain t.load.train) (take l.i l.fleet.items)
