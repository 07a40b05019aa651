use Rattle.std.proofs.Common.{arith, subst}
use Rattle.std.specs.List.{All}
use Rattle.std.proofs.lemmas.List.{take_all}
use Rattle.std.proofs.lemmas.List.Elements.{All-more}
use Rattle.axle_train.specs.Bounds.{IsTrain}
use Rattle.trip_analysis.specs.declared.base.Truck.{Truck}
use Rattle.trip_analysis.proofs.base.Base.new.Goals as goal

abbrev HasTrain : Truck → Type 0
HasTrain t = IsTrain t.load.train

pub trucks-preserved : goal.trucks-preserved
trucks-preserved c =
    All-more HasTrain c.args.fleet.items c.trucks.i c.index.result.now (omega (arith, c.trucks-test.true, c.len-i-end.ensures)) c.trucks.invariant
    (subst HasTrain c.index.ensures c.train-train.ensures.bounds)

pub invariant_of-result : goal.invariant_of-result
invariant_of-result c =
    record {
      base = record {
        few = c.requires.few;
        trains = subst (All HasTrain) (take_all c.trucks.i c.args.fleet.items (omega (arith, c.trucks-test.false, c.len-i-end.ensures))) c.trucks.invariant;
      };
      openings = tt;
      heights = tt;
    }
