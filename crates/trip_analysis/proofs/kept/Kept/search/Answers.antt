use Rattle.std.proofs.Common.{[], refl}
use Rattle.trip_analysis.proofs.kept.Kept.search.Goals as goal

pub returns-in_ok-found-in-None-clause-found : goal.returns-in_ok-found-in-None-clause-found
returns-in_ok-found-in-None-clause-found c =
    let t = c.args.trip.now in
    let none = rw c.in-None.is at c.in_ok-route.ensures.found in
    let told = c.why.ensures t.roads.network.now t.roads.flags.now t.from t.from c.in_ok-region-in-None.ensures (record {
      joined = record { forth = ([], refl); back = ([], refl) };
      none = none;
    }) in
    rw c.in_ok-found-in-None.was at told
