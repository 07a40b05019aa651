use Rattle.snapshot_store.specs.Stores.{state_now}
use Rattle.trip_analysis.proofs.Flagged.{flags_many}
use Rattle.trip_analysis.proofs.known.Known.at.Goals as goal

pub returns-clause-known : goal.returns-clause-known
returns-clause-known g c =
    let at = c.args.at.now in let flags = c.in_ok-flags.ensures.flags in
    record {
      passable = flags;
      of_roads = record {
        many = flags_many at.base.now (state_now at.snapshot.now) at.truck c.in_ok-flags.field-0.items flags;
        kept = record { settled = tt; region = tt };
      };
    }
