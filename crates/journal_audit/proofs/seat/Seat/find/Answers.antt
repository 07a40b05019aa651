use Rattle.std.proofs.Common.{rules, sym, subst}
use Rattle.snapshot_store.specs.Stores.{state_now}
use Rattle.trip_analysis.specs.Known.{AreKnown}
use Rattle.journal_audit.specs.declared.seat.Seat.{Seat}
use Rattle.journal_audit.proofs.Sitting.{known_anew}
use Rattle.journal_audit.proofs.seat.Seat.find.Goals as goal
use Rattle.journal_audit.proofs.seat.Seat.find.Goals.{in-Some+else-at-seen, in_default}

pub find-requires-2-clause-known : goal.find-requires-2-clause-known
find-requires-2-clause-known g c = let base = c.args.base.now in let next = c.at-snapshot.result.now in
    elim c.match-self.branch [
      | in-Some+else-at-seen w ↦ subst (λ (s : Seat). AreKnown base (state_now next) s.analyst) (sym w.self-is) w.turn_to.ensures.known
      | in_default w ↦ subst (λ (s : Seat). AreKnown base (state_now next) s.analyst) (sym w.self-is)
          (known_anew base c.args.versions.now c.args.self.now.at c.args.self.now.analyst (state_now next) (search rules) c.requires.seat)
    ]
