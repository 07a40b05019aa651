use Rattle.std.proofs.Common.{◌-◌, length, slice_index, arith}
use Rattle.recall_index.proofs.Rising.{below_found, below_missed, below_place}
use Rattle.recall_index.proofs.removal.place_of.Goals as goal

pub returns-then-all-end-clause-below : goal.returns-then-all-end-clause-below
returns-then-all-end-clause-below c = below_place c.args.all.now (length c.args.all.now - length c.args.these.now) (slice_index c.args.these.now 0) c.requires.rising
    (omega (arith, c.if-these-all.true, c.requires.some)) c.if-all-end.true

pub returns-in-Ok-clause-below : goal.returns-in-Ok-clause-below
returns-in-Ok-clause-below c = below_found (slice_index c.args.these.now 0) c.args.all.now c.in-Ok.at c.requires.rising c.in-Ok.ensures.position

pub returns-in-Err-clause-below : goal.returns-in-Err-clause-below
returns-in-Err-clause-below c = below_missed (slice_index c.args.these.now 0) c.args.all.now c.in-Err.at c.requires.rising c.in-Err.ensures.position
