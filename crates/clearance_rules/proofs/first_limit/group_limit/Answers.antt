-- The worst group decides for all, and is the one that is named.
use Rattle.clearance_rules.proofs.Naming.{worst_within, worst_named}
use Rattle.clearance_rules.proofs.first_limit.group_limit.Goals as goal

pub returns-then-from : goal.returns-then-from
returns-then-from c =
    worst_within c.args.load.now c.worst-worst.result c.args.allowance c.args.segment c.worst-worst.ensures.meaning
    (rw (← c.from.ensures, ← c.from-2.ensures, ← c.from-3.ensures) c.if-from.true)

pub returns : goal.returns
returns c =
    worst_named c.args.load.now c.worst-worst.result c.args.allowance c.args.segment c.worst-worst.ensures.meaning c.worst-worst.ensures.value
    (rw (← c.from.ensures, ← c.from-2.ensures, ← c.from-3.ensures) c.if-from.false)
