use Rattle.std.proofs.Common.{rules}
use Rattle.office_turn.proofs.Receives.{joins, tallies}
use Rattle.office_turn.proofs.steps.take_in.Goals as goal

pub join_seat-requires : goal.join_seat-requires
join_seat-requires g c = let r = c.requires.root in let p = c.requires.pass in
    (search rules, search rules, p.4, search rules, joins _ _ _ _ _ _ _ _ _ r.1 r.0 p.1 p.0 p.3 p.2)

pub load-requires : goal.load-requires
load-requires g c = (search rules, search rules, tallies _ _ _ _ _ _ _ _ _ (search rules) (search rules))
