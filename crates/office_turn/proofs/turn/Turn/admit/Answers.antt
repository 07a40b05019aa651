use Rattle.std.proofs.Common.{rules}
use Rattle.office_turn.proofs.Admits.{admits}
use Rattle.office_turn.proofs.turn.Turn.admit.Goals as goal

pub split_seat-seat-requires : goal.split_seat-seat-requires
split_seat-seat-requires g c = let i = c.root.invariant in (search rules, search rules, admits _ _ _ _ _ _ _ i.live i.root)
