-- What the loan of a held's value leaves.
use Rattle.std.specs.Borrow.{Lends, Fml, RattleType, MutBor}
use Rattle.office_turn.specs.Told.{Holding}
use Rattle.office_turn.specs.declared.story.Storied.{Ghosts}
use Rattle.office_turn.specs.contracts.held.Held.{the_row}

-- the held ends with the last value behind the reference, and the pass that got it stays
abbrev pub LendsValue : (V E T : RattleType) (g : Ghosts V.Denot E.Denot T.Denot) → MutBor (Holding V.Denot E.Denot T.Denot) → MutBor V.Denot → Fml
LendsValue V E T g held value = Lends (the_row V E T g) V held value (λ w. record held.now { value = w })
