use Rattle.std.proofs.Common.{arith, ◌≤◌}
use Rattle.permit_book.proofs.Numbered.{number_found}
use Rattle.permit_book.proofs.book.Book.get.Goals as goal

pub returns-clause-number : goal.returns-clause-number
returns-clause-number c = let some : 1 ≤ c.args.number = omega (arith, c.if-number-eq0.false) in
    number_found c.get.result c.deref.result.now c.self.inside.permits.items c.args.number c.deref.ensures.value c.self.invariant some c.get.ensures.lookup.0 c.get.ensures.lookup.1
