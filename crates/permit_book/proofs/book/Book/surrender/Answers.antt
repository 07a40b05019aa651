use Rattle.std.proofs.Common.{refl}
use Rattle.permit_book.proofs.Numbered.{book_set}
use Rattle.permit_book.proofs.book.Book.surrender.Goals as goal

pub invariant_of-self : goal.invariant_of-self
invariant_of-self c = book_set c.self.inside.permits.items c.args.self.now c.args.number c.index_mut.result.now _ c.self.view_is c.self.invariant c.requires.issued c.index_mut.ensures.value refl
