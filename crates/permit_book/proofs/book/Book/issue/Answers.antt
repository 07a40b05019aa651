use Rattle.std.proofs.Common.{◌≡◌, List, length, ap, arith, subst, sym}
use Rattle.permit_book.specs.declared.permit.Permit.{Permit}
use Rattle.permit_book.specs.Books.{IsBook}
use Rattle.permit_book.proofs.Numbered.{book_more}
use Rattle.permit_book.proofs.book.Book.issue.Goals as goal

pub invariant_of-self-2 : goal.invariant_of-self-2
invariant_of-self-2 c =
    let kept = c.in_ok-reserve.ensures.items in
    let count : length c.reserve.new.self.items ≡ c.len-count.result = omega (arith, ap (λ (l : List Permit). length l) kept, c.len-count.ensures) in
    let book : IsBook c.reserve.new.self.items = subst IsBook (sym kept) c.self.invariant in
    subst IsBook (sym c.push_reserved.ensures.items) (book_more c.reserve.new.self.items _ book (omega (arith, count, c.if-count-ge-MOST_PERMITS.false)) (omega (arith, count)))
