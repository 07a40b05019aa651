use Rattle.std.proofs.Common.{List, arith, length, subst, take_all}
use Rattle.office_words.specs.declared.entry.Entry.{Entry}
use Rattle.journal_whole.specs.declared.seat.Seat.{Seat}
use Rattle.journal_whole.specs.Seats.{AreSeats, IsFirstLeft}
use Rattle.journal_whole.proofs.Seating.{foreign_seated, lacking_seated, refused_seated, taken_seated, whole_seated}
use Rattle.journal_whole.proofs.judging.judge_all.Goals as goal

pub returns-then-caller-len : goal.returns-then-caller-len
returns-then-caller-len c =
    foreign_seated _ _ _ _ _ c.entries.invariant c.entries-test.true _ c.index-history-i.is (omega (arith, c.if-caller-len.true, c.len.ensures, c.entries.invariant.count))

pub returns-in-None : goal.returns-in-None
returns-in-None c =
    refused_seated _ _ _ _ _ c.entries.invariant c.entries-test.true _ c.index-history-i.is _ c.index.ensures (omega (arith, c.if-caller-len.false, c.len.ensures, c.entries.invariant.count)) c.in-None.ensures

pub entries-preserved : goal.entries-preserved
entries-preserved c =
    taken_seated _ _ _ _ _ c.entries.invariant c.entries-test.true _ c.index-history-i.is _ _ c.index.ensures (omega (arith, c.if-caller-len.false, c.len.ensures, c.entries.invariant.count)) c.in-Some.ensures

pub returns-then-order-orders : goal.returns-then-order-orders
returns-then-order-orders c =
    lacking_seated _ _ _ _ _
    (subst (λ (es : List Entry). AreSeats (length c.args.seats.now.items) c.args.orders.now es c.entries.seats.items) (take_all c.entries.i c.args.history.now c.entries-test.false) c.entries.invariant)
    (subst (λ (seats : List Seat). IsFirstLeft seats (length c.args.orders.now) c.first_left-order.result) c.deref.ensures.value c.first_left-order.ensures) c.if-order-orders.true

pub returns-else-order-orders : goal.returns-else-order-orders
returns-else-order-orders c =
    let first = subst (λ (seats : List Seat). IsFirstLeft seats (length c.args.orders.now) c.first_left-order.result) c.deref.ensures.value c.first_left-order.ensures in
    whole_seated _ _ _ _
    (subst (λ (es : List Entry). AreSeats (length c.args.seats.now.items) c.args.orders.now es c.entries.seats.items) (take_all c.entries.i c.args.history.now c.entries-test.false) c.entries.invariant)
    (λ i d inside. omega (arith, first.least i d inside, c.if-order-orders.false))
