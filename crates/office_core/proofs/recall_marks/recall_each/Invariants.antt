use Rattle.std.proofs.Common.{◌≡◌, drop}
use Rattle.permit_book.specs.declared.permit.Mark.TheVariants as mark
use Rattle.office_core.specs.Recalls.{AreLive, marked_all}
use Rattle.office_core.proofs.recall_marks.recall_each.Given as goal

abbrev pub invariant-loop-i : goal.invariant-loop-i
invariant-loop-i l = record {
  live : AreLive (mark.Recalled l.version) l.book (drop l.i l.numbers);
  marked : marked_all (mark.Recalled l.version) l.book (drop l.i l.numbers) ≡ marked_all (mark.Recalled l.version) l.fn.book l.numbers;
}
