use Rattle.std.proofs.Common.{◌≡◌, length, refl, sym, ◌∙◌}
use Rattle.std.proofs.lemmas.List.{at_drop_all}
use Rattle.permit_book.specs.declared.permit.Mark.TheVariants as mark
use Rattle.office_core.specs.Recalls.{marked_all}
use Rattle.office_core.proofs.Indexing.{index_marked_all}
use Rattle.office_core.proofs.Leaving.{all_live}
use Rattle.office_core.proofs.recall_marks.recall_each.Goals as goal

pub take_out-requires-clause-live : goal.take_out-requires-clause-live
take_out-requires-clause-live c = rw c.permits.ensures.permits (all_live (mark.Recalled c.args.version) refl c.args.book.now c.args.numbers.now c.requires.live)

pub returns-clause-index : goal.returns-clause-index
returns-clause-index c =
    let marked : c.loop-i.book ≡ marked_all (mark.Recalled c.args.version) c.args.book.now c.args.numbers.now =
    sym (at_drop_all (marked_all (mark.Recalled c.args.version) c.loop-i.book) c.args.numbers.now c.loop-i.i c.loop-i-test.false) ∙ c.loop-i.invariant.marked in
    rw marked (index_marked_all (length c.args.index.now) c.args.book.now c.args.index.now c.requires.index c.permits.ensures.book.numbered
    c.take_out.new.index (mark.Recalled c.args.version) c.args.numbers.now refl c.requires.live c.take_out.ensures)
