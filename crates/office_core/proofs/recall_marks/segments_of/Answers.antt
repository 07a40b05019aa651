use Rattle.std.proofs.Common.{ap, refl, sym, ◌∙◌}
use Rattle.std.specs.List.{concat}
use Rattle.permit_book.specs.declared.permit.Permit.{Permit}
use Rattle.office_core.proofs.Indexing.{found_at}
use Rattle.office_core.proofs.recall_marks.segments_of.Goals as goal

pub returns : goal.returns
returns c = c.all.ensures ∙ ap (λ (p : Permit). concat p.trip.routes) (sym c.index-permits-number.is ∙ found_at c.args.permits.now c.args.permits.now c.args.number c.index-permits-number.result refl c.requires c.index-permits-number.is)
