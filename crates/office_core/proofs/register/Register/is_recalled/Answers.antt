use Rattle.std.proofs.Common.{◌≡◌, ap, not, sym, true, ◌∙◌}
use Rattle.permit_book.specs.Permits.{in_force, is_in_force, status_of}
use Rattle.office_core.proofs.Indexing.{found_at}
use Rattle.office_core.proofs.Registers.{recalled_so}
use Rattle.office_core.proofs.register.Register.is_recalled.Goals as goal

pub returns-then-is_in_force-clause-value : goal.returns-then-is_in_force-clause-value
returns-then-is_in_force-clause-value g c =
    let p = c.args.self.now in
    let q = c.index-permits-number.result in
    let on : in_force p.machine.day q ≡ true =
    ap (λ day. is_in_force (status_of q day)) (sym c.today.ensures) ∙ (ap is_in_force (sym c.status.ensures) ∙ sym c.if-is_in_force.ensures) in
    ap not c.meets.ensures.value ∙ recalled_so p c.args.state.now c.args.segment c.args.number q c.requires.user c.requires.elsewhere
    (found_at c.permits.result.now p.machine.permits c.args.number q c.permits.ensures.permits c.requires.user.issued c.index-permits-number.is) on
