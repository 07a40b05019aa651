use Rattle.std.proofs.Common.{Some, ap, sym, subst}
use Rattle.office_core.specs.Counted.{Counted}
use Rattle.analyst_pool.specs.Interrupted.{Interrupts}
use Rattle.analyst_pool.proofs.Interrupting.{from_seat, touched}
use Rattle.office_tests.proofs.analysts.post.Goals as goal

-- the seat that is gone was the office's, so the office is what the seat left
pub returns : goal.returns
returns g c =
    let reference = Some c.new-seat.result.office.ghost_name in
    let taken = ap (λ o. o.office) c.new-seat.ensures.office in
    let done = touched reference _ _ _ _ (from_seat reference _ _ _ 1 _ _ _ _ _ taken c.new-seat.ensures.caller c.post.ensures) in
    let held = ap (λ t. t.reference) c.post.ensures.who in
    subst (λ (o : Counted). Interrupts c.args.office.now.office o.office) (sym (c.office-1.given.1 (cc (held, c.new-seat.ensures.reference)))) done
