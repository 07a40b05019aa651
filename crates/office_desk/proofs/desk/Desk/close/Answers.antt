use Rattle.std.proofs.Common.{◌≡◌, ◌<◌, Some, length, sym, subst, true}
use Rattle.std.specs.List.{All}
use Rattle.office_words.specs.declared.entry.Entry.{Entry}
use Rattle.office_core.specs.Machine.{entries_by}
use Rattle.office_core.specs.Offices.{Opened}
use Rattle.office_turn.specs.Story.{StartsWith}
use Rattle.office_turn.specs.Told.{HasReceipt}
use Rattle.office_turn.specs.declared.view.Receipt.{Receipt}
use Rattle.office_desk.specs.Desks.{terms_of}
use Rattle.office_desk.proofs.desk.Desk.close.Goals as goal

pub returns-clause-terms : goal.returns-clause-terms
returns-clause-terms g c = let root = c.args.root in
    subst (λ (o : Opened). Some (terms_of o) ≡ root.lock.terms) (sym c.into_parts-office.ensures.office) c.close-counted.ensures.terms

pub returns-clause-seen : goal.returns-clause-seen
returns-clause-seen g c = let root = c.args.root in
    subst (λ (o : Opened). StartsWith o.history root.seen) (sym c.into_parts-office.ensures.office) c.close-counted.ensures.seen

pub returns-clause-own : goal.returns-clause-own
returns-clause-own g c = let root = c.args.root in
    subst (λ (o : Opened). All (λ (r : Receipt Entry). entries_by r.number o.history ≡ r.own) root.receipts)
    (sym c.into_parts-office.ensures.office) c.close-counted.ensures.own

pub returns-clause-callers : goal.returns-clause-callers
returns-clause-callers g c = let root = c.args.root in
    subst (λ (o : Opened). All (λ (e : Entry). e.caller < root.admitted) o.history)
    (sym c.into_parts-office.ensures.office) c.close-counted.ensures.callers

pub returns-clause-others : goal.returns-clause-others
returns-clause-others g c = let root = c.args.root in
    subst (λ (o : Opened). All (λ (e : Entry). HasReceipt root.receipts e.caller) o.history)
    (sym c.into_parts-office.ensures.office) c.close-counted.ensures.others

pub returns-clause-worn : goal.returns-clause-worn
returns-clause-worn g c = let root = c.args.root in
    subst (λ (o : Opened). All (λ (r : Receipt Entry). r.worn ≡ true → length o.history ≡ root.lock.most) root.receipts)
    (sym c.into_parts-office.ensures.office) c.close-counted.ensures.worn
