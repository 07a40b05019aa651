use Rattle.std.proofs.Common.{◌≡◌, ◌∙◌, ap, cond, Some, sym, subst}
use Rattle.std.specs.BTreeMap.{get}
use Rattle.std.specs.Option.{option_or}
use Rattle.std.specs.Ordering.{is_eq, nat_cmp}
use Rattle.trip_analysis.specs.declared.application.Application.{Application}
use Rattle.office_words.specs.declared.entry.Reply.{Reply}
use Rattle.office_core.specs.Happened.{application_in}
use Rattle.reroute_desk.specs.Issues.{issued_by}
use Rattle.reroute_desk.specs.Notes.{Noted, noted_trip_of}
use Rattle.reroute_desk.specs.Replacements.{unasked}
use Rattle.reroute_desk.proofs.Noting.{noted_by}
use Rattle.reroute_desk.proofs.notes.Notes.note.Goals as goal

pub returns-in_ok-insert-in-Issued-clause-trips : goal.returns-in_ok-insert-in-Issued-clause-trips
returns-in_ok-insert-in-Issued-clause-trips c = λ n.
    let a = c.in-Some.application.now in
    let number = c.in-Issued.number in
    let call = c.args.entry.now.call in
    let is : Some a ≡ application_in call = c.in-Some.ensures in
    let now = noted_by number n (application_in call) a (noted_trip_of c.args.self.now n) (get nat_cmp c.insert.new.self n) is
    (c.in_ok-insert-in-Issued.ensures.updates.0 n
    ∙ (ap (λ (v : Application). cond (is_eq (nat_cmp number n)) (Some v) (get nat_cmp c.self.inside.trips n)) c.unasked.ensures
    ∙ ap (λ (x : Noted). cond (is_eq (nat_cmp number n)) (Some (unasked a)) (noted_trip_of x n)) c.self.view_is)) in
    subst (λ (r : Reply). get nat_cmp c.insert.new.self n ≡ option_or (issued_by unasked n call r) (noted_trip_of c.args.self.now n)) (sym c.in-Issued.is) now
