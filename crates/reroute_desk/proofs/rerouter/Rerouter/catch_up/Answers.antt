use Rattle.std.proofs.Common.{◌≡◌, ◌∙◌, ℕ, ◌+◌, Ok, Result, ap, get_or, rules, length, subst, sym, arith}
use Rattle.office_core.specs.Happened.{History, Numbers}
use Rattle.office_core.specs.Offices.{Opened}
use Rattle.reroute_desk.specs.declared.refusal.RerouteRefusal.{RerouteRefusal}
use Rattle.reroute_desk.specs.Desks.{Desk, HasGoneOn, IsNext}
use Rattle.reroute_desk.specs.Notes.{AreNotes, Noted}
use Rattle.reroute_desk.proofs.Going.{gone_further, gone_nowhere}
use Rattle.reroute_desk.proofs.Handling.{renoted}
use Rattle.reroute_desk.proofs.Left.{all_handled, next_left, read_whole}
use Rattle.reroute_desk.proofs.rerouter.Rerouter.catch_up.Goals as goal

pub returns-in_err-read_on-clause-gone : goal.returns-in_err-read_on-clause-gone
returns-in_err-read_on-clause-gone g c =
    let d = c.args.self.now in
    let o = c.args.office.now.office in
    let r = c.from_residual.result in
    let are = subst (λ (l : History). AreNotes c.read_on.new.self l) (c.history.ensures.entries ∙ ap (λ (x : Opened). x.history) c.office.ensures) c.read_on.ensures.notes in
    subst (λ (x : Desk). HasGoneOn d o r x o) (sym (renoted c.self.inside d c.read_on.new.self c.self.view_is)) (gone_nowhere d o r c.read_on.new.self c.requires are)

pub permits-init : goal.permits-init
permits-init g c =
    let d = c.args.self.now in
    let o = c.args.office.now.office in
    let all : c.history.result.now ≡ o.history = c.history.ensures.entries ∙ ap (λ (x : Opened). x.history) c.office.ensures in
    let are = subst (λ (l : History). AreNotes c.read_on.new.self l) all c.read_on.ensures.notes in
    record {
      gone = subst (λ (x : Desk). HasGoneOn d o (Ok tt) x o) (sym (renoted c.self.inside d c.read_on.new.self c.self.view_is)) (gone_nowhere d o (Ok tt) c.read_on.new.self c.requires are);
      recalled = read_whole c.read_on.new.self o.history are (c.in_ok-read_on.ensures.whole ∙ ap length all);
      count = ap length c.recalled-count.ensures;
      at = omega (arith, c.len-at.ensures);
    }

pub handle-requires-clause-left : goal.handle-requires-clause-left
handle-requires-clause-left g c =
    let l = c.permits.invariant in
    let same : c.recalled.result.now ≡ c.permits.self.notes.recalled = c.recalled.ensures ∙ ap (λ (x : Desk). x.notes.recalled) c.self-in-permits.view_is in
    subst (λ (ns : Numbers). IsNext c.permits.self c.permits.office.office (get_or ns c.permits.at 0)) (sym same)
    (next_left c.permits.self c.permits.office.office c.permits.self.notes.recalled c.permits.at l.gone.kept.first l.recalled l.at (omega (arith, l.count, c.permits-test.true)))

pub returns-in_err-handle-clause-gone : goal.returns-in_err-handle-clause-gone
returns-in_err-handle-clause-gone g c =
    let l = c.permits.invariant in
    gone_further c.args.self.now c.args.office.now.office c.permits.self c.permits.office.office c.from_residual-in_err-handle.result c.handle.new.self c.handle.new.office.office l.gone (subst (λ (r : Result (Unit {0}) RerouteRefusal). HasGoneOn c.permits.self c.permits.office.office r c.handle.new.self c.handle.new.office.office) (search rules) c.handle.ensures.gone)

pub permits-preserved : goal.permits-preserved
permits-preserved g c =
    let l = c.permits.invariant in
    let went : HasGoneOn c.permits.self c.permits.office.office (Ok tt) c.handle.new.self c.handle.new.office.office = c.in_ok-handle.ensures.gone in
    record {
      gone = gone_further c.args.self.now c.args.office.now.office c.permits.self c.permits.office.office (Ok tt) c.handle.new.self c.handle.new.office.office l.gone went;
      recalled = ap (λ (x : Noted). x.recalled) c.handle.ensures.notes ∙ (l.recalled ∙ sym went.recalls_none);
      count = l.count ∙ ap (λ (x : Noted). length x.recalled) (sym c.handle.ensures.notes);
      at = c.in_ok-handle.ensures.one ∙ ap (λ (n : ℕ). n + 1) l.at;
    }

pub returns-clause-all : goal.returns-clause-all
returns-clause-all g c =
    let l = c.permits.invariant in
    all_handled c.permits.self c.permits.office.office c.permits.self.notes.recalled l.gone.kept.first l.recalled (omega (arith, l.count, l.at, c.permits-test.false))
