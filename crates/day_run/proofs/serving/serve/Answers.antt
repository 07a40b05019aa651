use Rattle.std.proofs.Common.{rules, arith, ap, sym, ◌∙◌, ◌≡◌, ◌≢◌, ℕ, ◌*◌, ◌<◌, ◌≤◌, length, subst, All, Some, Option, true}
use Rattle.std.specs.Prelude.{unwrap_or}
use Rattle.std.proofs.Math.Nat.{le-max_right}
use Rattle.day_text.specs.Days.{DayParts}
use Rattle.day_text.specs.Laws.{IsDayFile}
use Rattle.office_desk.specs.Desks.{Terms, no_terms, terms_of}
use Rattle.day_run.specs.declared.ended.Ended.TheVariants as ended
use Rattle.day_run.specs.Served.{IsServed}
use Rattle.day_run.proofs.Histories.{all_served, never_full}
use Rattle.day_run.proofs.Scripts.{scripts_short, scripts_sound}
use Rattle.day_text.proofs.Dealt.{scripts_together}
use Rattle.day_run.proofs.serving.serve.Goals as goal

pub work_all-ended-requires-clause-sound : goal.work_all-ended-requires-clause-sound
work_all-ended-requires-clause-sound g c κs within =
    let file = c.in_ok-file.file in let is_file : IsDayFile file = subst IsDayFile (sym c.in_ok-file.ensures) c.requires.file in
    let base : c.deref.result.now ≡ file.base = search rules in
    rw base (scripts_sound file is_file c.in_ok-desk.field-0.scripts.items c.in_ok-desk.ensures.scripts)

pub work_all-ended-requires-clause-short : goal.work_all-ended-requires-clause-short
work_all-ended-requires-clause-short g c κs within =
    let file = c.in_ok-file.file in let is_file : IsDayFile file = subst IsDayFile (sym c.in_ok-file.ensures) c.requires.file in
    scripts_short file is_file c.in_ok-desk.field-0.scripts.items c.in_ok-desk.ensures.scripts

pub unreachable-requires : goal.unreachable-requires
unreachable-requires g c =
    let ran = c.work_all-ended.ensures in let closes = c.close-closed.ensures in let opened = c.in_ok-desk.ensures in let file = c.in_ok-file.file in
    let is_file : IsDayFile file = subst IsDayFile (sym c.in_ok-file.ensures) c.requires.file in let full = c.in-Full.is in
    let office = c.close-closed.result.0 in let desk = c.in_ok-desk.field-0.desk in let root = c.work_all-ended.new.root in
    let some : c.work_all-ended.result ≢ ended.NoMemory = λ none. cc (sym full ∙ none) in
    let few : root.admitted ≡ length file.actors = omega (arith, ran.admitted some, c.in_ok-desk.field-0.scripts.ok.0, opened.count) in
    let worn : All (λ r. r.worn ≡ true → length office.history ≡ desk.most) root.receipts =
    subst (λ l. All (λ r. r.worn ≡ true → length office.history ≡ l.most) root.receipts) ran.lock closes.worn in
    never_full file desk root.receipts c.in_ok-desk.field-0.scripts.items office.history opened.count opened.scripts closes.own
    (ran.run.each some) (ran.run.full full) (subst (λ (n : ℕ). All (λ e. e.caller < n) office.history) few closes.callers) worn
    (scripts_together file is_file) (subst (λ (n : ℕ). 17 * length file.commands ≤ n) (sym opened.room) (le-max_right 1 (17 * length file.commands)))

pub returns-in-Done-clause-served : goal.returns-in-Done-clause-served
returns-in-Done-clause-served g c =
    let ran = c.work_all-ended.ensures in let closes = c.close-closed.ensures in let opened = c.in_ok-desk.ensures in let file = c.in_ok-file.file in
    let office = c.close-closed.result.0 in let root = c.work_all-ended.new.root in let all = c.in-Done.is in
    let some : c.work_all-ended.result ≢ ended.NoMemory = λ none. cc (sym all ∙ none) in
    let few : root.admitted ≡ length file.actors = omega (arith, ran.admitted some, c.in_ok-desk.field-0.scripts.ok.0, opened.count) in
    let terms : Some (terms_of office) ≡ Some (file.base, file.day, c.in_ok-desk.field-0.desk.most) = closes.terms ∙ (ap (λ l. l.terms) ran.lock ∙ opened.terms) in
    let same = ap (λ (t : Option Terms). unwrap_or t no_terms) terms in
    subst (λ (f : DayParts). IsServed f office.history) c.in_ok-file.ensures (all_served file c.in_ok-desk.field-0.desk root.receipts c.in_ok-desk.field-0.scripts.items office.history
    opened.count opened.scripts closes.own office.opening office.base (ap (λ (t : Terms). t.0) same) (ap (λ (t : Terms). t.1) same)
    closes.legal closes.promises (ran.run.done all) (subst (λ (n : ℕ). All (λ e. e.caller < n) office.history) few closes.callers))
