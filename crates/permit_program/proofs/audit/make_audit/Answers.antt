use Rattle.std.proofs.Common.{◌≡◌, List, length, ℕ, Vec, ◌∙◌, ap, arith, subst}
use Rattle.std.specs.Global.{Global}
use Rattle.office_words.specs.declared.entry.Entry.{Entry}
use Rattle.journal_audit.specs.Verdicts.{IsVerdict}
use Rattle.permit_program.specs.Audit.{legal_history_line}
use Rattle.permit_program.proofs.Audits.{audit_made, refused_day, refused_entry}
use Rattle.permit_program.proofs.audit.make_audit.Goals as goal

pub returns-in-Err-read_day-clause-refused : goal.returns-in-Err-read_day-clause-refused
returns-in-Err-read_day-clause-refused c =
    let cut = c.cut_behind_end-cut.result in
    refused_day c.args.bytes.now cut.front.now cut.rest.now c.cut_behind_end-cut.ensures c.in-Ok.history.items c.in-Ok.ensures.journal c.in-Err-read_day.refused c.of_file.result
    c.in-Err-read_day.ensures.refused c.of_file.ensures

pub returns-in-Legal-clause-made : goal.returns-in-Legal-clause-made
returns-in-Legal-clause-made c =
    let cut = c.cut_behind_end-cut.result in
    let file = c.in-Ok-read_day.file in
    let history = c.in-Ok.history.items in
    let legal : IsVerdict file.base file.day history c.in_ok-judge.field-0 = subst (λ (es : List Entry). IsVerdict file.base file.day es c.in_ok-judge.field-0) c.as_slice.ensures.value c.in_ok-judge.ensures in
    let many : c.len.result ≡ length history = omega (arith, c.len.ensures, c.in-Ok.history.ok.0) in
    audit_made c.args.bytes.now cut.front.now cut.rest.now c.cut_behind_end-cut.ensures history c.in-Ok.ensures.journal file c.in-Ok-read_day.ensures.ok
    (subst (IsVerdict file.base file.day history) c.in-Legal.is legal)
    c.into_bytes.result.items (ap (λ (v : Vec ℕ Global). v.items) c.into_bytes.ensures.value ∙ (c.in_ok-legal_line-in-Legal.ensures ∙ ap legal_history_line many))

pub returns-clause-refused : goal.returns-clause-refused
returns-clause-refused c =
    let cut = c.cut_behind_end-cut.result in
    let file = c.in-Ok-read_day.file in
    let history = c.in-Ok.history.items in
    let bad : IsVerdict file.base file.day history c.in_ok-judge.field-0 = subst (λ (es : List Entry). IsVerdict file.base file.day es c.in_ok-judge.field-0) c.as_slice.ensures.value c.in_ok-judge.ensures in
    refused_entry c.args.bytes.now cut.front.now cut.rest.now c.cut_behind_end-cut.ensures history c.in-Ok.ensures.journal file c.in-Ok-read_day.ensures.ok c.in-Bad.entry
    (subst (IsVerdict file.base file.day history) c.in-Bad.is bad) c.of_entry.result c.of_entry.ensures
