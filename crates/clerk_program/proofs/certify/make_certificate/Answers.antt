use Rattle.std.proofs.Common.{◌≡◌, ◌∙◌, ℕ, List, Vec, length, ap, arith}
use Rattle.std.specs.Global.{Global}
use Rattle.office_words.specs.declared.entry.Entry.{Entry}
use Rattle.clerk_program.specs.Certify.{whole_history_line}
use Rattle.clerk_program.proofs.Certificates.{certificate_made, refused_certificate}
use Rattle.clerk_program.proofs.certify.make_certificate.Goals as goal

pub returns-in_ok-whole_line-in-Ok-clause-made : goal.returns-in_ok-whole_line-in-Ok-clause-made
returns-in_ok-whole_line-in-Ok-clause-made c =
    let h = c.in-Ok.ensures.whole in
    let many : c.len.result ≡ length h.whole.history = omega (arith, c.len.ensures, c.in-Ok.day.history.ok.0, ap (λ (es : List Entry). length es) h.history) in
    certificate_made c.args.bytes.now c.into_bytes.result.items h.whole
    (ap (λ (v : Vec ℕ Global). v.items) c.into_bytes.ensures.value ∙ (c.in_ok-whole_line-in-Ok.ensures ∙ ap whole_history_line many))

pub returns-in-Err-clause-refused : goal.returns-in-Err-clause-refused
returns-in-Err-clause-refused c = refused_certificate c.args.bytes.now c.in-Err.refusal c.in-Err.ensures.unfit
