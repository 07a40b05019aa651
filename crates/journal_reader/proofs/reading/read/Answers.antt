use Rattle.std.proofs.Common.{◌≡◌, ◌∙◌, ◌++◌, ℕ, List, None, ap, arith, length, refl, rules, subst, sym}
use Rattle.std.specs.Str.{bytes_eq}
use Rattle.journal_text.specs.Journals.{end_line}
use Rattle.journal_reader.specs.Journals.{IsBadLine, front_of}
use Rattle.journal_reader.specs.Readers.{entry_in}
use Rattle.journal_reader.proofs.Rows.{behind_end, no_header, no_line, unended, whole_journal}
use Rattle.journal_reader.proofs.reading.read.Goals as goal

pub returns-in_default-format_of-clause-refused : goal.returns-in_default-format_of-clause-refused
returns-in_default-format_of-clause-refused c =
    no_header c.args.bytes.now c.in-Some.first.now c.in-Some.rest.now c.in-Some.ensures.found.0 c.in-Some.ensures.found.1 c.in_default-format_of.ensures.none

pub returns-then-not-is_end-clause-refused : goal.returns-then-not-is_end-clause-refused
returns-then-not-is_end-clause-refused c =
    let format = c.in-Some-format_of.format in
    let list = c.lines.list.items in
    let last = c.in-Some-line.found.now in
    let long : length list ≡ c.len-in_default-2.result = omega (arith, c.lines.list.ok.0, c.len-in_default-2.ensures) in
    let no_entry : entry_in format last ≡ None = search rules in
    subst (λ (n : ℕ). IsBadLine c.args.bytes.now n) (omega (arith, c.lines.list.ok.0, c.len.ensures))
    (no_line format list c.args.bytes.now last c.in-Some-line.more.now c.lines.invariant.fits
    (c.lines.invariant.whole ∙ ap (λ (t : List ℕ). front_of format list ++ t) c.in-Some-line.ensures.found.0) c.in-Some-line.ensures.found.1 no_entry
    (ap (λ (n : ℕ). bytes_eq last (end_line n)) long ∙ (sym c.is_end.ensures ∙ c.if-not-is_end.true)))

pub returns-then-not-is_empty-clause-refused : goal.returns-then-not-is_empty-clause-refused
returns-then-not-is_empty-clause-refused c =
    let format = c.in-Some-format_of.format in
    let list = c.lines.list.items in
    let last = c.in-Some-line.found.now in
    let long : length list ≡ c.len-in_default-2.result = omega (arith, c.lines.list.ok.0, c.len-in_default-2.ensures) in
    subst (λ (n : ℕ). IsBadLine c.args.bytes.now n) (omega (arith, c.lines.list.ok.0, c.len.ensures))
    (behind_end format list c.args.bytes.now last c.in-Some-line.more.now c.lines.invariant.fits
    (c.lines.invariant.whole ∙ ap (λ (t : List ℕ). front_of format list ++ t) c.in-Some-line.ensures.found.0)
    (ap (λ (n : ℕ). bytes_eq last (end_line n)) long ∙ (sym c.is_end.ensures ∙ c.if-not-is_end.false))
    (sym c.is_empty.ensures ∙ c.if-not-is_empty.true))

pub returns-in_default-2-clause-journal : goal.returns-in_default-2-clause-journal
returns-in_default-2-clause-journal c =
    let format = c.in-Some-format_of.format in
    let list = c.lines.list.items in
    let last = c.in-Some-line.found.now in
    let long : length list ≡ c.len-in_default-2.result = omega (arith, c.lines.list.ok.0, c.len-in_default-2.ensures) in
    whole_journal format list c.args.bytes.now last c.in-Some-line.more.now c.lines.invariant.fits
    (c.lines.invariant.whole ∙ ap (λ (t : List ℕ). front_of format list ++ t) c.in-Some-line.ensures.found.0)
    (ap (λ (n : ℕ). bytes_eq last (end_line n)) long ∙ (sym c.is_end.ensures ∙ c.if-not-is_end.false))
    (sym c.is_empty.ensures ∙ c.if-not-is_empty.false)

pub returns-clause-refused : goal.returns-clause-refused
returns-clause-refused c =
    subst (λ (n : ℕ). IsBadLine c.args.bytes.now n) (omega (arith, c.lines.list.ok.0, c.len-2.ensures))
    (unended c.in-Some-format_of.format c.lines.list.items c.args.bytes.now c.lines.rest.now c.lines.invariant.fits c.lines.invariant.whole (c.line-in-lines.ensures.unended (rw c.in_default-line.is refl)))
