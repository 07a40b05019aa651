use Rattle.std.proofs.Common.{◌++◌, ap, ◌∙◌, ℕ, length}
use Rattle.std.specs.Prelude.{codes, count_by, sum_by}
use Rattle.office_words.specs.declared.entry.Entry.{Entry}
use Rattle.report_text.specs.Summaries.{is_no_road, is_not_needed, is_permit, is_refusal, recalled_count, told, last_version_from}
use Rattle.report_text.proofs.SummaryLines.{seven_add}
use Rattle.report_text.proofs.trial.summary.Goals as goal

pub returns : goal.returns
returns c =
    seven_add c.new-out.result.items c.line.new.out.items c.line-2.new.out.items c.line-3.new.out.items c.line-4.new.out.items c.line-5.new.out.items c.line-6.new.out.items c.line-7.new.out.items
    (told (codes "entries") (length c.args.history.now))
    (told (codes "issued") (count_by (λ (e : Entry). is_permit e.reply) c.args.history.now))
    (told (codes "refused") (count_by (λ (e : Entry). is_refusal e.reply) c.args.history.now))
    (told (codes "noroad") (count_by (λ (e : Entry). is_no_road e.reply) c.args.history.now))
    (told (codes "notneeded") (count_by (λ (e : Entry). is_not_needed e.reply) c.args.history.now))
    (told (codes "recalled") (sum_by (λ (e : Entry). recalled_count e.reply) c.args.history.now))
    (told (codes "version") (last_version_from 0 c.args.history.now))
    c.new-out.ensures.items
    c.in_ok-line.ensures
    (c.in_ok-line-2.ensures ∙ ap (λ (n : ℕ). c.line.new.out.items ++ told (codes "issued") n) c.count.ensures)
    (c.in_ok-line-3.ensures ∙ ap (λ (n : ℕ). c.line-2.new.out.items ++ told (codes "refused") n) c.count-2.ensures)
    (c.in_ok-line-4.ensures ∙ ap (λ (n : ℕ). c.line-3.new.out.items ++ told (codes "noroad") n) c.count-3.ensures)
    (c.in_ok-line-5.ensures ∙ ap (λ (n : ℕ). c.line-4.new.out.items ++ told (codes "notneeded") n) c.count-4.ensures)
    (c.in_ok-line-6.ensures ∙ ap (λ (n : ℕ). c.line-5.new.out.items ++ told (codes "recalled") n) c.recalled.ensures)
    (c.in_ok-line-7.ensures ∙ ap (λ (n : ℕ). c.line-6.new.out.items ++ told (codes "version") n) c.last_version.ensures)
