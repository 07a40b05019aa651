use Rattle.std.proofs.Common.{◌≡◌, ◌≤◌, take}
use Rattle.std.specs.Prelude.{count_by}
use Rattle.report_text.specs.Summaries.{is_of}
use Rattle.report_text.proofs.trial.count.Given as goal

abbrev pub invariant-history : goal.invariant-history
invariant-history l = record {
  count : l.count ≡ count_by (λ e. is_of l.kind e.reply) (take l.entry-index l.history);
  small : l.count ≤ l.entry-index;
}
