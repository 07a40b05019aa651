use Rattle.std.proofs.Common.{◌≡◌, ◌≤◌, ◌*◌, take}
use Rattle.std.specs.Prelude.{sum_by}
use Rattle.report_text.specs.Summaries.{recalled_count}
use Rattle.report_text.proofs.trial.recalled.Given as goal

abbrev pub invariant-history : goal.invariant-history
invariant-history l = record {
  sum : l.sum ≡ sum_by (λ e. recalled_count e.reply) (take l.entry-index l.history);
  small : l.sum ≤ 18446744073709551615 * l.entry-index;
}
