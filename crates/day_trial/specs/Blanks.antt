-- Blanks of which the counters of a lone office may be made.
use Rattle.std.specs.Prelude.{ℕ}
use Rattle.trip_analysis.specs.Counters.{IsBlankOf}
use Rattle.day_trial.specs.declared.blanks.Blanks.{Blanks}

-- each blank is one of its ledger
pub record AreBlanks (finder_name finder_parts office_name office_parts : ℕ) (blanks : Blanks) : Type 0 where
  pub finder : IsBlankOf finder_name finder_parts blanks.finder
  pub office : IsBlankOf office_name office_parts blanks.office
