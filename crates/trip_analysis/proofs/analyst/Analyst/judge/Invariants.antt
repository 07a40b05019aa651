use Rattle.std.proofs.Common.{◌≡◌, ◌<◌, ◌≤◌, ℕ, length, get_or, Option}
use Rattle.trip_analysis.specs.declared.known.Known.{Known}
use Rattle.trip_analysis.specs.Known.{IsJudged}
use Rattle.trip_analysis.specs.Passing.{TestsAtMost}
use Rattle.trip_analysis.proofs.analyst.Analyst.judge.Given as goal

abbrev pub invariant-trucks : goal.invariant-trucks
invariant-trucks g l = record {
  heights : l.self.tables.heights ≡ l.fn.self.tables.heights;
  many : length l.self.known.items ≡ length l.base.fleet;
  before : (k : ℕ) (d : Option Known) → k < l.truck → IsJudged l.base l.state l.segment k (get_or l.fn.self.known.items k d) (get_or l.self.known.items k d);
  behind : (k : ℕ) (d : Option Known) → l.truck ≤ k → k < length l.base.fleet → get_or l.self.known.items k d ≡ get_or l.fn.self.known.items k d;
  steps : TestsAtMost l.truck l.fn.steps l.steps;
}
