-- The greatest moment of a run under one of its axles, and the best of them.
use Rattle.std.specs.Prelude.{◌≡◌, ℕ, ◌+◌, ◌-◌, ◌*◌, ◌<◌, ◌^◌, List}
use Rattle.axle_train.specs.declared.axle.Axle.{Axle}
use Rattle.moment_peak.specs.declared.best.Candidate.{Candidate}
use Rattle.moment_peak.specs.declared.pair.Pair.{Pair}
use Rattle.moment_peak.specs.declared.run.Sums.{Sums}
use Rattle.moment_peak.specs.PeakMoment.{peak_moment_of}
use Rattle.moment_peak.specs.Runs.{run_value, IsRunWith}
use Rattle.moment_peak.specs.Sweeps.{IsOnSpan}

-- the value of a run by its sums and by those of the axles before the one at a place: the square of where that axle stands at its vertex, less four times the weight, the span and what the axles in front of it take off
abbrev pub value_by_sums : ℕ → Sums → Sums → ℕ → ℕ
value_by_sums span run before place =
    (run.weight * (span + place) - run.moment) * (run.weight * (span + place) - run.moment) - 4 * (run.weight * span) * (before.weight * place - before.moment)

-- the candidate is the value of a pair's axle and run
pub record IsValueOf (span : ℕ) (axles : List Axle) (pair : Pair) (candidate : Candidate) : Type 0 where
  pub axle : candidate.axle ≡ pair.axle
  pub run : candidate.run ≡ pair.run
  pub value : candidate.value ≡ run_value span axles pair.axle pair.run.first pair.run.last

-- the candidate is the value of an axle and a run that can be on the span
pub record IsAttained (span : ℕ) (axles : List Axle) (best : Candidate) : Type 0 where
  pub on : IsOnSpan span axles best.run
  pub is_run : IsRunWith axles best.axle best.run.first best.run.last
  pub value : best.value ≡ run_value span axles best.axle best.run.first best.run.last
  pub some : 0 < best.value
  pub loaded : 0 < best.run.sums.weight
  pub small : best.value < 2 ^ 72

-- the candidate's value is the peak moment of the train
abbrev pub IsAtPeak : ℕ → List Axle → Candidate → Type 0
IsAtPeak span axles best =
    (peak_moment_of axles span).num * (4 * best.run.sums.weight * span) ≡ best.value * (peak_moment_of axles span).den
