-- The vertices: where each axle stands when its moment under a run's loads alone is greatest. The absolute maximum live moment of a train is reached at one of them (Hibbeler, Structural Analysis): there the middle of the span lies halfway between the axle and the centre of weight of the loads on the span.
use Rattle.std.specs.Prelude.{◌≡◌, ℕ, ◌+◌, ◌*◌, ◌<◌, ◌≤◌, List, pos, ◌+ℤ◌, ◌*ℤ◌}
use Rattle.std.specs.Int.{IsGcd}
use Rattle.axle_train.specs.declared.axle.Axle.{Axle}
use Rattle.axle_train.specs.Trains.{axle_at}
use Rattle.influence_line.specs.Placed.{moment_sum, placed}
use Rattle.influence_line.specs.declared.placing.Place.{Place}
use Rattle.moment_peak.specs.Runs.{run_weight, run_moment, IsRunWith}

-- the place of the vertex of axle k and the axles first to last; it counts where its section is on the span
pub record IsVertex (axles : List Axle) (span k first last : ℕ) (at : Place) : Type 0 where
  pub is_run : IsRunWith axles k first last
  pub scale : at.q ≡ 2 * run_weight axles first last
  pub section : at.section + run_moment axles first last ≡ run_weight axles first last * span + run_weight axles first last * (axle_at axles k).place
  pub lead : at.lead +ℤ pos (run_moment axles first last + run_weight axles first last * (axle_at axles k).place) ≡ pos (run_weight axles first last * span)
  pub on : at.section ≤ at.q * span

-- the true moment at a place, of all axles that are on the span there, is num/den
abbrev pub HasMomentAt : List Axle → ℕ → ℕ → ℕ → Place → Type 0
HasMomentAt axles span num den at = moment_sum (at.q * span) at.section (placed at.q at.lead axles) * den ≡ num * (at.q * at.q * span)

-- the true moment at a vertex is another
abbrev pub Misses : List Axle → ℕ → ℕ → ℕ → ℕ → ℕ → ℕ → Type 0
Misses axles span num den k first last = (at : Place) → IsVertex axles span k first last at → HasMomentAt axles span num den at → ⊥

-- the first vertex, in the order of axle, first and last, whose true moment is num/den
pub record IsFirstReached (axles : List Axle) (span num den k first last : ℕ) (at : Place) : Type 0 where
  pub vertex : IsVertex axles span k first last at
  pub reaches : HasMomentAt axles span num den at
  pub no_last : (l : ℕ) → l < last → Misses axles span num den k first l
  pub no_first : (f l : ℕ) → f < first → Misses axles span num den k f l
  pub no_axle : (i f l : ℕ) → i < k → Misses axles span num den i f l

-- the same place at the coarsest scale: its three numbers over their greatest common divisor
pub record IsLowestPlace (whole small : Place) : Type 0 where
  pub divisor : ℕ
  pub some : 1 ≤ divisor
  pub scale : whole.q ≡ divisor * small.q
  pub section : whole.section ≡ divisor * small.section
  pub lead : whole.lead ≡ pos divisor *ℤ small.lead
  pub coprime : IsGcd small.section small.q 1

-- the place of the first vertex that reaches num/den
pub record IsFirstPlace (axles : List Axle) (span num den k first last : ℕ) (place : Place) : Type 0 where
  pub whole : Place
  pub is_first : IsFirstReached axles span num den k first last whole
  pub lowest : IsLowestPlace whole place
  pub reaches : HasMomentAt axles span num den place
