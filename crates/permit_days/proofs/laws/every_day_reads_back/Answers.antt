use Rattle.std.proofs.Common.{◌≡◌, Bool, true, false, refl}
use Rattle.std.specs.Prelude.{ℕ, List, Ok, Err, not, ◌&&◌, if◌then◌else◌}
use Rattle.permit_days.specs.declared.refusal.DayRefusal.TheVariants.{NoSuchDay, Shape}
use Rattle.permit_days.specs.Days.{day_of_month, has_shape, is_day, month_of, year_of}
use Rattle.permit_days.proofs.laws.every_day_reads_back.Goals as goal

-- a text that passes both tests
passes : (a b : Bool) (text : List ℕ) → (a && b) ≡ true → (if not a then Err Shape else (if not b then Err NoSuchDay else Ok text)) ≡ Ok text
passes true true text h = refl
passes true false text h = cc
passes false b text h = cc

pub returns : goal.returns
returns c = λ text h. passes (has_shape text) (is_day (year_of text) (month_of text) (day_of_month text)) text h
