-- The limits of a segment, their ranges and their defaults. The ranges are this project's own.
use Rattle.std.specs.Prelude.{◌≡◌, ℕ, Bool, true, false, ◌&&◌, ◌==◌, nat_le}
use Rattle.road_graph.specs.declared.values.Values.{Values}
use Rattle.road_graph.specs.declared.values.What.{What}
use Rattle.road_graph.specs.declared.values.What.TheVariants.{Closed, Height, Width, Length, Gross, Allowance, Tridem}

-- a number from `least` to `most`, both included
abbrev pub is_between : ℕ → ℕ → ℕ → Bool
is_between least most n = nat_le least n && nat_le n most

-- what each limit may be: 0 or 1 for closed; inches for height, width and length; pounds for gross and for a tridem group; per
-- mille of each group's limit for the allowance
abbrev pub is_limit : What → ℕ → Bool
is_limit Closed n = nat_le n 1
is_limit Height n = is_between 1 999 n
is_limit Width n = is_between 1 999 n
is_limit Length n = is_between 1 9999 n
is_limit Gross n = is_between 1 2000000 n
is_limit Allowance n = nat_le n 100000
is_limit Tridem n = is_between 1 600000 n

-- the load rating of a span, in per mille of HS20-44 (AASHTO Standard Specifications)
abbrev pub is_rating : ℕ → Bool
is_rating n = nat_le n 100000

-- the length of a segment in feet
abbrev pub is_feet : ℕ → Bool
is_feet n = is_between 1 10000000 n

-- the length of a span in inches
abbrev pub is_inches : ℕ → Bool
is_inches n = is_between 1 6000 n

-- the limits of a segment on which none is set: open, and each number the greatest of its range
abbrev pub default_values : Values
default_values =
    record { closed = false; height = 999; width = 999; length = 9999; gross = 2000000; allowance = 100000; tridem = 600000 }

-- the limits with one of them replaced, the others as they were
abbrev pub with_value : Values → What → ℕ → Values
with_value v Closed n = record v { closed = n == 1 }
with_value v Height n = record v { height = n }
with_value v Width n = record v { width = n }
with_value v Length n = record v { length = n }
with_value v Gross n = record v { gross = n }
with_value v Allowance n = record v { allowance = n }
with_value v Tridem n = record v { tridem = n }

-- each number is in its range
pub record AreInRange (v : Values) : Type 0 where
  pub height : is_limit Height v.height ≡ true
  pub width : is_limit Width v.width ≡ true
  pub length : is_limit Length v.length ≡ true
  pub gross : is_limit Gross v.gross ≡ true
  pub allowance : is_limit Allowance v.allowance ≡ true
  pub tridem : is_limit Tridem v.tridem ≡ true
