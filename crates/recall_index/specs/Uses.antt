-- The numbers that use each segment.
use Rattle.std.specs.Prelude.{◌≡◌, ◌<◌, ◌≤◌, ◌+◌, ◌++◌, ◌∷◌, [], List, ℕ, Bool, ◌==◌, not, length, filter, map, replicate, All, slice_index_or, slice_range, if◌then◌else◌}
use Rattle.std.specs.List.{list_any}

-- whether a number is in a list
abbrev pub is_in : ℕ → List ℕ → Bool
is_in n numbers = list_any (λ k. k == n) numbers

-- the numbers without one of them
abbrev pub without : ℕ → List ℕ → List ℕ
without number numbers = filter (λ n. not (n == number)) numbers

-- the numbers without these
abbrev pub without_each : List ℕ → List ℕ → List ℕ
without_each gone numbers = filter (λ n. not (is_in n gone)) numbers

-- all of these are among the numbers, or none is
abbrev pub AreAllOrNone : List ℕ → List ℕ → Type 0
AreAllOrNone these numbers = (among : Bool) × All (λ n. is_in n numbers ≡ among) these

-- these stand among the numbers as one block, from this place on
pub record IsBlock (these numbers : List ℕ) (at : ℕ) : Type 0 where
  pub within : at + length these ≤ length numbers
  pub stands : slice_range numbers at (at + length these) ≡ these

-- the numbers with one behind them, which is not doubled
abbrev pub with_last : ℕ → List ℕ → List ℕ
with_last number numbers = if is_in number numbers then numbers else numbers ++ number ∷ []

-- for each segment the numbers that use it
abbrev pub Lists : Type 0
Lists = List (List ℕ)

-- the numbers that use a segment
abbrev pub using_in : Lists → ℕ → List ℕ
using_in lists segment = slice_index_or lists segment []

-- so many segments, which nothing uses
abbrev pub unused : ℕ → Lists
unused segments = replicate segments []

-- all numbers that use a segment are below this one
abbrev pub AreBelow : ℕ → Lists → Type 0
AreBelow number lists = (s : ℕ) → s < length lists → All (λ n. n < number) (using_in lists s)

-- the number uses just the segments that the route holds
abbrev pub IsThere : Lists → ℕ → List ℕ → Type 0
IsThere lists number route = (s : ℕ) → s < length lists → is_in number (using_in lists s) ≡ is_in s route

-- each of these numbers uses just the segments that the route holds
abbrev pub AreAllThere : Lists → List ℕ → List ℕ → Type 0
AreAllThere lists numbers route = All (λ n. IsThere lists n route) numbers

-- the number stands behind the others, once, at each segment that the route holds
pub record IsAdded (old : Lists) (number : ℕ) (route : List ℕ) (new : Lists) : Type 0 where
  pub many : length new ≡ length old
  pub using : (s : ℕ) → s < length old
      → using_in new s ≡ using_in old s ++ (if is_in s route then number ∷ [] else [])

-- the number is gone from each segment, and every other stays
pub record IsRemoved (old : Lists) (number : ℕ) (new : Lists) : Type 0 where
  pub many : length new ≡ length old
  pub using : (s : ℕ) → s < length old → using_in new s ≡ without number (using_in old s)

-- these numbers are gone from each segment, and every other stays
pub record AreRemoved (old : Lists) (numbers : List ℕ) (new : Lists) : Type 0 where
  pub many : length new ≡ length old
  pub using : (s : ℕ) → s < length old → using_in new s ≡ without_each numbers (using_in old s)

-- these numbers are gone from these segments
pub record AreTakenOut (old : Lists) (numbers segments : List ℕ) (new : Lists) : Type 0 where
  pub many : length new ≡ length old
  pub using : (s : ℕ) → s < length old
      → using_in new s ≡ (if is_in s segments then without_each numbers (using_in old s) else using_in old s)

-- a number with its route
pub record Use : Type 0 where
  pub number : ℕ
  pub route : List ℕ

-- the numbers of the uses whose route holds the segment
abbrev pub using_of : ℕ → List Use → List ℕ
using_of segment uses = map (λ u. u.number) (filter (λ u. is_in segment u.route) uses)

-- at each segment these are the numbers of the uses whose route holds it
abbrev pub IsIndexOf : List Use → Lists → Type 0
IsIndexOf uses lists = (s : ℕ) → s < length lists → using_in lists s ≡ using_of s uses

-- so it is of a new index and no uses, and it stays so where a use is added and where numbers are removed
pub record UsingIsAFilter : Type 0 where
  pub begins : (segments : ℕ) → IsIndexOf [] (unused segments)
  pub added : (old new : Lists) (uses : List Use) (u : Use)
      → IsAdded old u.number u.route new → IsIndexOf uses old → IsIndexOf (uses ++ u ∷ []) new
  pub removed : (old new : Lists) (uses : List Use) (number : ℕ)
      → IsRemoved old number new → IsIndexOf uses old
      → IsIndexOf (filter (λ u. not (u.number == number)) uses) new
  pub removed_each : (old new : Lists) (uses : List Use) (numbers : List ℕ)
      → AreRemoved old numbers new → IsIndexOf uses old
      → IsIndexOf (filter (λ u. not (is_in u.number numbers)) uses) new
