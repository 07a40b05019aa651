-- The queue's rows of waiting nodes.
use Rattle.std.specs.Prelude.{◌≡◌, ℕ, ◌<◌, ◌≤◌, List, [], ◌∷◌, ◌++◌, length, slice_get, Some}
use Rattle.std.specs.declared.alloc.Global.{Global}
use Rattle.std.specs.declared.collections.VecDeque.{VecDeque}
use Rattle.route_search.specs.declared.waiting.Waiting.{Waiting}

-- the waiting nodes of all rows, row after row
abbrev pub all_waiting : List (VecDeque Waiting Global) → List Waiting
all_waiting [] = []
all_waiting (b ∷ rest) = b.items ++ all_waiting rest

-- the row at i holds something
abbrev pub IsFilled : List (VecDeque Waiting Global) → ℕ → Type 0
IsFilled buckets i = (b : VecDeque Waiting Global) × (slice_get buckets i ≡ Some b) × (0 < length b.items)

-- the rows from a place up to another hold nothing
abbrev pub AreEmpty : List (VecDeque Waiting Global) → ℕ → ℕ → Type 0
AreEmpty buckets from to = (i : ℕ) (b : VecDeque Waiting Global) → from ≤ i → i < to → slice_get buckets i ≡ Some b → length b.items ≡ 0
