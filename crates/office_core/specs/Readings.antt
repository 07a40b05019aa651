-- Readings of a counter.
use Rattle.std.specs.Prelude.{ℕ, List, [], ◌∷◌, map}
use Rattle.std.specs.declared.snapshot.Snapshot.{Snapshot}

-- what these snapshots show
abbrev pub values_of : List (Snapshot ℕ) → List ℕ
values_of snapshots = map (λ s. s.value) snapshots

-- what a counter shows that began at 0 and was read last as this list ends
abbrev pub last_of : List ℕ → ℕ
last_of [] = 0
last_of (n ∷ []) = n
last_of (n ∷ k ∷ rest) = last_of (k ∷ rest)
