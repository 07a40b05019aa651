-- Groups of axles: an axle by its index, and the weight and the spread of a run of consecutive axles.
use Rattle.std.specs.Prelude.{◌≡◌, ℕ, ◌+◌, ◌-◌, ◌≤◌, List, length, sum_by, take, drop, slice_index, slice_index_or}
use Rattle.axle_train.specs.declared.axle.Axle.{Axle}

-- what stands past the last axle: nothing
abbrev pub no_axle : Axle
no_axle = record { place = 0; weight = 0 }

-- the axle of index i, counted from 0
abbrev pub axle_at : List Axle → ℕ → Axle
axle_at axles i = slice_index_or axles i no_axle

-- the weight in pounds of the axles from i to j, both among them
abbrev pub group_weight : List Axle → ℕ → ℕ → ℕ
group_weight axles i j = sum_by (λ a. a.weight) (take (j + 1 - i) (drop i axles))

-- how many inches axle j stands behind axle i
abbrev pub spread : List Axle → ℕ → ℕ → ℕ
spread axles i j = (axle_at axles j).place - (axle_at axles i).place

-- the weight in pounds of the first i axles
abbrev pub weight_before : List Axle → ℕ → ℕ
weight_before axles i = sum_by (λ a. a.weight) (take i axles)

-- at each index the number is the weight of the axles before it, and at the length that of all
abbrev pub AreWeightsBefore : List Axle → List ℕ → Type 0
AreWeightsBefore axles before = (i : ℕ) → i ≤ length axles → slice_index before i ≡ weight_before axles i
