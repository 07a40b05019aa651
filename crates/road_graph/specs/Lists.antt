-- Lists that stand side by side, one for each number.
use Rattle.std.specs.Prelude.{◌≡◌, ℕ, ◌<◌, List, [], ◌∷◌, ◌++◌, map, length, slice_get, slice_set, slice_index_or, Some, Vec, vec_capacity}
use Rattle.std.specs.declared.alloc.Global.{Global}

-- what the vectors hold
abbrev pub lists_of : {X : Type 0} → List (Vec X Global) → List (List X)
lists_of vectors = map (λ v. v.items) vectors

-- one element more at the end of the list of a number
abbrev pub with_appended : {X : Type 0} → List (List X) → ℕ → X → List (List X)
with_appended lists i x = slice_set lists i (slice_index_or lists i [] ++ x ∷ [])

-- the list of a number has one element more at its end, and every other is as it was
abbrev pub IsAppended : {X : Type 0} → List (Vec X Global) → List (Vec X Global) → ℕ → X → Type 0
IsAppended old new i x = lists_of new ≡ with_appended (lists_of old) i x

-- the vector of a number has room for one element more
abbrev pub HasRoomForOne : {X : Type 0} → List (Vec X Global) → ℕ → Type 0
HasRoomForOne {X} vectors i = (v : Vec X Global) → slice_get vectors i ≡ Some v → length v.items < vec_capacity v

-- there are so many lists, and the list of each number is the one that is wanted
pub record AreLists {X : Type 0} (lists : List (List X)) (many : ℕ) (wanted : ℕ → List X) : Type 0 where
  pub many_are : length lists ≡ many
  pub each : (i : ℕ) (list : List X) → slice_get lists i ≡ Some list → list ≡ wanted i
