-- What a search notes of each node, kept from search to search.
use Rattle.std.specs.Prelude.{◌≡◌, ◌<◌, ℕ, List, length, slice_get, Option, Some, Contains}

-- the touched nodes are there, and each node that has a length is one of them
pub record AreTouched (lengths : List (Option ℕ)) (touched : List ℕ) : Type 0 where
  pub there : (v : ℕ) → Contains touched v → v < length lengths
  pub all : (v d : ℕ) → slice_get lengths v ≡ Some (Some d) → Contains touched v
