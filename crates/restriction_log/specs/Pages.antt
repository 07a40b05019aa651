-- A list that is kept in parts: its items in pages, and its pages in groups.
use Rattle.std.specs.Prelude.{◌≡◌, ◌*◌, ℕ, List, length, map, min, take}
use Rattle.std.specs.declared.alloc.Global.{Global}
use Rattle.std.specs.declared.sync.ArcSlice.{ArcSlice}
use Rattle.std.specs.List.{flat_map}
use Rattle.std.specs.Arc.{arc_slice_items}

-- the parts, one behind the other
abbrev pub items_in_parts : {T : Type 0} → List (List T) → List T
items_in_parts parts = flat_map (λ part. part) parts

-- each part has n items, and only the last may have fewer: the first k have n * k, or all that there are
abbrev pub AreParts : {T : Type 0} → ℕ → List (List T) → Type 0
AreParts n parts = (k : ℕ) → length (items_in_parts (take k parts)) ≡ min (n * k) (length (items_in_parts parts))

-- each of these pages as its items
abbrev pub as_pages : {T : Type 0} → List (ArcSlice T Global) → List (List T)
as_pages pages = map arc_slice_items pages

-- each of these groups as its pages
abbrev pub as_groups : {T : Type 0} → List (ArcSlice (ArcSlice T Global) Global) → List (List (List T))
as_groups groups = map as_pages (map arc_slice_items groups)

-- the items of these groups, in order
abbrev pub items_in : {T : Type 0} → List (ArcSlice (ArcSlice T Global) Global) → List T
items_in groups = items_in_parts (items_in_parts (as_groups groups))

-- the groups have 16 pages each and the pages 64 items each, of which there are so many
pub record ArePaged {T : Type 0} (parts : List (List (List T))) (many : ℕ) : Type 0 where
  pub groups : AreParts 16 parts
  pub pages : AreParts 64 (items_in_parts parts)
  pub count : length (items_in_parts (items_in_parts parts)) ≡ many
