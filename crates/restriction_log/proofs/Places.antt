-- Where an item of a list stands in its groups and pages.
use Rattle.std.proofs.Common.{◌≡◌, ◌*◌, ◌+◌, ◌/◌, ◌%◌, ◌<◌, ◌∙◌, ℕ, List, length, get_or, set, map, ap, sym, subst, arith}
use Rattle.std.specs.declared.alloc.Global.{Global}
use Rattle.std.specs.declared.sync.ArcSlice.{ArcSlice}
use Rattle.std.specs.Arc.{arc_slice_items}
use Rattle.std.proofs.lemmas.List.{get_or_default, length-map, length-set, map-set}
use Rattle.std.proofs.Math.ListN.{get_or-map}
use Rattle.restriction_log.specs.Pages.{AreParts, ArePaged, as_groups, as_pages, items_in, items_in_parts}
use Rattle.restriction_log.proofs.Paging.{item_at, item_set, item_within, part_within, still_parts}

-- what is made of pages and groups of some items
pub made_paged : {T : Type 0} (groups root : List (ArcSlice (ArcSlice T Global) Global)) (pages owned : List (ArcSlice T Global)) (items : List T)
    → root ≡ groups → AreParts 16 (as_groups groups) → items_in_parts (as_groups groups) ≡ as_pages owned → owned ≡ pages → AreParts 64 (as_pages pages)
    → items_in_parts (as_pages pages) ≡ items → ArePaged (as_groups root) (length items) × (items_in root ≡ items)
made_paged groups root pages owned items same parts grouped borrowed cut all =
    let whole : items_in_parts (as_groups root) ≡ as_pages pages = ap (λ l. items_in_parts (as_groups l)) same ∙ (grouped ∙ ap as_pages borrowed) in
    let seen : items_in root ≡ items = ap items_in_parts whole ∙ all in
    (record { groups = subst (λ l. AreParts 16 (as_groups l)) (sym same) parts; pages = subst (AreParts 64) (sym whole) cut; count = ap length seen }, seen)

-- an item of a list, and the owners of the groups as they are read
module _ {T : Type 0} (groups : List (ArcSlice (ArcSlice T Global) Global)) (many : ℕ) (are : ArePaged (as_groups groups) many) (items : List T)
    (seen : items_in groups ≡ items) (i : ℕ) (within : i < length items) (owned : List (ArcSlice (ArcSlice T Global) Global)) (all : owned ≡ groups) where
  inside : i < length (items_in groups)
  inside = subst (λ l. i < length l) (sym seen) within

  at_item : 64 * (i / 64) + i % 64 ≡ i
  at_item = omega arith

  in_page : i % 64 < 64
  in_page = omega arith

  at_page : 16 * (i / 64 / 16) + i / 64 % 16 ≡ i / 64
  at_page = omega arith

  in_group : i / 64 % 16 < 16
  in_group = omega arith

  has_page : i / 64 < length (items_in_parts (as_groups groups))
  has_page = part_within 64 (items_in_parts (as_groups groups)) are.pages i (i / 64) (i % 64) at_item in_page inside

  pub has_group : i / 64 / 16 < length owned
  has_group =
      let below = part_within 16 (as_groups groups) are.groups (i / 64) (i / 64 / 16) (i / 64 % 16) at_page in_group has_page in
      omega (arith, below, length-map (map arc_slice_items groups) (as_pages {T = T}), length-map groups (arc_slice_items {X = ArcSlice T Global} {Z = Global}), ap length all)

  -- the group, and its pages as they are read
  module _ (group : ArcSlice (ArcSlice T Global) Global) (found : group ≡ get_or owned (i / 64 / 16) group) (pages : List (ArcSlice T Global)) (read : pages ≡ arc_slice_items group) where
    group_at : get_or (as_groups groups) (i / 64 / 16) (as_pages pages) ≡ as_pages pages
    group_at =
        let k : ℕ = i / 64 / 16 in
        let owner : get_or groups k group ≡ group = ap (λ l. get_or l k group) (sym all) ∙ sym found in
        let here : get_or (as_groups groups) k (as_pages (arc_slice_items group)) ≡ as_pages (arc_slice_items group) =
        get_or-map as_pages (map arc_slice_items groups) k (arc_slice_items group) ∙ ap as_pages (get_or-map arc_slice_items groups k group ∙ ap arc_slice_items owner) in
        subst (λ l. get_or (as_groups groups) k (as_pages l) ≡ as_pages l) (sym read) here

    pub has_place : i / 64 % 16 < length pages
    has_place =
        let below = item_within 16 (as_groups groups) are.groups (i / 64) (i / 64 / 16) (i / 64 % 16) at_page in_group has_page (as_pages pages) in
        omega (arith, below, ap length group_at, length-map pages (arc_slice_items {X = T} {Z = Global}))

    -- the page, and its items as they are read
    module _ (page : ArcSlice T Global) (opened : page ≡ get_or pages (i / 64 % 16) page) (here : List T) (shown : here ≡ arc_slice_items page) where
      page_at : get_or (items_in_parts (as_groups groups)) (i / 64) here ≡ here
      page_at =
          let m : ℕ = i / 64 % 16 in
          let whole = item_at 16 (as_groups groups) are.groups (i / 64) (i / 64 / 16) m at_page in_group has_page (as_pages pages) here in
          let owner : get_or (as_pages pages) m (arc_slice_items page) ≡ arc_slice_items page = get_or-map arc_slice_items pages m page ∙ ap arc_slice_items (sym opened) in
          whole ∙ (ap (λ l. get_or l m here) group_at ∙ subst (λ l. get_or (as_pages pages) m l ≡ l) (sym shown) owner)

      pub has_item : i % 64 < length here
      has_item =
          let below = item_within 64 (items_in_parts (as_groups groups)) are.pages i (i / 64) (i % 64) at_item in_page inside here in
          omega (arith, below, ap length page_at)

      pub item_read : (item d : T) → item ≡ get_or here (i % 64) item → item ≡ get_or items i d
      item_read item d is =
          let whole = item_at 64 (items_in_parts (as_groups groups)) are.pages i (i / 64) (i % 64) at_item in_page inside here d in
          let same = ap (λ l. get_or l (i % 64) d) page_at ∙ get_or_default here (i % 64) d item has_item in
          sym (ap (λ l. get_or l i d) (sym seen) ∙ (whole ∙ (same ∙ sym is)))

      -- the lists with one item replaced
      module _ (item : T) (new_page : List T) (paged : new_page ≡ set here (i % 64) item)
          (again : List (ArcSlice T Global)) (same : again ≡ arc_slice_items group) (new_group : List (ArcSlice T Global)) (grouped : as_pages new_group ≡ set (as_pages again) (i / 64 % 16) new_page)
          (once_more : List (ArcSlice (ArcSlice T Global) Global)) (shared : once_more ≡ groups) (root : List (ArcSlice (ArcSlice T Global) Global))
          (rooted : map arc_slice_items root ≡ set (map arc_slice_items once_more) (i / 64 / 16) new_group) where
        group_set : as_pages new_group ≡ set (get_or (as_groups groups) (i / 64 / 16) (as_pages pages)) (i / 64 % 16) new_page
        group_set = grouped ∙ ap (λ l. set l (i / 64 % 16) new_page) (ap as_pages (same ∙ sym read) ∙ sym group_at)

        page_set : new_page ≡ set (get_or (items_in_parts (as_groups groups)) (i / 64) here) (i % 64) item
        page_set = paged ∙ ap (λ l. set l (i % 64) item) (sym page_at)

        groups_set : as_groups root ≡ set (as_groups groups) (i / 64 / 16) (as_pages new_group)
        groups_set = ap (map as_pages) rooted ∙ (map-set as_pages (map arc_slice_items once_more) (i / 64 / 16) new_group
            ∙ ap (λ l. set (as_groups l) (i / 64 / 16) (as_pages new_group)) shared)

        pages_set : items_in_parts (as_groups root) ≡ set (items_in_parts (as_groups groups)) (i / 64) new_page
        pages_set = ap items_in_parts groups_set
            ∙ item_set 16 (as_groups groups) are.groups (i / 64) (i / 64 / 16) (i / 64 % 16) at_page in_group has_page (as_pages pages) (as_pages new_group) new_page group_set

        items_set : items_in root ≡ set (items_in groups) i item
        items_set = ap items_in_parts pages_set
            ∙ item_set 64 (items_in_parts (as_groups groups)) are.pages i (i / 64) (i % 64) at_item in_page inside here new_page item page_set

        pub item_written : items_in root ≡ set items i item
        item_written = items_set ∙ ap (λ l. set l i item) seen

        pub still_paged : ArePaged (as_groups root) many
        still_paged = record {
          groups = subst (AreParts 16) (sym groups_set)
              (still_parts 16 (as_groups groups) are.groups (i / 64) (i / 64 / 16) (i / 64 % 16) at_page in_group has_page (as_pages pages) (as_pages new_group) new_page group_set);
          pages = subst (AreParts 64) (sym pages_set)
              (still_parts 64 (items_in_parts (as_groups groups)) are.pages i (i / 64) (i % 64) at_item in_page inside here new_page item page_set);
          count = ap length items_set ∙ (length-set (items_in groups) i item ∙ are.count);
        }
