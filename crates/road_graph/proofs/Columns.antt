-- Lists that stand side by side, as one is added or one grows.
use Rattle.std.proofs.Common.{◌≡◌, ◌≢◌, ◌+◌, ◌<◌, ◌≤◌, ◌∷◌, ◌++◌, [], ℕ, List, length, set, get_or, refl, ap, sym, inl, inr, ◌∙◌, arith, Vec, vec_capacity, vec_len, length-append, length-set}
use Rattle.std.specs.declared.alloc.Global.{Global}
use Rattle.std.proofs.lemmas.List.{map-set, set-get_or, get_or-map}
use Rattle.std.proofs.lemmas.Option.{slice_get-get_or}
use Rattle.road_graph.specs.Lists.{lists_of, with_appended, HasRoomForOne, AreLists}
use Rattle.road_graph.proofs.Places.{get-push_cases, get-set_cases}

module _ {X : Type 0} where
  -- a vector is written anew with the same elements
  pub lists_of-same : (vectors : List (Vec X Global)) (i : ℕ) (old new : Vec X Global) → i < length vectors → old ≡ get_or vectors i old → new.items ≡ old.items
      → lists_of (set vectors i new) ≡ lists_of vectors
  lists_of-same vectors i old new within at e =
      map-set (λ (v : Vec X Global). v.items) vectors i new
      ∙ ap (λ (xs : List X). set (lists_of vectors) i xs) (e ∙ ap (λ (v : Vec X Global). v.items) at ∙ sym (get_or-map (λ (v : Vec X Global). v.items) vectors i old [] within))
      ∙ set-get_or (lists_of vectors) i []

  -- a vector is written anew with one element more
  pub lists_of-last : (vectors : List (Vec X Global)) (i : ℕ) (old new : Vec X Global) (x : X) → i < length vectors → old ≡ get_or vectors i old → new.items ≡ old.items ++ x ∷ []
      → lists_of (set vectors i new) ≡ with_appended (lists_of vectors) i x
  lists_of-last vectors i old new x within at e =
      let here : old.items ≡ get_or (lists_of vectors) i [] =
      ap (λ (v : Vec X Global). v.items) at ∙ sym (get_or-map (λ (v : Vec X Global). v.items) vectors i old [] within) in
      map-set (λ (v : Vec X Global). v.items) vectors i new
      ∙ ap (λ (xs : List X). set (lists_of vectors) i xs) (e ∙ ap (λ (xs : List X). xs ++ x ∷ []) here)

  -- the vector that was written has room
  pub room-set : (vectors : List (Vec X Global)) (i : ℕ) (new : Vec X Global) → vec_len new + 1 ≤ vec_capacity new → HasRoomForOne (set vectors i new) i
  room-set vectors i new room v at = elim (get-set_cases vectors i new i v at) [
    | inl same ↦ rw same.1 (omega (arith, room, new.ok.0))
    | inr other ↦ absurd (other.0 refl)
  ]

  -- one list more, which is to be empty
  pub lists-more : (lists : List (List X)) (many next : ℕ) (wanted : ℕ → List X) → AreLists lists many wanted → next ≡ many + 1 → wanted many ≡ []
      → AreLists (lists ++ [] ∷ []) next wanted
  lists-more lists many next wanted h is empty = record {
    many_are = omega (arith, length-append lists ([] ∷ []), h.many_are, is);
    each = λ i list at. elim (get-push_cases lists [] i list at) [
      | inl w ↦ h.each i list w
      | inr w ↦ w.1 ∙ sym empty ∙ ap wanted (sym (w.0 ∙ h.many_are))
    ];
  }

  -- one list has one element more, the others are as they were
  pub lists-last : (lists : List (List X)) (many : ℕ) (wanted next : ℕ → List X) (i : ℕ) (x : X) → AreLists lists many wanted → i < many
      → next i ≡ wanted i ++ x ∷ [] → ((j : ℕ) → j ≢ i → next j ≡ wanted j) → AreLists (with_appended lists i x) many next
  lists-last lists many wanted next i x h within here others =
      let within2 : i < length lists = omega (arith, within, h.many_are) in
      let is : get_or lists i [] ≡ wanted i = h.each i (get_or lists i []) (slice_get-get_or lists i [] within2) in
      record {
        many_are = length-set lists i (get_or lists i [] ++ x ∷ []) ∙ h.many_are;
        each = λ j list at. elim (get-set_cases lists i (get_or lists i [] ++ x ∷ []) j list at) [
          | inl w ↦ w.1 ∙ ap (λ (xs : List X). xs ++ x ∷ []) is ∙ sym here ∙ ap next (sym w.0)
          | inr w ↦ h.each j list w.1 ∙ sym (others j w.0)
        ];
      }

  -- the same lists are wanted
  pub lists-same : (lists : List (List X)) (many : ℕ) (wanted next : ℕ → List X) → AreLists lists many wanted → ((i : ℕ) → next i ≡ wanted i) → AreLists lists many next
  lists-same lists many wanted next h same = record {
    many_are = h.many_are;
    each = λ i list at. h.each i list at ∙ sym (same i);
  }
