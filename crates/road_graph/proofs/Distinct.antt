-- A name that is not among others may join them.
use Rattle.std.proofs.Common.{◌≡◌, ◌∷◌, ◌++◌, [], ℕ, suc, zero, List, Some, true, false, ap, sym, ◌∙◌, inl, inr}
use Rattle.std.specs.Prelude.{slice_get}
use Rattle.std.specs.Str.{bytes_eq}
use Rattle.std.proofs.lemmas.Slice.Eq.{bytes_eq-Decides}
use Rattle.std.proofs.lemmas.Bool.{or_parts}
use Rattle.road_graph.specs.Roads.{has_name, AreDistinct}
use Rattle.road_graph.proofs.Places.{get-push_cases}

-- a name that none has is at no place
pub absent : (names : List (List ℕ)) (name : List ℕ) (i : ℕ) → has_name name names ≡ false → slice_get names i ≡ Some name → ⊥
absent [] name i none at = cc
absent (a ∷ names) name zero none at =
    let is : name ≡ a = cc in
    let yes : bytes_eq name a ≡ true = (bytes_eq-Decides name a).1 is in
    let no : bytes_eq name a ≡ false = (or_parts (bytes_eq name a) (has_name name names) none).0 in
    cc
absent (a ∷ names) name (suc i) none at = absent names name i (or_parts (bytes_eq name a) (has_name name names) none).1 at

pub distinct-push : (names : List (List ℕ)) (name : List ℕ) → AreDistinct names → has_name name names ≡ false → AreDistinct (names ++ name ∷ [])
distinct-push names name h none = record {
  once = λ i j other ei ej. elim (get-push_cases names name i other ei) [
    | inl v ↦ elim (get-push_cases names name j other ej) [
      | inl w ↦ h.once i j other v w
      | inr w ↦ absurd (absent names name i none (v ∙ ap (λ (n : List ℕ). Some n) w.1))
    ]
    | inr v ↦ elim (get-push_cases names name j other ej) [
      | inl w ↦ absurd (absent names name j none (w ∙ ap (λ (n : List ℕ). Some n) v.1))
      | inr w ↦ v.0 ∙ sym w.0
    ]
  ];
}
