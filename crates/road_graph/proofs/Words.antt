-- Each limit has one word.
use Rattle.std.proofs.Common.{◌≡◌, ◌∙◌, ◌⊎◌, List, ℕ, Bool, true, false, cond, Option, Some, None, refl, ap, inl, inr}
use Rattle.std.specs.Str.{bytes_eq}
use Rattle.std.proofs.lemmas.Slice.Eq.{bytes_eq-Decides}
use Rattle.std.proofs.lemmas.Option.{none-some}
use Rattle.road_graph.specs.declared.values.What.{What}
use Rattle.road_graph.specs.declared.values.What.TheVariants.{Closed, Height, Width, Length, Gross, Allowance, Tridem}
use Rattle.road_graph.specs.Words.{what_of, what_word}

-- the text is the word of the limit, or what comes after decides
next : (text : List ℕ) (v w : What) (rest : Option What) → cond (bytes_eq text (what_word v)) (Some v) rest ≡ Some w
    → (text ≡ what_word w) ⊎ (rest ≡ Some w)
next text v w rest e = by (bytes_eq text (what_word v)) refl e
  where
    by : (b : Bool) → bytes_eq text (what_word v) ≡ b → cond b (Some v) rest ≡ Some w → (text ≡ what_word w) ⊎ (rest ≡ Some w)
    by true is e = let same : v ≡ w = cc in inl ((bytes_eq-Decides text (what_word v)).0 is ∙ ap what_word same)
    by false is e = inr e

-- what is read as a limit is its word
pub read_is_word : (text : List ℕ) (w : What) → what_of text ≡ Some w → text ≡ what_word w
read_is_word text w e = elim (next text Closed w _ e) [
  | inl is ↦ is
  | inr e ↦ elim (next text Height w _ e) [
    | inl is ↦ is
    | inr e ↦ elim (next text Width w _ e) [
      | inl is ↦ is
      | inr e ↦ elim (next text Length w _ e) [
        | inl is ↦ is
        | inr e ↦ elim (next text Gross w _ e) [
          | inl is ↦ is
          | inr e ↦ elim (next text Allowance w _ e) [
            | inl is ↦ is
            | inr e ↦ elim (next text Tridem w None e) [ inl is ↦ is | inr e ↦ absurd (none-some w e) ]
          ]
        ]
      ]
    ]
  ]
]
