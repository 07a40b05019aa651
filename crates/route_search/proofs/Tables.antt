-- Which nodes are touched, as lengths are noted and set back.
use Rattle.std.proofs.Common.{◌≡◌, ◌<◌, ◌∷◌, ◌++◌, [], ℕ, suc, zero, List, Option, Some, None, true, length, set, replicate, refl, ap, sym, subst, inl, inr, arith, ◌∙◌, length-set}
use Rattle.std.specs.Prelude.{slice_get, Contains}
use Rattle.std.specs.Option.{is_some}
use Rattle.std.proofs.lemmas.Bool.{cases_eq}
use Rattle.std.proofs.lemmas.List.Elements.{Contains-append_left, Contains-push, Contains-push_cases}
use Rattle.road_graph.proofs.Places.{get-set_other, get-set_same}
use Rattle.route_search.specs.Tables.{AreTouched}

-- where no node is touched, none has a length
none_known : (ls : List (Option ℕ)) → ((v d : ℕ) → slice_get ls v ≡ Some (Some d) → ⊥) → ls ≡ replicate (length ls) None
none_known [] h = refl
none_known (None ∷ ls) h = ap (λ (l : List (Option ℕ)). None ∷ l) (none_known ls (λ v d at. h (suc v) d at))
none_known (Some d ∷ ls) h = absurd (h zero d refl)

pub none_left : (ls : List (Option ℕ)) → AreTouched ls [] → ls ≡ replicate (length ls) None
none_left ls h = none_known ls (λ v d at. let (k, less, is) = h.all v d at in omega (arith, less))

-- the last of them is set back
pub one_back : (ls : List (Option ℕ)) (touched left : List ℕ) (u : ℕ) → touched ≡ left ++ u ∷ [] → AreTouched ls touched → AreTouched (set ls u None) left
one_back ls touched left u e h =
    let h2 : AreTouched ls (left ++ u ∷ []) = subst (AreTouched ls) e h in
    let here : u < length ls = h2.there u (Contains-push left u) in
    record {
      there = λ v k. let less = h2.there v (Contains-append_left left (u ∷ []) v k) in omega (arith, length-set ls u None, less);
      all = λ v d at. elim (cases_eq v u) [
        | inl is ↦ absurd (let there : slice_get (set ls u None) u ≡ Some (Some d) = subst (λ (n : ℕ). slice_get (set ls u None) n ≡ Some (Some d)) is at in
            let none : slice_get (set ls u None) u ≡ Some None = get-set_same ls u None here in cc)
        | inr far ↦ elim (Contains-push_cases left u v (h2.all v d (sym (get-set_other ls u None v far) ∙ at))) [ inl k ↦ k | inr is ↦ absurd (far (sym is)) ]
      ];
    }

-- a length is noted of a node that is touched
module _ (ls : List (Option ℕ)) (touched : List ℕ) (u d : ℕ) where
  noted : AreTouched ls touched → Contains touched u → AreTouched (set ls u (Some d)) touched
  noted h here = record {
    there = λ v k. let less = h.there v k in omega (arith, length-set ls u (Some d), less);
    all = λ v e at. elim (cases_eq v u) [
      | inl is ↦ subst (Contains touched) (sym is) here
      | inr far ↦ h.all v e (sym (get-set_other ls u (Some d) v far) ∙ at)
    ];
  }

  pub noted_again : (was : Option ℕ) → slice_get ls u ≡ Some was → is_some was ≡ true → AreTouched ls touched → AreTouched (set ls u (Some d)) touched
  noted_again None at some h = cc
  noted_again (Some e) at some h = noted h (h.all u e at)

-- and of one more
pub noted_first : (ls : List (Option ℕ)) (touched : List ℕ) (u d : ℕ) → u < length ls → AreTouched ls touched → AreTouched (set ls u (Some d)) (touched ++ u ∷ [])
noted_first ls touched u d within h = noted ls (touched ++ u ∷ []) u d
    (record {
      there = λ v k. elim (Contains-push_cases touched u v k) [ inl old ↦ h.there v old | inr is ↦ subst (λ (n : ℕ). n < length ls) is within ];
      all = λ v e at. Contains-append_left touched (u ∷ []) v (h.all v e at);
    })
    (Contains-push touched u)
