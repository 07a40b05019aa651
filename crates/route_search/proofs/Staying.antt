-- Potentials stay where the flag changes of a segment that leads on no walk of least length.
use Rattle.std.proofs.Common.{◌≡◌, ◌≢◌, ◌+◌, ◌-◌, ◌<◌, ◌≤◌, ◌∷◌, [], ℕ, List, Bool, true, false, Option, Some, None, length, get_or, set, get_or-set_other, refl, ap, sym, subst, inl, inr, arith, ◌∙◌}
use Rattle.std.specs.Prelude.{slice_get}
use Rattle.std.proofs.lemmas.Bool.{cases_eq, ltb-true}
use Rattle.std.proofs.lemmas.Option.{get_or_from_slice_get, slice_get-get_or}
use Rattle.road_graph.specs.declared.segment.Segment.{Segment}
use Rattle.road_graph.specs.Roads.{IsRoads, Roads, no_segment, segment_at}
use Rattle.route_search.specs.Walks.{ArePotentials, IsPotential, IsWalk, feet_at, feet_of, flagged}
use Rattle.route_search.specs.Staying.{is_slack, is_slack_by}
use Rattle.route_search.proofs.Routes.{least_at, tight_first}
use Rattle.route_search.proofs.Uniqueness.{certify, zero_at_goal}

segment_is : (s t : Segment) → Some s ≡ Some t → s ≡ t
segment_is s t e = cc

number_is : (d e : ℕ) → Some (Some d) ≡ Some (Some e) → d ≡ e
number_is d e h = cc

-- what stands at a node is shorter than by the segment
abbrev IsSlack : List (Option ℕ) → Segment → Type 0
IsSlack ps t = (d : ℕ) → slice_get ps t.to ≡ Some (Some d) → (e : ℕ) × (slice_get ps t.from ≡ Some (Some e)) × (e < t.feet + d)

module _ (roads : Roads) (may now : ℕ → Bool) (goal : ℕ) (ps : List (Option ℕ)) (ok : IsRoads roads) (h : ArePotentials roads.segments may (length roads.nodes) goal ps)
    (there : goal < length roads.nodes) (x : ℕ) (t : Segment) (at : slice_get roads.segments x ≡ Some t) (others : (i : ℕ) → i ≢ x → now i ≡ may i) (slack : IsSlack ps t) where
  -- no walk by the new flags is shorter
  below : (v : ℕ) (path : List ℕ) → IsWalk roads.segments now v goal path → (e : ℕ) × (slice_get ps v ≡ Some (Some e)) × (e ≤ feet_of roads.segments path)
  below v [] walk = (0, subst (λ (u : ℕ). slice_get ps u ≡ Some (Some 0)) (sym walk) (zero_at_goal roads may goal ps ok h there), omega arith)
  below v (i ∷ path) walk =
      let (s, here, now1, from, rest) = walk in
      let (d, to, low) = below s.to path rest in
      let told : feet_at (slice_get roads.segments i) ≡ s.feet = ap feet_at here in
      elim (cases_eq i x) [
        | inl same ↦
            let is : t ≡ s = segment_is t s (sym at ∙ (ap (slice_get roads.segments) (sym same) ∙ here)) in
            let (e, begin, less) = slack d (subst (λ (u : Segment). slice_get ps u.to ≡ Some (Some d)) (sym is) to) in
            let feet : t.feet ≡ s.feet = ap (λ (u : Segment). u.feet) is in
            (e, subst (λ (u : ℕ). slice_get ps u ≡ Some (Some e)) (ap (λ (u : Segment). u.from) is ∙ from) begin, omega (arith, less, low, told, feet))
        | inr other ↦
            let (e, begin, less) = certify roads may goal ps ok h i s d here (sym (others i other) ∙ now1) to in
            (e, subst (λ (u : ℕ). slice_get ps u ≡ Some (Some e)) from begin, omega (arith, less, low, told))
      ]

  -- a walk of least length by the old flags is one by the new ones
  kept : (v d : ℕ) (path : List ℕ) → slice_get ps v ≡ Some (Some d) → IsWalk roads.segments may v goal path → feet_of roads.segments path ≡ d → IsWalk roads.segments now v goal path
  kept v d [] begin walk long = walk
  kept v d (j ∷ path) begin walk long =
      let (s, here, rest, sum, tight) = tight_first roads may goal ps ok h v d j path begin walk long in
      let (u, here2, may1, from, few, next) = tight in
      let is : u ≡ s = segment_is u s (sym here2 ∙ here) in
      let next2 : slice_get ps s.to ≡ Some (Some (d - s.feet)) = subst (λ (w : Segment). slice_get ps w.to ≡ Some (Some (d - w.feet))) is next in
      let from2 : s.from ≡ v = ap (λ (w : Segment). w.from) (sym is) ∙ from in
      let few2 : s.feet ≤ d = subst (λ (w : Segment). w.feet ≤ d) is few in
      elim (cases_eq j x) [
        | inl same ↦
            let is2 : t ≡ s = segment_is t s (sym at ∙ (ap (slice_get roads.segments) (sym same) ∙ here)) in
            let (e, begin2, less) = slack (d - s.feet) (subst (λ (w : Segment). slice_get ps w.to ≡ Some (Some (d - s.feet))) (sym is2) next2) in
            let feet : t.feet ≡ s.feet = ap (λ (w : Segment). w.feet) is2 in
            let equal : e ≡ d = number_is e d (sym begin2 ∙ (ap (slice_get ps) (ap (λ (w : Segment). w.from) is2 ∙ from2) ∙ begin)) in
            absurd (omega (arith, less, feet, equal, few2))
        | inr other ↦ (s, here, others j other ∙ may1, from2, kept s.to (d - s.feet) path next2 rest (omega (arith, sum)))
      ]

  pub stay : ArePotentials roads.segments now (length roads.nodes) goal ps
  stay = record { many = h.many; each = λ v p begin. each v p begin }
    where
      each : (v : ℕ) (p : Option ℕ) → slice_get ps v ≡ Some p → IsPotential roads.segments now v goal p
      each v None begin = λ path walk. let (e, begin2, low) = below v path walk in absurd (cc)
      each v (Some d) begin =
          let (path, walk, long) = (least_at roads may goal ps ok h v d begin).reached in
          record {
            reached = (path, kept v d path begin walk long, long);
            least = λ other way. let (e, begin2, low) = below v other way in let equal : e ≡ d = number_is e d (sym begin2 ∙ begin) in omega (arith, low, equal);
          }

-- the test of the potentials says so
slack_cases : (p q : Option ℕ) (feet d : ℕ) → is_slack_by p feet q ≡ true → q ≡ Some d → (e : ℕ) × (p ≡ Some e) × (e < feet + d)
slack_cases p None feet d is some = absurd (cc)
slack_cases None (Some k) feet d is some = absurd (cc)
slack_cases (Some e) (Some k) feet d is some = let less : e < feet + k = ltb-true e (feet + k) is in let same : k ≡ d = cc in (e, refl, omega (arith, less, same))

slack_by : (roads : Roads) (ps : List (Option ℕ)) (x : ℕ) (t : Segment) → IsRoads roads → length ps ≡ length roads.nodes → slice_get roads.segments x ≡ Some t → is_slack roads.segments ps x ≡ true → IsSlack ps t
unfolding is_slack
slack_by roads ps x t ok many at is d to =
    let here : segment_at roads.segments x ≡ t = get_or_from_slice_get roads.segments x t no_segment at in
    let is2 : is_slack_by (get_or ps t.from None) t.feet (get_or ps t.to None) ≡ true = subst (λ (u : Segment). is_slack_by (get_or ps u.from None) u.feet (get_or ps u.to None) ≡ true) here is in
    let (e, begin, less) = slack_cases (get_or ps t.from None) (get_or ps t.to None) t.feet d is2 (get_or_from_slice_get ps t.to (Some d) None to) in
    (e, slice_get-get_or ps t.from None (omega (arith, many, (ok.each x t at).from)) ∙ ap (λ (p : Option ℕ). Some p) begin, less)

-- one flag is written that does not matter
pub potentials_stay : (roads : Roads) (flags after : List Bool) (goal : ℕ) (ps : List (Option ℕ)) (x : ℕ) (b : Bool) → IsRoads roads → ArePotentials roads.segments (flagged flags) (length roads.nodes) goal ps
    → goal < length roads.nodes → x < length roads.segments → after ≡ set flags x b → is_slack roads.segments ps x ≡ true → ArePotentials roads.segments (flagged after) (length roads.nodes) goal ps
potentials_stay roads flags after goal ps x b ok h there within is slack =
    let t : Segment = segment_at roads.segments x in
    let at : slice_get roads.segments x ≡ Some t = slice_get-get_or roads.segments x no_segment within in
    stay roads (flagged flags) (flagged after) goal ps ok h there x t at
    (λ i apart. ap (λ (l : List Bool). get_or l i false) is ∙ get_or-set_other flags x i b false apart)
    (slack_by roads ps x t ok h.many at slack)
