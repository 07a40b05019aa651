-- The steps of the search for potentials.
use Rattle.std.proofs.Common.{◌≡◌, ◌≢◌, ◌⊎◌, ◌+◌, ◌*◌, ◌<◌, ◌≤◌, ◌∷◌, ◌++◌, [], ℕ, suc, zero, List, Bool, true, false, Option, Some, None, length, set, get_or, refl, ap, sym, subst, inl, inr, arith, ◌∙◌, length-set, replicate}
use Rattle.std.proofs.lemmas.List.{length-replicate}
use Rattle.std.specs.Prelude.{slice_get}
use Rattle.std.proofs.lemmas.Bool.{cases_eq, cases_lt, false≢true}
use Rattle.std.proofs.lemmas.Option.{get_or_from_slice_get, slice_get-get_or}
use Rattle.road_graph.specs.declared.segment.Segment.{Segment}
use Rattle.road_graph.specs.Roads.{IsIncoming, IsRoads, Roads}
use Rattle.road_graph.proofs.Places.{get-push_cases, get-set_other, get-set_same}
use Rattle.road_graph.specs.declared.segment.Arrival.{Arrival}
use Rattle.route_search.specs.declared.waiting.Waiting.{Waiting}
use Rattle.route_search.specs.Walks.{AreNear, ArePotentials, IsPotential, IsWalk, every, feet_at, feet_of, flagged}
use Rattle.route_search.specs.Settling.{AreAskedFrom, IsBelow, IsIn, IsKept, IsMet, IsOut, IsPushed, IsRelaxing, IsSearching, IsNodeSettled, IsShortened, IsTried, all_weight, beyond, known, one_if_known, weight_of}
use Rattle.route_search.proofs.Joined.{feet_join, feet_on, walk_join, walk_on}
use Rattle.route_search.proofs.Outcomes.{to_every}
use Rattle.route_search.proofs.Weights.{all_weight-set, known-least, known-set}

pub some_injective : (a b : ℕ) → Some (Some a) ≡ Some (Some b) → a ≡ b
some_injective a b e = cc

pub same_segment : (s t : Segment) → Some s ≡ Some t → s ≡ t
same_segment s t e = cc

-- what is at a place once u has d
module _ (ps : List (Option ℕ)) (u d : ℕ) (within : u < length ps) where
  at_new : (e : ℕ) → slice_get (set ps u (Some d)) u ≡ Some (Some e) → e ≡ d
  at_new e h = some_injective e d (sym h ∙ get-set_same ps u (Some d) within)

  pub still_below : d < weight_of (get_or ps u None) → (v m : ℕ) → IsBelow ps v m → IsBelow (set ps u (Some d)) v m
  still_below less v m b = elim (cases_eq v u) [
    | inl is ↦ (let value : get_or ps u None ≡ Some b.value = get_or_from_slice_get ps u (Some b.value) None (subst (λ (n : ℕ). slice_get ps n ≡ Some (Some b.value)) is b.at) in
        let low : d < b.value = subst (λ (o : Option ℕ). d < weight_of o) value less in
        record { value = d; at = rw is (get-set_same ps u (Some d) within); below = omega (arith, low, b.below) })
    | inr ne ↦ record { value = b.value; at = get-set_other ps u (Some d) v ne ∙ b.at; below = b.below }
  ]

  still_out : d < weight_of (get_or ps u None) → (segments : List Segment) (start : Option ℕ) (v m : ℕ) → IsOut segments start ps v m → IsOut segments start (set ps u (Some d)) v m
  still_out less segments None v m out = absurd out
  still_out less segments (Some a) v m (b, at, far) =
      let low = still_below less a b (record { value = b; at = at; below = omega arith }) in
      (low.value, low.at, λ way walk. let k = far way walk in omega (arith, k, low.below))

  pub still_met : d < weight_of (get_or ps u None) → (segments : List Segment) (start : Option ℕ) (v m : ℕ) → IsMet segments start ps v m → IsMet segments start (set ps u (Some d)) v m
  still_met less segments start v m (inl b) = inl (still_below less v m b)
  still_met less segments start v m (inr out) = inr (still_out less segments start v m out)

  pub still_settled : d < weight_of (get_or ps u None) → (segments : List Segment) (may : ℕ → Bool) (start : Option ℕ) (v e : ℕ) → IsNodeSettled segments may start ps v e → IsNodeSettled segments may start (set ps u (Some d)) v e
  still_settled less segments may start v e h i s at may1 to = still_met less segments start s.from (e + s.feet) (h i s at may1 to)

-- what is out at the end of a segment is out at its beginning
pub out_before : (segments : List Segment) (start : Option ℕ) (ps : List (Option ℕ)) (i : ℕ) (s : Segment) (d : ℕ) → slice_get segments i ≡ Some s → IsOut segments start ps s.to d → IsOut segments start ps s.from (d + s.feet)
out_before segments None ps i s d at out = absurd out
out_before segments (Some a) ps i s d at (b, known, far) = (
  b,
  known,
  λ way walk.
      let k = far (way ++ i ∷ []) (walk_on segments every a i s way at refl walk) in
      let e = feet_on segments i s way at in
      omega (arith, k, e),
)

-- how many are known, and that the new length is bounded by it
known_after : (ps : List (Option ℕ)) (u d feet : ℕ) (old : Option ℕ) → u < length ps → get_or ps u None ≡ old → d + feet < weight_of old → feet ≤ 10000000 → d ≤ 10000000 * known ps
    → ((e : ℕ) → old ≡ Some e → e ≤ 10000000 * known ps) → (known ps ≤ known (set ps u (Some (d + feet)))) × (d + feet ≤ 10000000 * known (set ps u (Some (d + feet))))
known_after ps u d feet None within is less few low high =
    let e = known-set ps u (Some (d + feet)) within in
    let z : one_if_known (get_or ps u None) ≡ 0 = ap one_if_known is in
    (omega (arith, e, z), omega (arith, e, z, few, low))
known_after ps u d feet (Some old) within is less few low high =
    let e = known-set ps u (Some (d + feet)) within in
    let z : one_if_known (get_or ps u None) ≡ 1 = ap one_if_known is in
    let k = high old refl in
    (omega (arith, e, z), omega (arith, e, z, k, less))

module _ (roads : Roads) (may : ℕ → Bool) (start : Option ℕ) (goal : ℕ) (ok : IsRoads roads) where
  -- a segment more on a walk of known length
  walk_more : (i : ℕ) (s : Segment) (path : List ℕ) (d : ℕ) → slice_get roads.segments i ≡ Some s → may i ≡ true → IsWalk roads.segments may s.to goal path → feet_of roads.segments path ≡ d
      → (way : List ℕ) × IsWalk roads.segments may s.from goal way × (feet_of roads.segments way ≡ d + s.feet)
  walk_more i s path d at may1 walk long = (i ∷ path, (s, at, may1, refl, walk), rw at (omega (arith, long)))

  module _ (ps : List (Option ℕ)) (queue : List Waiting) (now : List (Option ℕ)) (waiting : List Waiting) (i : ℕ) (s : Segment) (d : ℕ) (at : slice_get roads.segments i ≡ Some s) (may1 : may i ≡ true) (there : slice_get ps s.to ≡ Some (Some d)) where
    pub kept_shortened : IsKept roads may goal ps queue → IsShortened ps queue now waiting s.from (d + s.feet) → IsKept roads may goal now waiting
    kept_shortened h w =
        let u = s.from in
        let fits = ok.each i s at in
        let within : s.from < length ps = omega (arith, h.many, fits.from) in
        let more = known_after ps s.from d s.feet (get_or ps s.from None) within refl w.less fits.far (h.bounded s.to d there)
        (λ e is. h.bounded s.from e (slice_get-get_or ps s.from None within ∙ ap (λ (o : Option ℕ). Some o) is)) in
        rw w.list (record {
          many = length-set ps s.from (Some (d + s.feet)) ∙ h.many;
          zero = elim (cases_eq goal s.from) [
            | inl is ↦ absurd (let value : get_or ps s.from None ≡ Some 0 = get_or_from_slice_get ps s.from (Some 0) None (subst (λ (n : ℕ). slice_get ps n ≡ Some (Some 0)) is h.zero) in
                let low : d + s.feet < 0 = subst (λ (o : Option ℕ). d + s.feet < weight_of o) value w.less in omega (arith, low))
            | inr ne ↦ get-set_other ps s.from (Some (d + s.feet)) goal ne ∙ h.zero
          ];
          reached = λ v e now_at. elim (cases_eq v s.from) [
            | inl is ↦ (let same : e ≡ d + s.feet = at_new ps s.from (d + s.feet) within e (subst (λ (n : ℕ). slice_get (set ps s.from (Some (d + s.feet))) n ≡ Some (Some e)) is now_at) in
                let (path, walk, long) = h.reached s.to d there in
                rw (is, same) (walk_more i s path d at may1 walk long))
            | inr ne ↦ h.reached v e (sym (get-set_other ps s.from (Some (d + s.feet)) v ne) ∙ now_at)
          ];
          bounded = λ v e now_at. elim (cases_eq v s.from) [
            | inl is ↦ (let same : e ≡ d + s.feet = at_new ps s.from (d + s.feet) within e (subst (λ (n : ℕ). slice_get (set ps s.from (Some (d + s.feet))) n ≡ Some (Some e)) is now_at) in
                rw same more.1)
            | inr ne ↦ (let low = h.bounded v e (sym (get-set_other ps s.from (Some (d + s.feet)) v ne) ∙ now_at) in omega (arith, low, more.0))
          ];
          ranged = λ x here. elim (w.pushed.no_more x here) [
            | inl is ↦ rw is fits.from
            | inr old ↦ h.ranged x old
          ];
        })

    -- the arrival is tried: it is settled, as the earlier ones are
    pub relaxing_tried : (v : ℕ) (a : Arrival) (tried : List Arrival) → a.from ≡ s.from → a.feet ≡ s.feet → IsRelaxing roads may start goal ps queue v d tried → IsTried roads start ps queue now waiting s.from (d + s.feet) → IsRelaxing roads may start goal now waiting v d (tried ++ a ∷ [])
    relaxing_tried v a tried from feet h (inl w) =
        let within : s.from < length ps = omega (arith, h.kept.many, (ok.each i s at).from) in
        let ne : v ≢ s.from = (λ is. let value : get_or ps s.from None ≡ Some d = get_or_from_slice_get ps s.from (Some d) None (subst (λ (n : ℕ). slice_get ps n ≡ Some (Some d)) is h.here) in
        let low : d + s.feet < d = subst (λ (o : Option ℕ). d + s.feet < weight_of o) value w.less in omega (arith, low)) in
        record {
          kept = kept_shortened h.kept w;
          here = rw w.list (get-set_other ps s.from (Some (d + s.feet)) v ne ∙ h.here);
          settled = rw w.list (λ j t place may2. elim (get-push_cases tried a j t place) [
            | inl old ↦ still_met ps s.from (d + s.feet) within w.less roads.segments start t.from (d + t.feet) (h.settled j t old may2)
            | inr is ↦ rw (is.1, from, feet) (inl (record { value = d + s.feet; at = get-set_same ps s.from (Some (d + s.feet)) within; below = omega arith }))
          ]);
          waits = rw w.list (λ u e now_at. elim (cases_eq u s.from) [
            | inl is ↦ (let same : e ≡ d + s.feet = at_new ps s.from (d + s.feet) within e (subst (λ (n : ℕ). slice_get (set ps s.from (Some (d + s.feet))) n ≡ Some (Some e)) is now_at) in
                inr (inl (rw (is, same) w.pushed.one)))
            | inr far ↦ elim (h.waits u e (sym (get-set_other ps s.from (Some (d + s.feet)) u far) ∙ now_at)) [
              | inl is ↦ inl is
              | inr k ↦ elim k [
                | inl in_queue ↦ inr (inl (w.pushed.others (record { length = e; node = u }) in_queue))
                | inr done ↦ inr (inr (still_settled ps s.from (d + s.feet) within w.less roads.segments may start u e done))
              ]
            ]
          ]);
        }
    relaxing_tried v a tried from feet h (inr w) = rw (w.list, w.same) (record {
      kept = h.kept;
      here = h.here;
      settled = λ j t place may2. elim (get-push_cases tried a j t place) [
        | inl old ↦ h.settled j t old may2
        | inr is ↦ rw (is.1, from, feet) w.met
      ];
      waits = h.waits;
    })

    -- a try lets no more to do
    pub tried_less : IsKept roads may goal ps queue → IsTried roads start ps queue now waiting s.from (d + s.feet) → all_weight now + length waiting ≤ all_weight ps + length queue
    tried_less h (inl w) =
        let within : s.from < length ps = omega (arith, h.many, (ok.each i s at).from) in
        rw w.list (omega (arith, all_weight-set ps s.from (Some (d + s.feet)) within, w.less, w.pushed.len))
    tried_less h (inr w) = rw (w.list, w.same) (omega arith)

  module _ (ps : List (Option ℕ)) (queue : List Waiting) (v d : ℕ) where
    -- an arrival that may not be passed
    pub relaxing_skip : (a : Arrival) (tried : List Arrival) → may a.segment ≡ false → IsRelaxing roads may start goal ps queue v d tried → IsRelaxing roads may start goal ps queue v d (tried ++ a ∷ [])
    relaxing_skip a tried may0 h = record {
      kept = h.kept;
      here = h.here;
      settled = λ j t place may2. elim (get-push_cases tried a j t place) [
        | inl old ↦ h.settled j t old may2
        | inr is ↦ absurd (let bad : may t.segment ≡ false = ap (λ (x : Arrival). may x.segment) is.1 ∙ may0 in false≢true (sym bad ∙ may2))
      ];
      waits = h.waits;
    }

    -- all arrivals are tried
    pub relaxed : (arrivals : List Arrival) → IsIncoming roads.segments v arrivals → IsRelaxing roads may start goal ps queue v d arrivals → IsSearching roads may start goal ps queue
    relaxed arrivals all h = record {
      kept = h.kept;
      waits = λ u e at. elim (h.waits u e at) [
        | inl is ↦ (let same : e ≡ d = some_injective e d (sym at ∙ ap (slice_get ps) is ∙ h.here) in inr (rw (is, same) (λ i s here may1 to.
            let (j, a, place, number) = all.complete i s here to in
            let (t, there, end, from, feet) = all.sound j a place in
            let same2 : t ≡ s = same_segment t s (sym there ∙ ap (slice_get roads.segments) number ∙ here) in
            let b = h.settled j a place (ap may number ∙ may1) in
            let from2 : a.from ≡ s.from = from ∙ ap (λ (x : Segment). x.from) same2 in
            let feet2 : a.feet ≡ s.feet = feet ∙ ap (λ (x : Segment). x.feet) same2 in
            rw (from2, feet2) at b)))
        | inr k ↦ k
      ];
    }

    -- no walk by the node is asked for
    pub relaxed_out : (tried : List Arrival) → IsRelaxing roads may start goal ps queue v d tried → IsOut roads.segments start ps v d → IsSearching roads may start goal ps queue
    relaxed_out tried h out = record {
      kept = h.kept;
      waits = λ u e at. elim (h.waits u e at) [
        | inl is ↦ (let same : e ≡ d = some_injective e d (sym at ∙ ap (slice_get ps) is ∙ h.here) in inr (λ i s here may1 to.
            let there : IsOut roads.segments start ps s.to e = rw (to, is, same) out in
            inr (out_before roads.segments start ps i s e here there)))
        | inr k ↦ k
      ];
    }

    pub relaxing_small : (tried : List Arrival) → IsRelaxing roads may start goal ps queue v d tried → d < beyond
    relaxing_small tried h = let low = h.kept.bounded v d h.here in let few = known-least ps in omega (arith, low, few, h.kept.many, ok.few_nodes)

  -- a node comes out of the queue
  module _ (ps : List (Option ℕ)) (queue rest : List Waiting) (x : Waiting) (h : IsSearching roads may start goal ps queue) (one : IsIn x queue) (others : (w : Waiting) → IsIn w queue → (w ≡ x) ⊎ IsIn w rest) (no_more : (w : Waiting) → IsIn w rest → IsIn w queue) where
    kept_popped : IsKept roads may goal ps rest
    kept_popped = record {
      many = h.kept.many;
      zero = h.kept.zero;
      reached = h.kept.reached;
      bounded = h.kept.bounded;
      ranged = λ w here. h.kept.ranged w (no_more w here);
    }

    pub popped_within : x.node < length ps
    popped_within = omega (arith, h.kept.ranged x one, h.kept.many)

    pub popped_near : slice_get ps x.node ≡ Some (Some x.length) → IsRelaxing roads may start goal ps rest x.node x.length []
    popped_near here = record {
      kept = kept_popped;
      here = here;
      settled = λ j t place may2. absurd cc;
      waits = λ u e at. elim (h.waits u e at) [
        | inl in_queue ↦ elim (others (record { length = e; node = u }) in_queue) [ inl is ↦ inl (ap (λ (w : Waiting). w.node) is) | inr k ↦ inr (inl k) ]
        | inr done ↦ inr (inr done)
      ];
    }

    pub popped_stale : (slice_get ps x.node ≡ Some (Some x.length) → ⊥) → IsSearching roads may start goal ps rest
    popped_stale stale = record {
      kept = kept_popped;
      waits = λ u e at. elim (h.waits u e at) [
        | inl in_queue ↦ elim (others (record { length = e; node = u }) in_queue) [
          | inl is ↦ absurd (stale (subst (λ (w : Waiting). slice_get ps w.node ≡ Some (Some w.length)) is at))
          | inr k ↦ inl k
        ]
        | inr done ↦ inr done
      ];
    }

-- a walk leads from the start to v that is with m feet more no longer than what the start has, if one start is asked for alone
abbrev IsWithin : List Segment → Option ℕ → List (Option ℕ) → ℕ → ℕ → Type 0
IsWithin segments None ps v m = Unit {0}
IsWithin segments (Some a) ps v m = (b : ℕ) → slice_get ps a ≡ Some (Some b) → (way : List ℕ) × IsWalk segments every a v way × (feet_of segments way + m ≤ b)

within_more : (segments : List Segment) (start : Option ℕ) (ps : List (Option ℕ)) (i : ℕ) (s : Segment) (m n : ℕ) → slice_get segments i ≡ Some s → n ≡ s.feet + m → IsWithin segments start ps s.from n → IsWithin segments start ps s.to m
within_more segments None ps i s m n at sum w = tt
within_more segments (Some a) ps i s m n at sum w = λ b known.
    let (way, walk, low) = w b known in
    let e = feet_on segments i s way at in
    (way ++ i ∷ [], walk_on segments every a i s way at refl walk, omega (arith, low, e, sum))

within_met : (segments : List Segment) (start : Option ℕ) (ps : List (Option ℕ)) (v m n : ℕ) → m ≤ n → IsWithin segments start ps v n → IsMet segments start ps v m → IsBelow ps v m
within_met segments start ps v m n less w (inl b) = b
within_met segments None ps v m n less w (inr out) = absurd out
within_met segments (Some a) ps v m n less w (inr (b, known, far)) =
    let (way, walk, low) = w b known in
    let k = far way walk in
    absurd (omega (arith, k, low, less))

module _ (roads : Roads) (may : ℕ → Bool) (start : Option ℕ) (goal : ℕ) (ok : IsRoads roads) (ps : List (Option ℕ)) (h : IsSearching roads may start goal ps []) where
  settled : (v d : ℕ) → slice_get ps v ≡ Some (Some d) → IsNodeSettled roads.segments may start ps v d
  settled v d at = elim (h.waits v d at) [
    | inl in_queue ↦ (let (k, low, is) = in_queue in absurd (omega (arith, low)))
    | inr done ↦ done
  ]

  -- nothing waits any more: no walk that is asked for is shorter than the potentials say
  pub least : (path : List ℕ) (v : ℕ) → IsWalk roads.segments may v goal path → IsWithin roads.segments start ps v (feet_of roads.segments path) → IsBelow ps v (feet_of roads.segments path)
  least [] v w near = record { value = 0; at = rw w h.kept.zero; below = omega arith }
  least (i ∷ path) v w near =
      let (s, at, may1, from, rest) = w in
      let told : feet_at (slice_get roads.segments i) ≡ s.feet = ap feet_at at in
      let n = feet_at (slice_get roads.segments i) + feet_of roads.segments path in
      let here : IsWithin roads.segments start ps s.from n = subst (λ (u : ℕ). IsWithin roads.segments start ps u n) (sym from) near in
      let b = least path s.to rest (within_more roads.segments start ps i s (feet_of roads.segments path) n at (omega (arith, told)) here) in
      let met = settled s.to b.value b.at i s at may1 refl in
      let c = within_met roads.segments start ps s.from (b.value + s.feet) n (omega (arith, b.below, told)) here met in
      record { value = c.value; at = rw (← from) c.at; below = omega (arith, c.below, b.below, told) }

-- all potentials are asked for
module _ (roads : Roads) (may : ℕ → Bool) (goal : ℕ) (ok : IsRoads roads) where
  pub settled_all : (ps : List (Option ℕ)) → IsSearching roads may None goal ps [] → ArePotentials roads.segments may (length roads.nodes) goal ps
  settled_all ps h = record {
    many = h.kept.many;
    each = λ v p at. either v p at;
  }
    where
      either : (v : ℕ) (p : Option ℕ) → slice_get ps v ≡ Some p → IsPotential roads.segments may v goal p
      either v None at = λ path walk. (let b = least roads may None goal ok ps h path v walk tt in let bad : Some None ≡ Some (Some b.value) = sym at ∙ b.at in absurd (cc))
      either v (Some d) at = record {
        reached = h.kept.reached v d at;
        least = λ path walk. (let b = least roads may None goal ok ps h path v walk tt in let same : d ≡ b.value = some_injective d b.value (sym at ∙ b.at) in omega (arith, same, b.below));
      }

-- those of one start alone
module _ (roads : Roads) (may : ℕ → Bool) (a goal : ℕ) (ok : IsRoads roads) (ps : List (Option ℕ)) (h : IsSearching roads may (Some a) goal ps []) where
  near_here : (p : Option ℕ) → slice_get ps a ≡ Some p → IsPotential roads.segments may a goal p
  near_here None at = λ path walk.
      let b = least roads may (Some a) goal ok ps h path a walk (λ b known. absurd (let bad : Some None ≡ Some (Some b) = sym at ∙ known in cc)) in
      let bad : Some None ≡ Some (Some b.value) = sym at ∙ b.at in absurd (cc)
  near_here (Some d) at = record {
    reached = h.kept.reached a d at;
    least = λ path walk. elim (cases_lt (feet_of roads.segments path) d) [
      | inr long ↦ long
      | inl short ↦
          let near : IsWithin roads.segments (Some a) ps a (feet_of roads.segments path) = (λ b known.
          let same : d ≡ b = some_injective d b (sym at ∙ known) in ([], refl, omega (arith, same, short))) in
          let b = least roads may (Some a) goal ok ps h path a walk near in
          let same : d ≡ b.value = some_injective d b.value (sym at ∙ b.at) in omega (arith, same, b.below)
    ];
  }

  near_on : (v : ℕ) (way path : List ℕ) → IsWalk roads.segments may a v way → IsWalk roads.segments may v goal path
      → ((other : List ℕ) → IsWalk roads.segments may a goal other → feet_of roads.segments way + feet_of roads.segments path ≤ feet_of roads.segments other)
      → slice_get ps v ≡ Some (Some (feet_of roads.segments path))
  near_on v way path to on shortest =
      let near : IsWithin roads.segments (Some a) ps v (feet_of roads.segments path) = (λ b known.
      let (other, walk, long) = h.kept.reached a b known in
      let k = shortest other walk in
      (way, to_every roads.segments may a v way to, omega (arith, k, long))) in
      let b = least roads may (Some a) goal ok ps h path v on near in
      let (rest, walk, long) = h.kept.reached v b.value b.at in
      let k = shortest (way ++ rest) (walk_join roads.segments may a v goal way rest to walk) in
      let e = feet_join roads.segments way rest in
      let same : b.value ≡ feet_of roads.segments path = omega (arith, b.below, long, k, e) in
      b.at ∙ ap (λ (n : ℕ). Some (Some n)) same

  pub settled_near : AreNear roads.segments may (length roads.nodes) a goal ps
  settled_near = record { many = h.kept.many; each = h.kept.reached; here = near_here; on = near_on }

get-replicate : (n v : ℕ) (p q : Option ℕ) → slice_get (replicate n p) v ≡ Some q → q ≡ p
get-replicate zero v p q h = cc
get-replicate (suc n) zero p q h = cc
get-replicate (suc n) (suc v) p q h = get-replicate n v p q h

-- the goal alone is known, and waits
pub searching_first : (roads : Roads) (may : ℕ → Bool) (start : Option ℕ) (goal : ℕ) (ps : List (Option ℕ)) (queue : List Waiting) → goal < length roads.nodes → ps ≡ replicate (length roads.nodes) None → IsPushed [] queue (record { length = 0; node = goal }) → IsSearching roads may start goal (set ps goal (Some 0)) queue
searching_first roads may start goal ps queue there e w =
    let many : length ps ≡ length roads.nodes = rw e (length-replicate (length roads.nodes) None) in
    let within : goal < length ps = omega (arith, many, there) in
    let none : (v : ℕ) (p : Option ℕ) → slice_get ps v ≡ Some p → p ≡ None = (λ v p at. get-replicate (length roads.nodes) v None p (subst (λ (l : List (Option ℕ)). slice_get l v ≡ Some p) e at)) in
    let only : (v d : ℕ) → slice_get (set ps goal (Some 0)) v ≡ Some (Some d) → (v ≡ goal) × (d ≡ 0) = (λ v d at. elim (cases_eq v goal) [
      | inl is ↦ (is, at_new ps goal 0 within d (subst (λ (n : ℕ). slice_get (set ps goal (Some 0)) n ≡ Some (Some d)) is at))
      | inr far ↦ absurd (let bad : Some d ≡ None = none v (Some d) (sym (get-set_other ps goal (Some 0) v far) ∙ at) in cc)
    ]) in
    record {
      kept = record {
        many = length-set ps goal (Some 0) ∙ many;
        zero = get-set_same ps goal (Some 0) within;
        reached = λ v d at. ([], (only v d at).0, sym (only v d at).1);
        bounded = λ v d at. omega (arith, (only v d at).1);
        ranged = λ x here. elim (w.no_more x here) [ inl is ↦ rw is there | inr old ↦ (let (k, low, value) = old in absurd (omega (arith, low))) ];
      };
      waits = λ v d at. inl (rw ((only v d at).0, (only v d at).1) w.one);
    }

pub asked_found : (roads : Roads) (passable : List Bool) (start : Option ℕ) (goal : ℕ) (ok : IsRoads roads) (ps : List (Option ℕ)) → IsSearching roads (flagged passable) start goal ps [] → AreAskedFrom roads passable start goal ps
asked_found roads passable None goal ok ps h = settled_all roads (flagged passable) goal ok ps h
asked_found roads passable (Some a) goal ok ps h = settled_near roads (flagged passable) a goal ok ps h
