-- The steps of the search for reached nodes.
use Rattle.std.proofs.Common.{◌≡◌, ◌⊎◌, ◌+◌, ◌<◌, ◌≤◌, ◌∷◌, ◌++◌, [], ℕ, suc, zero, List, Bool, true, false, Some, length, get_or, set, take, refl, ap, sym, subst, inl, inr, arith, ◌∙◌, length-set, length-append, map, replicate}
use Rattle.std.proofs.lemmas.List.{length-map, length-replicate, take_more}
use Rattle.std.specs.Prelude.{slice_get, option_map, Contains}
use Rattle.std.proofs.lemmas.List.Elements.{Contains-append_left, Contains-push, Contains-push_cases}
use Rattle.std.proofs.lemmas.Bool.{cases_eq, false≢true}
use Rattle.road_graph.specs.declared.segment.Segment.{Segment}
use Rattle.road_graph.specs.declared.segment.Arrival.{Arrival}
use Rattle.road_graph.specs.Roads.{IsIncoming, IsOutgoing, IsRoads, Roads, incoming_of, outgoing_of}
use Rattle.std.proofs.lemmas.Option.{get_or_from_slice_get, slice_get-get_or, slice_get-map}
use Rattle.road_graph.proofs.Places.{get-push_cases, get-set_other, get-set_same, get_within}
use Rattle.route_search.specs.declared.reach.Step.{Step}
use Rattle.route_search.specs.declared.walks.Way.{Way}
use Rattle.route_search.specs.declared.walks.Way.TheVariants.{Back, Forth}
use Rattle.route_search.specs.Walks.{CanReach, IsAmong, IsWalk}
use Rattle.route_search.specs.Reaching.{AreMarked, IsMarked, IsMarkedToo, IsReaching, IsSpread, IsSpreading, IsStepAmong, Leads, begin_by, end_of, entered_at, to_do}

pub segment_is : (s t : Segment) → Some s ≡ Some t → s ≡ t
segment_is s t e = cc

get-replicate : (n v : ℕ) → slice_get (replicate n false) v ≡ Some true → false ≡ true
get-replicate zero v h = cc
get-replicate (suc n) zero h = cc
get-replicate (suc n) (suc v) h = get-replicate n v h

-- a walk and a segment more
walk_end : (segments : List Segment) (may : ℕ → Bool) (a b : ℕ) (path : List ℕ) (i : ℕ) (s : Segment) → IsWalk segments may a b path → slice_get segments i ≡ Some s → may i ≡ true → s.from ≡ b → IsWalk segments may a s.to (path ++ i ∷ [])
walk_end segments may a b [] i s walk at may1 from = (s, at, may1, from ∙ sym walk, refl)
walk_end segments may a b (j ∷ path) i s walk at may1 from = let (t, here, may2, begin, rest) = walk in (t, here, may2, begin, walk_end segments may t.to b path i s rest at may1 from)

pub reach_more : (segments : List Segment) (may : ℕ → Bool) (a b i : ℕ) (s : Segment) → CanReach segments may a b → slice_get segments i ≡ Some s → may i ≡ true → s.from ≡ b → CanReach segments may a s.to
reach_more segments may a b i s (path, walk) at may1 from = (path ++ i ∷ [], walk_end segments may a b path i s walk at may1 from)

-- a node more, by a segment from one that is reached
leads_more : (way : Way) (segments : List Segment) (may : ℕ → Bool) (root b i : ℕ) (s : Segment) → Leads way segments may root b → slice_get segments i ≡ Some s → may i ≡ true → begin_by way s ≡ b → Leads way segments may root (end_of way s)
leads_more Forth segments may root b i s h at may1 begin = reach_more segments may root b i s h at may1 begin
leads_more Back segments may root b i s (path, walk) at may1 begin = (i ∷ path, (s, at, may1, refl, subst (λ (v : ℕ). IsWalk segments may v root path) (sym begin) walk))

leads_none : (way : Way) (segments : List Segment) (may : ℕ → Bool) (root : ℕ) → Leads way segments may root root
leads_none Forth segments may root = ([], refl)
leads_none Back segments may root = ([], refl)

-- from a marked node walks lead to marked nodes, where the segments of each marked node do
module _ (roads : Roads) (may : ℕ → Bool) (marked : List Bool) where
  along : (path : List ℕ) (a b : ℕ) → ((v : ℕ) → IsMarked marked v → IsSpread Forth roads may marked v) → IsMarked marked a → IsWalk roads.segments may a b path → IsMarked marked b
  along [] a b spread m walk = subst (IsMarked marked) walk m
  along (i ∷ path) a b spread m walk = let (s, at, may1, begin, rest) = walk in along path s.to b spread (spread a m i s at may1 begin) rest

  against : (path : List ℕ) (a b : ℕ) → ((v : ℕ) → IsMarked marked v → IsSpread Back roads may marked v) → IsMarked marked b → IsWalk roads.segments may a b path → IsMarked marked a
  against [] a b spread m walk = subst (IsMarked marked) (sym walk) m
  against (i ∷ path) a b spread m walk =
      let (s, at, may1, begin, rest) = walk in
      subst (IsMarked marked) begin (spread s.to (against path s.to b spread m rest) i s at may1 refl)

  led : (way : Way) (root v : ℕ) → ((u : ℕ) → IsMarked marked u → IsSpread way roads may marked u) → IsMarked marked root → Leads way roads.segments may root v → IsMarked marked v
  led Forth root v spread m (path, walk) = along path root v spread m walk
  led Back root v spread m (path, walk) = against path v root spread m walk

-- the segment at a place among those that begin at a node, and of those that end there
pub step_forth : (segments : List Segment) (node k : ℕ) (list : List ℕ) (s : Segment) → list ≡ outgoing_of segments node → IsOutgoing segments node list → k < length (entered_at Forth segments node) → slice_get segments (get_or list k 0) ≡ Some s
    → IsStepAmong Forth segments node k (record { segment = get_or list k 0; to = s.to })
step_forth segments node k list s value all within here =
    let i : ℕ = get_or list k 0 in
    let at = slice_get-get_or list k 0 (omega (arith, within, ap length value)) in
    let (t, there, begin) = all.sound k i at in
    record {
      place = subst (λ (l : List ℕ). slice_get l k ≡ Some i) value at;
      segment = s;
      at = here;
      begin = ap (λ (x : Segment). x.from) (segment_is s t (sym here ∙ there)) ∙ begin;
      end = refl;
    }

pub step_back : (segments : List Segment) (node k : ℕ) (list : List Arrival) (none : Arrival) → list ≡ incoming_of segments node → IsIncoming segments node list → k < length (entered_at Back segments node)
    → IsStepAmong Back segments node k (record { segment = (get_or list k none).segment; to = (get_or list k none).from })
step_back segments node k list none value all within =
    let a : Arrival = get_or list k none in
    let many : length (map (λ (x : Arrival). x.segment) (incoming_of segments node)) ≡ length (incoming_of segments node) = length-map (incoming_of segments node) (λ (x : Arrival). x.segment) in
    let at = slice_get-get_or list k none (omega (arith, within, many, ap length value)) in
    let (s, there, ends, begin, feet) = all.sound k a at in
    record {
      place = subst (λ (l : List Arrival). slice_get (map (λ (x : Arrival). x.segment) l) k ≡ Some a.segment) value (slice_get-map (λ (x : Arrival). x.segment) list k ∙ ap (option_map (λ (x : Arrival). x.segment)) at);
      segment = s;
      at = there;
      begin = ends;
      end = sym begin;
    }

-- it is there, and with it one more is tried
pub step_within : (way : Way) (roads : Roads) (node k : ℕ) (step : Step) → IsRoads roads → IsStepAmong way roads.segments node k step → step.to < length roads.nodes
step_within Forth roads node k step ok is = subst (λ (v : ℕ). v < length roads.nodes) is.end (ok.each step.segment is.segment is.at).to
step_within Back roads node k step ok is = subst (λ (v : ℕ). v < length roads.nodes) is.end (ok.each step.segment is.segment is.at).from

pub one_tried : (list : List ℕ) (k i : ℕ) → slice_get list k ≡ Some i → take (k + 1) list ≡ take k list ++ i ∷ []
one_tried list k i at = take_more list k 0 (get_within list k i at) ∙ ap (λ (x : ℕ). take k list ++ x ∷ []) (get_or_from_slice_get list k i 0 at)

to_do-set : (ms : List Bool) (u : ℕ) → slice_get ms u ≡ Some false → to_do (set ms u true) + 1 ≡ to_do ms
to_do-set [] u h = cc
to_do-set (true ∷ ms) zero h = cc
to_do-set (false ∷ ms) zero h = omega arith
to_do-set (b ∷ ms) (suc u) h = let e = to_do-set ms u h in omega (arith, e)

module _ (marked : List Bool) (waiting : List ℕ) (now : List Bool) (queue : List ℕ) (node : ℕ) where
  now_marked : IsMarkedToo marked waiting now queue node → IsMarked now node
  now_marked (inl w) = rw w.1 w.0
  now_marked (inr w) = rw w.1 (get-set_same marked node true (get_within marked node false w.0))

  still_marked : IsMarkedToo marked waiting now queue node → (v : ℕ) → IsMarked marked v → IsMarked now v
  still_marked (inl w) v h = rw w.1 h
  still_marked (inr w) v h = elim (cases_eq v node) [
    | inl is ↦ rw (w.1, is) (get-set_same marked node true (get_within marked node false w.0))
    | inr far ↦ rw w.1 (get-set_other marked node true v far ∙ h)
  ]

  was_marked : IsMarkedToo marked waiting now queue node → (v : ℕ) → IsMarked now v → ((v ≡ node) × Contains queue v) ⊎ IsMarked marked v
  was_marked (inl w) v h = inr (rw (← w.1) h)
  was_marked (inr w) v h = elim (cases_eq v node) [
    | inl is ↦ inl (is, rw (w.2, is) (Contains-push waiting node))
    | inr far ↦ inr (sym (get-set_other marked node true v far) ∙ subst (λ (l : List Bool). slice_get l v ≡ Some true) w.1 h)
  ]

  still_waits : IsMarkedToo marked waiting now queue node → (v : ℕ) → Contains waiting v → Contains queue v
  still_waits (inl w) v h = rw w.2 h
  still_waits (inr w) v h = rw w.2 (Contains-append_left waiting (node ∷ []) v h)

  was_waiting : IsMarkedToo marked waiting now queue node → (v : ℕ) → Contains queue v → (v ≡ node) ⊎ Contains waiting v
  was_waiting (inl w) v h = inr (rw (← w.2) h)
  was_waiting (inr w) v h = elim (Contains-push_cases waiting node v (rw w.2 at h)) [ inl k ↦ inr k | inr k ↦ inl (sym k) ]

  mark_length : IsMarkedToo marked waiting now queue node → length now ≡ length marked
  mark_length (inl w) = ap length w.1
  mark_length (inr w) = rw w.1 (length-set marked node true)

  pub mark_less : IsMarkedToo marked waiting now queue node → to_do now + length queue ≤ to_do marked + length waiting
  mark_less (inl w) = rw (w.1, w.2) (omega arith)
  mark_less (inr w) = rw (w.1, w.2) (omega (arith, to_do-set marked node w.0, length-append waiting (node ∷ [])))

module _ (way : Way) (roads : Roads) (may : ℕ → Bool) (from : ℕ) (ok : IsRoads roads) where
  module _ (marked : List Bool) (waiting : List ℕ) (node : ℕ) (tried : List ℕ) (i : ℕ) (h : IsSpreading way roads may from marked waiting node tried) where
    pub spreading_skip : may i ≡ false → IsSpreading way roads may from marked waiting node (tried ++ i ∷ [])
    spreading_skip may0 = record {
      reaching = h.reaching;
      here = h.here;
      tried_all = λ k j s at there may1. elim (get-push_cases tried i k j at) [
        | inl w ↦ h.tried_all k j s w there may1
        | inr w ↦ absurd (let bad : may j ≡ false = ap may w.1 ∙ may0 in false≢true (sym bad ∙ may1))
      ];
    }

    pub spreading_more : (now : List Bool) (queue : List ℕ) (s : Segment) → slice_get roads.segments i ≡ Some s → may i ≡ true → begin_by way s ≡ node → IsMarkedToo marked waiting now queue (end_of way s) → IsSpreading way roads may from now queue node (tried ++ i ∷ [])
    spreading_more now queue s there may1 begin w =
        let r = h.reaching in
        record {
          reaching = record {
            many = mark_length marked waiting now queue (end_of way s) w ∙ r.many;
            start = still_marked marked waiting now queue (end_of way s) w from r.start;
            sound = λ v m. elim (was_marked marked waiting now queue (end_of way s) w v m) [
              | inl k ↦ rw k.0 (leads_more way roads.segments may from node i s (r.sound node h.here) there may1 begin)
              | inr k ↦ r.sound v k
            ];
            ranged = λ v c. elim (was_waiting marked waiting now queue (end_of way s) w v c) [
              | inl k ↦ rw k (now_marked marked waiting now queue (end_of way s) w)
              | inr k ↦ still_marked marked waiting now queue (end_of way s) w v (r.ranged v k)
            ];
            waits = λ v m. elim (was_marked marked waiting now queue (end_of way s) w v m) [
              | inl k ↦ inr (inl k.1)
              | inr k ↦ elim (r.waits v k) [
                | inl is ↦ inl is
                | inr rest ↦ elim rest [
                  | inl c ↦ inr (inl (still_waits marked waiting now queue (end_of way s) w v c))
                  | inr done ↦ inr (inr (λ j t at2 may2 begin2. still_marked marked waiting now queue (end_of way s) w (end_of way t) (done j t at2 may2 begin2)))
                ]
              ]
            ];
          };
          here = still_marked marked waiting now queue (end_of way s) w node h.here;
          tried_all = λ k j t at at2 may2. elim (get-push_cases tried i k j at) [
            | inl u ↦ still_marked marked waiting now queue (end_of way s) w (end_of way t) (h.tried_all k j t u at2 may2)
            | inr u ↦ (let same : t ≡ s = segment_is t s (sym at2 ∙ ap (slice_get roads.segments) u.1 ∙ there) in rw same (now_marked marked waiting now queue (end_of way s) w))
          ];
        }

  pub spread_done : (marked : List Bool) (waiting : List ℕ) (node : ℕ) (numbers : List ℕ) → ((i : ℕ) (s : Segment) → slice_get roads.segments i ≡ Some s → begin_by way s ≡ node → IsAmong numbers i) → IsSpreading way roads may from marked waiting node numbers → IsReaching way roads may from marked waiting
  spread_done marked waiting node numbers all h = record {
    many = h.reaching.many;
    start = h.reaching.start;
    sound = h.reaching.sound;
    ranged = h.reaching.ranged;
    waits = λ v m. elim (h.reaching.waits v m) [
      | inl is ↦ inr (inr (λ i s at may1 begin. let (k, place) = all i s at (begin ∙ is) in h.tried_all k i s place at may1))
      | inr rest ↦ inr rest
    ];
  }

  pub reaching_popped : (marked : List Bool) (waiting rest : List ℕ) (node : ℕ) → waiting ≡ rest ++ node ∷ [] → IsReaching way roads may from marked waiting → IsSpreading way roads may from marked rest node []
  reaching_popped marked waiting rest node e h0 =
      let h = subst (λ (l : List ℕ). IsReaching way roads may from marked l) e h0 in
      record {
        reaching = record {
          many = h.many;
          start = h.start;
          sound = h.sound;
          ranged = λ v c. h.ranged v (Contains-append_left rest (node ∷ []) v c);
          waits = λ v m. elim (h.waits v m) [
            | inl bad ↦ absurd bad
            | inr k ↦ elim k [
              | inl c ↦ elim (Contains-push_cases rest node v c) [ inl w ↦ inr (inl w) | inr w ↦ inl (sym w) ]
              | inr done ↦ inr (inr done)
            ]
          ];
        };
        here = h.ranged node (Contains-push rest node);
        tried_all = λ k i s at. absurd cc;
      }

  pub reaching_done : (marked : List Bool) → IsReaching way roads may from marked [] → AreMarked way roads may from marked
  reaching_done marked h = record {
    many = h.many;
    sound = h.sound;
    complete = λ v reach. led roads may marked way from v spread h.start reach;
  }
    where
      spread : (v : ℕ) → IsMarked marked v → IsSpread way roads may marked v
      spread v m = elim (h.waits v m) [
        | inl bad ↦ absurd bad
        | inr k ↦ elim k [ inl c ↦ (let (n, low, is) = c in absurd (omega (arith, low))) | inr done ↦ done ]
      ]

  pub reaching_first : (marked now : List Bool) (queue : List ℕ) → from < length roads.nodes → marked ≡ replicate (length roads.nodes) false → IsMarkedToo marked [] now queue from → IsReaching way roads may from now queue
  reaching_first marked now queue there e w = record {
    many = mark_length marked [] now queue from w ∙ rw e (length-replicate (length roads.nodes) false);
    start = now_marked marked [] now queue from w;
    sound = λ v m. elim (was_marked marked [] now queue from w v m) [
      | inl k ↦ rw k.0 (leads_none way roads.segments may from)
      | inr k ↦ absurd (none v k)
    ];
    ranged = λ v c. elim (was_waiting marked [] now queue from w v c) [
      | inl k ↦ rw k (now_marked marked [] now queue from w)
      | inr k ↦ (let (n, low, is) = k in absurd (omega (arith, low)))
    ];
    waits = λ v m. elim (was_marked marked [] now queue from w v m) [
      | inl k ↦ inr (inl k.1)
      | inr k ↦ absurd (none v k)
    ];
  }
    where
      none : (v : ℕ) → IsMarked marked v → ⊥
      none v m = false≢true (get-replicate (length roads.nodes) v (subst (λ (l : List Bool). slice_get l v ≡ Some true) e m))
