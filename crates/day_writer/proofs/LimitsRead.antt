-- The limits that are written are read.
use Rattle.std.proofs.Common.{◌≡◌, ◌∙◌, ◌≤◌, ◌∷◌, ◌++◌, [], ℕ, List, Ok, Some, Bool, true, false, cond, get_or, length, map, set, refl, ap, sym, arith, append_assoc}
use Rattle.std.specs.Prelude.{flat_map, slice_get, ◌==◌}
use Rattle.std.specs.Cmp.{second_so}
use Rattle.std.proofs.lemmas.Bool.{eqb-true, leb-true}
use Rattle.std.proofs.lemmas.List.{append-nil}
use Rattle.csv.specs.Records.{field_at}
use Rattle.restriction_log.specs.Changes.{flag}
use Rattle.road_graph.specs.Adding.{limited}
use Rattle.road_graph.specs.Ranges.{AreInRange, default_values, is_limit, with_value}
use Rattle.road_graph.specs.Roads.{no_segment, segment_names, number_of as number_named}
use Rattle.road_graph.specs.Words.{what_of, what_word}
use Rattle.road_graph.specs.declared.segment.Segment.{Segment}
use Rattle.road_graph.specs.declared.values.Values.{Values}
use Rattle.road_graph.specs.declared.values.What.{What}
use Rattle.road_graph.specs.declared.values.What.TheVariants.{Closed, Height, Width, Length, Gross, Allowance, Tridem}
use Rattle.day_text.specs.Days.{DayParts, judge_day}
use Rattle.day_text.specs.Roads.{with_limit_of}
use Rattle.day_writer.specs.Limits.{is_default, limit_row, limit_rows, one_limit_rows, value_of}
use Rattle.day_writer.specs.Writable.{IsWritable}
use Rattle.day_writer.proofs.Judge.{DaySoFar, open_day}
use Rattle.day_writer.proofs.Leading.{Goes, goes_each, goes_none, goes_one, goes_then, goes_to}
use Rattle.day_writer.proofs.Leaves.{name_ok, name_plain, number_ok}
use Rattle.day_writer.proofs.Lists.{at_here, found_at, map_here, set_here}
use Rattle.day_writer.proofs.Plain.{IsPlain, number_plain}
use Rattle.day_writer.proofs.RoadsRead.{bare, bare_names, on_day, segment_fits, segment_named}

-- the words of limits
pub word_read : (what : What) → what_of (what_word what) ≡ Some what
word_read Closed = refl
word_read Height = refl
word_read Width = refl
word_read Length = refl
word_read Gross = refl
word_read Allowance = refl
word_read Tridem = refl

pub word_plain : (what : What) → IsPlain (what_word what)
word_plain Closed = refl
word_plain Height = refl
word_plain Width = refl
word_plain Length = refl
word_plain Gross = refl
word_plain Allowance = refl
word_plain Tridem = refl

pub flag_fits : (b : Bool) → is_limit Closed (flag b) ≡ true
flag_fits true = refl
flag_fits false = refl

pub flag_back : (b : Bool) → (flag b == 1) ≡ b
flag_back true = refl
flag_back false = refl

-- each limit of a segment is in its range, and no range has more than seven digits
value_fits : (v : Values) → AreInRange v → (what : What) → is_limit what (value_of v what) ≡ true
value_fits v h Closed = flag_fits v.closed
value_fits v h Height = h.height
value_fits v h Width = h.width
value_fits v h Length = h.length
value_fits v h Gross = h.gross
value_fits v h Allowance = h.allowance
value_fits v h Tridem = h.tridem

pub limit_small : (what : What) (n : ℕ) → is_limit what n ≡ true → n ≤ 2000000
limit_small Closed n h = let most : n ≤ 1 = leb-true n 1 h in omega arith
limit_small Height n h = let most : n ≤ 999 = leb-true n 999 (second_so _ _ h) in omega arith
limit_small Width n h = let most : n ≤ 999 = leb-true n 999 (second_so _ _ h) in omega arith
limit_small Length n h = let most : n ≤ 9999 = leb-true n 9999 (second_so _ _ h) in omega arith
limit_small Gross n h = leb-true n 2000000 (second_so _ _ h)
limit_small Allowance n h = let most : n ≤ 100000 = leb-true n 100000 h in omega arith
limit_small Tridem n h = let most : n ≤ 600000 = leb-true n 600000 (second_so _ _ h) in omega arith

-- limits with one of them as on a segment of these limits
abbrev taking : Values → Values → What → Values
taking v base what = with_value v what (value_of base what)

closed_same : (v : Values) (b : Bool) → v.closed ≡ false → (flag b == 0) ≡ true → record v { closed = flag b == 1 } ≡ v
closed_same v true unset e = absurd (cc e)
closed_same v false unset e = let with_closed : Bool → Values = λ c. record v { closed = c } in ap with_closed (sym unset)

-- a day of whose records those of limits are read, which has come to these segments
abbrev pub on_limits : DayParts → List Segment → DaySoFar
on_limits file segments = record (on_day file.day file.base.roads.nodes segments file.base.roads.spans) { fleet = file.base.fleet; actors = file.actors }

module _ (file : DayParts) (h : IsWritable file) (front : List Segment) (s : Segment) (rest : List Segment) (e : front ++ (s ∷ rest) ≡ file.base.roads.segments) where
  -- the segment with these limits, those in front of it with all of theirs, and those behind it with none
  abbrev with_limits : Values → DaySoFar
  with_limits v = on_limits file (front ++ (record s { base = v } ∷ map bare rest))

  names_same : (v : Values) → segment_names (front ++ (record s { base = v } ∷ map bare rest)) ≡ segment_names file.base.roads.segments
  names_same v =
      sym (map_here (λ (t : Segment). t.name) front (record s { base = v }) (map bare rest) (front ++ (record s { base = v } ∷ map bare rest)) refl)
      ∙ (ap (λ (l : List (List ℕ)). segment_names front ++ (s.name ∷ l)) (bare_names rest) ∙ map_here (λ (t : Segment). t.name) front s rest file.base.roads.segments e)

  here : (v : Values) → number_named s.name (segment_names (front ++ (record s { base = v } ∷ map bare rest))) ≡ Some (length front)
  here v =
      let names = segment_names file.base.roads.segments in
      let at : slice_get names (length front) ≡ Some s.name =
      ap (λ (l : List (List ℕ)). slice_get l (length front)) (sym (map_here (λ (t : Segment). t.name) front s rest file.base.roads.segments e)) ∙ at_map front in
      ap (number_named s.name) (names_same v) ∙ found_at names (length front) s.name h.bounds.roads.segment_names at
    where
      at_map : (xs : List Segment) → slice_get (map (λ (t : Segment). t.name) xs ++ (s.name ∷ map (λ (t : Segment). t.name) rest)) (length xs) ≡ Some s.name
      at_map [] = refl
      at_map (x ∷ xs) = at_map xs

  limit_goes : (v : Values) (what : What) → Goes (with_limits v) (limit_row s what ∷ []) (with_limits (taking v s.base what))
  unfolding with_limit_of field_at
  limit_goes v what =
      let roads = file.base.roads in
      let value = value_of s.base what in
      let fits = value_fits s.base (segment_fits file h front s rest e).base what in
      let good = segment_named file h front s rest e in
      let few = limit_small what value fits in
      let old : List Segment = front ++ (record s { base = v } ∷ map bare rest) in
      let next : DaySoFar = on_limits file (set old (length front) (limited (get_or old (length front) no_segment) what value)) in
      let judges : judge_day (open_day (with_limits v)) (limit_row s what) ≡ Ok (open_day next) =
      rw (name_ok s.name good, word_read what, number_ok value (omega arith), here v, fits) refl in
      goes_to (with_limits v) next (with_limits (taking v s.base what)) (limit_row s what ∷ [])
      (goes_one (with_limits v) next (limit_row s what) (refl, (refl, (name_plain s.name good, (word_plain what, (number_plain value (omega arith), (refl, (refl, (refl, (refl, tt))))))))) judges)
      (ap (λ (t : Segment). on_limits file (set old (length front) (limited t what value))) (at_here front (record s { base = v }) (map bare rest) no_segment)
      ∙ ap (on_limits file) (set_here front (record s { base = v }) (map bare rest) (record s { base = taking v s.base what })))

  -- one limit, where it is left out as it is what it would be anyway
  one_goes : (v : Values) (what : What) → (is_default s.base what ≡ true → taking v s.base what ≡ v) → Goes (with_limits v) (one_limit_rows s what) (with_limits (taking v s.base what))
  one_goes v what kept = by (is_default s.base what) kept
    where
      by : (b : Bool) → (b ≡ true → taking v s.base what ≡ v) → Goes (with_limits v) (cond b [] (limit_row s what ∷ [])) (with_limits (taking v s.base what))
      by true k = goes_to (with_limits v) (with_limits v) (with_limits (taking v s.base what)) [] (goes_none (with_limits v)) (ap with_limits (sym (k refl)))
      by false k = limit_goes v what

  abbrev v1 : Values
  v1 = taking default_values s.base Closed

  abbrev v2 : Values
  v2 = taking v1 s.base Height

  abbrev v3 : Values
  v3 = taking v2 s.base Width

  abbrev v4 : Values
  v4 = taking v3 s.base Length

  abbrev v5 : Values
  v5 = taking v4 s.base Gross

  abbrev v6 : Values
  v6 = taking v5 s.base Allowance

  abbrev v7 : Values
  v7 = taking v6 s.base Tridem

  all_taken : v7 ≡ s.base
  all_taken = let with_closed : Bool → Values = λ c. record s.base { closed = c } in ap with_closed (flag_back s.base.closed)

  pub limits_go : Goes (with_limits default_values) (limit_rows s) (with_limits s.base)
  limits_go =
      goes_to (with_limits default_values) (with_limits v7) (with_limits s.base) (limit_rows s)
      (goes_then (with_limits default_values) (with_limits v1) (with_limits v7) (one_limit_rows s Closed) (flat_map (one_limit_rows s) (Height ∷ Width ∷ Length ∷ Gross ∷ Allowance ∷ Tridem ∷ []))
      (one_goes default_values Closed (λ d. closed_same default_values s.base.closed refl d))
      (goes_then (with_limits v1) (with_limits v2) (with_limits v7) (one_limit_rows s Height) (flat_map (one_limit_rows s) (Width ∷ Length ∷ Gross ∷ Allowance ∷ Tridem ∷ []))
      (one_goes v1 Height (λ d. ap (with_value v1 Height) (eqb-true s.base.height 999 d)))
      (goes_then (with_limits v2) (with_limits v3) (with_limits v7) (one_limit_rows s Width) (flat_map (one_limit_rows s) (Length ∷ Gross ∷ Allowance ∷ Tridem ∷ []))
      (one_goes v2 Width (λ d. ap (with_value v2 Width) (eqb-true s.base.width 999 d)))
      (goes_then (with_limits v3) (with_limits v4) (with_limits v7) (one_limit_rows s Length) (flat_map (one_limit_rows s) (Gross ∷ Allowance ∷ Tridem ∷ []))
      (one_goes v3 Length (λ d. ap (with_value v3 Length) (eqb-true s.base.length 9999 d)))
      (goes_then (with_limits v4) (with_limits v5) (with_limits v7) (one_limit_rows s Gross) (flat_map (one_limit_rows s) (Allowance ∷ Tridem ∷ []))
      (one_goes v4 Gross (λ d. ap (with_value v4 Gross) (eqb-true s.base.gross 2000000 d)))
      (goes_then (with_limits v5) (with_limits v6) (with_limits v7) (one_limit_rows s Allowance) (flat_map (one_limit_rows s) (Tridem ∷ []))
      (one_goes v5 Allowance (λ d. ap (with_value v5 Allowance) (eqb-true s.base.allowance 100000 d)))
      (goes_then (with_limits v6) (with_limits v7) (with_limits v7) (one_limit_rows s Tridem) []
      (one_goes v6 Tridem (λ d. ap (with_value v6 Tridem) (eqb-true s.base.tridem 600000 d)))
      (goes_none (with_limits v7)))))))))
      (ap with_limits all_taken)

module _ (file : DayParts) (h : IsWritable file) where
  -- those in front have their limits, and those behind have none yet
  abbrev so_far_limits : List Segment → List Segment → DaySoFar
  so_far_limits front rest = on_limits file (front ++ map bare rest)

  segment_limited : (front : List Segment) (s : Segment) (rest : List Segment) → front ++ (s ∷ rest) ≡ file.base.roads.segments
      → Goes (so_far_limits front (s ∷ rest)) (limit_rows s) (so_far_limits (front ++ (s ∷ [])) rest)
  segment_limited front s rest e =
      goes_to (so_far_limits front (s ∷ rest)) (with_limits file h front s rest e s.base) (so_far_limits (front ++ (s ∷ [])) rest) (limit_rows s)
      (limits_go file h front s rest e)
      (ap (on_limits file) (sym (append_assoc front (s ∷ []) (map bare rest))))

  pub all_limits_go : Goes (on_limits file (map bare file.base.roads.segments)) (flat_map limit_rows file.base.roads.segments) (on_limits file file.base.roads.segments)
  all_limits_go =
      goes_to (so_far_limits [] file.base.roads.segments) (so_far_limits file.base.roads.segments []) (on_limits file file.base.roads.segments) (flat_map limit_rows file.base.roads.segments)
      (goes_each file.base.roads.segments so_far_limits limit_rows segment_limited)
      (ap (on_limits file) (append-nil file.base.roads.segments))
