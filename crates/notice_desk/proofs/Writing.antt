-- What subscribers wrote who are served one after another.
use Rattle.std.proofs.Common.{◌≡◌, ◌∙◌, sym, ap, subst, refl, ℕ, zero, suc, ◌+◌, ◌-◌, ◌<◌, List, [], ◌∷◌, ◌++◌, length, map, take, drop, get_or, Option, Some, Result, Ok, Err, add-one, arith}
use Rattle.std.specs.Prelude.{OnErr, option_map}
use Rattle.std.specs.List.{slice_get, slice_range}
use Rattle.std.specs.Io.KnownBytes.{Appends}
use Rattle.std.proofs.KnownBytes.{Appends-trans}
use Rattle.std.proofs.Math.ListN.{set}
use Rattle.std.proofs.Math.Seq.{drop-cons}
use Rattle.std.proofs.lemmas.Grind.{common_steps}
use Rattle.std.proofs.lemmas.List.{get_or-drop, get_or-map, get_or-set_same, length-drop, length-map, length-set, map-set, take-append-drop}
use Rattle.std.proofs.lemmas.Option.{slice_get-get_or, slice_get-map, slice_get_read}
use Rattle.notice_desk.specs.declared.notice.Recall.{Recall}
use Rattle.notice_desk.specs.Notices.{recalls_for}
use Rattle.notice_desk.specs.Standings.{At, Standing}
use Rattle.notice_desk.specs.Lines.{AppendsFront, EachWrote, Texts, WroteUntil, WroteUntilAt, lines_for, recall_line, recall_lines}
use Rattle.notice_desk.proofs.Places.{set-split}

-- what holds holds where a call answers an error
pub on_err : {T E : Type 0} {P : Type 0} (r : Result T E) → P → OnErr r P
on_err (Ok x) p = tt
on_err (Err e) p = p

-- the object failed at a recall of those from the old place on, behind those that it was told
pub wrote_until : (recalls rest : List Recall) (before after : Standing) (index : ℕ) (failed : Recall) (old middle new : Option (List ℕ))
    → rest ≡ drop before.passed recalls → after.passed ≡ before.passed + index → index < length rest → failed ≡ get_or rest index failed
    → Appends old middle (recall_lines (recalls_for before.whom (take index rest))) → AppendsFront middle new (recall_line failed)
    → WroteUntil recalls before after old new
wrote_until recalls rest before after index failed old middle new rest_is passed within is wrote (count, part) =
    let past : after.passed - before.passed ≡ index = omega arith in
    let told : Appends old middle (recall_lines (recalls_for before.whom (slice_range recalls before.passed after.passed))) =
    subst (λ (xs : List Recall). Appends old middle (recall_lines (recalls_for before.whom xs)))
    (ap (take index) rest_is ∙ ap (λ n. take n (drop before.passed recalls)) (sym past)) wrote in
    record {
      failed = failed;
      at = slice_get_read recalls (length recalls) after.passed failed refl (omega (arith, ap length rest_is, length-drop before.passed recalls))
          (is ∙ (ap (λ l. get_or l index failed) rest_is ∙ (get_or-drop before.passed recalls index failed ∙ ap (λ n. get_or recalls n failed) (sym passed))));
      count = count;
      wrote = Appends-trans old middle new _ (take count (recall_line failed)) told part;
    }

-- the next one wrote what it lacked
pub each_more : (ss : List Standing) (recalls : List Recall) (texts now : Texts) (at : ℕ) (s : Standing) (x y : Option (List ℕ))
    → EachWrote (take at ss) recalls texts now → at < length ss → length texts ≡ length ss → s ≡ get_or ss at s → x ≡ get_or now at x
    → Appends x y (lines_for recalls s) → EachWrote (take (suc at) ss) recalls texts (set now at y)
each_more [] recalls texts now at s x y each within same is_s is_x wrote = absurd (omega arith)
each_more (r ∷ ss) recalls [] now at s x y each within same is_s is_x wrote = absurd (omega arith)
each_more (r ∷ ss) recalls (t ∷ texts) now zero s x y same_texts within same is_s is_x wrote =
    let here = subst (λ z. Appends z y (lines_for recalls r)) (is_x ∙ ap (λ l. get_or l zero x) same_texts) (subst (λ z. Appends x y (lines_for recalls z)) is_s wrote) in
    subst (λ l. EachWrote (take 1 (r ∷ ss)) recalls (t ∷ texts) (set l zero y)) (sym same_texts) (here, refl)
each_more (r ∷ ss) recalls (t ∷ texts) [] (suc at) s x y each within same is_s is_x wrote = absurd each
each_more (r ∷ ss) recalls (t ∷ texts) (u ∷ now) (suc at) s x y (first, each) within same is_s is_x wrote =
    (first, each_more ss recalls texts now at s x y each (omega arith) (omega arith) is_s is_x wrote)

-- the texts of those who were served and of the others, apart
each_front : (ss : List Standing) (recalls : List Recall) (texts now : Texts) → EachWrote ss recalls texts now
    → EachWrote ss recalls (take (length ss) texts) (take (length ss) now)
each_front [] recalls texts now each = refl
each_front (s ∷ ss) recalls [] now each = absurd each
each_front (s ∷ ss) recalls (t ∷ texts) [] each = absurd each
each_front (s ∷ ss) recalls (t ∷ texts) (u ∷ now) (first, each) = (first, each_front ss recalls texts now each)

each_behind : (ss : List Standing) (recalls : List Recall) (texts now : Texts) → EachWrote ss recalls texts now
    → drop (length ss) now ≡ drop (length ss) texts
each_behind [] recalls texts now each = each
each_behind (s ∷ ss) recalls [] now each = absurd each
each_behind (s ∷ ss) recalls (t ∷ texts) [] each = absurd each
each_behind (s ∷ ss) recalls (t ∷ texts) (u ∷ now) (first, each) = each_behind ss recalls texts now each

-- who stands at a place
at_place : (ss : List Standing) (at : ℕ) (s : Standing) (P : Standing → Type 0) → slice_get ss at ≡ Some s → P s → At ss at P
at_place ss at s P is p = rw is p

module _ {S : Type 0} (view : S → Standing) (text : S → Option (List ℕ)) (items : List S) (at : ℕ) (x : S) (before : List Standing)
    (recalls : List Recall) (texts : Texts) (is_x : x ≡ get_or items at x) (within : at < length items) (same : length before ≡ length items)
    (many : length texts ≡ length items) (next_is : view x ≡ get_or before at (view x))
    (each : EachWrote (take at before) recalls texts (map text items)) where
  in_before : at < length before
  in_before = omega arith

  in_now : at < length (map text items)
  in_now = rw (length-map items text) within

  taken : length (take at before) ≡ at
  taken = grind (arith, common_steps)

  text_is : text x ≡ get_or (map text items) at (text x)
  text_is = ap text is_x ∙ sym (get_or-map text items at x (text x) within)

  pub wrote_on : (y : S) → Appends (text x) (text y) (lines_for recalls (view x))
      → EachWrote (take (at + 1) before) recalls texts (map text (set items at y))
  wrote_on y wrote = rw (map-set text items at y, add-one)
      (each_more before recalls texts (map text items) at (view x) (text x) (text y) each in_before (many ∙ sym same) next_is text_is wrote)

  pub wrote_until_there : (y : S) → WroteUntil recalls (view x) (view y) (text x) (text y)
      → WroteUntilAt at before recalls (map view (set items at y)) texts (map text (set items at y))
  wrote_until_there y until = record {
    front = take at texts;
    grown = take at (map text items);
    old = text x;
    new = text y;
    back = drop (suc at) (map text items);
    were = sym (take-append-drop at texts) ∙ ap (λ l. take at texts ++ l)
        (sym (subst (λ n. drop n (map text items) ≡ drop n texts) taken (each_behind (take at before) recalls texts (map text items) each))
        ∙ (drop-cons (map text items) at (text x) in_now ∙ ap (λ t. t ∷ drop (suc at) (map text items)) (sym text_is)));
    are = map-set text items at y ∙ set-split (map text items) at (text y) in_now;
    is_at = grind (arith, common_steps);
    done = subst (λ n. EachWrote (take at before) recalls (take n texts) (take n (map text items))) taken
        (each_front (take at before) recalls texts (map text items) each);
    last = at_place before at (view x) _ (slice_get-get_or before at (view x) in_before ∙ ap Some (sym next_is))
        (at_place (map view (set items at y)) at (view y) _
        (slice_get-map view (set items at y) at ∙ ap (option_map view) (slice_get-get_or (set items at y) at y (rw (length-set items at y) within) ∙ ap Some (get_or-set_same items at y y within))) until);
  }
