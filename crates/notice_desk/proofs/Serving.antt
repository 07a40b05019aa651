-- Subscribers that are served one after another.
use Rattle.std.proofs.Common.{◌≡◌, ◌∙◌, sym, ap, subst, ℕ, suc, ◌<◌, ◌≤◌, ◌+◌, List, ◌∷◌, ◌++◌, length, map, take, drop, get_or, arith}
use Rattle.std.proofs.Math.ListN.{set}
use Rattle.std.proofs.Math.Seq.{drop-cons, map-set_same}
use Rattle.std.proofs.lemmas.Grind.{common_steps}
use Rattle.std.proofs.lemmas.List.{get_or-map, length-map, map-set, take-append-drop}
use Rattle.std.proofs.lemmas.List.Elements.{All-get_or}
use Rattle.office_io.specs.Causes.{Rose}
use Rattle.notice_desk.specs.declared.notice.Recall.{Recall}
use Rattle.notice_desk.specs.Standings.{AreWithinRecalls, Standing}
use Rattle.notice_desk.specs.Deliveries.{RoseAt, Stopped, StoppedAt, through}
use Rattle.notice_desk.proofs.Places.{gone, gone_here, gone_on, gone_put, set-split}

module _ {S : Type 0} (view : S → Standing) (items : List S) (at : ℕ) (x : S) (before : List Standing) (recalls : List Recall)
    (is_x : x ≡ get_or items at x) (within : at < length items) (same : length before ≡ length items)
    (done : map view items ≡ gone (through recalls) at before) where
  in_before : at < length before
  in_before = omega arith

  -- the one that is served next stands as it did before the delivery
  pub next_is : view x ≡ get_or before at (view x)
  next_is = ap view is_x ∙ (sym (get_or-map view items at x (view x) within)
      ∙ (ap (λ l. get_or l at (view x)) done ∙ gone_here (through recalls) at before (view x) in_before))

  pub next_within : AreWithinRecalls recalls before → (view x).passed ≤ length recalls
  next_within all = rw next_is (All-get_or (λ s. s.passed ≤ length recalls) before at (view x) in_before all)

  pub served_on : (y : S) → view y ≡ through recalls (view x) → map view (set items at y) ≡ gone (through recalls) (at + 1) before
  served_on y e = map-set view items at y ∙ (ap (λ l. set l at (view y)) done
      ∙ (ap (λ s. set (gone (through recalls) at before) at s) (e ∙ ap (through recalls) next_is)
      ∙ gone_on (through recalls) at before (view x) in_before))

  pub stopped_there : (y : S) → Stopped recalls (view x) (view y) → StoppedAt at before recalls (map view (set items at y))
  stopped_there y stopped = record {
    front = take at before;
    found = get_or before at (view x);
    left = view y;
    back = drop (suc at) before;
    were = sym (ap (λ l. take at before ++ l) (sym (drop-cons before at (view x) in_before)) ∙ take-append-drop at before);
    are = map-set view items at y ∙ (ap (λ l. set l at (view y)) done ∙ gone_put (through recalls) at before (view x) (view y) in_before);
    is_at = grind (arith, common_steps);
    stopped = subst (λ s. Stopped recalls s (view y)) next_is stopped;
  }

module _ {S : Type 0} (count : S → ℕ) (items : List S) (at : ℕ) (x : S) (is_x : x ≡ get_or items at x) where
  -- the count of the one that was served stood
  pub counts_stand : (y : S) → count y ≡ count x → map count (set items at y) ≡ map count items
  counts_stand y stood = map-set_same count items at y x (stood ∙ ap count is_x)

  pub rises_at : (y : S) (counts : List ℕ) → at < length items → map count items ≡ counts → Rose (count x) (count y)
      → RoseAt at counts (map count (set items at y))
  rises_at y counts within were rose = record {
    front = take at (map count items);
    old = count x;
    new = count y;
    back = drop (suc at) (map count items);
    were = sym were ∙ (sym (take-append-drop at (map count items))
        ∙ ap (λ l. take at (map count items) ++ l) (drop-cons (map count items) at (count x) inside
        ∙ ap (λ n. n ∷ drop (suc at) (map count items)) (get_or-map count items at x (count x) within ∙ sym (ap count is_x))));
    are = map-set count items at y ∙ set-split (map count items) at (count y) inside;
    is_at = grind (arith, common_steps);
    rose = rose;
  }
    where
      inside : at < length (map count items)
      inside = rw (length-map items count) within
