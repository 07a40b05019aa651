-- What a delivery of a list of recalls leaves.
use Rattle.std.specs.Prelude.{◌≡◌, ℕ, ◌≤◌, true, List, ◌∷◌, ◌++◌, drop, length, map, Some, slice_get}
use Rattle.std.specs.List.{slice_range}
use Rattle.office_io.specs.Causes.{Rose}
use Rattle.notice_desk.specs.declared.notice.Recall.{Recall}
use Rattle.notice_desk.specs.Notices.{is_for, recalls_for, told_more}
use Rattle.notice_desk.specs.Standings.{Standing}

-- through with the whole list: told what is its own from its old place on, in order, once each
abbrev pub through : List Recall → Standing → Standing
through recalls s = record s {
  passed = length recalls;
  told = told_more s.told (recalls_for s.whom (drop s.passed recalls));
}

-- The delivery is done: each subscriber is through with the whole list.
abbrev pub Delivered : List Standing → List Recall → List Standing → Type 0
Delivered before recalls after = after ≡ map (through recalls) before

-- told all of the list that is its own, in order, once each, and through with it
abbrev pub told_all : List Recall → Standing → Standing
told_all recalls s = record s { passed = length recalls; told = told_more s.told (recalls_for s.whom recalls) }

-- Each subscriber was told all of the list that is its own, in order, once each, and is through with it.
abbrev pub EachToldAll : List Standing → List Recall → List Standing → Type 0
EachToldAll before recalls after = after ≡ map (told_all recalls) before

-- A subscriber's object failed at a recall that is its own. It is through with what came before that recall, and was told
-- what of this is its own.
pub record Stopped (recalls : List Recall) (before after : Standing) : Type 0 where
  pub same : after.whom ≡ before.whom
  pub further : before.passed ≤ after.passed
  pub failed : Recall
  pub at : slice_get recalls after.passed ≡ Some failed
  pub own : is_for before.whom failed ≡ true
  pub told : after.told ≡ told_more before.told (recalls_for before.whom (slice_range recalls before.passed after.passed))

-- The delivery stopped at the subscriber of this place: those before it are through with the whole list, and those after it
-- are as they were.
pub record StoppedAt (place : ℕ) (before : List Standing) (recalls : List Recall) (after : List Standing) : Type 0 where
  pub front : List Standing
  pub found : Standing
  pub left : Standing
  pub back : List Standing
  pub were : before ≡ front ++ found ∷ back
  pub are : after ≡ map (through recalls) front ++ left ∷ back
  pub is_at : length front ≡ place
  pub stopped : Stopped recalls found left

-- the count of faults at this place rose, and no other changed
pub record RoseAt (place : ℕ) (before now : List ℕ) : Type 0 where
  pub front : List ℕ
  pub old : ℕ
  pub new : ℕ
  pub back : List ℕ
  pub were : before ≡ front ++ old ∷ back
  pub are : now ≡ front ++ new ∷ back
  pub is_at : length front ≡ place
  pub rose : Rose old new
