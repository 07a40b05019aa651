-- How subscribers stand: what each was told, and how far it is through.
use Rattle.std.specs.Prelude.{◌≡◌, ℕ, ◌≤◌, List, All, length, map, Option, MatchOption, slice_get}
use Rattle.std.specs.declared.alloc.Global.{Global}
use Rattle.std.specs.declared.dyn_box.DynBox.{DynBox}
use Rattle.notice_desk.specs.declared.notice.Recall.{Recall}
use Rattle.notice_desk.specs.declared.notice.Whom.{Whom}
use Rattle.notice_desk.specs.declared.subscribers.Subscriber.{Subscriber}
use Rattle.notice_desk.specs.declared.subscribers.Subscribers.{Subscribers}

-- A subscriber: whose recalls it is told, how many recalls of the list it is through with, and the list told, where its
-- object tells it.
pub record Standing : Type 0 where
  pub whom : Whom
  pub passed : ℕ
  pub told : Option (List Recall)

-- one that is added with an object which was told this
abbrev pub new_standing : Whom → Option (List Recall) → Standing
new_standing whom told = record { whom = whom; passed = 0; told = told }

-- A subscriber as it stands, where `told` is what boxed objects tell. In contracts that is the member `list` of `Notice`;
-- where no box stands in the signature, `λ n. list (n.vtable, n.value)`.
abbrev pub standing_of : {X : Type 0} {Y : X → Type 0} → (DynBox X Global Y → Option (List Recall)) → Subscriber X Y
    → Standing
standing_of told s = record { whom = s.whom; passed = s.passed; told = told s.notice }

-- all subscribers as they stand, in the order in which they were added
abbrev pub standings : {X : Type 0} {Y : X → Type 0} → (DynBox X Global Y → Option (List Recall)) → Subscribers X Y
    → List Standing
standings told s = map (standing_of told) s.list.items

-- the counts of their objects' faults, where `faults` is the member of `Notice`, in the same order
abbrev pub fault_counts : {X : Type 0} {Y : X → Type 0} → (DynBox X Global Y → ℕ) → Subscribers X Y → List ℕ
fault_counts faults s = map (λ x. faults x.notice) s.list.items

-- what their objects wrote, where `text` is the member of `Notice`, in the same order
abbrev pub texts : {X : Type 0} {Y : X → Type 0} → (DynBox X Global Y → Option (List ℕ)) → Subscribers X Y
    → List (Option (List ℕ))
texts text s = map (λ x. text x.notice) s.list.items

-- what holds of the subscriber at this place
abbrev pub At : List Standing → ℕ → (Standing → Type 0) → Type 0
At standings place P = MatchOption (slice_get standings place) ⊥ P

-- no subscriber is through with any recall
abbrev pub AreNew : List Standing → Type 0
AreNew standings = All (λ s. s.passed ≡ 0) standings

-- no subscriber is through with more recalls than there are
abbrev pub AreWithinRecalls : List Recall → List Standing → Type 0
AreWithinRecalls recalls standings = All (λ s. s.passed ≤ length recalls) standings
