-- How the calls of others and those of a desk go together, and what is so of all that a desk has handled.
use Rattle.std.specs.Prelude.{◌≡◌, ◌≢◌, ◌<◌, ℕ, List, [], ◌∷◌, false}
use Rattle.std.specs.List.{flat_map}
use Rattle.trip_analysis.specs.Findings.{is_number_among}
use Rattle.office_words.specs.declared.entry.Entry.{Entry}
use Rattle.office_core.specs.Happened.{Numbers}
use Rattle.office_core.specs.Machine.{entries_by}
use Rattle.office_core.specs.Offices.{Opened, grown}
use Rattle.office_core.specs.Promises.{KeepsPromises}
use Rattle.reroute_desk.specs.declared.handled.Handled.{Handled}
use Rattle.reroute_desk.specs.declared.handled.HandledAs.{HandledAs}
use Rattle.reroute_desk.specs.declared.handled.HandledAs.TheVariants.{Ended, Refused, Replaced}
use Rattle.reroute_desk.specs.Desks.{Desk, KeepsUp, new_desk, olds_of}

-- a new desk keeps up with an office whose history has no entry of its caller
abbrev pub NewDesksKeepUp : Type 0
NewDesksKeepUp = (caller : ℕ) (o : Opened) → caller < 65536 → entries_by caller o.history ≡ [] → KeepsUp (new_desk caller) o

-- a desk that keeps up does so after each call of others
abbrev pub CallsOfOthersKeepUp : Type 0
CallsOfOthersKeepUp = (desk : Desk) (o : Opened) (e : Entry) → e.caller ≢ desk.caller → KeepsUp desk o → KeepsUp desk (grown o e)

-- each number stands in the list once
abbrev pub StandOnce : Numbers → Type 0
StandOnce [] = Unit {0}
StandOnce (n ∷ ns) = (is_number_among n ns ≡ false) × StandOnce ns

-- the number of the permit that replaces one, if it was replaced
abbrev pub new_of : HandledAs → Numbers
new_of Ended = []
new_of (Replaced number version routes) = number ∷ []
new_of (Refused version limit) = []

-- the numbers of the permits that replace others, in order
abbrev pub news_of : List Handled → Numbers
news_of items = flat_map (λ h. new_of h.what) items

-- no permit is replaced twice, and no permit replaces two
pub record ReplacesOnce (desk : Desk) : Type 0 where
  pub olds : StandOnce (olds_of desk.handled)
  pub news : StandOnce (news_of desk.handled)

-- so it is of every desk that keeps up with an office
abbrev pub PermitsAreReplacedOnce : Type 0
PermitsAreReplacedOnce = (desk : Desk) (o : Opened) → KeepsPromises o.base o.opening o.history → KeepsUp desk o → ReplacesOnce desk
