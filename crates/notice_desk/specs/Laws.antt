-- What deliveries leave one after another.
use Rattle.std.specs.Prelude.{◌≡◌, ℕ, List, ◌++◌}
use Rattle.std.specs.List.{remove}
use Rattle.notice_desk.specs.declared.notice.Recall.{Recall}
use Rattle.notice_desk.specs.Standings.{AreNew, AreWithinRecalls, Standing}
use Rattle.notice_desk.specs.Deliveries.{Delivered, EachToldAll, StoppedAt}

-- a delivery to those who are through with nothing tells each of them all that is its own
abbrev pub NewAreToldAll : Type 0
NewAreToldAll = (before after : List Standing) (recalls : List Recall) → AreNew before → Delivered before recalls after
    → EachToldAll before recalls after

-- the longer list begins with the recalls of the other, or is that list
abbrev pub Extends : List Recall → List Recall → Type 0
Extends longer recalls = (more : List Recall) × (longer ≡ recalls ++ more)

-- after a delivery of a list, one of a longer list tells just the rest: both leave what one of the longer list leaves
abbrev pub DeliveriesGoOn : Type 0
DeliveriesGoOn = (before middle after : List Standing) (recalls longer : List Recall) → AreWithinRecalls recalls before
    → Extends longer recalls → Delivered before recalls middle → Delivered middle longer after → Delivered before longer after

-- so it is after one that a fault stopped: the next tells each recall that was left, once
abbrev pub DeliveriesResume : Type 0
DeliveriesResume = (place : ℕ) (before middle after : List Standing) (recalls longer : List Recall) → AreWithinRecalls recalls before
    → Extends longer recalls → StoppedAt place before recalls middle → Delivered middle longer after
    → Delivered before longer after

-- and so it is for those who stay, where a subscriber is dropped between the two
abbrev pub DeliveriesResumeWithout : Type 0
DeliveriesResumeWithout = (place gone : ℕ) (before middle after : List Standing) (recalls longer : List Recall)
    → AreWithinRecalls recalls before → Extends longer recalls → StoppedAt place before recalls middle
    → Delivered (remove middle gone) longer after → Delivered (remove before gone) longer after
