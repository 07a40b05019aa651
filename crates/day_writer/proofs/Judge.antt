-- The states of the judge of day files. Their types have no name outside of its crate, so they are taken from what has them.
use Rattle.std.proofs.Common.{[], Option, Some, None}
use Rattle.std.specs.Prelude.{codes}
use Rattle.day_text.specs.Days.{come_to, fresh_day}
use Rattle.day_text.specs.Kinds.{kind_of}

abbrev type_of : {A : Type 0} → A → Type 0
type_of {A} x = A

abbrev some_type : {A : Type 0} → Option A → Type 0
some_type {A} x = A

abbrev IsFound : {A : Type 0} → Option A → Type 0
IsFound (Some x) = Unit {0}
IsFound None = ⊥

abbrev from_some : {A : Type 0} (o : Option A) → IsFound o → A
from_some (Some x) h = x
from_some None h = absurd h

-- the kind of a record behind which others follow
abbrev node_kind : some_type (kind_of [])
node_kind = from_some (kind_of (codes "node")) tt

-- what stands so far
abbrev pub DaySoFar : Type 0
DaySoFar = type_of (fresh_day [])

-- how far the records have come
abbrev pub DayProgress : Type 0
DayProgress = type_of (come_to node_kind (fresh_day []))

-- records that go on
abbrev pub open_day : DaySoFar → DayProgress
open_day d = come_to node_kind d

-- the kind of the last record
abbrev end_kind : some_type (kind_of [])
end_kind = from_some (kind_of (codes "end")) tt

-- records that have come to their end
abbrev pub ended_on : DaySoFar → DayProgress
ended_on d = come_to end_kind d
