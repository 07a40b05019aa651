-- Why a change is not posted.
use Rattle.std.specs.Prelude.{◌≡◌, not, nat_le, List, length, Option, Some, None, if◌then◌else◌}
use Rattle.road_graph.specs.Roads.{Roads}
use Rattle.restriction_log.specs.declared.change.Change.{Change}
use Rattle.restriction_log.specs.declared.refusal.PostRefusal.{PostRefusal}
use Rattle.restriction_log.specs.declared.refusal.PostRefusal.TheVariants.{Range, Full, NoMemory}
use Rattle.restriction_log.specs.Changes.{takes}

-- the first cause, in this order, for which a change is not posted behind these: the network does not take it, or there are
-- 1,000,000
abbrev pub post_refusal : Roads → List Change → Change → Option PostRefusal
post_refusal roads postings change =
    if not (takes roads change) then Some Range
    else (if nat_le 1000000 (length postings) then Some Full else None)

-- the refusal is the first cause that applies; that no memory was left comes only where none applies
abbrev pub IsPostCause : Option PostRefusal → PostRefusal → Type 0
IsPostCause cause NoMemory = cause ≡ None
IsPostCause cause refusal = cause ≡ Some refusal
