-- The formats of journals: which entries each has words for.
use Rattle.std.specs.Prelude.{Bool, true, false, not, ℕ, List, length, nat_lt, Option, Some, None, if◌then◌else◌}
use Rattle.restriction_log.specs.declared.change.Change.{Change}
use Rattle.restriction_log.specs.declared.change.Change.TheVariants as change
use Rattle.clearance_rules.specs.declared.limit.Limit.{Limit}
use Rattle.clearance_rules.specs.declared.limit.Limit.TheVariants as limit
use Rattle.trip_analysis.specs.declared.finding.What.{What}
use Rattle.trip_analysis.specs.declared.finding.What.TheVariants as what
use Rattle.office_words.specs.declared.entry.Call.{Call}
use Rattle.office_words.specs.declared.entry.Call.TheVariants as call
use Rattle.office_words.specs.declared.entry.Cause.{Cause}
use Rattle.office_words.specs.declared.entry.Cause.TheVariants as cause
use Rattle.office_words.specs.declared.entry.Reply.{Reply}
use Rattle.office_words.specs.declared.entry.Reply.TheVariants as reply
use Rattle.office_words.specs.declared.entry.Entry.{Entry}
use Rattle.journal_text.specs.declared.format.Format.{Format}
use Rattle.journal_text.specs.declared.format.Format.TheVariants.{One, Two, Three}

-- whether a change is one of a limit on tridem groups
abbrev pub posts_tridem : Change → Bool
posts_tridem (change.Tridem segment pounds) = true
posts_tridem other = false

-- whether the limit that fails is one on tridem groups
abbrev pub is_of_tridem : Limit → Bool
is_of_tridem (limit.Tridem segment i j weight allowed) = true
is_of_tridem other = false

-- whether a call asks that a limit on tridem groups is posted
abbrev pub asks_tridem : Call → Bool
asks_tridem (call.Post posted) = posts_tridem posted
asks_tridem other = false

-- whether a proposal is outdated by a limit on tridem groups
abbrev pub is_by_tridem : Cause → Bool
is_by_tridem (cause.NowFails why) = is_of_tridem why
is_by_tridem (cause.NowMeets segment) = false

-- whether an answer names a limit on tridem groups as the one that fails
abbrev pub answers_tridem : Reply → Bool
answers_tridem (reply.Refused version why) = is_of_tridem why
answers_tridem (reply.Outdated version why) = is_by_tridem why
answers_tridem other = false

-- whether an entry tells of a limit on tridem groups, in its call or in its answer
abbrev pub tells_tridem : Entry → Bool
tells_tridem e = if asks_tridem e.call then true else answers_tridem e.reply

-- more than one route
abbrev pub are_several : List (List ℕ) → Bool
are_several routes = nat_lt 1 (length routes)

-- whether more than one route is asked for
abbrev pub seeks_several : Option (List (List ℕ)) → Bool
seeks_several None = false
seeks_several (Some routes) = are_several routes

-- whether more than one route was found
abbrev pub finds_several : What → Bool
finds_several (what.Route routes) = are_several routes
finds_several other = false

-- whether a call asks for more than one route, or comes with more than one that was found
abbrev pub asks_several : Call → Bool
asks_several (call.Submit a p) = if seeks_several a.asked then true else finds_several p.what
asks_several (call.Held a) = seeks_several a.asked
asks_several other = false

-- whether an answer issues a permit for more than one route
abbrev pub answers_several : Reply → Bool
answers_several (reply.Issued number version routes) = are_several routes
answers_several other = false

-- whether an entry tells of more than one route, in its call or in its answer
abbrev pub tells_several : Entry → Bool
tells_several e = if asks_several e.call then true else answers_several e.reply

-- whether the format has words for the entry: until the third there is one route wherever routes stand, and the first has no
-- limit on tridem groups
abbrev pub is_said_in : Format → Entry → Bool
is_said_in One e = if tells_several e then false else not (tells_tridem e)
is_said_in Two e = not (tells_several e)
is_said_in Three e = true
