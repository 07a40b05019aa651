-- The words of an entry of a journal. Each function puts its words in front of those that follow.
use Rattle.std.specs.Prelude.{ℕ, List, ◌∷◌, codes, Option, Some, None}
use Rattle.std.specs.Fmt.{decimal}
use Rattle.influence_line.specs.Fractions.{Ratio, ratio_text}
use Rattle.road_graph.specs.Words.{what_word}
use Rattle.restriction_log.specs.Changes.{replaced_by}
use Rattle.restriction_log.specs.declared.change.Change.{Change}
use Rattle.restriction_log.specs.declared.change.Replaced.{Replaced}
use Rattle.restriction_log.specs.declared.change.Replaced.TheVariants as replaced
use Rattle.clearance_rules.specs.declared.limit.Limit.{Limit}
use Rattle.clearance_rules.specs.declared.limit.Limit.TheVariants as limit
use Rattle.trip_analysis.specs.declared.application.Application.{Application}
use Rattle.trip_analysis.specs.declared.finding.What.{What}
use Rattle.trip_analysis.specs.declared.finding.What.TheVariants as what
use Rattle.permit_book.specs.declared.permit.Status.{Status}
use Rattle.permit_book.specs.declared.permit.Status.TheVariants as status
use Rattle.office_words.specs.declared.entry.Call.{Call}
use Rattle.office_words.specs.declared.entry.Call.TheVariants as call
use Rattle.office_words.specs.declared.entry.Cause.{Cause}
use Rattle.office_words.specs.declared.entry.Cause.TheVariants as cause
use Rattle.office_words.specs.declared.entry.Reply.{Reply}
use Rattle.office_words.specs.declared.entry.Reply.TheVariants as reply
use Rattle.journal_text.specs.Words.{Words, group, index, numbers_words, places_words, routes_words}

-- a value of a segment
abbrev pub posted_words : ℕ → List ℕ → ℕ → Words → Words
posted_words segment named value ws = codes "segment" ∷ index segment ∷ named ∷ decimal value ∷ ws

-- a value that is posted, on a segment or on a span
abbrev pub replaced_words : Replaced → Words → Words
replaced_words (replaced.Limit segment what value) ws = posted_words segment (what_word what) value ws
replaced_words (replaced.Rating span permille) ws = codes "span" ∷ index span ∷ codes "rating" ∷ decimal permille ∷ ws

-- a change that is posted, by what it replaces
abbrev pub change_words : Change → Words → Words
change_words change ws = replaced_words (replaced_by change) ws

-- a posted value that is exceeded: what the load has, and what is allowed
abbrev pub over_words : ℕ → List ℕ → ℕ → ℕ → Words → Words
over_words segment named has allowed ws = posted_words segment named has (codes "over" ∷ decimal allowed ∷ ws)

-- what a group of axles weighs, its limit, and the allowance on it
abbrev pub weighed_words : ℕ → ℕ → ℕ → Words → Words
weighed_words weight most allowance ws =
    codes "weight" ∷ decimal weight ∷ codes "limit" ∷ decimal most ∷ codes "allowance" ∷ decimal allowance ∷ ws

-- what a tridem group weighs, and what is allowed
abbrev pub outweighed_words : ℕ → ℕ → Words → Words
outweighed_words weight allowed ws = codes "weight" ∷ decimal weight ∷ codes "over" ∷ decimal allowed ∷ ws

-- an effect that is over a span's rating: the truck's, that of HS20-44, and the rating
abbrev pub effect_words : List ℕ → Ratio → Ratio → ℕ → Words → Words
effect_words named has design rating ws =
    named ∷ ratio_text has ∷ codes "hs20" ∷ ratio_text design ∷ codes "rating" ∷ decimal rating ∷ ws

-- a limit that a load fails: its segment, which limit it is, and the numbers compared, if any
abbrev pub limit_words : Limit → Words → Words
limit_words (limit.Closed segment) ws = codes "segment" ∷ index segment ∷ codes "closed" ∷ ws
limit_words (limit.Height segment has allowed) ws = over_words segment (codes "height") has allowed ws
limit_words (limit.Width segment has allowed) ws = over_words segment (codes "width") has allowed ws
limit_words (limit.Length segment has allowed) ws = over_words segment (codes "length") has allowed ws
limit_words (limit.Gross segment has allowed) ws = over_words segment (codes "gross") has allowed ws
limit_words (limit.Group segment i j weight most allowance) ws =
    codes "segment" ∷ index segment ∷ codes "group" ∷ group i j ∷ weighed_words weight most allowance ws
limit_words (limit.Tridem segment i j weight allowed) ws =
    codes "segment" ∷ index segment ∷ codes "tridem" ∷ group i j ∷ outweighed_words weight allowed ws
limit_words (limit.Moment segment span has design rating) ws =
    codes "segment" ∷ index segment ∷ codes "span" ∷ index span ∷ effect_words (codes "moment") has design rating ws
limit_words (limit.Shear segment span has design rating) ws =
    codes "segment" ∷ index segment ∷ codes "span" ∷ index span ∷ effect_words (codes "shear") has design rating ws

-- a limit of a group of axles
abbrev pub IsOfGroup : Limit → Type 0
IsOfGroup (limit.Group segment i j weight most allowance) = Unit {0}
IsOfGroup (limit.Tridem segment i j weight allowed) = Unit {0}
IsOfGroup _ = ⊥

-- a limit of a span
abbrev pub IsOfSpan : Limit → Type 0
IsOfSpan (limit.Moment segment span has design rating) = Unit {0}
IsOfSpan (limit.Shear segment span has design rating) = Unit {0}
IsOfSpan _ = ⊥

-- the asked routes, if any are asked for
abbrev pub asked_words : Option (List (List ℕ)) → Words → Words
asked_words None ws = codes "asked" ∷ codes "none" ∷ ws
asked_words (Some routes) ws = routes_words (codes "asked") routes ws

-- the first and the last day of a trip
abbrev pub days_words : List ℕ → List ℕ → Words → Words
days_words first last ws = codes "days" ∷ first ∷ last ∷ ws

-- an application: its truck, the nodes where it begins and ends, the asked routes and the days
abbrev pub application_words : Application → Words → Words
application_words a ws =
    codes "truck" ∷ index a.truck ∷ codes "from" ∷ index a.from ∷ codes "to" ∷ index a.to ∷ asked_words a.asked (days_words a.first a.last ws)

-- what was found
abbrev pub what_words : What → Words → Words
what_words what.NotNeeded ws = codes "none" ∷ ws
what_words (what.Route routes) ws = routes_words (codes "route") routes ws
what_words (what.Fails segment) ws = codes "fails" ∷ index segment ∷ ws
what_words (what.Cut nodes) ws = places_words (codes "cut") nodes ws

-- a call: what is asked of the office, and with what
abbrev pub call_words : Call → Words → Words
call_words call.Snapshot ws = codes "snapshot" ∷ ws
call_words (call.Submit a p) ws = codes "submit" ∷ application_words a (codes "seen" ∷ decimal p.seen ∷ what_words p.what ws)
call_words (call.Held a) ws = codes "held" ∷ application_words a ws
call_words (call.Post posted) ws = codes "post" ∷ change_words posted ws
call_words (call.Day day) ws = codes "day" ∷ day ∷ ws
call_words (call.Surrender number) ws = codes "surrender" ∷ decimal number ∷ ws
call_words (call.Show number) ws = codes "show" ∷ decimal number ∷ ws

-- how a permit stands: in force, recalled by a posting, surrendered or expired
abbrev pub status_words : Status → Words → Words
status_words status.InForce ws = codes "inforce" ∷ ws
status_words (status.Recalled version) ws = codes "recalled" ∷ decimal version ∷ ws
status_words status.Surrendered ws = codes "surrendered" ∷ ws
status_words status.Expired ws = codes "expired" ∷ ws

-- why a proposal is outdated
abbrev pub cause_words : Cause → Words → Words
cause_words (cause.NowFails why) ws = codes "fails" ∷ limit_words why ws
cause_words (cause.NowMeets segment) ws = codes "meets" ∷ codes "segment" ∷ index segment ∷ ws

-- a permit that is shown: its number, its caller and its truck
abbrev pub shown_words : ℕ → ℕ → ℕ → Words → Words
shown_words number caller truck ws =
    codes "shown" ∷ decimal number ∷ codes "caller" ∷ index caller ∷ codes "truck" ∷ index truck ∷ ws

-- the version of a permit's issue, the one at which its routes were found, and how it stands
abbrev pub standing_words : ℕ → ℕ → Status → Words → Words
standing_words version seen now ws = codes "at" ∷ decimal version ∷ codes "seen" ∷ decimal seen ∷ status_words now ws

-- a reply: what the office answers; that it is full is the reply of no entry, and has no words
abbrev pub reply_words : Reply → Words → Words
reply_words (reply.SnapshotAt version) ws = codes "at" ∷ decimal version ∷ ws
reply_words (reply.Issued number version routes) ws =
    codes "issued" ∷ decimal number ∷ codes "at" ∷ decimal version ∷ routes_words (codes "route") routes ws
reply_words (reply.Refused version why) ws = codes "refused" ∷ decimal version ∷ limit_words why ws
reply_words (reply.Outdated version why) ws = codes "outdated" ∷ decimal version ∷ cause_words why ws
reply_words reply.NotNeeded ws = codes "notneeded" ∷ ws
reply_words reply.NoRoad ws = codes "noroad" ∷ ws
reply_words (reply.Late day) ws = codes "late" ∷ day ∷ ws
reply_words (reply.Posted version recalled) ws = codes "posted" ∷ decimal version ∷ numbers_words (codes "recalled") recalled ws
reply_words reply.OutOfRange ws = codes "range" ∷ ws
reply_words (reply.DayIs day) ws = codes "day" ∷ day ∷ ws
reply_words (reply.DayBack day) ws = codes "dayback" ∷ day ∷ ws
reply_words reply.Surrendered ws = codes "surrendered" ∷ ws
reply_words reply.NotYours ws = codes "notyours" ∷ ws
reply_words reply.Unknown ws = codes "unknown" ∷ ws
reply_words (reply.NotInForce now) ws = codes "notinforce" ∷ status_words now ws
reply_words (reply.Shown number caller truck first last version seen now) ws =
    shown_words number caller truck (days_words first last (standing_words version seen now ws))
reply_words (reply.Full entries) ws = ws
reply_words reply.NoMemory ws = codes "nomemory" ∷ ws
