-- What may stand in a journal of any format: its indices are below 65536, its numbers below 2^32, its fractions in lowest terms
-- below 2^128, its days are days, its routes are one to eight, and no reply says that the office is full.
use Rattle.std.specs.Prelude.{◌≡◌, ℕ, ◌<◌, ◌^◌, List, Option, Some, None, true}
use Rattle.std.specs.List.{AllByRecursion}
use Rattle.influence_line.specs.Fractions.{IsLowest, Ratio}
use Rattle.permit_days.specs.Days.{is_day_text}
use Rattle.restriction_log.specs.declared.change.Change.{Change}
use Rattle.restriction_log.specs.declared.change.Replaced.{Replaced}
use Rattle.restriction_log.specs.declared.change.Replaced.TheVariants as replaced
use Rattle.restriction_log.specs.Changes.{replaced_by}
use Rattle.clearance_rules.specs.declared.limit.Limit.{Limit}
use Rattle.clearance_rules.specs.declared.limit.Limit.TheVariants as limit
use Rattle.trip_routes.specs.Routes.{AreRoutes}
use Rattle.trip_analysis.specs.declared.application.Application.{Application}
use Rattle.trip_analysis.specs.declared.finding.What.{What}
use Rattle.trip_analysis.specs.declared.finding.What.TheVariants as what
use Rattle.permit_book.specs.declared.permit.Status.{Status}
use Rattle.permit_book.specs.declared.permit.Status.TheVariants as status
use Rattle.office_words.specs.declared.entry.Call.{Call}
use Rattle.office_words.specs.declared.entry.Call.TheVariants as call
use Rattle.office_words.specs.declared.entry.Cause.{Cause}
use Rattle.office_words.specs.declared.entry.Cause.TheVariants as cause
use Rattle.office_words.specs.declared.entry.Reply.{Reply}
use Rattle.office_words.specs.declared.entry.Reply.TheVariants as reply
use Rattle.office_words.specs.declared.entry.Entry.{Entry}

-- an index that may stand in a journal: below 65,536
abbrev pub FitsIndex : ℕ → Type 0
FitsIndex i = i < 65536

-- a number that may stand in a journal: below 2^32
abbrev pub FitsNumber : ℕ → Type 0
FitsNumber n = n < 2 ^ 32

-- indices, each of which may stand in a journal
abbrev pub FitsIndices : List ℕ → Type 0
FitsIndices xs = AllByRecursion FitsIndex xs

-- numbers, each of which may stand in a journal
abbrev pub FitsNumbers : List ℕ → Type 0
FitsNumbers xs = AllByRecursion FitsNumber xs

-- one to eight routes, of indices that may stand in a journal
abbrev pub FitsRoutes : List (List ℕ) → Type 0
FitsRoutes routes = AreRoutes routes × AllByRecursion FitsIndices routes

-- the text of a day that the calendar has
abbrev pub FitsDay : List ℕ → Type 0
FitsDay day = is_day_text day ≡ true

-- a fraction in lowest terms, both of which are below 2^128
abbrev pub FitsRatio : Ratio → Type 0
FitsRatio f = (f.num < 2 ^ 128) × (f.den < 2 ^ 128) × IsLowest f

-- what a change replaces, with an index and a number that may stand in a journal
abbrev pub FitsReplaced : Replaced → Type 0
FitsReplaced (replaced.Limit segment what value) = FitsIndex segment × FitsNumber value
FitsReplaced (replaced.Rating span permille) = FitsIndex span × FitsNumber permille

-- a change whose index and number may stand in a journal
abbrev pub FitsChange : Change → Type 0
FitsChange change = FitsReplaced (replaced_by change)

-- a limit that fails, whose indices, numbers and fractions may stand in a journal
abbrev pub FitsLimit : Limit → Type 0
FitsLimit (limit.Closed segment) = FitsIndex segment
FitsLimit (limit.Height segment has allowed) = FitsIndex segment × FitsNumber has × FitsNumber allowed
FitsLimit (limit.Width segment has allowed) = FitsIndex segment × FitsNumber has × FitsNumber allowed
FitsLimit (limit.Length segment has allowed) = FitsIndex segment × FitsNumber has × FitsNumber allowed
FitsLimit (limit.Gross segment has allowed) = FitsIndex segment × FitsNumber has × FitsNumber allowed
FitsLimit (limit.Group segment i j weight most allowance) =
    FitsIndex segment × FitsIndex i × FitsIndex j × FitsNumber weight × FitsNumber most × FitsNumber allowance
FitsLimit (limit.Tridem segment i j weight allowed) =
    FitsIndex segment × FitsIndex i × FitsIndex j × FitsNumber weight × FitsNumber allowed
FitsLimit (limit.Moment segment span has design rating) =
    FitsIndex segment × FitsIndex span × FitsRatio has × FitsRatio design × FitsNumber rating
FitsLimit (limit.Shear segment span has design rating) =
    FitsIndex segment × FitsIndex span × FitsRatio has × FitsRatio design × FitsNumber rating

-- the asked routes, if any are asked for, may stand in a journal
abbrev pub FitsAsked : Option (List (List ℕ)) → Type 0
FitsAsked None = Unit {0}
FitsAsked (Some routes) = FitsRoutes routes

-- an application whose indices, asked routes and days may stand in a journal
abbrev pub FitsApplication : Application → Type 0
FitsApplication a =
    FitsIndex a.truck × FitsIndex a.from × FitsIndex a.to × FitsAsked a.asked × FitsDay a.first × FitsDay a.last

-- what was found, whose routes or indices, if it has any, may stand in a journal
abbrev pub FitsWhat : What → Type 0
FitsWhat what.NotNeeded = Unit {0}
FitsWhat (what.Route routes) = FitsRoutes routes
FitsWhat (what.Fails segment) = FitsIndex segment
FitsWhat (what.Cut nodes) = FitsIndices nodes

-- a call with nothing but what may stand in a journal
abbrev pub FitsCall : Call → Type 0
FitsCall call.Snapshot = Unit {0}
FitsCall (call.Submit a p) = FitsApplication a × FitsNumber p.seen × FitsWhat p.what
FitsCall (call.Held a) = FitsApplication a
FitsCall (call.Post posted) = FitsChange posted
FitsCall (call.Day day) = FitsDay day
FitsCall (call.Surrender number) = FitsNumber number
FitsCall (call.Show number) = FitsNumber number

-- how a permit stands; the number of the posting that recalled it, if one did, may stand in a journal
abbrev pub FitsStatus : Status → Type 0
FitsStatus status.InForce = Unit {0}
FitsStatus (status.Recalled version) = FitsNumber version
FitsStatus status.Surrendered = Unit {0}
FitsStatus status.Expired = Unit {0}

-- why a proposal is outdated, by a limit or a segment that may stand in a journal
abbrev pub FitsCause : Cause → Type 0
FitsCause (cause.NowFails why) = FitsLimit why
FitsCause (cause.NowMeets segment) = FitsIndex segment

-- a reply with nothing but what may stand in a journal, and another than that the office is full
abbrev pub FitsReply : Reply → Type 0
FitsReply (reply.SnapshotAt version) = FitsNumber version
FitsReply (reply.Issued number version routes) = FitsNumber number × FitsNumber version × FitsRoutes routes
FitsReply (reply.Refused version why) = FitsNumber version × FitsLimit why
FitsReply (reply.Outdated version why) = FitsNumber version × FitsCause why
FitsReply reply.NotNeeded = Unit {0}
FitsReply reply.NoRoad = Unit {0}
FitsReply (reply.Late day) = FitsDay day
FitsReply (reply.Posted version recalled) = FitsNumber version × FitsNumbers recalled
FitsReply reply.OutOfRange = Unit {0}
FitsReply (reply.DayIs day) = FitsDay day
FitsReply (reply.DayBack day) = FitsDay day
FitsReply reply.Surrendered = Unit {0}
FitsReply reply.NotYours = Unit {0}
FitsReply reply.Unknown = Unit {0}
FitsReply (reply.NotInForce now) = FitsStatus now
FitsReply (reply.Shown number caller truck first last version seen now) =
    FitsNumber number × FitsIndex caller × FitsIndex truck × FitsDay first × FitsDay last × FitsNumber version × FitsNumber seen × FitsStatus now
FitsReply (reply.Full entries) = ⊥
FitsReply reply.NoMemory = Unit {0}

-- an entry whose caller, call and reply may stand in a journal
abbrev pub FitsEntry : Entry → Type 0
FitsEntry e = FitsIndex e.caller × FitsCall e.call × FitsReply e.reply

-- a history whose journal can be read, in the last format, in which it is written
abbrev pub FitsHistory : List Entry → Type 0
FitsHistory history = AllByRecursion FitsEntry history
