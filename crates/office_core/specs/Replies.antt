-- What an office answers, as functions of what it is about and what it holds.
use Rattle.std.specs.Prelude.{ℕ, Bool, true, false, List, [], ◌∷◌, nat_eq, not, if◌then◌else◌, Option, Some, None, unwrap_or}
use Rattle.std.specs.List.{concat}
use Rattle.restriction_log.specs.States.{InForce}
use Rattle.clearance_rules.specs.declared.limit.Limit.{Limit}
use Rattle.permit_days.specs.Days.{is_before}
use Rattle.permit_book.specs.declared.permit.Permit.{Permit}
use Rattle.permit_book.specs.Permits.{in_force, is_issued, permit_of, status_of}
use Rattle.trip_analysis.specs.declared.application.Application.{Application}
use Rattle.trip_analysis.specs.declared.failing.Failing.{Failing}
use Rattle.trip_analysis.specs.declared.finding.What.{What}
use Rattle.trip_analysis.specs.declared.finding.What.TheVariants as what
use Rattle.trip_analysis.specs.Bases.{BaseLists}
use Rattle.trip_analysis.specs.Passing.{first_on, limit_for, needs_none}
use Rattle.trip_analysis.specs.Findings.{first_meeting, leaving}
use Rattle.office_words.specs.declared.entry.Cause.TheVariants as cause
use Rattle.office_words.specs.declared.entry.Reply.{Reply}
use Rattle.office_words.specs.declared.entry.Reply.TheVariants as reply

-- the answer to routes, by the first segment on them that fails: the permit of the next number, or that segment's limit
abbrev pub routes_reply : ℕ → ℕ → List (List ℕ) → Option Failing → Reply
routes_reply number v routes (Some f) = reply.Outdated v (cause.NowFails f.limit)
routes_reply number v routes None = reply.Issued number v routes

-- the answer where a segment is said to fail, by its first failing limit
abbrev pub fails_reply : ℕ → ℕ → Option Limit → Reply
fails_reply v segment (Some limit) = reply.Refused v limit
fails_reply v segment None = reply.Outdated v (cause.NowMeets segment)

-- the answer where no walk is left: the limit that fails is named, or there is no road where none does
abbrev pub refused_or : ℕ → Option Limit → Reply
refused_or v (Some limit) = reply.Refused v limit
refused_or v None = reply.NoRoad

-- the answer to a cut, by the segments that leave it and the least of them that meets: where none leaves there is no road;
-- where none meets, the limit of the least is named
abbrev pub cut_reply : BaseLists → InForce → ℕ → ℕ → List ℕ → Option ℕ → Reply
cut_reply base state truck v [] least = reply.NoRoad
cut_reply base state truck v (s ∷ rest) (Some k) = reply.Outdated v (cause.NowMeets k)
cut_reply base state truck v (s ∷ rest) None = refused_or v (limit_for base state truck s)

-- the answer to what was found for a truck, in a state at a version, where the next permit has this number
abbrev pub what_reply : BaseLists → InForce → ℕ → ℕ → ℕ → What → Reply
what_reply base state v number truck what.NotNeeded = reply.NotNeeded
what_reply base state v number truck (what.Route routes) = routes_reply number v routes (first_on base state truck (concat routes))
what_reply base state v number truck (what.Fails s) = fails_reply v s (limit_for base state truck s)
what_reply base state v number truck (what.Cut nodes) =
    cut_reply base state truck v (leaving base.roads nodes) (first_meeting base state truck (leaving base.roads nodes))

-- whether the trip would begin before the day
abbrev pub is_late : List ℕ → Application → Bool
is_late day a = is_before a.first day

-- whether the truck is legal
abbrev pub is_free : BaseLists → Application → Bool
is_free base a = needs_none base a.truck

-- the answer that is known before the roads are looked at: the trip would begin too late, or the truck is legal
abbrev pub early_reply : BaseLists → List ℕ → Application → Option Reply
early_reply base day a =
    if is_late day a then Some (reply.Late day)
    else (if is_free base a then Some reply.NotNeeded
    else None)

-- the answer to an application for which this was found, on a day, in a state at a version, where the next permit has this
-- number
abbrev pub apply_reply : BaseLists → InForce → ℕ → List ℕ → ℕ → Application → What → Reply
apply_reply base state v day number a w = unwrap_or (early_reply base day a) (what_reply base state v number a.truck w)

-- the answer to a day, where it is the kept one
abbrev pub day_reply : List ℕ → List ℕ → Reply
day_reply kept day = if is_before day kept then reply.DayBack kept else reply.DayIs day

-- the answer to a surrender by a caller on a day
abbrev pub surrender_reply : List Permit → List ℕ → ℕ → ℕ → Reply
surrender_reply permits day caller number =
    if not (is_issued permits number) then reply.Unknown
    else (if not (nat_eq (permit_of permits number).trip.caller caller) then reply.NotYours
    else (if not (in_force day (permit_of permits number)) then reply.NotInForce (status_of (permit_of permits number) day)
    else reply.Surrendered))

-- what a permit says on a day
abbrev pub shown : Permit → ℕ → List ℕ → Reply
shown p number day = reply.Shown number p.trip.caller p.trip.truck p.trip.first p.trip.last p.version p.seen (status_of p day)

-- the answer to a look at a permit on a day
abbrev pub show_reply : List Permit → List ℕ → ℕ → Reply
show_reply permits day number =
    if not (is_issued permits number) then reply.Unknown else shown (permit_of permits number) number day

-- whether a reply holds a list, which may want memory in a copy
abbrev pub has_list : Reply → Bool
has_list (reply.Issued number version routes) = true
has_list (reply.Posted version recalled) = true
has_list _ = false

-- the numbers that a reply lists: the segments of its routes, one route after another, or what it recalls
abbrev pub numbers_in_reply : Reply → List ℕ
numbers_in_reply (reply.Issued number version routes) = concat routes
numbers_in_reply (reply.Posted version recalled) = recalled
numbers_in_reply _ = []

-- whether a permit was issued
abbrev pub is_issue : Reply → Bool
is_issue (reply.Issued number version routes) = true
is_issue _ = false

-- whether the history was full
abbrev pub is_full : Reply → Bool
is_full (reply.Full entries) = true
is_full _ = false

-- whether a proposal was out of date
abbrev pub is_outdated : Reply → Bool
is_outdated (reply.Outdated version cause) = true
is_outdated _ = false
