-- How many segments are tested while a call is answered.
use Rattle.std.specs.Prelude.{◌≡◌, ◌≤◌, ◌+◌, ℕ, List, [], ◌∷◌, length, is_some, true}
use Rattle.restriction_log.specs.Changes.{touched}
use Rattle.trip_analysis.specs.declared.application.Application.{Application}
use Rattle.trip_analysis.specs.Bases.{BaseLists}
use Rattle.trip_analysis.specs.Tests.{tests_for, tests_to_go_on}
use Rattle.office_words.specs.declared.entry.Call.{Call}
use Rattle.office_words.specs.declared.entry.Call.TheVariants as call
use Rattle.office_words.specs.declared.entry.Entry.{Entry}
use Rattle.office_core.specs.Machine.{Machine, after_entry, opened}
use Rattle.office_core.specs.Replies.{early_reply}
use Rattle.office_core.specs.Retests.{AreTestsWithin}
use Rattle.office_core.specs.Users.{users_of}

-- what the office finds itself is found by so many tests at the most: what it knows of the trucks is carried over to the current
-- version, what is asked for is found there, and one test more names the limit of a refusal
abbrev pub tests_held : BaseLists → Application → ℕ
tests_held base a = tests_to_go_on base + tests_for base a.asked + 1

-- an application that is answered before the roads are looked at, since it is late or its truck is legal, tests nothing
abbrev pub EarlyTestsNone : BaseLists → List ℕ → Application → ℕ → ℕ → Type 0
EarlyTestsNone base day a before now = is_some (early_reply base day a) ≡ true → now ≡ before

-- what a call may add to the count of tested segments: an answer to a proposal what changed since, and one more; what the office
-- finds itself what finding takes; both nothing where the answer is known before the roads are looked at; a posting at most the
-- number of permits that use the segment which it names; a look, a day, a surrender and what a permit says nothing
abbrev pub IsCost : BaseLists → Machine → Call → ℕ → ℕ → Type 0
IsCost base m (call.Submit a p) before now =
    EarlyTestsNone base m.day a before now × AreTestsWithin base m.postings p.seen p.what before now
IsCost base m (call.Held a) before now = EarlyTestsNone base m.day a before now × (now ≤ before + tests_held base a)
IsCost base m (call.Post change) before now = now ≤ before + length (users_of (touched base.roads change) m.permits)
IsCost base m _ before now = now ≡ before

-- A counter stood at one number before some entries, and was read behind each of them: from each reading to the next it rose by no
-- more than the call of that entry may cost in the machine before it.
abbrev pub AreReadings : BaseLists → Machine → List Entry → ℕ → List ℕ → Type 0
AreReadings base m [] before [] = Unit {0}
AreReadings base m (e ∷ es) before (now ∷ rest) =
    IsCost base m e.call before now × AreReadings base (after_entry base m e) es now rest
AreReadings base m _ before _ = ⊥

-- a counter that stood at 0 when the office opened, read behind each entry of its history
abbrev pub Counts : BaseLists → List ℕ → List Entry → List ℕ → Type 0
Counts base day es readings = AreReadings base (opened day) es 0 readings
