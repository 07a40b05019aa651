-- How many segments are tested again for a proposal: those that changed after the version that it names, and one more.
use Rattle.std.specs.Prelude.{◌≡◌, ◌≤◌, ◌+◌, ℕ, Bool, List, length, drop, filter}
use Rattle.std.specs.List.{concat}
use Rattle.restriction_log.specs.declared.change.Change.{Change}
use Rattle.restriction_log.specs.Changes.{is_touched}
use Rattle.trip_analysis.specs.declared.finding.What.{What}
use Rattle.trip_analysis.specs.declared.finding.What.TheVariants as what
use Rattle.trip_analysis.specs.Bases.{BaseLists}
use Rattle.trip_analysis.specs.Findings.{leaving}

-- whether a posting above a version names the segment or one of its spans
abbrev pub is_changed : BaseLists → List Change → ℕ → ℕ → Bool
is_changed base postings seen s = is_touched base.roads s (drop seen postings)

-- how many of these segments changed after a version; one that stands twice counts twice
abbrev pub changed_on : BaseLists → List Change → ℕ → List ℕ → ℕ
changed_on base postings seen segments = length (filter (is_changed base postings seen) segments)

-- so many segments were tested before a proposal is answered, and so many when it is: of routes only places that
-- changed are tested, of a segment that fails that one, and of a cut the segments out of it that changed, and one more
abbrev pub AreTestsWithin : BaseLists → List Change → ℕ → What → ℕ → ℕ → Type 0
AreTestsWithin base postings seen what.NotNeeded before now = now ≡ before
AreTestsWithin base postings seen (what.Route routes) before now = now ≤ before + changed_on base postings seen (concat routes)
AreTestsWithin base postings seen (what.Fails s) before now = now ≤ before + 1
AreTestsWithin base postings seen (what.Cut nodes) before now = now ≤ before + (changed_on base postings seen (leaving base.roads nodes) + 1)
