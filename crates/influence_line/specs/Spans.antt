-- How long the spans are on which trains are looked at.
use Rattle.std.specs.Prelude.{ℕ, ◌≤◌}

-- a span is 1 to 6,000 inches long
abbrev pub IsSpanLength : ℕ → Type 0
IsSpanLength inches = (1 ≤ inches) × (inches ≤ 6000)
