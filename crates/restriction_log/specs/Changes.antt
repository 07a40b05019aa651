-- Changes of limits and ratings: what each replaces and by which number, which of them a network takes, and the segment that
-- each names. All that is said of a change is said of what it replaces, so a further limit is one line here and one below it.
use Rattle.std.specs.Prelude.{◌≡◌, ℕ, Bool, true, false, ◌&&◌, ◌==◌, nat_lt, List, length, All}
use Rattle.std.specs.List.{list_any}
use Rattle.road_graph.specs.declared.values.What.{What}
use Rattle.road_graph.specs.declared.values.What.TheVariants as what
use Rattle.road_graph.specs.Ranges.{is_limit, is_rating}
use Rattle.road_graph.specs.Roads.{Roads, span_at}
use Rattle.restriction_log.specs.declared.change.Change.{Change}
use Rattle.restriction_log.specs.declared.change.Change.TheVariants.{Closed, Height, Width, Length, Gross, Allowance, Tridem, Rating}
use Rattle.restriction_log.specs.declared.change.Replaced.{Replaced}
use Rattle.restriction_log.specs.declared.change.Replaced.TheVariants as replaced

-- a segment is closed by 1 and open by 0
abbrev pub flag : Bool → ℕ
flag true = 1
flag false = 0

-- what a change replaces, and by which number
abbrev pub replaced_by : Change → Replaced
replaced_by (Closed segment closed) = replaced.Limit segment what.Closed (flag closed)
replaced_by (Height segment inches) = replaced.Limit segment what.Height inches
replaced_by (Width segment inches) = replaced.Limit segment what.Width inches
replaced_by (Length segment inches) = replaced.Limit segment what.Length inches
replaced_by (Gross segment pounds) = replaced.Limit segment what.Gross pounds
replaced_by (Allowance segment permille) = replaced.Limit segment what.Allowance permille
replaced_by (Tridem segment pounds) = replaced.Limit segment what.Tridem pounds
replaced_by (Rating span permille) = replaced.Rating span permille

-- the change of a limit of a segment to this value
abbrev pub change_of : ℕ → What → ℕ → Change
change_of segment what.Closed value = Closed segment (value == 1)
change_of segment what.Height value = Height segment value
change_of segment what.Width value = Width segment value
change_of segment what.Length value = Length segment value
change_of segment what.Gross value = Gross segment value
change_of segment what.Allowance value = Allowance segment value
change_of segment what.Tridem value = Tridem segment value

-- whether there is a segment of this number
abbrev pub has_segment : Roads → ℕ → Bool
has_segment roads segment = nat_lt segment (length roads.segments)

-- what is replaced is there, and the number is in its range
abbrev pub takes_replaced : Roads → Replaced → Bool
takes_replaced roads (replaced.Limit segment limit value) = has_segment roads segment && is_limit limit value
takes_replaced roads (replaced.Rating span permille) = nat_lt span (length roads.spans) && is_rating permille

-- the segment or span that the change names is there, and the value is in its range
abbrev pub takes : Roads → Change → Bool
takes roads change = takes_replaced roads (replaced_by change)

-- the network takes each of these changes
abbrev pub AreTaken : Roads → List Change → Type 0
AreTaken roads changes = All (λ c. takes roads c ≡ true) changes

-- the segment of what is replaced, itself or that of the span
abbrev pub segment_in : Roads → Replaced → ℕ
segment_in roads (replaced.Limit segment limit value) = segment
segment_in roads (replaced.Rating span permille) = (span_at roads.spans span).segment

-- the segment that a change names, or the segment of the span that it names
abbrev pub touched : Roads → Change → ℕ
touched roads change = segment_in roads (replaced_by change)

-- whether one of these changes names the segment or one of its spans
abbrev pub is_touched : Roads → ℕ → List Change → Bool
is_touched roads segment changes = list_any (λ c. touched roads c == segment) changes
