-- The records of the limits of a segment.
use Rattle.std.specs.Prelude.{ℕ, Bool, ◌==◌, if◌then◌else◌, List, [], ◌∷◌, flat_map, codes}
use Rattle.std.specs.Fmt.{decimal}
use Rattle.restriction_log.specs.Changes.{flag}
use Rattle.road_graph.specs.Ranges.{default_values}
use Rattle.road_graph.specs.Words.{what_word}
use Rattle.road_graph.specs.declared.segment.Segment.{Segment}
use Rattle.road_graph.specs.declared.values.Values.{Values}
use Rattle.road_graph.specs.declared.values.What.{What}
use Rattle.road_graph.specs.declared.values.What.TheVariants.{Closed, Height, Width, Length, Gross, Allowance, Tridem}
use Rattle.day_text.specs.Records.{Row}
use Rattle.day_writer.specs.Texts.{row}

-- all limits of a segment
abbrev pub all_limits : List What
all_limits = Closed ∷ Height ∷ Width ∷ Length ∷ Gross ∷ Allowance ∷ Tridem ∷ []

-- the number that a record gives for a limit
abbrev pub value_of : Values → What → ℕ
value_of v Closed = flag v.closed
value_of v Height = v.height
value_of v Width = v.width
value_of v Length = v.length
value_of v Gross = v.gross
value_of v Allowance = v.allowance
value_of v Tridem = v.tridem

-- whether a limit is as on a segment on which none is set
abbrev pub is_default : Values → What → Bool
is_default v what = value_of v what == value_of default_values what

-- limit,SEGMENT,WHAT,VALUE
abbrev pub limit_row : Segment → What → Row
limit_row s what = row (codes "limit" ∷ s.name ∷ what_word what ∷ decimal (value_of s.base what) ∷ [])

-- the record of a limit, where it is set
abbrev pub one_limit_rows : Segment → What → List Row
one_limit_rows s what = if is_default s.base what then [] else limit_row s what ∷ []

-- the records of the limits of a segment that are set
abbrev pub limit_rows : Segment → List Row
limit_rows s = flat_map (one_limit_rows s) all_limits
