-- The words for the limits of a segment.
use Rattle.std.specs.Prelude.{ℕ, codes, if◌then◌else◌, List, Option, Some, None}
use Rattle.std.specs.Str.{bytes_eq}
use Rattle.road_graph.specs.declared.values.What.{What}
use Rattle.road_graph.specs.declared.values.What.TheVariants.{Closed, Height, Width, Length, Gross, Allowance, Tridem}

-- the word for each limit
abbrev pub what_word : What → List ℕ
what_word Closed = codes "closed"
what_word Height = codes "height"
what_word Width = codes "width"
what_word Length = codes "length"
what_word Gross = codes "gross"
what_word Allowance = codes "allowance"
what_word Tridem = codes "tridem"

-- the limit of a word
abbrev pub what_of : List ℕ → Option What
what_of text =
    if bytes_eq text (what_word Closed) then Some Closed
    else (if bytes_eq text (what_word Height) then Some Height
    else (if bytes_eq text (what_word Width) then Some Width
    else (if bytes_eq text (what_word Length) then Some Length
    else (if bytes_eq text (what_word Gross) then Some Gross
    else (if bytes_eq text (what_word Allowance) then Some Allowance
    else (if bytes_eq text (what_word Tridem) then Some Tridem else None))))))
