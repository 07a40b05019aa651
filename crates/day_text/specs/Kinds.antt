-- The kinds of records of a day file, each by its word.
use Rattle.std.specs.Prelude.{ℕ, if◌then◌else◌, List, [], ◌∷◌, Option, Some, None, codes}
use Rattle.std.specs.Str.{bytes_eq}
use Rattle.day_text.specs.declared.kind.RecordKind.{RecordKind}
use Rattle.day_text.specs.declared.kind.RecordKind.TheVariants.{Actor, Apply, Day, End, Limit, Node, Post, Segment, SetDay, Show, Span, Surrender, Truck}

-- the words, each with its kind
abbrev pub kind_words : List (List ℕ × RecordKind)
kind_words =
    (codes "day", Day) ∷ (codes "node", Node) ∷ (codes "segment", Segment) ∷ (codes "limit", Limit) ∷ (codes "span", Span)
    ∷ (codes "truck", Truck) ∷ (codes "actor", Actor) ∷ (codes "apply", Apply) ∷ (codes "post", Post)
    ∷ (codes "setday", SetDay) ∷ (codes "surrender", Surrender) ∷ (codes "show", Show) ∷ (codes "end", End) ∷ []

-- the kind that a word names among some, if it names one
abbrev pub kind_among : List (List ℕ × RecordKind) → List ℕ → Option RecordKind
kind_among [] text = None
kind_among (kind ∷ kinds) text = if bytes_eq text kind.0 then Some kind.1 else kind_among kinds text

-- the kind of record that a word names, if it names one
abbrev pub kind_of : List ℕ → Option RecordKind
kind_of text = kind_among kind_words text
