-- A page that grows by what is made.
use Rattle.std.specs.Prelude.{ℕ, List, ◌++◌}
use Rattle.day_maker.specs.Making.{Maker}
use Rattle.day_writer.specs.Texts.{text_of}

-- a text, and the number from which the next draw is made
pub record PageParts : Type 0 where
  pub text : List ℕ
  pub number : ℕ

-- a page with what is made on it
abbrev pub page_after : Maker → PageParts → PageParts
page_after make page = record { text = page.text ++ text_of (make page.number).rows; number = (make page.number).next }
