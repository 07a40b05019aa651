-- Which commands may be given to an office.
use Rattle.trip_analysis.specs.Applications.{Sound}
use Rattle.trip_analysis.specs.Bases.{BaseLists}
use Rattle.office_words.specs.declared.entry.Command.{Command}
use Rattle.office_words.specs.declared.entry.Command.TheVariants.{Apply, Day, Post, Show, Surrender}

-- an application that is sound for these roads and trucks; the other commands may be given to any office
abbrev pub MayCarryOut : BaseLists → Command → Type 0
MayCarryOut base (Apply application) = Sound base application
MayCarryOut base (Post change) = Unit {0}
MayCarryOut base (Day day) = Unit {0}
MayCarryOut base (Surrender number) = Unit {0}
MayCarryOut base (Show number) = Unit {0}
