-- What short command lines ask for.
use Rattle.std.specs.Prelude.{◌≡◌, ℕ, List, [], ◌∷◌, codes, Some, None}
use Rattle.command_line.specs.declared.asked.Asked.{Asked}
use Rattle.command_line.specs.declared.asked.Options.{Options}
use Rattle.command_line.specs.declared.asked.Task.{Task}
use Rattle.command_line.specs.declared.asked.Task.TheVariants.{Check, Day, Make, Trial, Audit, Design, Convoy, Reroute}
use Rattle.command_line.specs.Asking.{AreAccepted, asked_of}

-- the numbers of options that are not given
abbrev pub default_options : Options
default_options = record { seed = 1; size = 1; trucks = 2; gap = 360 }

-- the word alone asks for the task, with these numbers
abbrev pub AsksForTask : List ℕ → Task → Type 0
AsksForTask word task = asked_of (word ∷ []) ≡ Some (record { task = task; options = default_options })

-- each of the eight words asks for its task
pub record EachWordAsks : Type 0 where
  pub check : AsksForTask (codes "check") Check
  pub day : AsksForTask (codes "day") Day
  pub make : AsksForTask (codes "make") Make
  pub trial : AsksForTask (codes "trial") Trial
  pub audit : AsksForTask (codes "audit") Audit
  pub design : AsksForTask (codes "design") Design
  pub convoy : AsksForTask (codes "convoy") Convoy
  pub reroute : AsksForTask (codes "reroute") Reroute

-- no words ask for nothing, and so does a call for help
abbrev pub NoWordsAndHelpAskForNothing : Type 0
NoWordsAndHelpAskForNothing = (asked_of [] ≡ None) × (asked_of (codes "--help" ∷ []) ≡ None)

-- words that ask for something are accepted
abbrev pub WhatAsksIsAccepted : Type 0
WhatAsksIsAccepted = (words : List (List ℕ)) (asked : Asked) → asked_of words ≡ Some asked → AreAccepted words
