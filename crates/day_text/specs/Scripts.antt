-- The scripts of the actors: each has its own commands, in the order of their records.
use Rattle.std.specs.Prelude.{◌≡◌, ◌<◌, ℕ, ◌==◌, List, Vec, filter, length, map, slice_index_or}
use Rattle.std.specs.Global.{Global}
use Rattle.office_words.specs.declared.entry.Command.{Command}
use Rattle.day_text.specs.declared.orders.Order.{Order}

-- the commands of one actor
abbrev pub script_of : ℕ → List Order → List Command
script_of actor orders = map (λ o. o.command) (filter (λ o. o.actor == actor) orders)

-- each of the actors has its script
abbrev pub AreScripts : List (Vec Command Global) → List Order → Type 0
AreScripts scripts orders =
    (i : ℕ) (d : Vec Command Global) → i < length scripts → (slice_index_or scripts i d).items ≡ script_of i orders
