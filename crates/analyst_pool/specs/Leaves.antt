-- What a command leaves of the calls of its caller.
use Rattle.std.specs.Prelude.{◌≡◌, ◌++◌, ℕ, List, Some, None}
use Rattle.office_words.specs.declared.entry.Command.{Command}
use Rattle.office_words.specs.declared.entry.Entry.{Entry}
use Rattle.office_words.specs.declared.entry.Reply.{Reply}
use Rattle.office_words.specs.declared.entry.Reply.TheVariants as reply
use Rattle.office_core.specs.Calls.{Calling}
use Rattle.analyst_pool.specs.Unfolds.{Unfolds}

module _ {P : Type 0} where
  -- what was seen is gone on from; where nobody else calls, by these entries and no others
  pub record SeesOn (v : Calling P) (es : List Entry) (w : Calling P) : Type 0 where
    pub more : List Entry
    pub seen : w.seen ≡ v.seen ++ more
    pub alone : v.who.place ≡ None → more ≡ es

  -- the caller's own entries grew by these
  pub record Grew (v : Calling P) (es : List Entry) (w : Calling P) : Type 0 where
    pub who : w.who ≡ v.who
    pub own : w.own ≡ v.own ++ es
    pub sees : SeesOn v es w

  -- a command was carried out: its entries are added to the caller's own, and `Full` is the reply only
  -- where the calls are then full with that number
  pub record CarriedOut (v : Calling P) (c : Command) (r : Reply) (w : Calling P) : Type 0 where
    pub entries : List Entry
    pub grew : Grew v entries w
    pub unfolds : Unfolds v.who.caller c entries r
    pub full : (most : ℕ) → r ≡ reply.Full most → w.full ≡ Some most
