-- What holds of an office while it carries out the commands of a day file.
use Rattle.std.specs.Prelude.{◌≡◌, ◌≤◌, ◌++◌, ◌*◌, ℕ, List, length}
use Rattle.day_text.specs.declared.orders.Order.{Order}
use Rattle.trip_analysis.specs.Followers.{Followed}
use Rattle.office_words.specs.declared.entry.Entry.{Entry}
use Rattle.office_words.specs.declared.entry.Reply.{Reply}
use Rattle.office_words.specs.declared.entry.Reply.TheVariants as reply
use Rattle.office_core.specs.Offices.{IsFull, Opened, stored_in_office}
use Rattle.analyst_pool.specs.Following.{FollowsAt}
use Rattle.analyst_pool.specs.Unfolds.{IsFinished, Unfolds}
use Rattle.day_trial.specs.Serial.{CarriesOut}

-- a follower is of the office's base, and has been given no snapshot behind what is posted
abbrev pub FollowsOffice : Opened → Followed → Type 0
FollowsOffice o f = FollowsAt o.base (stored_in_office o) f

-- the office with these entries more
abbrev pub grown_by : Opened → List Entry → Opened
grown_by o es = record o { history = o.history ++ es }

-- a command was carried out, with this reply, which says that the history is full only where it is, and with how many entries
pub record WasCarriedOut (o : Opened) (order : Order) (r : Reply) (next : Opened) : Type 0 where
  pub entries : List Entry
  pub unfolds : Unfolds order.actor order.command entries r
  pub grown : next ≡ grown_by o entries
  pub full : (most : ℕ) → r ≡ reply.Full most → IsFull next
  pub most : (most : ℕ) → r ≡ reply.Full most → most ≡ o.most

-- one command more is finished, with few entries
pub record HasCarriedOut (o : Opened) (order : Order) (next : Opened) : Type 0 where
  pub entries : List Entry
  pub finished : IsFinished order.actor order.command entries
  pub short : length entries ≤ 17
  pub grown : next ≡ grown_by o entries

-- the office was asked these commands and no others: its history is their entries
pub record HasServed (o now : Opened) (orders : List Order) : Type 0 where
  pub base : now.base ≡ o.base
  pub opening : now.opening ≡ o.opening
  pub most : now.most ≡ o.most
  pub commands : CarriesOut orders now.history
  pub few : length now.history ≤ 17 * length orders
