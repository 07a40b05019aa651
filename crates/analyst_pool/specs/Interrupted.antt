-- The calls of one caller of an office that another calls too, as a test has them.
use Rattle.std.specs.Prelude.{◌≡◌, ◌++◌, ℕ, List, Some, None}
use Rattle.office_words.specs.declared.entry.Entry.{Entry}
use Rattle.office_core.specs.Calls.{Calling, full_in}
use Rattle.office_core.specs.Machine.{entries_by}
use Rattle.office_core.specs.Offices.{Opened}

-- a caller who sees all that the other enters
abbrev pub shared : ℕ → Opened → Calling (Unit {0})
shared caller o = record {
  who = record {
    place = Some tt;
    reference = None;
    caller = caller;
    base = o.base;
    opening = o.opening;
    most = o.most;
  };
  seen = o.history;
  own = entries_by caller o.history;
  full = full_in o;
}

-- others than caller 0 added entries to the history of an office
pub record Interrupts (o next : Opened) : Type 0 where
  pub base : next.base ≡ o.base
  pub opening : next.opening ≡ o.opening
  pub most : next.most ≡ o.most
  pub more : List Entry
  pub history : next.history ≡ o.history ++ more
  pub own : entries_by 0 next.history ≡ entries_by 0 o.history
