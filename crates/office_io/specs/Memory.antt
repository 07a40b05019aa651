-- What sources and sinks in memory are, and when their calls fail.
use Rattle.std.specs.Prelude.{ℕ, ◌-◌, Bool, ◌||◌, ◌&&◌, ◌==◌, nat_lt, List, [], length}
use Rattle.std.specs.List.{list_any}
use Rattle.office_io.specs.Causes.{counted}

-- A source in memory: the bytes left, the numbers of the calls that fail, and how many calls and faults there were.
pub record SourceState : Type 0 where
  pub left : List ℕ
  pub failing : List ℕ
  pub calls : ℕ
  pub faults : ℕ

-- A sink in memory: the bytes held, how many it has room for, and the same three.
pub record SinkState : Type 0 where
  pub held : List ℕ
  pub room : ℕ
  pub failing : List ℕ
  pub calls : ℕ
  pub faults : ℕ

-- a source of these bytes, of which no call was made yet
abbrev pub new_source : List ℕ → List ℕ → SourceState
new_source bytes failing = record { left = bytes; failing = failing; calls = 0; faults = 0 }

-- a sink with this room that holds nothing yet, of which no call was made yet
abbrev pub new_sink : ℕ → List ℕ → SinkState
new_sink room failing = record { held = []; room = room; failing = failing; calls = 0; faults = 0 }

-- whether a call of this number, counted from 1, is one that fails
abbrev pub is_failing : List ℕ → ℕ → Bool
is_failing failing call = list_any (λ n. n == call) failing

-- whether the next read fails
abbrev pub read_fails : SourceState → Bool
read_fails source = is_failing source.failing (counted source.calls)

-- whether the next write of so many bytes fails: its number is listed, or there is a byte and no room
abbrev pub write_fails : SinkState → ℕ → Bool
write_fails sink count = is_failing sink.failing (counted sink.calls) || ((sink.room - length sink.held == 0) && nat_lt 0 count)
