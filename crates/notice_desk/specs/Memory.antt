-- What a list of recalls in memory is, and when its calls fail.
use Rattle.std.specs.Prelude.{ℕ, ◌-◌, ◌==◌, Bool, ◌||◌, List, [], length}
use Rattle.office_io.specs.Causes.{counted}
use Rattle.office_io.specs.Memory.{is_failing}
use Rattle.notice_desk.specs.declared.notice.Recall.{Recall}

-- A list in memory: the recalls told, how many it has room for, the numbers of the calls that fail, and how many calls and
-- faults there were.
pub record NoticeState : Type 0 where
  pub told : List Recall
  pub room : ℕ
  pub failing : List ℕ
  pub calls : ℕ
  pub faults : ℕ

-- a list with this room that was told nothing yet
abbrev pub new_notice : ℕ → List ℕ → NoticeState
new_notice room failing = record { told = []; room = room; failing = failing; calls = 0; faults = 0 }

-- whether the next call fails: its number is listed, or there is no room
abbrev pub tell_fails : NoticeState → Bool
tell_fails notice = is_failing notice.failing (counted notice.calls) || (notice.room - length notice.told == 0)
