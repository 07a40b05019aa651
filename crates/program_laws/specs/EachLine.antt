-- Each recall has its line in the text of `reroute`.
use Rattle.std.specs.Prelude.{◌≡◌, List, ℕ, [], ◌∷◌, length}
use Rattle.std.specs.List.{concat}
use Rattle.office_words.specs.declared.entry.Entry.{Entry}
use Rattle.office_words.specs.declared.entry.Reply.{Reply}
use Rattle.office_words.specs.declared.entry.Reply.TheVariants as reply
use Rattle.office_core.specs.Happened.{Day, History, Numbers, Stands}
use Rattle.reroute_desk.specs.Issues.{recalled_in}
use Rattle.day_trial.specs.Rerouted.{IsRenewed}
use Rattle.report_text.specs.RecallLines.{line_for}
use Rattle.permit_program.specs.Reroute.{IsReroute}

-- the answer is one that a line tells: a permit, or the limit that fails
abbrev pub IsTold : Reply → Type 0
IsTold (reply.Issued number version routes) = Unit {0}
IsTold (reply.Refused version failing) = Unit {0}
IsTold other = ⊥

-- The answer to the application for a permit once more: in this history, behind some entries, the caller asks the office to find
-- itself what that permit needs, and is answered so; a line tells the answer.
pub record IsAnswerFor (opening : Day) (caller : ℕ) (history : History) (permit : ℕ) (r : Reply) : Type 0 where
  pub front : History
  pub again : Entry
  pub stands : Stands history front again
  pub renews : IsRenewed opening caller front permit again
  pub answer : r ≡ again.reply
  pub told : IsTold r

-- the line is that of the answer to the application for this permit once more
pub record IsLineOf (opening : Day) (caller : ℕ) (history : History) (permit : ℕ) (line : List ℕ) : Type 0 where
  pub reply : Reply
  pub answer : IsAnswerFor opening caller history permit reply
  pub line_is : line ≡ line_for permit reply

-- there is one line for each of these permits, in their order
abbrev pub AreLinesOf : Day → ℕ → History → Numbers → List (List ℕ) → Type 0
AreLinesOf opening caller history [] [] = Unit {0}
AreLinesOf opening caller history (permit ∷ permits) (line ∷ lines) =
    IsLineOf opening caller history permit line × AreLinesOf opening caller history permits lines
AreLinesOf opening caller history _ _ = ⊥

-- the text is one line for each permit that the history of the day recalls, in the order of the recalls, and nothing else
pub record HasALineForEach {bytes text : List ℕ} (run : IsReroute bytes text) : Type 0 where
  pub lines : List (List ℕ)
  pub whole : text ≡ concat lines
  pub each : AreLinesOf run.file.day (length run.file.actors) run.history (recalled_in run.history) lines

-- so it is of every text that `reroute` writes for the bytes of a day file
abbrev pub EachRecallHasItsLine : Type 0
EachRecallHasItsLine = (bytes text : List ℕ) (run : IsReroute bytes text) → HasALineForEach run
