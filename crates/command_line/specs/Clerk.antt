-- The clerk's command line, which has a required COMMAND and the flag `--in-force`, and what its words ask for.
use Rattle.std.specs.Prelude.{◌≡◌, ℕ, Bool, true, false, if◌then◌else◌, List, [], ◌∷◌, codes, Option, Some, None, option_and_then}
use Rattle.std.specs.Str.{bytes_eq}
use Rattle.clap.specs.Words.{App, Row, Rule, fault_of, first_of, matches_of, new_rule, with_rule}
use Rattle.clap.specs.declared.builder.action.ArgAction.TheVariants.{SetTrue}
use Rattle.command_line.specs.Asking.{where_taken}
use Rattle.command_line.specs.Office.{bare, word_rule}
use Rattle.command_line.specs.declared.asked.ClerkTask.{ClerkTask}
use Rattle.command_line.specs.declared.asked.ClerkTask.TheVariants.{Carry, Certify}

-- the flag `--in-force`
abbrev pub in_force_rule : Rule
in_force_rule = record (new_rule (codes "in-force")) { long = Some (codes "in-force"); action = Some SetTrue }

-- the clerk's command line
abbrev pub clerk : App
clerk = with_rule (with_rule (bare (codes "permit_clerk")) word_rule) in_force_rule

-- the task of the clerk that a word names, with the flag or without it
abbrev pub clerk_task_named : Bool → List ℕ → Option ClerkTask
clerk_task_named in_force word =
    if bytes_eq word (codes "certify") then Some Certify
    else (if bytes_eq word (codes "carry") then Some (Carry in_force)
    else None)

-- whether a flag is given whose text is this
abbrev pub is_true_text : Option (List ℕ) → Bool
is_true_text None = false
is_true_text (Some text) = bytes_eq text (codes "true")

-- whether `--in-force` is given
abbrev pub is_flagged : List Row → Bool
is_flagged rows = is_true_text (first_of (codes "in-force") rows)

-- the task at COMMAND
abbrev pub clerk_task_at : List Row → Option ClerkTask
clerk_task_at rows = option_and_then (clerk_task_named (is_flagged rows)) (first_of (codes "COMMAND") rows)

-- what the words ask the clerk for: nothing where the command line refuses them for another cause than memory, and else what stands
-- in their matches
unfoldable pub clerk_asked_of : List (List ℕ) → Option ClerkTask
clerk_asked_of words = where_taken (fault_of clerk words) (clerk_task_at (matches_of clerk words))

-- the word asks for its task, with the flag or without it; no words ask for nothing, and so does a call for help
pub record ClerkWordsAsk : Type 0 where
  pub certify : clerk_asked_of (codes "certify" ∷ []) ≡ Some Certify
  pub carry : clerk_asked_of (codes "carry" ∷ []) ≡ Some (Carry false)
  pub in_force : clerk_asked_of (codes "carry" ∷ codes "--in-force" ∷ []) ≡ Some (Carry true)
  pub none : clerk_asked_of [] ≡ None
  pub help : clerk_asked_of (codes "--help" ∷ []) ≡ None
