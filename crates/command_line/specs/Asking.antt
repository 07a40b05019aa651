-- What the words of a command line ask for.
use Rattle.std.specs.Prelude.{◌≡◌, ℕ, ◌≤◌, true, pos, if◌then◌else◌, List, [], ◌∷◌, codes, Option, Some, None, is_some, option_and_then, option_map}
use Rattle.std.specs.Str.{bytes_eq}
use Rattle.std.specs.Str.Parse.{digits_value, without_leading_plus}
use Rattle.clap.specs.Words.{IsSignedIn, Row, fault_of, first_of, found_of, matches_of, one_of, one_text, without_minus}
use Rattle.clap.specs.Kinds.{Kinds}
use Rattle.clap.specs.declared.parser.matches.ArgMatches.{ArgMatches}
use Rattle.command_line.specs.declared.asked.Asked.{Asked}
use Rattle.command_line.specs.declared.asked.Options.{Options}
use Rattle.command_line.specs.declared.asked.Task.{Task}
use Rattle.command_line.specs.declared.asked.Task.TheVariants.{Check, Day, Make, Trial, Audit, Design, Convoy, Reroute}
use Rattle.command_line.specs.Office.{NumberOption, gap_option, office, seed_option, size_option, trucks_option}

-- the task that a word names
abbrev pub task_named : List ℕ → Option Task
task_named word =
    if bytes_eq word (codes "check") then Some Check
    else (if bytes_eq word (codes "day") then Some Day
    else (if bytes_eq word (codes "make") then Some Make
    else (if bytes_eq word (codes "trial") then Some Trial
    else (if bytes_eq word (codes "audit") then Some Audit
    else (if bytes_eq word (codes "design") then Some Design
    else (if bytes_eq word (codes "convoy") then Some Convoy
    else (if bytes_eq word (codes "reroute") then Some Reroute
    else None)))))))

-- the task at COMMAND
abbrev pub task_at : List Row → Option Task
task_at rows = option_and_then task_named (first_of (codes "COMMAND") rows)

-- the number at an option: the decimal number of its digits, in front of which a plus may stand
abbrev pub number_at : NumberOption → List Row → Option ℕ
number_at option rows = option_map (λ text. digits_value 10 (without_leading_plus text)) (one_of option.name rows)

-- the numbers at all options
abbrev pub options_in : List Row → Option Options
options_in rows =
    option_and_then (λ seed. option_and_then (λ size. option_and_then (λ trucks.
    option_map (λ gap. record { seed = seed; size = size; trucks = trucks; gap = gap })
    (number_at gap_option rows)) (number_at trucks_option rows)) (number_at size_option rows)) (number_at seed_option rows)

-- what the matches of the command line ask for
abbrev pub asked_in : List Row → Option Asked
asked_in rows =
    option_and_then (λ task. option_map (λ options. record { task = task; options = options }) (options_in rows)) (task_at rows)

-- what is asked for, where no kind of error stands in the way
abbrev pub where_taken : {A : Type 0} → Kinds → Option A → Option A
where_taken [] asked = asked
where_taken (kind ∷ kinds) asked = None

-- what the words ask for: nothing where the command line refuses them for another cause than memory, and else what stands in
-- their matches
unfoldable pub asked_of : List (List ℕ) → Option Asked
asked_of words = where_taken (fault_of office words) (asked_in (matches_of office words))

-- the command line takes the words, and COMMAND is the word of a task
unfoldable pub AreAccepted : List (List ℕ) → Type 0
AreAccepted words = (fault_of office words ≡ []) × (is_some (task_at (matches_of office words)) ≡ true)

-- a number is in the range of an option
abbrev pub IsInRange : NumberOption → ℕ → Type 0
IsInRange option number = (option.least ≤ number) × (number ≤ option.most)

-- each number is in the range of its option
pub record NumbersAreInRange (options : Options) : Type 0 where
  pub seed : IsInRange seed_option options.seed
  pub size : IsInRange size_option options.size
  pub trucks : IsInRange trucks_option options.trucks
  pub gap : IsInRange gap_option options.gap

-- an option has a number in its range: what its getter reads is a word that passed the range, less a minus, which only a zero
-- can have
abbrev pub HasNumberIn : NumberOption → ArgMatches → Type 0
HasNumberIn option matches =
    (word : List ℕ) × (one_text (found_of matches) option.name ≡ Some (without_minus word))
    × IsSignedIn (pos option.least) (pos option.most) word

-- each option has such a number
pub record HasNumbers (matches : ArgMatches) : Type 0 where
  pub seed : HasNumberIn seed_option matches
  pub size : HasNumberIn size_option matches
  pub trucks : HasNumberIn trucks_option matches
  pub gap : HasNumberIn gap_option matches
