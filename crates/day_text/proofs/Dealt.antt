-- What the scripts of the actors keep of the commands of a day file.
use Rattle.std.proofs.Common.{◌≡◌, ◌≤◌, ℕ, List, All, eqb, filter, length, ◌∙◌, arith}
use Rattle.std.proofs.lemmas.List.{length-map}
use Rattle.std.proofs.lemmas.List.Elements.{All-filter, All-map}
use Rattle.std.proofs.lemmas.List.Sums.{length-filter, count_by-le-length}
use Rattle.office_words.specs.declared.entry.Command.{Command}
use Rattle.day_text.specs.Days.{DayParts}
use Rattle.office_words.specs.Commands.{MayCarryOut}
use Rattle.day_text.specs.Laws.{IsDayFile}
use Rattle.day_text.specs.Scripts.{script_of}
use Rattle.day_text.specs.declared.orders.Order.{Order}
use Rattle.day_text.proofs.Counts.{below, below-same, count_all}

-- what holds of each command holds of each of a script
pub script_keeps : (P : Command → Type 0) (orders : List Order) → All (λ o. P o.command) orders → (i : ℕ) → All P (script_of i orders)
script_keeps P orders all i =
    All-map P (λ (o : Order). o.command) (filter (λ o. eqb o.actor i) orders)
    (All-filter (λ (o : Order). eqb o.actor i) (λ (o : Order). P o.command) orders all)

length_script : (orders : List Order) (i : ℕ) → length (script_of i orders) ≡ length (filter (λ o. eqb o.actor i) orders)
length_script orders i = length-map (filter (λ o. eqb o.actor i) orders) (λ (o : Order). o.command)

-- a script is no longer than all commands
pub script_within : (orders : List Order) (i : ℕ) → length (script_of i orders) ≤ length orders
script_within orders i =
    omega (arith, length_script orders i, length-filter (λ (o : Order). eqb o.actor i) orders, count_by-le-length (λ (o : Order). eqb o.actor i) orders)

module _ (file : DayParts) (is_file : IsDayFile file) where
  -- each command of a script may be given to an office of the file's roads and trucks
  pub script_sound : (i : ℕ) → All (λ c. MayCarryOut file.base c) (script_of i file.commands)
  script_sound i = script_keeps (λ c. MayCarryOut file.base c) file.commands is_file.sound i

  -- a script has at most as many commands as a file may have
  pub script_few : (i : ℕ) → length (script_of i file.commands) ≤ 4096
  script_few i = omega (arith, script_within file.commands i, is_file.few_commands)

  -- the scripts of the actors have together as many commands as the file
  pub scripts_together : below (λ i. length (script_of i file.commands)) (length file.actors) ≡ length file.commands
  scripts_together =
      below-same (λ i. length (script_of i file.commands)) (λ i. length (filter (λ o. eqb o.actor i) file.commands)) (length file.actors)
      (λ i _. length_script file.commands i)
      ∙ count_all (λ (o : Order). o.actor) (length file.actors) file.commands is_file.callers
