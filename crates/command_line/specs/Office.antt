-- The command of `clap` that reads the words: a required COMMAND, and four options with a whole number each.
use Rattle.std.specs.Prelude.{ℕ, true, List, [], ◌∷◌, Some, codes, pos}
use Rattle.clap.specs.Words.{App, Rule, new_app, new_rule, with_rule}
use Rattle.clap.specs.declared.builder.action.ArgAction.TheVariants.{Set}
use Rattle.clap.specs.declared.builder.value_parser.ValueParser.TheVariants as vp

-- the positional argument COMMAND, which takes any word
abbrev pub word_rule : Rule
word_rule = record (new_rule (codes "COMMAND")) { required = true; action = Some Set }

-- an option with a whole number: its name, the number that it has where it is not given, and its range
pub record NumberOption : Type 0 where
  pub name : List ℕ
  pub default : List ℕ
  pub least : ℕ
  pub most : ℕ

-- the rule of such an option
abbrev pub number_rule : NumberOption → Rule
number_rule option = record (new_rule option.name) {
  long = Some option.name;
  action = Some Set;
  defaults = option.default ∷ [];
  parser = Some (vp.Signed (pos option.least) (pos option.most));
}

-- `--seed`: 0 to 65,535, and 1 where it is not given
abbrev pub seed_option : NumberOption
seed_option = record { name = codes "seed"; default = codes "1"; least = 0; most = 65535 }

-- `--size`: 1 to 40, and 1 where it is not given
abbrev pub size_option : NumberOption
size_option = record { name = codes "size"; default = codes "1"; least = 1; most = 40 }

-- `--trucks`: 2 to 16, and 2 where it is not given
abbrev pub trucks_option : NumberOption
trucks_option = record { name = codes "trucks"; default = codes "2"; least = 2; most = 16 }

-- `--gap`: 1 to 3,000, and 360 where it is not given
abbrev pub gap_option : NumberOption
gap_option = record { name = codes "gap"; default = codes "360"; least = 1; most = 3000 }

-- a program's command whose words begin after its name
abbrev pub bare : List ℕ → App
bare name = record (new_app name) { top = record ((new_app name).top) { no_binary_name = true } }

-- the command line with the options of made day files alone
abbrev pub made_office : App
made_office = with_rule (with_rule (with_rule (bare (codes "permit_cli")) word_rule) (number_rule seed_option)) (number_rule size_option)

-- the office's command line
abbrev pub office : App
office = with_rule (with_rule made_office (number_rule trucks_option)) (number_rule gap_option)
