-- What the entries of a history say of the permit of a number: for which application it was issued, and that it was recalled.
use Rattle.std.specs.Prelude.{ℕ, ◌==◌, if◌then◌else◌, [], fold, Option, None, option_map}
use Rattle.std.specs.List.{flat_map}
use Rattle.std.specs.Option.{option_or}
use Rattle.trip_analysis.specs.declared.application.Application.{Application}
use Rattle.office_words.specs.declared.entry.Call.{Call}
use Rattle.office_words.specs.declared.entry.Reply.{Reply}
use Rattle.office_words.specs.declared.entry.Reply.TheVariants as reply
use Rattle.office_core.specs.Happened.{History, Numbers, application_in}

-- what is told of the application for which a call and its answer issue the permit of a number, where they do
abbrev pub issued_by : {A : Type 0} → (Application → A) → ℕ → Call → Reply → Option A
issued_by told n c (reply.Issued k v routes) = if k == n then option_map told (application_in c) else None
issued_by told n c _ = None

-- what is told of the application of a permit: that of the last entry that issued it; in the history of an office there is just
-- one
abbrev pub told_of_issued : {A : Type 0} → (Application → A) → History → ℕ → Option A
told_of_issued told es n = fold (λ found e. option_or (issued_by told n e.call e.reply) found) None es

-- the numbers that an answer recalls
abbrev pub recalled_numbers : Reply → Numbers
recalled_numbers (reply.Posted v ns) = ns
recalled_numbers _ = []

-- all numbers that a history recalls, in order
abbrev pub recalled_in : History → Numbers
recalled_in es = flat_map (λ e. recalled_numbers e.reply) es
