-- The text that `reroute` writes. Words are separated by one space, numbers are decimal, and each line ends with a line feed.
use Rattle.std.specs.Prelude.{ℕ, List, [], ◌∷◌, ◌++◌, codes, map}
use Rattle.std.specs.Fmt.{decimal}
use Rattle.clearance_rules.specs.declared.limit.Limit.{Limit}
use Rattle.office_words.specs.declared.entry.Reply.{Reply}
use Rattle.office_words.specs.declared.entry.Reply.TheVariants as reply
use Rattle.reroute_desk.specs.Happened.{History, Numbers, Routes}
use Rattle.reroute_desk.specs.Machine.{entries_by}
use Rattle.reroute_desk.specs.Issues.{recalled_in}
use Rattle.journal_text.specs.Parts.{limit_text}
use Rattle.journal_text.specs.Words.{routes_text}

-- permit N replaced M at V route ROUTES, where permit M takes the place of permit N
abbrev pub replaced_line : ℕ → ℕ → ℕ → Routes → List ℕ
replaced_line permit number version routes =
    codes "permit " ++ (decimal permit ++ (codes " replaced " ++ (decimal number ++ (codes " at " ++ (decimal version
    ++ (codes " route " ++ (routes_text routes ++ (10 ∷ []))))))))

-- permit N refused V LIMIT, where the trip of permit N fails the limit at version V
abbrev pub refused_line : ℕ → ℕ → Limit → List ℕ
refused_line permit version failing =
    codes "permit " ++ (decimal permit ++ (codes " refused " ++ (decimal version ++ (32 ∷ (limit_text failing ++ (10 ∷ []))))))

-- the line of a recalled permit, by the answer to the application for it once more; other answers have none
abbrev pub line_for : ℕ → Reply → List ℕ
line_for permit (reply.Issued number version routes) = replaced_line permit number version routes
line_for permit (reply.Refused version failing) = refused_line permit version failing
line_for permit other = []

-- a line for each permit, by the answer at its place
abbrev pub permit_lines : Numbers → List Reply → List ℕ
permit_lines [] replies = []
permit_lines (permit ∷ permits) [] = []
permit_lines (permit ∷ permits) (r ∷ replies) = line_for permit r ++ permit_lines permits replies

-- the answers to a caller, in order
abbrev pub replies_to : ℕ → History → List Reply
replies_to caller es = map (λ e. e.reply) (entries_by caller es)

-- the text for a history in which this caller applied again for each recalled permit, in order
abbrev pub reroute_text : ℕ → History → List ℕ
reroute_text caller es = permit_lines (recalled_in es) (replies_to caller es)
