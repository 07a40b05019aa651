-- What is counted of a history, and the text that tells it.
use Rattle.std.specs.Prelude.{ℕ, Bool, true, false, List, [], ◌∷◌, ◌++◌, codes, count_by, length, sum_by}
use Rattle.std.specs.Fmt.{decimal}
use Rattle.office_words.specs.declared.entry.Entry.{Entry}
use Rattle.office_words.specs.declared.entry.Reply.{Reply}
use Rattle.office_words.specs.declared.entry.Reply.TheVariants as reply
use Rattle.report_text.specs.declared.trial.Kind.{Kind}
use Rattle.report_text.specs.declared.trial.Kind.TheVariants.{Issued, NoRoad, NotNeeded, Refused}

-- the reply is a permit
abbrev pub is_permit : Reply → Bool
is_permit (reply.Issued number version routes) = true
is_permit _ = false

-- the reply is a refusal
abbrev pub is_refusal : Reply → Bool
is_refusal (reply.Refused version limit) = true
is_refusal _ = false

-- the reply is that there is no road
abbrev pub is_no_road : Reply → Bool
is_no_road reply.NoRoad = true
is_no_road _ = false

-- the reply is that no permit is needed
abbrev pub is_not_needed : Reply → Bool
is_not_needed reply.NotNeeded = true
is_not_needed _ = false

-- the reply is of a kind
abbrev pub is_of : Kind → Reply → Bool
is_of Issued r = is_permit r
is_of Refused r = is_refusal r
is_of NoRoad r = is_no_road r
is_of NotNeeded r = is_not_needed r

-- how many permits a reply recalls
abbrev pub recalled_count : Reply → ℕ
recalled_count (reply.Posted version recalled) = length recalled
recalled_count _ = 0

-- the version behind a reply: a posting's own, and else that before it
abbrev pub version_behind : ℕ → Reply → ℕ
version_behind before (reply.Posted version recalled) = version
version_behind before _ = before

-- the version behind some entries, from that before them on
abbrev pub last_version_from : ℕ → List Entry → ℕ
last_version_from before [] = before
last_version_from before (e ∷ es) = last_version_from (version_behind before e.reply) es

-- a word, a space, a number and a line feed
abbrev pub told : List ℕ → ℕ → List ℕ
told word n = word ++ (32 ∷ (decimal n ++ (10 ∷ [])))

-- the seven lines: how many entries there are; how many replies issue a permit, refuse one, or say that there is no road or
-- that none is needed; how many permits the postings recall; and the last version, 0 where nothing was posted
abbrev pub summary_of : List Entry → List ℕ
summary_of history =
    told (codes "entries") (length history)
    ++ (told (codes "issued") (count_by (λ e. is_permit e.reply) history)
    ++ (told (codes "refused") (count_by (λ e. is_refusal e.reply) history)
    ++ (told (codes "noroad") (count_by (λ e. is_no_road e.reply) history)
    ++ (told (codes "notneeded") (count_by (λ e. is_not_needed e.reply) history)
    ++ (told (codes "recalled") (sum_by (λ e. recalled_count e.reply) history)
    ++ told (codes "version") (last_version_from 0 history))))))
