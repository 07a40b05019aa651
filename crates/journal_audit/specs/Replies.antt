-- What a reply is of.
use Rattle.office_words.specs.declared.entry.Reply.{Reply}
use Rattle.office_words.specs.declared.entry.Reply.TheVariants as reply

-- it says what a permit says
abbrev pub IsShown : Reply → Type 0
IsShown (reply.Shown number caller truck first last version seen status) = Unit {0}
IsShown _ = ⊥
