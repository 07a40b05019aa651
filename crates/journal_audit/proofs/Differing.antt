-- A reply that is not the one that is given again.
use Rattle.std.proofs.Common.{◌≡◌, ◌≢◌, Bool, true, false}
use Rattle.trip_analysis.specs.Bases.{BaseLists}
use Rattle.office_words.specs.declared.entry.Entry.{Entry}
use Rattle.office_words.specs.declared.entry.Reply.{Reply}
use Rattle.office_words.specs.declared.entry.Reply.TheVariants as reply
use Rattle.office_core.specs.Machine.{IsAnswer, Machine, Step, after_entry}
use Rattle.office_core.proofs.Sames.{answers_one}

pub not_both : (b : Bool) → b ≡ true → b ≡ false → ⊥
not_both true e n = cc
not_both false e n = cc

-- a reply that differs from the answer is no step, where neither is want of memory
pub differs : (base : BaseLists) (m : Machine) (e : Entry) (r : Reply) → IsAnswer base m e.caller e.call r → r ≢ reply.NoMemory → e.reply ≢ reply.NoMemory → r ≢ e.reply → Step base m e (after_entry base m e) → ⊥
differs base m e r answer told told' apart step = apart (answers_one base m e.caller e.call r e.reply answer step.answer told told')
