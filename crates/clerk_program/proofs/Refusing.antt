-- How a history is refused, by what is said of the parts of its day file.
use Rattle.std.proofs.Common.{◌≡◌, ℕ, List, Some, length, ap, subst}
use Rattle.std.specs.String.{string_bytes}
use Rattle.day_text.specs.CommandRows.{IsRowOfCommand}
use Rattle.day_text.specs.Days.{DayParts}
use Rattle.day_text.specs.Records.{Row}
use Rattle.day_text.specs.declared.orders.Order.{Order}
use Rattle.trip_analysis.specs.Bases.{BaseLists}
use Rattle.office_words.specs.declared.entry.Entry.{Entry}
use Rattle.journal_audit.specs.declared.verdict.Verdict.{Verdict}
use Rattle.journal_audit.specs.declared.verdict.Verdict.TheVariants.{Bad, Legal}
use Rattle.journal_whole.specs.Wholes.{IsWholeness}
use Rattle.journal_whole.specs.declared.wholeness.Wholeness.{Wholeness}
use Rattle.journal_whole.specs.declared.wholeness.Wholeness.TheVariants.{Lacks, Strays, Whole}
use Rattle.permit_program.specs.Audit.{answer_to_entry}
use Rattle.permit_program.specs.Command.{Answer, IsCommandAnswer}
use Rattle.permit_program.specs.declared.refusal.Refusal.{Refusal}
use Rattle.permit_program.specs.declared.refusal.Refusal.TheVariants as refusal
use Rattle.clerk_program.specs.Judging.{IsEntryRefusal, IsHistoryRefusal, IsOrderRefusal, Stops}
use Rattle.clerk_program.specs.WholeJournals.{IsOfficeHistory, IsOfficeVerdict, JudgesWholeness, answer_to_lack, answer_to_stray}

-- the commands say how
module _ (rows : List Row) (actors : ℕ) (orders : List Order) (es : List Entry) where
  pub refused_stray : (n : ℕ) → IsWholeness actors orders es (Strays n) → (r : Refusal) → IsCommandAnswer (answer_to_stray n) r → IsOrderRefusal rows actors orders es r
  refused_stray n strays (refusal.Refused status line) answers = (Strays n, strays, ap Some answers)
  refused_stray n strays refusal.NoMemory answers = tt

  pub refused_lack : (k row : ℕ) → IsWholeness actors orders es (Lacks k) → IsRowOfCommand rows k row → (r : Refusal) → IsCommandAnswer (answer_to_lack row) r → IsOrderRefusal rows actors orders es r
  refused_lack k row lacks at (refusal.Refused status line) answers = (Lacks k, lacks, (row, at, ap Some answers))
  refused_lack k row lacks at refusal.NoMemory answers = tt

-- what is said of the parts of a day file is said of the file
module _ (rows : List Row) (f : DayParts) (base : BaseLists) (day : List ℕ) (actors : ℕ) (orders : List Order) (same_base : base ≡ f.base)
    (same_day : day ≡ f.day) (same_actors : actors ≡ length f.actors) (same_orders : orders ≡ f.commands) (es : List Entry) where
  verdict_of : (v : Verdict) → IsOfficeVerdict base day es v → IsOfficeVerdict f.base f.day es v
  verdict_of v right = subst (λ (d : List ℕ). IsOfficeVerdict f.base d es v) same_day (subst (λ (b : BaseLists). IsOfficeVerdict b day es v) same_base right)

  wholeness_of : (w : Wholeness) → IsWholeness actors orders es w → IsWholeness (length f.actors) f.commands es w
  wholeness_of w said = subst (λ (os : List Order). IsWholeness (length f.actors) os es w) same_orders (subst (λ (n : ℕ). IsWholeness n orders es w) same_actors said)

  pub held_of : IsOfficeHistory base day es → IsOfficeHistory f.base f.day es
  held_of held = verdict_of Legal held

  pub whole_of_parts : IsWholeness actors orders es Whole → IsWholeness (length f.actors) f.commands es Whole
  whole_of_parts whole = wholeness_of Whole whole

  pub refused_entries : (r : Refusal) → IsEntryRefusal base day es r → IsHistoryRefusal rows f es r
  refused_entries (refusal.Refused status line) bad = (Bad bad.entry, verdict_of (Bad bad.entry) bad.bad, ap Some bad.answer)
  refused_entries refusal.NoMemory bad = tt

  stops_there : (w : Wholeness) (answer : Answer) → JudgesWholeness rows (λ judgement. ⊥) w (Some answer) → JudgesWholeness rows (Stops f es) w (Some answer)
  stops_there Whole answer is = is
  stops_there (Strays n) answer is = is
  stops_there (Lacks k) answer is = is

  pub refused_orders : IsOfficeHistory base day es → (r : Refusal) → IsOrderRefusal rows actors orders es r → IsHistoryRefusal rows f es r
  refused_orders held (refusal.Refused status line) (w, said, is) = (Legal, held_of held, (w, wholeness_of w said, stops_there w (record { status = status; line = string_bytes line }) is))
  refused_orders held refusal.NoMemory refused = tt

-- a first entry that no office can have refuses a history by its line
pub refused_entry : (base : BaseLists) (day : List ℕ) (es : List Entry) (n : ℕ) → IsOfficeVerdict base day es (Bad n) → (r : Refusal) → IsCommandAnswer (answer_to_entry n) r → IsEntryRefusal base day es r
refused_entry base day es n bad (refusal.Refused status line) answers = record { entry = n; bad = bad; answer = answers }
refused_entry base day es n bad refusal.NoMemory answers = tt
