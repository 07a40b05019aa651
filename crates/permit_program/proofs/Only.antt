-- What a command makes of bytes keeps its promise, and is the only text that does.
use Rattle.std.proofs.Common.{◌≡◌, ℕ, List, Some, None, Result, Ok, Err, IfOk, Vec, refl, ap, sym, ◌∙◌, subst}
use Rattle.std.specs.Prelude.{option_map}
use Rattle.std.specs.Global.{Global}
use Rattle.names.specs.declared.refusal.NoMemory.{NoMemory}
use Rattle.day_text.specs.Refusals.{IsRefusedAs}
use Rattle.day_text.specs.declared.refusal.FileRefusal.{FileRefusal}
use Rattle.day_text.specs.declared.refusal.FileRefusal.TheVariants as file
use Rattle.road_graph.specs.Roads.{IsRoads}
use Rattle.day_text.specs.declared.check_file.CheckFile.{CheckFile}
use Rattle.day_text.specs.Checks.{check_of}
use Rattle.day_text.specs.Days.{DayParts, day_of}
use Rattle.convoy_moves.specs.Convoys.{EqualTrucks, convoy_of}
use Rattle.convoy_moves.specs.Refusals.{first_refusal}
use Rattle.convoy_moves.specs.declared.refusal.ConvoyRefusal.{ConvoyRefusal}
use Rattle.report_text.specs.Convoys.{IsConvoyReport, IsOnlyConvoyReport}
use Rattle.journal_text.specs.Journals.{journal_of}
use Rattle.office_words.specs.declared.entry.Entry.{Entry}
use Rattle.day_run.specs.Served.{IsServed, LoneActorsAreOne}
use Rattle.notice_desk.specs.declared.notice.Recall.{Recall}
use Rattle.reroute_desk.specs.RecallLists.{recalls_in}
use Rattle.day_maker.specs.Made.{made_day}
use Rattle.day_trial.specs.Serial.{IsSerial, SerialHistoriesAreOne}
use Rattle.report_text.specs.Summaries.{summary_of}
use Rattle.permit_program.specs.Headline.{Headline}
use Rattle.permit_program.specs.Command.{IsCommandAnswer, IsAnswerTo, IsRefusalOf, Makes, MakesAndTells, refusal_in}
use Rattle.permit_program.specs.Convoy.{answer_to_convoy, convoy, convoy_refusal}
use Rattle.permit_program.specs.Day.{HasFewActors, day}
use Rattle.permit_program.specs.Reports.{reporting}
use Rattle.permit_program.specs.Made.{IsTrial, make, trial}
use Rattle.permit_program.specs.declared.refusal.Refusal.{Refusal}
use Rattle.permit_program.specs.declared.refusal.Refusal.TheVariants as refusal

-- the report on a check file
pub report_made : (IsReportOf : CheckFile → List ℕ → Type 0) (bytes text : List ℕ) (file : CheckFile) → check_of bytes ≡ Ok file → IsReportOf file text
    → ((other : List ℕ) → IsReportOf file other → other ≡ text) → Makes (reporting IsReportOf) bytes text
report_made IsReportOf bytes text file read report only = record {
  taken = ap refusal_in read;
  output = record { file = file; read = read; report = report };
  only = λ free other h. let same : h.file ≡ file = cc (h.read, read) in only other (subst (λ (f : CheckFile). IsReportOf f other) same h.report);
}

-- the report on a convoy, whose trucks pass no limit together
module _ (trucks gap : ℕ) (bytes : List ℕ) (file : CheckFile) (read : check_of bytes ≡ Ok file) where
  abbrev pub together : CheckFile → EqualTrucks
  together f = convoy_of f.truck.load.train trucks gap

  pub convoy_made : (text : List ℕ) → first_refusal (together file) ≡ None
      → IsConvoyReport (together file) file.probes text → IsOnlyConvoyReport (together file) file.probes text → Makes (convoy trucks gap) bytes text
  convoy_made text none report only = record {
    taken = ap (convoy_refusal trucks gap) read ∙ ap (option_map answer_to_convoy) none;
    output = record { file = file; read = read; report = report };
    only = λ free other h.
        let same : h.file ≡ file = cc (h.read, read) in
        only other (subst (λ (f : CheckFile). IsConvoyReport (together f) f.probes other) same h.report);
  }

  -- the answer to trucks that are no convoy is the command's
  pub refused_convoy : (refused : ConvoyRefusal) (r : Refusal) → first_refusal (together file) ≡ Some refused
      → IsCommandAnswer (answer_to_convoy refused) r → IsRefusalOf (convoy trucks gap) bytes r
  refused_convoy refused (refusal.Refused status line) first answers =
      ap (convoy_refusal trucks gap) read ∙ (ap (option_map answer_to_convoy) first ∙ ap Some answers)
  refused_convoy refused refusal.NoMemory first answers = tt

-- the journal of a day of at most one actor is one
only_journal : LoneActorsAreOne → (bytes text other : List ℕ) (file : DayParts) (history : List Entry) → day_of bytes ≡ Ok file → IsRoads file.base.roads → IsServed file history → text ≡ journal_of history
    → HasFewActors bytes → Headline bytes other → other ≡ text
only_journal one bytes text other file history read roads served journal few h =
    let same : h.file ≡ file = cc (h.read, read) in
    let theirs : IsServed file h.history = subst (λ (f : DayParts). IsServed f h.history) same
    (record { legal = h.legal; promises = h.promises; commands = h.commands; callers = h.callers; memory = h.memory }) in
    h.journal ∙ (ap journal_of (one file history h.history roads (few file read) served theirs) ∙ sym journal)

-- a history that serves a day keeps the headline
abbrev pub headline_made : (bytes text : List ℕ) (file : DayParts) (history : List Entry) → day_of bytes ≡ Ok file → IsServed file history → text ≡ journal_of history → Headline bytes text
headline_made bytes text file history read served journal = record {
  file = file;
  read = read;
  history = history;
  journal = journal;
  legal = served.legal;
  commands = served.commands;
  callers = served.callers;
  memory = served.memory;
  promises = served.promises;
}

-- and its recalls are those that are told
pub journal_made : LoneActorsAreOne → (bytes text : List ℕ) (recalls : List Recall) (file : DayParts) (history : List Entry) → day_of bytes ≡ Ok file → IsRoads file.base.roads → IsServed file history → text ≡ journal_of history
    → recalls ≡ recalls_in file.base history → MakesAndTells day bytes text recalls
journal_made one bytes text recalls file history read roads served journal recalled = record {
  made = record {
    taken = ap refusal_in read;
    output = headline_made bytes text file history read served journal;
    only = λ few other h. only_journal one bytes text other file history read roads served journal few h;
  };
  told = ap Some (sym recalled);
}

-- the summary of a made day is one
only_summary : SerialHistoriesAreOne → (seed size : ℕ) (text other : List ℕ) (file : DayParts) (history : List Entry) → day_of (made_day seed size) ≡ Ok file → IsRoads file.base.roads → IsSerial file history
    → text ≡ summary_of history → IsTrial seed size other → other ≡ text
only_summary one seed size text other file history read roads serial summary h =
    let same : h.file ≡ file = cc (h.read, read) in
    let theirs : IsSerial file h.history = subst (λ (f : DayParts). IsSerial f h.history) same h.serial in
    h.summary ∙ (ap summary_of (one file history h.history roads serial theirs) ∙ sym summary)

pub summary_made : SerialHistoriesAreOne → (seed size : ℕ) (file : DayParts) (history told : List Entry) (summed : Result (Vec ℕ Global) NoMemory) → day_of (made_day seed size) ≡ Ok file → IsRoads file.base.roads → IsSerial file history
    → told ≡ history → IfOk summed (λ text. text.items ≡ summary_of told) → IfOk summed (λ text. (bytes : List ℕ) → Makes (trial seed size) bytes text.items)
summary_made one seed size file history told (Ok text) read roads serial same is = λ bytes. record {
  taken = refl;
  output = record { file = file; read = read; history = history; serial = serial; summary = is ∙ ap summary_of same };
  only = λ free other h. only_summary one seed size text.items other file history read roads serial (is ∙ ap summary_of same) h;
}
summary_made one seed size file history told (Err e) read roads serial same is = tt

-- a text that is a day file is refused for want of memory alone
pub made_lacks : (bytes : List ℕ) (f : DayParts) (r : FileRefusal) → day_of bytes ≡ Ok f → IsRefusedAs (day_of bytes) r → r ≡ file.NoMemory
made_lacks bytes f (file.Refused row cause) read refused = absurd (let clash = sym read ∙ refused in cc)
made_lacks bytes f file.NoMemory read refused = refl
