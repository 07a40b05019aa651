use Rattle.std.proofs.Common.{◌≡◌, ◌∙◌, ◌≤◌, ℕ, List, length, ap, arith, refl, subst, sym}
use Rattle.std.specs.Arc.{arc_value}
use Rattle.trip_analysis.specs.Bases.{BaseLists}
use Rattle.day_text.specs.Days.{DayParts}
use Rattle.day_text.specs.Records.{rows_of}
use Rattle.office_words.specs.declared.entry.Entry.{Entry}
use Rattle.journal_audit.specs.Verdicts.{IsLeftBy}
use Rattle.journal_whole.specs.Wholes.{IsWhole}
use Rattle.clerk_program.specs.Judging.{IsEntryRefusal, IsHad, IsOrderRefusal}
use Rattle.clerk_program.proofs.Refusing.{held_of, refused_entries, refused_orders, whole_of_parts}
use Rattle.clerk_program.proofs.whole_day.judge_history.Goals as goal

pub judge_orders-requires-clause-few : goal.judge_orders-requires-clause-few
judge_orders-requires-clause-few c =
    subst (λ (es : List Entry). length es ≤ 1000000) (c.as_slice.ensures.value ∙ sym c.as_slice-3.ensures.value) c.in-Ok.ensures.had.kept.room

pub returns-in-Err-clause-refused : goal.returns-in-Err-clause-refused
returns-in-Err-clause-refused c =
    let f = c.args.file in
    let parts = c.into_parts-base.ensures in
    let base : arc_value c.in_ok-base.lent ≡ f.base = c.in_ok-base.ensures.other ∙ (parts.base ∙ ap (λ (p : DayParts). p.base) c.in_ok-file.ensures) in
    let day = parts.day ∙ ap (λ (p : DayParts). p.day) c.in_ok-file.ensures in
    let refused = subst (λ (es : List Entry). IsEntryRefusal (arc_value c.in_ok-base.lent) c.into_parts-base.result.1 es c.in-Err.refusal) c.as_slice.ensures.value c.in-Err.ensures.refused in
    refused_entries (rows_of c.args.bytes.now) f (arc_value c.in_ok-base.lent) c.into_parts-base.result.1 (length f.actors) f.commands base day refl refl c.args.history.items c.in-Err.refusal refused

pub returns-in-Ok-judge_orders-clause-whole : goal.returns-in-Ok-judge_orders-clause-whole
returns-in-Ok-judge_orders-clause-whole c =
    let f = c.args.file in
    let es = c.args.history.items in
    let parts = c.into_parts-base.ensures in
    let lent : arc_value c.in_ok-base.lent ≡ f.base = c.in_ok-base.ensures.other ∙ (parts.base ∙ ap (λ (p : DayParts). p.base) c.in_ok-file.ensures) in
    let own : arc_value c.in_ok-base.base ≡ f.base = c.in_ok-base.ensures.one ∙ (parts.base ∙ ap (λ (p : DayParts). p.base) c.in_ok-file.ensures) in
    let day = parts.day ∙ ap (λ (p : DayParts). p.day) c.in_ok-file.ensures in
    let names = parts.actors ∙ ap (λ (p : DayParts). p.actors) c.in_ok-file.ensures in
    let commands = parts.commands ∙ ap (λ (p : DayParts). p.commands) c.in_ok-file.ensures in
    let orders = c.as_slice-2.ensures.value ∙ commands in
    let many : c.len.result ≡ length f.actors = omega (arith, c.len.ensures, c.into_parts-base.result.2.ok.0, ap (λ (l : List (List ℕ)). length l) names) in
    let had = subst (λ (l : List Entry). IsHad (arc_value c.in_ok-base.lent) c.into_parts-base.result.1 l c.in-Ok.office) c.as_slice.ensures.value c.in-Ok.ensures.had in
    let whole = subst (IsWhole c.len.result c.as_slice-2.result.now) c.as_slice-3.ensures.value c.in-Ok-judge_orders.ensures.whole in
    let b = sym own in
    let d = sym day in
    let n = sym names in
    let o = sym commands in
    record {
      kept = held_of (rows_of c.args.bytes.now) f (arc_value c.in_ok-base.lent) c.into_parts-base.result.1 c.len.result c.as_slice-2.result.now lent day many orders es had.kept;
      whole = whole_of_parts (rows_of c.args.bytes.now) f (arc_value c.in_ok-base.lent) c.into_parts-base.result.1 c.len.result c.as_slice-2.result.now lent day many orders es whole;
      file = λ i. record { base = b i; day = d i; actors = n i; commands = o i };
      history = refl;
      left = subst (λ (x : BaseLists). IsLeftBy x c.into_parts-base.result.1 es c.in-Ok.office) (lent ∙ sym own) had.left;
    }

pub returns-in-Err-judge_orders-clause-refused : goal.returns-in-Err-judge_orders-clause-refused
returns-in-Err-judge_orders-clause-refused c =
    let f = c.args.file in
    let es = c.args.history.items in
    let rows = rows_of c.args.bytes.now in
    let parts = c.into_parts-base.ensures in
    let lent : arc_value c.in_ok-base.lent ≡ f.base = c.in_ok-base.ensures.other ∙ (parts.base ∙ ap (λ (p : DayParts). p.base) c.in_ok-file.ensures) in
    let day = parts.day ∙ ap (λ (p : DayParts). p.day) c.in_ok-file.ensures in
    let names = parts.actors ∙ ap (λ (p : DayParts). p.actors) c.in_ok-file.ensures in
    let orders = c.as_slice-2.ensures.value ∙ (parts.commands ∙ ap (λ (p : DayParts). p.commands) c.in_ok-file.ensures) in
    let many : c.len.result ≡ length f.actors = omega (arith, c.len.ensures, c.into_parts-base.result.2.ok.0, ap (λ (l : List (List ℕ)). length l) names) in
    let had = subst (λ (l : List Entry). IsHad (arc_value c.in_ok-base.lent) c.into_parts-base.result.1 l c.in-Ok.office) c.as_slice.ensures.value c.in-Ok.ensures.had in
    let refused = subst (λ (l : List Entry). IsOrderRefusal rows c.len.result c.as_slice-2.result.now l c.in-Err-judge_orders.refusal) c.as_slice-3.ensures.value c.in-Err-judge_orders.ensures.refused in
    refused_orders rows f (arc_value c.in_ok-base.lent) c.into_parts-base.result.1 c.len.result c.as_slice-2.result.now lent day many orders es had.kept c.in-Err-judge_orders.refusal refused
