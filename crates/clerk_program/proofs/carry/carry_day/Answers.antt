use Rattle.std.proofs.Common.{◌≡◌, ◌∙◌, ◌≤◌, List, length, map, ap, subst, sym}
use Rattle.day_writer.specs.Rows.{day_text_of}
use Rattle.day_writer.specs.declared.write.Sheet.{Sheet}
use Rattle.next_day.specs.declared.standing.Standing.{Standing}
use Rattle.clerk_program.specs.Carry.{carried_lines}
use Rattle.clerk_program.proofs.NextSheet.{few_standing, parts_are, sheet_there, sheet_writable, standing_is}
use Rattle.clerk_program.proofs.carry.carry_day.Goals as goal

pub write_day-requires-clause-there : goal.write_day-requires-clause-there
write_day-requires-clause-there c =
    let s : Sheet = record { base = c.deref.result; state = c.state.result; trucks = c.as_slice.result; day = c.today.result; actors = c.as_slice-2.result; commands = c.as_slice-3.result } in
    sheet_there c.args.in_force c.args.day.now c.requires c.in_ok-next.next c.in_ok-next.ensures s c.deref.ensures c.state.ensures.value c.as_slice.ensures.value c.today.ensures
    c.as_slice-2.ensures.value c.as_slice-3.ensures.value c.state.ensures.of_base

pub write_day-requires-clause-writable : goal.write_day-requires-clause-writable
write_day-requires-clause-writable c =
    let s : Sheet = record { base = c.deref.result; state = c.state.result; trucks = c.as_slice.result; day = c.today.result; actors = c.as_slice-2.result; commands = c.as_slice-3.result } in
    sheet_writable c.args.in_force c.args.day.now c.requires c.in_ok-next.next c.in_ok-next.ensures s c.deref.ensures c.state.ensures.value c.as_slice.ensures.value c.today.ensures
    c.as_slice-2.ensures.value c.as_slice-3.ensures.value

pub lines_of-requires : goal.lines_of-requires
lines_of-requires c =
    let stood = c.as_slice-4.ensures.value ∙ standing_is c.args.in_force c.args.day.now c.requires c.in_ok-next.next c.in_ok-next.ensures in
    subst (λ (l : List Standing). length l ≤ 1000000) (sym stood) (few_standing c.args.in_force c.args.day.now c.requires)

pub returns : goal.returns
returns c =
    let s : Sheet = record { base = c.deref.result; state = c.state.result; trucks = c.as_slice.result; day = c.today.result; actors = c.as_slice-2.result; commands = c.as_slice-3.result } in
    let stood = c.as_slice-4.ensures.value ∙ standing_is c.args.in_force c.args.day.now c.requires c.in_ok-next.next c.in_ok-next.ensures in
    record {
      text = c.in_ok-text.ensures.text
          ∙ ap day_text_of (parts_are c.args.in_force c.args.day.now c.requires c.in_ok-next.next c.in_ok-next.ensures s c.deref.ensures c.state.ensures.value c.as_slice.ensures.value
          c.today.ensures c.as_slice-2.ensures.value c.as_slice-3.ensures.value);
      lines = c.in_ok-lines.ensures ∙ ap (λ (l : List Standing). carried_lines 0 (map (λ (p : Standing). p.number) l)) stood;
    }
