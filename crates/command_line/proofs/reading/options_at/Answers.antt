use Rattle.std.proofs.Common.{arith, refl}
use Rattle.command_line.specs.Office.{gap_option, seed_option, size_option, trucks_option}
use Rattle.command_line.proofs.Getters.{number_read}
use Rattle.command_line.proofs.reading.options_at.Goals as goal

pub returns-in_err-get_one : goal.returns-in_err-get_one
returns-in_err-get_one c =
    let seed = number_read c.args.matches.now seed_option c.get_one.result (omega arith) c.get_one.ensures.value c.requires.seed in absurd (rw c.in_err-get_one.was at seed.1)

pub returns-in_err-get_one-2 : goal.returns-in_err-get_one-2
returns-in_err-get_one-2 c =
    let size = number_read c.args.matches.now size_option c.get_one-2.result (omega arith) c.get_one-2.ensures.value c.requires.size in absurd (rw c.in_err-get_one-2.was at size.1)

pub returns-in_err-get_one-3 : goal.returns-in_err-get_one-3
returns-in_err-get_one-3 c =
    let trucks = number_read c.args.matches.now trucks_option c.get_one-3.result (omega arith) c.get_one-3.ensures.value c.requires.trucks in absurd (rw c.in_err-get_one-3.was at trucks.1)

pub returns-in_err-get_one-4 : goal.returns-in_err-get_one-4
returns-in_err-get_one-4 c =
    let gap = number_read c.args.matches.now gap_option c.get_one-4.result (omega arith) c.get_one-4.ensures.value c.requires.gap in absurd (rw c.in_err-get_one-4.was at gap.1)

pub returns : goal.returns
returns c =
    let seed = number_read c.args.matches.now seed_option c.get_one.result (omega arith) c.get_one.ensures.value c.requires.seed in
    let size = number_read c.args.matches.now size_option c.get_one-2.result (omega arith) c.get_one-2.ensures.value c.requires.size in
    let trucks = number_read c.args.matches.now trucks_option c.get_one-3.result (omega arith) c.get_one-3.ensures.value c.requires.trucks in
    let gap = number_read c.args.matches.now gap_option c.get_one-4.result (omega arith) c.get_one-4.ensures.value c.requires.gap in
    record {
      value = rw (← seed.0, ← size.0, ← trucks.0, ← gap.0, c.in_ok-get_one.was, c.in_ok-get_one-2.was, c.in_ok-get_one-3.was, c.in_ok-get_one-4.was) refl;
      range = record {
        seed = rw c.in_ok-get_one.was at seed.1;
        size = rw c.in_ok-get_one-2.was at size.1;
        trucks = rw c.in_ok-get_one-3.was at trucks.1;
        gap = rw c.in_ok-get_one-4.was at gap.1;
      };
    }
