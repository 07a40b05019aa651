use Rattle.std.proofs.Common.{◌<◌, ◌≤◌, length, arith}
use Rattle.permit_program.specs.Runs.{most_bytes}
use Rattle.clerk_program.proofs.Carrying.{makes, ready, refused_carry, refuses, tells}
use Rattle.clerk_program.proofs.carry.carry_over.Goals as goal

pub returns-in-Err-clause-refused : goal.returns-in-Err-clause-refused
returns-in-Err-clause-refused c = refused_carry c.args.in_force c.args.bytes.now c.in-Err.refusal c.in-Err.ensures.unfit

pub carry_day-requires : goal.carry_day-requires
carry_day-requires c = ready c.args.bytes.now c.in-Ok.day c.in-Ok.ensures.whole

pub returns-then-len-gt-MOST_DAY-clause-refused : goal.returns-then-len-gt-MOST_DAY-clause-refused
returns-then-len-gt-MOST_DAY-clause-refused c =
    let many : most_bytes < length c.in_ok-carried.carried.text.items = omega (arith, c.if-len-gt-MOST_DAY.true, c.len.ensures) in
    refuses c.args.bytes.now c.in-Ok.day c.in-Ok.ensures.whole c.args.in_force c.in_ok-carried.carried c.in_ok-carried.ensures many c.of_bytes.result c.of_bytes.ensures

pub returns-clause-made : goal.returns-clause-made
returns-clause-made c =
    let fits : length c.in_ok-carried.carried.text.items ≤ most_bytes = omega (arith, c.if-len-gt-MOST_DAY.false, c.len.ensures) in
    makes c.args.bytes.now c.in-Ok.day c.in-Ok.ensures.whole c.args.in_force c.in_ok-carried.carried c.in_ok-carried.ensures fits

pub returns-clause-told : goal.returns-clause-told
returns-clause-told c = tells c.args.bytes.now c.in-Ok.day c.in-Ok.ensures.whole c.args.in_force c.in_ok-carried.carried c.in_ok-carried.ensures
