use Rattle.std.proofs.Common.{◌≡◌, ◌+◌, ◌*◌, take, ap, arith}
use Rattle.axle_train.specs.declared.axle.Axle.{Axle}
use Rattle.axle_train.proofs.Causes.{train_not_refused}
use Rattle.convoy_moves.specs.Convoys.{convoy_of}
use Rattle.convoy_moves.proofs.Together.{is_train, put_more}
use Rattle.convoy_moves.proofs.closed_up.closed_up.Goals as goal

pub loop-k-preserved : goal.loop-k-preserved
loop-k-preserved c =
    let axles = c.args.truck.now in
    let spacing = c.axle.result.place + c.args.gap in
    let apart = ap (λ (a : Axle). a.place + c.args.gap) (rw c.len-len.ensures.count at c.axle.ensures.value) in
    record {
      room = c.put_truck.array_long;
      so_far = put_more c.put_truck.new.axles c.loop-k.axles axles c.loop-k.k c.len-len.result spacing c.args.gap
          c.len-len.ensures.count apart c.loop-k.invariant.so_far c.put_truck.ensures;
    }

pub unreachable-requires : goal.unreachable-requires
unreachable-requires c =
    let together = convoy_of c.args.truck.now c.args.trucks c.args.gap in
    let train = is_train together c.len-len.ensures.bounds c.requires.size.0 c.requires.size.2 c.requires.fits in
    let all : c.loop-k.k ≡ c.args.trucks = omega arith in
    let written = rw all at c.loop-k.invariant.so_far in
    let axles = take (c.args.trucks * c.len-len.result) c.loop-k.axles in
    train_not_refused axles c.in-Err.field-0 (rw written train) c.in-Err.ensures.cause
