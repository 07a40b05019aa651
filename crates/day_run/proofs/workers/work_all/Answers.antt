use Rattle.std.proofs.Common.{arith, ap, sym, ◌≡◌, ℕ, ◌<◌, length, get_or, subst, List}
use Rattle.std.proofs.Math.Seq.{take-append_seam}
use Rattle.office_desk.specs.declared.seat.Seat.{Seat}
use Rattle.office_desk.specs.Desks.{calls_with_pass}
use Rattle.analyst_pool.specs.Ran.{HasNotBegun}
use Rattle.analyst_pool.specs.declared.worker.Worker.{Worker}
use Rattle.day_run.proofs.Fresh.{all_run, are_ready, stays_at}
use Rattle.office_desk.proofs.Sending.{seat_send}
use Rattle.day_run.proofs.Lists.{item}
use Rattle.day_run.specs.Workers.{AreFresh}
use denote.Param.Send.{IsSync, sendable}
use Rattle.day_run.proofs.workers.work_all.Goals as goal

pub run_actors-requires-clause-ready : goal.run_actors-requires-clause-ready
run_actors-requires-clause-ready g c κs within i d inside = let a = c.deref_mut.ensures in let b = c.admit_all.ensures in
    let near : i < length c.args.scripts.items = omega (arith, inside, a.len, b.count, c.args.scripts.ok.0, ap {B = ℕ} length a.value) in
    subst (λ (l : List (Worker (Seat g.row.R.Denot g.row.L.Denot))). HasNotBegun c.args.base.now (λ s. calls_with_pass s.pass) (get_or l i d)) (sym a.value)
    (are_ready (λ s. s.pass) c.args.desk.now c.args.base.now c.args.scripts.items c.admit_all.new.workers.items c.requires.base c.requires.sound c.requires.short b.fresh i d near)

pub take_all-requires-clause-passes : goal.take_all-requires-clause-passes
take_all-requires-clause-passes g c i w inside = let a = c.deref_mut.ensures in let b = c.admit_all.ensures in let r = c.run_actors.ensures in
    let count : c.admit_all.new.workers.len ≡ length c.run_actors.new.workers = omega (arith, r.length, a.len) in
    let there = rw (count, take-append_seam) at inside in
    let near : i < length c.args.scripts.items = omega (arith, there, r.length, b.count, c.args.scripts.ok.0, ap {B = ℕ} length a.value) in
    let s = item c.args.scripts.items i near in
    let ran = r.each i w (omega (arith, there, r.length)) in
    let same = ap (λ (l : List (Worker (Seat g.row.R.Denot g.row.L.Denot))). get_or l i w) a.value in
    rw (count, take-append_seam) (stays_at (λ s. s.pass) c.args.desk.now i _ _ _ (b.fresh i s w near) (rw same at ran))

pub returns-clause-run : goal.returns-clause-run
returns-clause-run g c = let a = c.deref_mut.ensures in let b = c.admit_all.ensures in let r = c.run_actors.ensures in let t = c.take_all.ensures in
    let count : c.admit_all.new.workers.len ≡ length c.run_actors.new.workers = omega (arith, r.length, a.len) in
    let before : AreFresh (λ (s : Seat g.row.R.Denot g.row.L.Denot). s.pass) c.args.desk.now c.args.scripts.items c.deref_mut.result.now =
    subst (AreFresh (λ s. s.pass) c.args.desk.now c.args.scripts.items) (sym a.value) b.fresh in
    all_run (λ s. s.pass) c.args.desk.now c.take_all.new.root.receipts c.args.scripts.items c.deref_mut.result.now c.run_actors.new.workers c.take_all.result
    (omega (arith, b.count, c.args.scripts.ok.0, ap {B = ℕ} length a.value)) r.length before r.each
    (rw (count, take-append_seam) at t.received) (λ yes. rw (count, take-append_seam) at (t.done yes)) (λ yes. rw (count, take-append_seam) at (t.full yes))

pub run_actors-requires-send-C : goal.run_actors-requires-send-C
run_actors-requires-send-C g c κs within = let shared : IsSync g.row.R = record { shared = c.type_bounds.sync-R.shared } in
    search (sendable, seat_send, shared, c.type_bounds.sync-R) depth 20
