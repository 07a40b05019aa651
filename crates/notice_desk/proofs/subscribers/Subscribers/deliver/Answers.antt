use Rattle.std.proofs.Common.{◌∙◌, ◌<◌, sym, length, arith}
use Rattle.std.proofs.lemmas.List.{length-map, length-set}
use Rattle.notice_desk.specs.Standings.{fault_counts, standing_of, standings, texts}
use Rattle.notice_desk.proofs.Serving.{counts_stand, next_is, next_within, rises_at, served_on, stopped_there}
use Rattle.notice_desk.proofs.Writing.{wrote_on, wrote_until_there}
use Rattle.notice_desk.proofs.subscribers.Subscribers.deliver.Goals as goal

pub serve-requires : goal.serve-requires
serve-requires g c =
    let within : c.loop-at.at < length c.loop-at.self.list.items = omega arith in
    next_within (standing_of (λ n. (goal.Notice-dyn g (n.vtable, n.value)).list n.value))
    c.loop-at.self.list.items c.loop-at.at c.index_mut.result.now
    (standings (λ n. (goal.Notice-dyn g (n.vtable, n.value)).list n.value) c.args.self.now)
    c.args.recalls.now c.index_mut.ensures.value within
    (length-map c.args.self.now.list.items _ ∙ sym c.loop-at.invariant.same) c.loop-at.invariant.done c.requires

pub loop-at-preserved : goal.loop-at-preserved
loop-at-preserved g c =
    let within : c.loop-at.at < length c.loop-at.self.list.items = omega arith in
    record {
      done = served_on (standing_of (λ n. (goal.Notice-dyn g (n.vtable, n.value)).list n.value))
          c.loop-at.self.list.items c.loop-at.at c.index_mut.result.now
          (standings (λ n. (goal.Notice-dyn g (n.vtable, n.value)).list n.value) c.args.self.now)
          c.args.recalls.now c.index_mut.ensures.value within
          (length-map c.args.self.now.list.items _ ∙ sym c.loop-at.invariant.same) c.loop-at.invariant.done
          c.serve.new.subscriber c.in_default.ensures.through;
      wrote = wrote_on (standing_of (λ n. (goal.Notice-dyn g (n.vtable, n.value)).list n.value))
          (λ x. (goal.Notice-dyn g (x.notice.vtable, x.notice.value)).text x.notice.value)
          c.loop-at.self.list.items c.loop-at.at c.index_mut.result.now
          (standings (λ n. (goal.Notice-dyn g (n.vtable, n.value)).list n.value) c.args.self.now) c.args.recalls.now
          (texts (λ n. (goal.Notice-dyn g (n.vtable, n.value)).text n.value) c.args.self.now)
          c.index_mut.ensures.value within (length-map c.args.self.now.list.items _ ∙ sym c.loop-at.invariant.same)
          (length-map c.args.self.now.list.items _ ∙ sym c.loop-at.invariant.same)
          (next_is (standing_of (λ n. (goal.Notice-dyn g (n.vtable, n.value)).list n.value))
          c.loop-at.self.list.items c.loop-at.at c.index_mut.result.now
          (standings (λ n. (goal.Notice-dyn g (n.vtable, n.value)).list n.value) c.args.self.now) c.args.recalls.now
          c.index_mut.ensures.value within (length-map c.args.self.now.list.items _ ∙ sym c.loop-at.invariant.same)
          c.loop-at.invariant.done)
          c.loop-at.invariant.wrote c.serve.new.subscriber c.in_default.ensures.wrote;
      stands = counts_stand (λ x. (goal.Notice-dyn g (x.notice.vtable, x.notice.value)).faults x.notice.value)
          c.loop-at.self.list.items c.loop-at.at c.index_mut.result.now c.index_mut.ensures.value
          c.serve.new.subscriber c.in_default.ensures.cause.stands ∙ c.loop-at.invariant.stands;
      same = length-set c.loop-at.self.list.items c.loop-at.at c.serve.new.subscriber ∙ c.loop-at.invariant.same;
    }

pub returns-in-Err-clause-stopped : goal.returns-in-Err-clause-stopped
returns-in-Err-clause-stopped g c =
    let within : c.loop-at.at < length c.loop-at.self.list.items = omega arith in
    stopped_there (standing_of (λ n. (goal.Notice-dyn g (n.vtable, n.value)).list n.value))
    c.loop-at.self.list.items c.loop-at.at c.index_mut.result.now
    (standings (λ n. (goal.Notice-dyn g (n.vtable, n.value)).list n.value) c.args.self.now)
    c.args.recalls.now c.index_mut.ensures.value within
    (length-map c.args.self.now.list.items _ ∙ sym c.loop-at.invariant.same) c.loop-at.invariant.done
    c.serve.new.subscriber c.in-Err.ensures.stopped

pub returns-in-Err-clause-fault : goal.returns-in-Err-clause-fault
returns-in-Err-clause-fault g c =
    let within : c.loop-at.at < length c.loop-at.self.list.items = omega arith in
    rises_at (λ x. (goal.Notice-dyn g (x.notice.vtable, x.notice.value)).faults x.notice.value)
    c.loop-at.self.list.items c.loop-at.at c.index_mut.result.now c.index_mut.ensures.value c.serve.new.subscriber
    (fault_counts (λ n. (goal.Notice-dyn g (n.vtable, n.value)).faults n.value) c.args.self.now)
    within c.loop-at.invariant.stands c.in-Err.ensures.cause.failed

pub returns-in-Err-clause-part : goal.returns-in-Err-clause-part
returns-in-Err-clause-part g c =
    let within : c.loop-at.at < length c.loop-at.self.list.items = omega arith in
    wrote_until_there (standing_of (λ n. (goal.Notice-dyn g (n.vtable, n.value)).list n.value))
    (λ x. (goal.Notice-dyn g (x.notice.vtable, x.notice.value)).text x.notice.value)
    c.loop-at.self.list.items c.loop-at.at c.index_mut.result.now
    (standings (λ n. (goal.Notice-dyn g (n.vtable, n.value)).list n.value) c.args.self.now) c.args.recalls.now
    (texts (λ n. (goal.Notice-dyn g (n.vtable, n.value)).text n.value) c.args.self.now)
    c.index_mut.ensures.value within (length-map c.args.self.now.list.items _ ∙ sym c.loop-at.invariant.same)
    (length-map c.args.self.now.list.items _ ∙ sym c.loop-at.invariant.same)
    (next_is (standing_of (λ n. (goal.Notice-dyn g (n.vtable, n.value)).list n.value))
    c.loop-at.self.list.items c.loop-at.at c.index_mut.result.now
    (standings (λ n. (goal.Notice-dyn g (n.vtable, n.value)).list n.value) c.args.self.now) c.args.recalls.now
    c.index_mut.ensures.value within (length-map c.args.self.now.list.items _ ∙ sym c.loop-at.invariant.same)
    c.loop-at.invariant.done)
    c.loop-at.invariant.wrote c.serve.new.subscriber c.in-Err.ensures.part
