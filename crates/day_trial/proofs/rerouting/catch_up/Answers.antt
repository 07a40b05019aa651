use Rattle.std.specs.Arc.{arc_value}
use Rattle.day_trial.proofs.Following.{base_on, follows_next}
use Rattle.day_trial.proofs.rerouting.catch_up.Goals as goal

pub invariant_of-lone : goal.invariant_of-lone
invariant_of-lone g c =
    let gone = c.catch_up.ensures.gone in
    record {
      base = base_on (arc_value c.lone.inside.base) c.lone.inside.office.office c.catch_up.new.office.office gone.own c.lone.invariant.base gone.grown;
      follows = follows_next c.lone.inside.finder.follower c.lone.inside.office.office c.catch_up.new.office.office gone.own c.lone.invariant.follows gone.grown;
    }
