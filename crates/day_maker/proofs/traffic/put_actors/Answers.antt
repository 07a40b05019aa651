use Rattle.std.specs.Prelude.{codes}
use Rattle.day_maker.specs.Making.{◌>>◌}
use Rattle.day_maker.specs.Made.{actor, actor_name, actors}
use Rattle.day_maker.proofs.Pages.{after_then}
use Rattle.day_maker.proofs.traffic.put_actors.Goals as goal

pub returns : goal.returns
unfolding actors
returns c =
    after_then (actor (actor_name 1)) (actor (actor_name 2) >> (actor (actor_name 3) >> actor (codes "eng"))) c.args.page.now
    c.put.new.self c.put-4.new.self c.in_ok-put.ensures
    (after_then (actor (actor_name 2)) (actor (actor_name 3) >> actor (codes "eng")) c.put.new.self c.put-2.new.self
    c.put-4.new.self c.in_ok-put-2.ensures
    (after_then (actor (actor_name 3)) (actor (codes "eng")) c.put-2.new.self c.put-3.new.self c.put-4.new.self
    c.in_ok-put-3.ensures c.in_ok-put-4.ensures))
