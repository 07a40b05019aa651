use Rattle.std.proofs.Common.{◌∷◌, ◌+◌, [], ℕ}
use Rattle.std.specs.Prelude.{codes}
use Rattle.day_maker.specs.Making.{Maker, ◌>>=◌, draw, put}
use Rattle.day_maker.specs.Made.{actor_name, application, node_name, truck_name}
use Rattle.day_writer.specs.Texts.{row}
use Rattle.day_maker.proofs.Pages.{draw_then}
use Rattle.day_maker.proofs.traffic.put_application.Goals as goal

pub returns : goal.returns
unfolding application
returns c =
    let z = c.args.size in
    let make : ℕ → ℕ → Maker = λ a t. put (row (codes "apply" ∷ actor_name (1 + a) ∷ truck_name (1 + t) ∷ node_name 0 0 ∷ node_name z z ∷ [] ∷ codes "2026-01-01" ∷ codes "2026-12-31" ∷ [])) in
    draw_then 3 (λ a. draw 4 >>= make a) c.draw.result c.args.page.now c.draw.new.self c.put.new.self c.draw.ensures.value c.draw.ensures.next
    (draw_then 4 (make c.draw.result) c.draw-2.result c.draw.new.self c.draw-2.new.self c.put.new.self c.draw-2.ensures.value c.draw-2.ensures.next
    c.in_ok-put.ensures)
