use Rattle.std.proofs.Common.{◌+◌, ℕ}
use Rattle.day_maker.specs.Fields.{field_text}
use Rattle.day_maker.specs.Making.{Maker, ◌>>◌}
use Rattle.day_maker.specs.Made.{segment}
use Rattle.day_maker.proofs.Pages.{after_then, draw_then}
use Rattle.day_maker.proofs.roads.put_both_ways.Goals as goal

pub returns : goal.returns
returns c =
    let out : ℕ → Maker = λ feet. segment (field_text c.args.names.0) (field_text c.args.here) (field_text c.args.there) feet in
    let back : ℕ → Maker = λ feet. segment (field_text c.args.names.1) (field_text c.args.there) (field_text c.args.here) feet in
    draw_then 4000 (λ n. out (1000 + n) >> back (1000 + n)) c.draw.result c.args.page.now c.draw.new.self
    c.put-2.new.self c.draw.ensures.value c.draw.ensures.next
    (after_then (out (1000 + c.draw.result)) (back (1000 + c.draw.result)) c.draw.new.self c.put.new.self
    c.put-2.new.self c.in_ok-put.ensures c.in_ok-put-2.ensures)
