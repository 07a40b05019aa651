use Rattle.day_maker.specs.Making.{◌>>◌}
use Rattle.day_maker.specs.Made.{actors, commands, last_record, nodes, opening, segments, spans, trucks}
use Rattle.day_maker.proofs.Pages.{after_then}
use Rattle.day_maker.proofs.day.put_day.Goals as goal

pub returns : goal.returns
returns c =
    after_then opening (nodes c.args.size >> (segments c.args.size >> (spans c.args.size >> (trucks >> (actors >> (commands c.args.size >> last_record)))))) c.args.page.now c.put.new.self c.put-2.new.self c.in_ok-put.ensures
    (after_then (nodes c.args.size) (segments c.args.size >> (spans c.args.size >> (trucks >> (actors >> (commands c.args.size >> last_record))))) c.put.new.self c.put_nodes.new.page c.put-2.new.self c.in_ok-put_nodes.ensures
    (after_then (segments c.args.size) (spans c.args.size >> (trucks >> (actors >> (commands c.args.size >> last_record)))) c.put_nodes.new.page c.put_segments.new.page c.put-2.new.self c.in_ok-put_segments.ensures
    (after_then (spans c.args.size) (trucks >> (actors >> (commands c.args.size >> last_record))) c.put_segments.new.page c.put_spans.new.page c.put-2.new.self c.in_ok-put_spans.ensures
    (after_then trucks (actors >> (commands c.args.size >> last_record)) c.put_spans.new.page c.put_trucks.new.page c.put-2.new.self c.in_ok-put_trucks.ensures
    (after_then actors (commands c.args.size >> last_record) c.put_trucks.new.page c.put_actors.new.page c.put-2.new.self c.in_ok-put_actors.ensures
    (after_then (commands c.args.size) last_record c.put_actors.new.page c.put_commands.new.page c.put-2.new.self c.in_ok-put_commands.ensures
    c.in_ok-put-2.ensures))))))
