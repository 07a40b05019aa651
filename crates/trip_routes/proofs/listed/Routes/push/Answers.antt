use Rattle.std.proofs.Common.{◌++◌, ◌∷◌, [], arith, ap, ◌∙◌}
use Rattle.trip_routes.proofs.Cutting.{cut_more, is_cut_more, room_left}
use Rattle.trip_routes.proofs.listed.Routes.push.Goals as goal

pub push-requires : goal.push-requires
push-requires c =
    (omega arith, room_left c.self.inside.ends.items c.self.inside.segments.items c.args.self.now c.len.result c.self.view_is c.len.ensures.count c.if-len-ge-MOST_ROUTES.false)

pub invariant_of-self-2 : goal.invariant_of-self-2
invariant_of-self-2 c =
    let room = room_left c.self.inside.ends.items c.self.inside.segments.items c.args.self.now c.len.result c.self.view_is c.len.ensures.count c.if-len-ge-MOST_ROUTES.false in
    rw (c.push.ensures.items, c.in_ok-extend_from_slice.ensures.items)
    (is_cut_more c.self.inside.ends.items c.self.inside.segments.items c.as_slice.result.now c.len-2.result c.self.invariant room
    (omega (arith, c.len-2.ensures, c.in_ok-extend_from_slice.ensures.len)))

pub returns-clause-added : goal.returns-clause-added
returns-clause-added c =
    rw (c.push.ensures.items, c.in_ok-extend_from_slice.ensures.items)
    (cut_more c.self.inside.ends.items c.self.inside.segments.items c.as_slice.result.now c.len-2.result c.self.invariant
    (omega (arith, c.len-2.ensures, c.in_ok-extend_from_slice.ensures.len))
    ∙ ap (λ l. l ++ c.as_slice.result.now ∷ []) c.self.view_is ∙ ap (λ r. c.args.self.now ++ r ∷ []) c.as_slice.ensures)
