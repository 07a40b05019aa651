use Rattle.std.proofs.Common.{◌∙◌, Some, ap, refl, rules, sym}
use Rattle.journal_reader.specs.Words.{all_of, list_of, parts, parts_left, place_of}
use Rattle.journal_reader.proofs.Only.{routes_only}
use Rattle.journal_reader.proofs.Pieces.{read_more, routes_read, still_few}
use Rattle.journal_reader.proofs.routes.routes_in.Goals as goal

pub parts-preserved : goal.parts-preserved
parts-preserved c = record {
  read =
      read_more (list_of place_of) c.parts.routes c.push.new.self (parts_left 47 c.parts.rest.now) (parts_left 47 c.in-Some-part.more.now) c.in-Some-part.next.now c.in-Some-2.route (all_of (list_of place_of) (parts 47 c.args.word.now))
      c.in-Some-part.ensures.sound (sym c.in-Some-2.is ∙ c.in_ok-route-2.ensures.exact) c.in-Ok.ensures.added c.parts.invariant.read;
  few = still_few c.parts.routes c.push.new.self c.in-Some-2.route (search rules) c.in-Ok.ensures.added;
}

pub returns-clause-exact : goal.returns-clause-exact
returns-clause-exact c =
    ap Some c.in_ok-shared.ensures
    ∙ routes_read c.args.word.now c.parts.routes (parts_left 47 c.parts.rest.now) (sym c.part.ensures.exact ∙ rw c.in_default-part.is refl) c.parts.invariant.read c.parts.invariant.few

pub returns-clause-sound : goal.returns-clause-sound
returns-clause-sound c = routes_only c.args.word.now c.in_ok-shared.shared (sym (returns-clause-exact c))
