use Rattle.std.proofs.Common.{◌≡◌, length, Ok}
use Rattle.reroute_desk.specs.Issues.{recalled_in}
use Rattle.reroute_desk.specs.Desks.{HasGoneOn}
use Rattle.reroute_desk.proofs.rerouter.Rerouter.catch_up.Given as goal

abbrev pub invariant-permits : goal.invariant-permits
invariant-permits g l = record {
  gone : HasGoneOn l.fn.self l.fn.office.office (Ok tt) l.self l.office.office;
  recalled : l.self.notes.recalled ≡ recalled_in l.office.office.history;
  count : l.count ≡ length l.self.notes.recalled;
  at : length l.self.handled ≡ l.at;
}
