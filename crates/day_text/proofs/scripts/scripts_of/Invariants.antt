use Rattle.std.proofs.Common.{◌≡◌, ◌≤◌, [], length, vec_capacity}
use Rattle.day_text.specs.Scripts.{AreScripts}
use Rattle.day_text.proofs.scripts.scripts_of.Given as goal

abbrev pub invariant-actors : goal.invariant-actors
invariant-actors l = record {
  room : l.actors ≤ vec_capacity l.scripts;
  count : length l.scripts.items ≡ l.counter;
  empty : AreScripts l.scripts.items [];
}

abbrev pub invariant-orders : goal.invariant-orders
invariant-orders l = record {
  count : length l.scripts.items ≡ l.actors;
  scripts : AreScripts l.scripts.items l.yielded;
}
