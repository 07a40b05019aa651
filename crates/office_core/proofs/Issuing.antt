-- Each permit that a posting recalls was issued once, for a truck that is there.
use Rattle.std.proofs.Common.{◌∷◌}
use Rattle.trip_analysis.specs.Bases.{BaseLists}
use Rattle.office_words.specs.declared.entry.Reply.TheVariants as reply
use Rattle.office_core.specs.Offices.{entry}
use Rattle.office_core.specs.Happened.{Day, History}
use Rattle.office_core.specs.Promises.{KeepsPromises}
use Rattle.office_core.specs.Recalled.{RecalledWereIssued}
use Rattle.office_core.proofs.Once.{stands_in}

pub recalled_issued : (base : BaseLists) (day : Day) (es : History) → KeepsPromises base day es → RecalledWereIssued base es
recalled_issued base day es keeps front n recalls =
    let (v, (by, c, ns, on, (rest, is))) = recalls in
    let once = keeps.recalled_once front n recalls in
    let (by', c', v', routes, stands) = once.issued in
    let permit = keeps.issued once.at by' c' n v' routes (stands_in es front (entry by c (reply.Posted v ns) ∷ rest) once.at (entry by' c' (reply.Issued n v' routes)) is stands) in
    record {
      at = once.at;
      by = by';
      c = c';
      v = v';
      routes = routes;
      trip = permit.trip;
      stands = stands;
      asked = permit.asked.is;
      there = permit.asked.sound.truck;
      once = once.issued_once;
    }
