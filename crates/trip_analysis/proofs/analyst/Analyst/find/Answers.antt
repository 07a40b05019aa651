use Rattle.std.proofs.Common.{◌∙◌, ◌<◌, Option, length, refl, subst, sym, arith}
use Rattle.std.specs.Prelude.{IfSome}
use Rattle.snapshot_store.specs.Stores.{state_now}
use Rattle.trip_analysis.specs.declared.known.Known.{Known}
use Rattle.trip_analysis.specs.Known.{IsKnown}
use Rattle.trip_analysis.proofs.Learning.{known_after, known_with}
use Rattle.trip_analysis.proofs.analyst.Analyst.find.Goals as goal

pub at-requires : goal.at-requires
at-requires g c =
    let truck = c.truck-truck.result in let slot = c.index_mut-slot.result.now in
    let there : truck < length c.args.base.now.fleet = omega (arith, c.truck-truck.ensures, c.requires.sound.truck) in
    record {
      kept = subst (λ (o : Option Known). IfSome o (IsKnown c.args.base.now (state_now c.args.snapshot.now) truck)) (sym c.index_mut-slot.ensures.value ∙ sym c.take.ensures.value) (c.requires.known.each truck slot there);
    }

pub returns-clause-known : goal.returns-clause-known
returns-clause-known g c =
    let a = c.args in let base = a.base.now in let state = state_now a.snapshot.now in let truck = c.truck-truck.result in let known = c.in_ok-known.known in
    let there : truck < length base.fleet = omega (arith, c.truck-truck.ensures, c.requires.sound.truck) in
    let now = rw (c.network-network.ensures, c.as_slice-flags.ensures.value) at c.search-found.ensures in
    let is = known_after base state truck known c.search-found.new.self c.in_ok-known.ensures.known now.kept in
    known_with base state a.self.now _ truck truck _ c.requires.known refl there refl now.heights is
