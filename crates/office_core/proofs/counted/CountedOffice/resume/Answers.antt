use Rattle.std.proofs.Common.{◌≡◌, ◌∙◌, List, ℕ, length, ap, sym, subst, arith}
use Rattle.std.proofs.lemmas.List.{length-map}
use Rattle.std.specs.declared.snapshot.Snapshot.{Snapshot}
use Rattle.office_core.specs.Counted.{AreCounted}
use Rattle.office_core.specs.Readings.{last_of, values_of}
use Rattle.office_core.proofs.Counting.{counted_each}
use Rattle.office_core.proofs.counted.CountedOffice.resume.Goals as goal

pub invariant_of-result : goal.invariant_of-result
invariant_of-result g c =
    let o = c.args.office in
    let old = c.counted.inside.readings.items in
    let same : c.reserve.new.self.items ≡ old = c.reserve.ensures.items in
    let counted : AreCounted o (values_of old) = subst (AreCounted o) (sym c.counted.view_is) c.requires.counted in
    let each : length old ≡ length o.history = sym (length-map old (λ s. s.value)) ∙ counted_each o.base o.opening o.history (values_of old) counted in
    let many = ap length same in
    let entries = ap length c.history.ensures.entries in
    record {
      counted = subst (λ (l : List (Snapshot ℕ)). AreCounted o (values_of l)) (sym same) counted;
      last = c.counted.invariant ∙ ap (λ l. last_of (values_of l)) (sym same);
      each = many ∙ each;
      room = omega (arith, c.in_ok-reserve.ensures.ok, c.reserve.new.self.ok.0, many, each, c.most.ensures.value, entries);
    }
