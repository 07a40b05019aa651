use Rattle.std.proofs.Common.{◌≡◌, ◌∙◌, ◌<◌, ◌++◌, ◌∷◌, [], List, ℕ, length, ap, sym, subst, arith}
use Rattle.std.proofs.lemmas.Bool.Decides.{nat_tests}
use Rattle.std.proofs.lemmas.List.{length-append, map-append}
use Rattle.std.specs.declared.snapshot.Snapshot.{Snapshot}
use Rattle.office_words.specs.declared.entry.Entry.{Entry}
use Rattle.office_core.specs.Costs.{IsCost}
use Rattle.office_core.specs.Counted.{AreCounted}
use Rattle.office_core.specs.Offices.{Opened, entry, grown, machine_in}
use Rattle.office_core.specs.Readings.{last_of, values_of}
use Rattle.office_core.proofs.Counting.{counted_more, last_push}
use Rattle.office_core.proofs.counted.CountedOffice.step.Goals as goal

pub invariant_of-self : goal.invariant_of-self
invariant_of-self g c =
    let o = c.self.inside.office in
    let inv = c.self.invariant in
    let step = c.step-reply.ensures in
    let now = c.step-reply.new.steps in
    let old = values_of c.self.inside.readings.items in
    let e : Entry = entry c.args.caller c.args.call c.step-reply.result in
    let place : length o.history < o.most = grind (arith, nat_tests, c.is_full-is_full.ensures, c.if-not-is_full.true) in
    let longer : c.step-reply.new.self ≡ grown o e = step.grown place in
    let many = length-append o.history (e ∷ []) in
    let read : values_of c.push_reserved.new.self.items ≡ old ++ now ∷ [] =
    ap values_of c.push_reserved.ensures.items ∙ map-append (λ (s : Snapshot ℕ). s.value) c.self.inside.readings.items (c.of.result ∷ []) ∙ ap (λ n. old ++ n ∷ []) c.of.ensures in
    let cost : IsCost o.base (machine_in o) c.args.call (last_of old) now =
    subst (λ (n : ℕ). IsCost o.base (machine_in o) c.args.call n now) inv.last step.cost in
    record {
      counted = subst (λ (n : Opened). AreCounted n (values_of c.push_reserved.new.self.items)) (sym longer)
          (subst (AreCounted (grown o e)) (sym read) (counted_more o.base o.opening o.history e old now inv.counted cost));
      last = sym (last_push old now) ∙ ap last_of (sym read);
      each = omega (arith, ap length c.push_reserved.ensures.items, length-append c.self.inside.readings.items (c.of.result ∷ []), inv.each, many, ap (λ (n : Opened). length n.history) longer);
      room = omega (arith, inv.room, c.push_reserved.ensures.capacity, ap (λ (n : Opened). n.most) longer);
    }
