-- What goes on from a store: itself, one posting more, and what goes on from what does.
use Rattle.std.proofs.Common.{◌++◌, ◌∷◌, [], List, refl, sym, ap, ◌∙◌}
use Rattle.std.proofs.lemmas.List.{append_assoc, append-nil}
use Rattle.restriction_log.specs.declared.change.Change.{Change}
use Rattle.snapshot_store.specs.Stores.{IsLater, Stored, with_change}

pub later_same : (s : Stored) → IsLater s s
later_same s = record { roads = refl; more = []; postings = sym (append-nil s.postings) }

pub later_posted : (before now : Stored) (change : Change) → IsLater before now → IsLater before (with_change now change)
later_posted before now change is = record {
  roads = is.roads;
  more = is.more ++ change ∷ [];
  postings = ap (λ (l : List Change). l ++ change ∷ []) is.postings ∙ append_assoc before.postings is.more (change ∷ []);
}

pub later_on : (before now next : Stored) → IsLater before now → IsLater now next → IsLater before next
later_on before now next is on = record {
  roads = on.roads ∙ is.roads;
  more = is.more ++ on.more;
  postings = on.postings ∙ (ap (λ (l : List Change). l ++ on.more) is.postings ∙ append_assoc before.postings is.more on.more);
}
