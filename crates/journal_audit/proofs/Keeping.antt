-- Snapshots of the versions so far.
use Rattle.std.proofs.Common.{◌≡◌, ◌<◌, ◌≤◌, ◌++◌, ℕ, List, length, take, drop, ap, sym, ◌∙◌, arith, Some}
use Rattle.std.proofs.lemmas.List.{take-append-drop, take-append-le, take-take, length-append}
use Rattle.std.proofs.lemmas.Option.{slice_get_within}
use Rattle.restriction_log.specs.declared.change.Change.{Change}
use Rattle.snapshot_store.specs.Stores.{Stored}
use Rattle.trip_analysis.specs.Bases.{BaseLists}
use Rattle.journal_audit.specs.declared.versions.Versions.{Versions}
use Rattle.journal_audit.specs.Versions.{SnapshotsGoOn, AreVersions, IsKeptAt}

-- the front of a list and what lies behind it
front : {A : Type 0} (m : ℕ) (xs : List A) → xs ≡ take m xs ++ drop m xs
front m xs = sym (take-append-drop m xs)

-- what was posted by a version is what was posted by an earlier one, and more
goes_on : {A : Type 0} (m n : ℕ) (xs : List A) → m ≤ n → take n xs ≡ take m xs ++ drop m (take n xs)
goes_on m n xs le = front m (take n xs) ∙ ap (λ l. l ++ drop m (take n xs)) (take-take m n xs le)

pub in_order : (base : BaseLists) (now : Stored) (v : Versions) → now.roads ≡ base.roads → AreVersions now v → SnapshotsGoOn base v
in_order base now v roads are = record {
  roads = λ n s kept. (are.each n s kept).roads ∙ roads;
  later = λ m n s t le kept kept'. let is = are.each m s kept in let is' = are.each n t kept' in record {
    roads = is'.roads ∙ sym is.roads;
    more = drop m (take n now.postings);
    postings = is'.postings ∙ (goes_on m n now.postings le ∙ ap (λ l. l ++ drop m (take n now.postings)) (sym is.postings));
  };
}

-- a version that is kept is one of those so far
pub kept_within : (v : Versions) (n : ℕ) (s : Stored) → IsKeptAt v n s → n < length v.kept.items
kept_within v n s kept = slice_get_within v.kept.items n (Some s) kept

-- the snapshots stay those of their versions while the store goes on
pub versions_stay : (now next : Stored) (v : Versions) (more : List Change) → next.roads ≡ now.roads → next.postings ≡ now.postings ++ more → AreVersions now v → AreVersions next v
versions_stay now next v more roads postings are = record {
  few = omega (arith, are.few, ap length postings, length-append now.postings more);
  each = λ n s kept. let is = are.each n s kept in record {
    roads = is.roads ∙ sym roads;
    postings = is.postings ∙ sym (ap (take n) postings ∙ take-append-le n now.postings more (omega (arith, kept_within v n s kept, are.few)));
  };
  marked = are.marked;
}
