-- A history recalls no more permits than it issued.
use Rattle.std.proofs.Common.{◌≡◌, ◌∙◌, ◌⊎◌, inl, inr, ap, sym, refl, subst, ℕ, suc, ◌<◌, ◌≤◌, List, [], ◌∷◌, ◌++◌, Bool, true, false, length, ◌==◌, ◌||◌, arith}
use Rattle.std.specs.List.{AllByRecursion, IsDistinct, list_any}
use Rattle.std.proofs.lemmas.Bool.{cases_Bool, eqb-true}
use Rattle.std.proofs.lemmas.Cmp.{nat_eq_equiv}
use Rattle.std.proofs.lemmas.Map.Steps.{length-le_from_distinct_below}
use Rattle.trip_analysis.specs.Bases.{BaseLists}
use Rattle.trip_analysis.specs.Findings.{is_number_among}
use Rattle.office_words.specs.declared.entry.Reply.TheVariants as reply
use Rattle.office_core.specs.Happened.{Day, History, issued_in}
use Rattle.office_core.specs.Offices.{entry}
use Rattle.office_core.specs.Promises.{KeepsPromises}
use Rattle.office_core.proofs.Counts.{issued-append, issued-cons}
use Rattle.office_core.proofs.Once.{stands_in}
use Rattle.reroute_desk.specs.Issues.{recalled_in}
use Rattle.reroute_desk.specs.Laws.{StandOnce}
use Rattle.reroute_desk.proofs.Keeping.{recalled_more}
use Rattle.reroute_desk.proofs.Once.{once_front, recalled_once}
use Rattle.reroute_desk.proofs.Recalling.{recalls_at}

-- numbers that stand once, in the words of std
among_any : (n : ℕ) (ns : List ℕ) → is_number_among n ns ≡ list_any (λ k. n == k) ns
among_any n [] = refl
among_any n (k ∷ ns) = ap (λ (b : Bool). b || is_number_among n ns) (nat_eq_equiv.symm k n) ∙ ap (λ (b : Bool). n == k || b) (among_any n ns)

none_among : (n : ℕ) (ns : List ℕ) → is_number_among n ns ≡ false → AllByRecursion (λ k. (n == k) ≡ false) ns
none_among n [] off = tt
none_among n (k ∷ ns) off = (sym (nat_eq_equiv.symm k n) ∙ off_first (k == n) (is_number_among n ns) off, none_among n ns (off_rest (k == n) (is_number_among n ns) off))
  where
    off_first : (a b : Bool) → (a || b) ≡ false → a ≡ false
    off_first true b off = off
    off_first false b off = refl

    off_rest : (a b : Bool) → (a || b) ≡ false → b ≡ false
    off_rest true b off = absurd cc
    off_rest false b off = off

distinct : (ns : List ℕ) → StandOnce ns → IsDistinct (λ n k. n == k) ns
unfolding IsDistinct
distinct [] once = tt
distinct (n ∷ ns) once = (none_among n ns once.0, distinct ns once.1)

-- numbers from 1 on that stand once are at most as many as the greatest of them
once_few : (ns : List ℕ) (most : ℕ) → StandOnce ns → ((n : ℕ) → is_number_among n ns ≡ true → (1 ≤ n) × (n ≤ most)) → length ns ≤ most
once_few ns most once within =
    omega (arith, length-le_from_distinct_below (0 ∷ ns) (suc most) (distinct (0 ∷ ns) (no_zero (cases_Bool (is_number_among 0 ns)), once)) (λ n on. below n (cases_Bool (is_number_among n ns)) (among_any n (0 ∷ ns) ∙ on)))
  where
    no_zero : (is_number_among 0 ns ≡ true) ⊎ (is_number_among 0 ns ≡ false) → is_number_among 0 ns ≡ false
    no_zero (inl on) = absurd (omega (arith, (within 0 on).0))
    no_zero (inr off) = off

    below : (n : ℕ) → (is_number_among n ns ≡ true) ⊎ (is_number_among n ns ≡ false) → is_number_among n (0 ∷ ns) ≡ true → n < suc most
    below n (inl on) all = omega (arith, (within n on).1)
    below n (inr off) all = omega (arith, eqb-true 0 n (or_first (0 == n) (is_number_among n ns) all off))
      where
        or_first : (a b : Bool) → (a || b) ≡ true → b ≡ false → a ≡ true
        or_first true b on off = refl
        or_first false b on off = absurd (cc (on, off))

module _ (base : BaseLists) (day : Day) (whole es more : History) (keeps : KeepsPromises base day whole) (parts : whole ≡ es ++ more) where
  -- each number that the first entries recall is one of those that they issued
  among_issued : (n : ℕ) → is_number_among n (recalled_in es) ≡ true → (1 ≤ n) × (n ≤ issued_in es)
  among_issued n on =
      let (at, (v, (by, c, ns, there, (back, is)))) = recalls_at es n on in
      let posting = entry by c (reply.Posted v ns) in
      let stands = stands_in whole es more at posting parts (back, is) in
      let once = keeps.recalled_once at n (v, (by, c, ns, there, stands)) in
      let (other, d, w, routes, (behind, was)) = once.issued in
      let issue = entry other d (reply.Issued n w routes) in
      let permit = keeps.issued once.at other d n w routes (stands_in whole at (posting ∷ stands.0) once.at issue stands.1 (behind, was)) in (
        omega (arith, permit.number),
        omega (arith, permit.number, ap issued_in is, issued-append at (posting ∷ back), ap issued_in was, issued-append once.at (issue ∷ behind), issued-cons issue behind),
      )

  -- they recall no more than they issued
  pub recalled_few : length (recalled_in es) ≤ issued_in es
  recalled_few = once_few (recalled_in es) (issued_in es) (once_front (recalled_in es) (recalled_in more) all) among_issued
    where
      all : StandOnce (recalled_in es ++ recalled_in more)
      all = subst StandOnce (ap recalled_in parts ∙ recalled_more es more) (recalled_once base day whole keeps [] whole refl)
