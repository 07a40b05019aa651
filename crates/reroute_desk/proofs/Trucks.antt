-- What is told of a recalled permit is of the application for which its entry issued it.
use Rattle.std.proofs.Common.{◌≡◌, ◌∙◌, sym, ap, subst, refl, ℕ, suc, List, [], ◌∷◌, ◌++◌, length, take, drop, fold, get_or, Option, Some, None, ◌==◌, inl, inr, append_assoc, arith, All}
use Rattle.std.specs.Option.{option_or}
use Rattle.std.proofs.Math.Seq.{drop-cons}
use Rattle.std.proofs.lemmas.Bool.Decides.{nat_tests}
use Rattle.std.proofs.lemmas.Bool.{cases_Bool, eqb-true}
use Rattle.std.proofs.lemmas.List.{length-append, take-append-drop}
use Rattle.std.proofs.lemmas.List.Elements.{All-nil}
use Rattle.std.proofs.lemmas.List.Sums.{fold-append}
use Rattle.std.proofs.lemmas.Option.{slice_get-get_or}
use Rattle.trip_analysis.specs.Bases.{BaseLists}
use Rattle.trip_analysis.specs.declared.application.Application.{Application}
use Rattle.trip_analysis.proofs.Found.{is_in_from_among}
use Rattle.office_words.specs.declared.entry.Reply.{Reply}
use Rattle.office_words.specs.declared.entry.Reply.TheVariants as reply
use Rattle.office_words.specs.declared.entry.Entry.{Entry}
use Rattle.office_core.specs.Offices.{entry}
use Rattle.office_core.specs.Happened.{History, Stands}
use Rattle.office_core.specs.Recalled.{RecalledWereIssued, WasIssuedOnce}
use Rattle.office_core.proofs.Once.{stands_in}
use Rattle.reroute_desk.specs.Issues.{issued_by, told_of_issued}
use Rattle.reroute_desk.specs.RecallLists.{HasTrucks, HasTruck, truck_in}

module _ {A : Type 0} (told : Application → A) where
  abbrev later : ℕ → Option A → Entry → Option A
  later n found e = option_or (issued_by told n e.call e.reply) found

  -- entries that do not issue the permit leave what was found
  quiet : (n : ℕ) (es : History) (found : Option A)
      → ((mid : History) (f : Entry) (rest : History) → es ≡ mid ++ f ∷ rest → issued_by told n f.call f.reply ≡ None)
      → fold (later n) found es ≡ found
  quiet n [] found none = refl
  quiet n (f ∷ fs) found none =
      ap (λ o. fold (later n) (option_or o found) fs) (none [] f fs refl)
      ∙ quiet n fs found (λ mid g rest e. none (f ∷ mid) g rest (ap (λ l. f ∷ l) e))

module _ (base : BaseLists) (es front : History) (n : ℕ) (h : WasIssuedOnce base es front n) (rest : History) (is : es ≡ front ++ rest) where
  there : Stands es h.at (entry h.by h.c (reply.Issued n h.v h.routes))
  there = stands_in es front rest h.at (entry h.by h.c (reply.Issued n h.v h.routes)) is h.stands

  module _ {A : Type 0} (told : Application → A) where
    found_here : issued_by told n h.c (reply.Issued n h.v h.routes) ≡ Some (told h.trip)
    found_here = grind (arith, nat_tests, h.asked)

    -- behind it no entry issues the permit
    silent : (mid : History) (f : Entry) (more : History) → there.0 ≡ mid ++ f ∷ more → issued_by told n f.call f.reply ≡ None
    silent mid f more parts = by f.reply refl
      where
        whole : es ≡ (h.at ++ entry h.by h.c (reply.Issued n h.v h.routes) ∷ mid) ++ f ∷ more
        whole = there.1 ∙ (ap (λ l. h.at ++ entry h.by h.c (reply.Issued n h.v h.routes) ∷ l) parts
            ∙ sym (append_assoc h.at (entry h.by h.c (reply.Issued n h.v h.routes) ∷ mid) (f ∷ more)))

        again : (v : ℕ) (routes : List (List ℕ)) → f.reply ≡ reply.Issued n v routes → ⊥
        again v routes same =
            let other = h.once (h.at ++ entry h.by h.c (reply.Issued n h.v h.routes) ∷ mid)
            (f.caller, f.call, v, routes, (more, whole ∙ ap (λ r. (h.at ++ entry h.by h.c (reply.Issued n h.v h.routes) ∷ mid) ++ entry f.caller f.call r ∷ more) same)) in
            omega (arith, ap length other, length-append h.at (entry h.by h.c (reply.Issued n h.v h.routes) ∷ mid))

        by : (r : Reply) → f.reply ≡ r → issued_by told n f.call r ≡ None
        by (reply.Issued k v routes) same = elim (cases_Bool (k == n)) [
          | inl equal ↦ absurd (again v routes (same ∙ ap (λ j. reply.Issued j v routes) (eqb-true k n equal)))
          | inr other ↦ rw other refl
        ]
        by _ same = refl

    pub found_told : told_of_issued told es n ≡ Some (told h.trip)
    found_told =
        ap (fold (later told n) None) there.1
        ∙ (fold-append (later told n) None h.at (entry h.by h.c (reply.Issued n h.v h.routes) ∷ there.0)
        ∙ (ap (λ o. fold (later told n) (option_or o (fold (later told n) None h.at)) there.0) found_here
        ∙ quiet told n there.0 (Some (told h.trip)) silent))

pub has_trucks : (base : BaseLists) (es : History) → RecalledWereIssued base es → All (λ e. HasTrucks base (truck_in es) e.reply) es
has_trucks base es issued k d within = by (get_or es k d).reply refl
  where
    parts : es ≡ take k es ++ get_or es k d ∷ drop (suc k) es
    parts = sym (ap (λ l. take k es ++ l) (sym (drop-cons es k d within)) ∙ take-append-drop k es)

    by : (r : Reply) → (get_or es k d).reply ≡ r → HasTrucks base (truck_in es) r
    by (reply.Posted v ns) same = λ j c h.
        let n = get_or ns j c in
        let on = is_in_from_among n ns j (slice_get-get_or ns j c h) in
        let stands : Stands es (take k es) (entry (get_or es k d).caller (get_or es k d).call (reply.Posted v ns)) = (drop (suc k) es, parts ∙ ap (λ r. take k es ++ entry (get_or es k d).caller (get_or es k d).call r ∷ drop (suc k) es) same) in
        let once = issued (take k es) n (v, ((get_or es k d).caller, (get_or es k d).call, ns, on, stands)) in
        subst (HasTruck base) (sym (found_told base es (take k es) n once (get_or es k d ∷ drop (suc k) es) parts (λ a. a.truck))) once.there
    by _ same = All-nil (λ n. HasTruck base (truck_in es n))
