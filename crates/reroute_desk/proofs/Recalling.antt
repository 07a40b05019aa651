-- What a history says of a permit that it recalls.
use Rattle.std.proofs.Common.{◌≡◌, ◌∙◌, ◌⊎◌, inl, inr, ap, sym, refl, subst, ℕ, List, [], ◌∷◌, ◌++◌, Bool, true, false, ◌||◌, ◌==◌, Some, eq-eqb}
use Rattle.std.specs.List.{concat}
use Rattle.std.proofs.lemmas.List.{append_cancel_left}
use Rattle.permit_days.specs.Days.{is_before}
use Rattle.trip_analysis.specs.Bases.{BaseLists}
use Rattle.trip_analysis.specs.declared.application.Application.{Application}
use Rattle.trip_analysis.specs.Findings.{is_number_among}
use Rattle.office_words.specs.declared.entry.Call.{Call}
use Rattle.office_words.specs.declared.entry.Entry.{Entry}
use Rattle.office_words.specs.declared.entry.Reply.{Reply}
use Rattle.office_words.specs.declared.entry.Reply.TheVariants as reply
use Rattle.office_core.specs.Offices.{entry}
use Rattle.office_core.specs.Happened.{Day, History, Routes, Stands, application_in, day_after, state_left_by}
use Rattle.office_core.specs.Became.{IsInForce, IssuesAt, RecallsAt, WasIssuedFor}
use Rattle.office_core.specs.Promises.{KeepsPromises}
use Rattle.office_core.specs.Recalled.{WasIssuedOnce}
use Rattle.office_core.specs.Standing.{FailsOn}
use Rattle.office_core.proofs.Issuing.{recalled_issued}
use Rattle.office_core.proofs.Once.{stands_in}
use Rattle.reroute_desk.specs.Issues.{told_of_issued, recalled_in, recalled_numbers}
use Rattle.reroute_desk.proofs.Trucks.{found_told}

either : (a b : Bool) → (a || b) ≡ true → (a ≡ true) ⊎ (b ≡ true)
either true b e = inl refl
either false b e = inr e

pub or_right : (a b : Bool) → b ≡ true → (a || b) ≡ true
or_right true b e = refl
or_right false b e = e

-- a number of two lists one after another is in one of them
pub in_either : (n : ℕ) (xs ys : List ℕ) → is_number_among n (xs ++ ys) ≡ true → (is_number_among n xs ≡ true) ⊎ (is_number_among n ys ≡ true)
in_either n [] ys on = inr on
in_either n (x ∷ xs) ys on = by (λ behind. in_either n xs ys behind) (either (x == n) (is_number_among n (xs ++ ys)) on)
  where
    further : (is_number_among n xs ≡ true) ⊎ (is_number_among n ys ≡ true) → (is_number_among n (x ∷ xs) ≡ true) ⊎ (is_number_among n ys ≡ true)
    further (inl left) = inl (or_right (x == n) (is_number_among n xs) left)
    further (inr right) = inr right

    by : (is_number_among n (xs ++ ys) ≡ true → (is_number_among n xs ≡ true) ⊎ (is_number_among n ys ≡ true)) → ((x == n) ≡ true) ⊎ (is_number_among n (xs ++ ys) ≡ true) → (is_number_among n (x ∷ xs) ≡ true) ⊎ (is_number_among n ys ≡ true)
    by rest (inl here) = inl (ap (λ b. b || is_number_among n xs) here)
    by rest (inr behind) = further (rest behind)

-- a number that stands behind others is in the list
pub in_seam : (n : ℕ) (xs ys : List ℕ) → is_number_among n (xs ++ n ∷ ys) ≡ true
in_seam n [] ys = ap (λ b. b || is_number_among n ys) (eq-eqb n n refl)
in_seam n (x ∷ xs) ys = or_right (x == n) (is_number_among n (xs ++ n ∷ ys)) (in_seam n xs ys)

-- what was issued stays issued, whatever comes behind
pub issued_stays : (es more : History) (n : ℕ) (trip : Application) (routes : Routes) → WasIssuedFor es n trip routes → WasIssuedFor (es ++ more) n trip routes
issued_stays es more n trip routes (at, by, c, v, asked, stands) =
    (at, by, c, v, asked, stands_in (es ++ more) es more at (entry by c (reply.Issued n v routes)) refl stands)

-- a number that a history recalls is recalled by one of its entries
pub recalls_at : (es : History) (n : ℕ) → is_number_among n (recalled_in es) ≡ true → (front : History) × RecallsAt es n front
recalls_at [] n on = cc
recalls_at (e ∷ es) n on = elim (in_either n (recalled_numbers e.reply) (recalled_in es) on) [
  | inl here ↦ ([], by e.reply refl here)
  | inr behind ↦
      let (front, (v, (caller, c, ns, at, (back, is)))) = recalls_at es n behind in
      (e ∷ front, (v, (caller, c, ns, at, (back, ap (λ l. e ∷ l) is))))
]
  where
    by : (r : Reply) → e.reply ≡ r → is_number_among n (recalled_numbers r) ≡ true → RecallsAt (e ∷ es) n []
    by (reply.Posted v ns) same at = (v, (e.caller, e.call, ns, at, (es, ap (λ r. entry e.caller e.call r ∷ es) same)))
    by _ same at = cc

-- an entry that stands behind just these is one
same_entry : (es at : History) (e f : Entry) → Stands es at e → Stands es at f → e ≡ f
same_entry es at e f (more, is) (other, same) = let l = append_cancel_left at (e ∷ more) (f ∷ other) (sym is ∙ same) in cc

-- What is so of a permit that the first entries of a history recall: it was issued for a trip along some routes, which all these
-- entries tell, and the whole history too; and it was in force, and failed on one of the routes.
pub record IsKnown (base : BaseLists) (day : Day) (es first : History) (n : ℕ) : Type 0 where
  pub front : History
  pub trip : Application
  pub routes : Routes
  pub issued : WasIssuedFor front n trip routes
  pub on_road : (s : ℕ) × (is_number_among s (concat routes) ≡ true)
  pub in_time : is_before trip.last (day_after day front) ≡ false
  pub was : WasIssuedOnce base es front n
  pub was_trip : was.trip ≡ trip
  pub more : History
  pub parts : es ≡ front ++ more
  pub was_first : WasIssuedOnce base first front n
  pub first_trip : was_first.trip ≡ trip
  pub first_more : History
  pub first_parts : first ≡ front ++ first_more

module _ (base : BaseLists) (day : Day) (es first back : History) (n : ℕ) (is : es ≡ first ++ back) (keeps : KeepsPromises base day es) where
  issues_in : (other : History) → IssuesAt first n other → IssuesAt es n other
  issues_in other (by, c, v, routes, h) = (by, c, v, routes, stands_in es first back other (entry by c (reply.Issued n v routes)) is h)

  module _ (front : History) (by : ℕ) (c : Call) (v : ℕ) (ns : List ℕ) (on : is_number_among n ns ≡ true) (stands : Stands first front (entry by c (reply.Posted v ns))) where
    whole : Stands es front (entry by c (reply.Posted v ns))
    whole = stands_in es first back front (entry by c (reply.Posted v ns)) is stands

    was : WasIssuedOnce base es front n
    was = recalled_issued base day es keeps front n (v, (by, c, ns, on, whole))

    recalled : (p : IsInForce day front n) × FailsOn base (state_left_by base (front ++ entry by c (reply.Posted v ns) ∷ [])) p.trip.truck p.routes
    recalled = ((keeps.posted front by c v ns whole).exact n).0 on

    trip_is : was.trip ≡ recalled.0.trip
    trip_is =
        let (at, by', c', v', asked, there) = recalled.0.issued in
        let mine : Stands es at (entry by' c' (reply.Issued n v' recalled.0.routes)) = stands_in es front (entry by c (reply.Posted v ns) ∷ whole.0) at (entry by' c' (reply.Issued n v' recalled.0.routes)) whole.1 there in
        let same : at ≡ was.at = was.once at (by', c', v', recalled.0.routes, mine) in
        let there' : Stands front was.at (entry by' c' (reply.Issued n v' recalled.0.routes)) = subst (λ (l : History). Stands front l (entry by' c' (reply.Issued n v' recalled.0.routes))) same there in
        let equal = same_entry front was.at (entry was.by was.c (reply.Issued n was.v was.routes)) (entry by' c' (reply.Issued n v' recalled.0.routes)) was.stands there' in
        let calls : was.c ≡ c' = ap (λ (e : Entry). e.call) equal in
        same_some (sym was.asked ∙ (ap application_in calls ∙ asked))
      where
        same_some : {a b : Application} → Some a ≡ Some b → a ≡ b
        same_some e = cc

    known_by : IsKnown base day es first n
    known_by = record {
      front = front;
      trip = recalled.0.trip;
      routes = recalled.0.routes;
      issued = recalled.0.issued;
      on_road = (recalled.1.0, recalled.1.1);
      in_time = recalled.0.not_expired;
      was = was;
      was_trip = trip_is;
      more = entry by c (reply.Posted v ns) ∷ whole.0;
      parts = whole.1;
      was_first = record {
        at = was.at;
        by = was.by;
        c = was.c;
        v = was.v;
        routes = was.routes;
        trip = was.trip;
        stands = was.stands;
        asked = was.asked;
        there = was.there;
        once = λ other h. was.once other (issues_in other h);
      };
      first_trip = trip_is;
      first_more = entry by c (reply.Posted v ns) ∷ stands.0;
      first_parts = stands.1;
    }

  pub known : is_number_among n (recalled_in first) ≡ true → IsKnown base day es first n
  known on = let (front, (v, (by, c, ns, at, stands))) = recalls_at first n on in known_by front by c v ns at stands

module _ {base : BaseLists} {day : Day} {es first : History} {n : ℕ} (k : IsKnown base day es first n) where
  -- what is told of its application
  pub told_whole : {A : Type 0} (told : Application → A) → told_of_issued told es n ≡ Some (told k.trip)
  told_whole told = found_told base es k.front n k.was k.more k.parts told ∙ ap (λ a. Some (told a)) k.was_trip

  pub told_first : {A : Type 0} (told : Application → A) → told_of_issued told first n ≡ Some (told k.trip)
  told_first told = found_told base first k.front n k.was_first k.first_more k.first_parts told ∙ ap (λ a. Some (told a)) k.first_trip

  -- it was issued for it
  pub was_issued : WasIssuedFor es n k.trip k.routes
  was_issued = subst (λ (l : History). WasIssuedFor l n k.trip k.routes) (sym k.parts) (issued_stays k.front k.more n k.trip k.routes k.issued)
