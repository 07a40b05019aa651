-- What the desk adds while it catches up with one command: its applications for what that recalled.
use Rattle.std.proofs.Common.{◌≡◌, ◌≢◌, ◌∙◌, ap, sym, refl, subst, ℕ, ◌≤◌, List, [], ◌∷◌, ◌++◌, length, Bool, true, false, cond, All, Some, is_some, append_assoc, eq-eqb, ◌==◌, ◌||◌, arith}
use Rattle.std.proofs.lemmas.List.{append-nil, append_cancel_left}
use Rattle.std.proofs.lemmas.List.Elements.{All-head, All-tail}
use Rattle.trip_analysis.specs.Bases.{BaseLists}
use Rattle.trip_analysis.specs.declared.application.Application.{Application}
use Rattle.trip_analysis.specs.Findings.{is_number_among}
use Rattle.office_words.specs.declared.entry.Entry.{Entry}
use Rattle.office_words.specs.declared.entry.Reply.{Reply}
use Rattle.office_words.specs.declared.entry.Reply.TheVariants as reply
use Rattle.office_core.specs.Became.{RecallsAt, WasIssuedFor}
use Rattle.office_core.specs.Happened.{Day, History, Numbers, Routes, Stands, application_in}
use Rattle.office_core.specs.Offices.{entry}
use Rattle.office_core.specs.Promises.{KeepsPromises}
use Rattle.analyst_pool.specs.Laws.{FoundMemory}
use Rattle.reroute_desk.specs.declared.handled.Handled.{Handled}
use Rattle.reroute_desk.specs.declared.handled.HandledAs.{HandledAs}
use Rattle.reroute_desk.specs.declared.handled.HandledAs.TheVariants.{Ended, Refused, Replaced}
use Rattle.reroute_desk.specs.Desks.{AskAgain, IsTimely, Placed, answered_by, is_answered, is_ended, is_lack, kept_reply, olds_of, placed_behind, renewals}
use Rattle.reroute_desk.proofs.Placing.{answered_own}
use Rattle.reroute_desk.proofs.Recalling.{or_right}
use Rattle.day_trial.specs.Rerouted.{AreRenewed}

-- a caller's entries for which memory sufficed, where more of them come behind
pub answered_all : (caller : ℕ) (es own : History) → All (λ e. e.caller ≡ caller) own → FoundMemory own → answered_by caller (es ++ own) ≡ answered_by caller es ++ placed_behind es own
answered_all caller es [] by memory = ap (answered_by caller) (append-nil es) ∙ sym (append-nil (answered_by caller es))
answered_all caller es (e ∷ own) by memory =
    let head : is_answered caller e ≡ true = answers (All-head (λ e. e.caller ≡ caller) e own by) (All-head (λ e. e.reply ≢ reply.NoMemory) e own memory) in
    ap (answered_by caller) (sym (append_assoc es (e ∷ []) own))
    ∙ (answered_all caller (es ++ e ∷ []) own (All-tail (λ e. e.caller ≡ caller) e own by) (All-tail (λ e. e.reply ≢ reply.NoMemory) e own memory)
    ∙ (ap (λ l. l ++ placed_behind (es ++ e ∷ []) own) (answered_own caller es e head)
    ∙ append_assoc (answered_by caller es) (record { front = es; entry = e } ∷ []) (placed_behind (es ++ e ∷ []) own)))
  where
    no_lack : (r : Reply) → r ≢ reply.NoMemory → is_lack r ≡ false
    no_lack reply.NoMemory whole = absurd (whole refl)
    no_lack _ whole = refl

    answers : e.caller ≡ caller → e.reply ≢ reply.NoMemory → is_answered caller e ≡ true
    answers is whole = rw (eq-eqb e.caller caller is, no_lack e.reply whole) refl

module _ (opening : Day) (caller : ℕ) where
  -- what was asked behind what was asked before
  pub ask_behind : (hs ks : List Handled) (ps qs : List Placed) → AskAgain opening caller hs ps → AskAgain opening caller (hs ++ ks) (ps ++ qs) → AskAgain opening caller ks qs
  ask_behind [] ks [] qs before all = all
  ask_behind [] ks (p ∷ ps) qs before all = absurd before
  ask_behind (h ∷ hs) ks [] qs before all = absurd before
  ask_behind (h ∷ hs) ks (p ∷ ps) qs before all = ask_behind hs ks ps qs before.1 all.1

  -- one entry for each
  pub asked_many : (front own : History) (items : List Handled) → AskAgain opening caller items (placed_behind front own) → length own ≡ length items
  asked_many front [] [] all = refl
  asked_many front [] (h ∷ items) all = absurd all
  asked_many front (e ∷ own) [] all = absurd all
  asked_many front (e ∷ own) (h ∷ items) all = omega (arith, asked_many (front ++ e ∷ []) own items all.1)

  -- they apply again for the permits of the items
  pub renewed_by : (front own : History) (items : List Handled) → AskAgain opening caller items (placed_behind front own) → AreRenewed opening caller front (olds_of items) own
  renewed_by front [] [] all = refl
  renewed_by front [] (h ∷ items) all = absurd all
  renewed_by front (e ∷ own) [] all = absurd all
  renewed_by front (e ∷ own) (h ∷ items) (one, rest) =
      (record { trip = one.trip; is_again = one.is_again; by = one.by; asked = one.asked }, renewed_by (front ++ e ∷ []) own items rest)

  -- there are as many as permits
  pub renewed_many : (front : History) (ns : Numbers) (es : History) → AreRenewed opening caller front ns es → length es ≡ length ns
  renewed_many front [] es all = ap length all
  renewed_many front (n ∷ ns) [] all = absurd all
  renewed_many front (n ∷ ns) (e ∷ es) (one, rest) = omega (arith, renewed_many (front ++ e ∷ []) ns es rest)

-- no more permits are applied for again than were handled
pub renewals_few : (items : List Handled) → length (renewals items) ≤ length items
renewals_few [] = omega arith
renewals_few (h ∷ items) = by (renewals_few items) (is_some (kept_reply h.what)) refl
  where
    by : length (renewals items) ≤ length items → (b : Bool) → is_some (kept_reply h.what) ≡ b → length (renewals (h ∷ items)) ≤ length (h ∷ items)
    by few true is = omega (arith, few, ap (λ (b : Bool). length (cond b (h ∷ renewals items) (renewals items))) is)
    by few false is = omega (arith, few, ap (λ (b : Bool). length (cond b (h ∷ renewals items) (renewals items))) is)

-- a permit that has not ended was applied for again
kept_some : (what : HandledAs) → is_ended what ≡ false → is_some (kept_reply what) ≡ true
kept_some Ended e = absurd cc
kept_some (Replaced n v routes) e = refl
kept_some (Refused v l) e = refl

-- where none of these has ended, each was applied for again
pub renewals_whole : (es : History) (today : Day) (ns : Numbers) → ((h : Handled) → is_number_among h.old ns ≡ true → IsTimely es today h → is_ended h.what ≡ false) → (items : List Handled) → All (IsTimely es today) items → ((n : ℕ) → is_number_among n (olds_of items) ≡ true → is_number_among n ns ≡ true) → renewals items ≡ items
renewals_whole es today ns none [] all on = refl
renewals_whole es today ns none (h ∷ items) all on =
    ap (λ (b : Bool). cond b (h ∷ renewals items) (renewals items)) (kept_some h.what (none h (on h.old (ap (λ b. b || is_number_among h.old (olds_of items)) (eq-eqb h.old h.old refl))) (All-head (IsTimely es today) h items all)))
    ∙ ap (λ (l : List Handled). h ∷ l) (renewals_whole es today ns none items (All-tail (IsTimely es today) h items all) (λ n behind. on n (or_right (h.old == n) (is_number_among n (olds_of items)) behind)))

-- a permit that an entry recalls was issued for one trip
pub one_trip : (base : BaseLists) (day : Day) (es front : History) (n : ℕ) → KeepsPromises base day es → RecallsAt es n front → (a b : Application) (xs ys : Routes) → WasIssuedFor es n a xs → WasIssuedFor es n b ys → a ≡ b
one_trip base day es front n keeps recalls a b xs ys (at, by, c, v, asked, stands) (other, by', c', v', asked', stands') =
    let once = keeps.recalled_once front n recalls in
    let same : other ≡ at = once.issued_once other (by', c', v', ys, stands') ∙ sym (once.issued_once at (by, c, v, xs, stands)) in
    let there = subst (λ (l : History). Stands es l (entry by' c' (reply.Issued n v' ys))) same stands' in
    let behind = append_cancel_left at (entry by c (reply.Issued n v xs) ∷ stands.0) (entry by' c' (reply.Issued n v' ys) ∷ there.0) (sym stands.1 ∙ there.1) in
    let equal : entry by c (reply.Issued n v xs) ≡ entry by' c' (reply.Issued n v' ys) = cc in
    let calls : c ≡ c' = ap (λ (e : Entry). e.call) equal in
    one_of (sym asked ∙ (ap application_in calls ∙ asked'))
  where
    one_of : {p q : Application} → Some p ≡ Some q → p ≡ q
    one_of e = cc
