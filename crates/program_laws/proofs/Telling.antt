-- Each recall has its answer, and a line tells it.
use Rattle.std.proofs.Common.{◌≡◌, ◌≢◌, ◌∙◌, ◌<◌, ap, sym, refl, subst, ℕ, List, [], ◌∷◌, ◌++◌, Bool, true, false, cond, All, Some, length, map, append_assoc, eq-eqb, ◌==◌, ◌||◌, arith}
use Rattle.std.specs.List.{concat}
use Rattle.std.proofs.lemmas.Bool.Decides.{nat_tests}
use Rattle.std.proofs.lemmas.List.{append-nil, map-append}
use Rattle.std.proofs.lemmas.List.Elements.{All-head, All-tail, filter-append}
use Rattle.road_graph.specs.Roads.{IsRoads}
use Rattle.trip_analysis.specs.Bases.{AreTrains, BaseLists}
use Rattle.trip_analysis.specs.Findings.{is_number_among}
use Rattle.trip_analysis.specs.declared.application.Application.{Application}
use Rattle.day_text.specs.declared.orders.Order.{Order}
use Rattle.day_text.proofs.EveryDay.{day_bounded, day_keeps}
use Rattle.office_words.specs.declared.entry.Call.TheVariants as call
use Rattle.office_words.specs.declared.entry.Entry.{Entry}
use Rattle.office_words.specs.declared.entry.Reply.{Reply}
use Rattle.office_words.specs.declared.entry.Reply.TheVariants as reply
use Rattle.office_core.specs.Happened.{Day, History, Numbers, day_after}
use Rattle.office_core.specs.Machine.{IsLegal, IsLegalFrom, after_all, entries_by, machine_of, opened}
use Rattle.office_core.specs.Offices.{entry}
use Rattle.office_core.specs.Promises.{KeepsPromises}
use Rattle.office_core.specs.Replies.{is_full}
use Rattle.office_core.proofs.Cases.{never_full}
use Rattle.office_core.proofs.Histories.{last_step}
use Rattle.office_core.proofs.Prefixes.{legal_front, legal_later}
use Rattle.reroute_desk.specs.Issues.{recalled_in, recalled_numbers}
use Rattle.analyst_pool.specs.Laws.{FirstAttemptsDecide, FoundMemory}
use Rattle.analyst_pool.specs.Unfolds.{IsFinished}
use Rattle.reroute_desk.specs.Desks.{AnswersRenewal}
use Rattle.reroute_desk.specs.Replacements.{renewed}
use Rattle.reroute_desk.proofs.Keeping.{recalled_more}
use Rattle.reroute_desk.proofs.Recalling.{IsKnown, known, or_right, told_first, was_issued}
use Rattle.reroute_desk.proofs.Renewing.{answers_renewal, wanted}
use Rattle.day_trial.specs.Rerouted.{AreRenewed, CarriesOutAgain, IsRenewed}
use Rattle.day_trial.specs.Rerouting.{IsAtOnce, attempted, called}
use Rattle.day_trial.proofs.AtOnce.{at_once}
use Rattle.report_text.specs.RecallLines.{line_for, permit_lines, replies_to}
use Rattle.program_laws.specs.EachLine.{AreLinesOf, EachRecallHasItsLine, IsAnswerFor, IsTold}

-- a number stays in a list that grows
either : (b c d : Bool) → (b || c) ≡ true → (c ≡ true → d ≡ true) → (b || d) ≡ true
either true c d on more = refl
either false c d on more = more on

in_front : (n : ℕ) (xs ys : Numbers) → is_number_among n xs ≡ true → is_number_among n (xs ++ ys) ≡ true
in_front n [] ys on = absurd cc
in_front n (x ∷ xs) ys on = either (x == n) (is_number_among n xs) (is_number_among n (xs ++ ys)) on (λ further. in_front n xs ys further)

in_back : (n : ℕ) (xs ys : Numbers) → is_number_among n ys ≡ true → is_number_among n (xs ++ ys) ≡ true
in_back n [] ys on = on
in_back n (x ∷ xs) ys on = or_right (x == n) (is_number_among n (xs ++ ys)) (in_back n xs ys on)

-- what is so of all entries is so of the one at a place
at_place : (P : Entry → Type 0) (front : History) (e : Entry) (back : History) → All P (front ++ e ∷ back) → P e
at_place P [] e back all = All-head P e back all
at_place P (x ∷ front) e back all = at_place P front e back (All-tail P x (front ++ e ∷ back) all)

-- such an answer is told where neither the history was full nor memory wanting
told_of : (r : Reply) → AnswersRenewal r → is_full r ≡ false → r ≢ reply.NoMemory → IsTold r
told_of (reply.Issued n v routes) answers room memory = tt
told_of (reply.Refused v failing) answers room memory = tt
told_of (reply.Full n) answers room memory = absurd cc
told_of reply.NoMemory answers room memory = absurd (memory refl)
told_of _ answers room memory = absurd answers

-- such an answer recalls nothing
quiet : (r : Reply) → IsTold r → recalled_numbers r ≡ []
quiet (reply.Issued n v routes) told = refl
quiet (reply.Refused v failing) told = refl
quiet _ told = absurd told

same_trip : {a b : Application} → Some a ≡ Some b → a ≡ b
same_trip e = cc

-- the entries of others are none of a caller's
none_of : (caller actor : ℕ) (es : History) → actor < caller → IsAtOnce actor es → replies_to caller es ≡ []
none_of caller actor es less (attempted a r (version, w, is)) = ap (replies_to caller) is ∙ rw (differ actor caller less) refl
  where
    differ : (a b : ℕ) → a < b → (a == b) ≡ false
    differ a b less = grind (arith, nat_tests)
none_of caller actor es less (called c r is) = ap (replies_to caller) is ∙ rw (differ actor caller less) refl
  where
    differ : (a b : ℕ) → a < b → (a == b) ≡ false
    differ a b less = grind (arith, nat_tests)

replies_behind : (caller : ℕ) (es fs : History) → replies_to caller (es ++ fs) ≡ replies_to caller es ++ replies_to caller fs
replies_behind caller es fs =
    ap (λ (l : History). map (λ (e : Entry). e.reply) l) (filter-append (λ (e : Entry). e.caller == caller) es fs)
    ∙ map-append (λ (e : Entry). e.reply) (entries_by caller es) (entries_by caller fs)

-- these are the answers for some permits, in order
abbrev AreAnswersFor : Day → ℕ → History → Numbers → List Reply → Type 0
AreAnswersFor day caller all [] [] = Unit {0}
AreAnswersFor day caller all (n ∷ ns) (r ∷ rs) = IsAnswerFor day caller all n r × AreAnswersFor day caller all ns rs
AreAnswersFor day caller all _ _ = ⊥

-- the lines of these answers
abbrev lines_for : Numbers → List Reply → List (List ℕ)
lines_for (n ∷ ns) (r ∷ rs) = line_for n r ∷ lines_for ns rs
lines_for _ _ = []

lines_whole : (ns : Numbers) (rs : List Reply) → permit_lines ns rs ≡ concat (lines_for ns rs)
lines_whole [] rs = refl
lines_whole (n ∷ ns) [] = refl
lines_whole (n ∷ ns) (r ∷ rs) = ap (λ l. line_for n r ++ l) (lines_whole ns rs)

answers_have_lines : (day : Day) (caller : ℕ) (all : History) (ns : Numbers) (rs : List Reply) → AreAnswersFor day caller all ns rs → AreLinesOf day caller all ns (lines_for ns rs)
answers_have_lines day caller all [] [] are = tt
answers_have_lines day caller all (n ∷ ns) (r ∷ rs) (one, rest) = (record { reply = r; answer = one; line_is = refl }, answers_have_lines day caller all ns rs rest)
answers_have_lines day caller all [] (r ∷ rs) are = absurd are
answers_have_lines day caller all (n ∷ ns) [] are = absurd are

module _ (base : BaseLists) (day : Day) (caller : ℕ) (all : History) (roads : IsRoads base.roads) (trains : AreTrains base) (legal : IsLegal base day all) (keeps : KeepsPromises base day all) (memory : FoundMemory all) where
  abbrev AreTold : Numbers → List Reply → Type 0
  AreTold ns rs = AreAnswersFor day caller all ns rs

  -- what is told of some, and of others behind them
  told_behind : (ns ms : Numbers) (rs qs : List Reply) → AreTold ns rs → AreTold ms qs → AreTold (ns ++ ms) (rs ++ qs)
  told_behind [] ms [] qs first rest = rest
  told_behind [] ms (r ∷ rs) qs first rest = absurd first
  told_behind (n ∷ ns) ms [] qs first rest = absurd first
  told_behind (n ∷ ns) ms (r ∷ rs) qs first rest = (first.0, told_behind ns ms rs qs first.1 rest)

  -- an application once more for a permit that was recalled before is told
  renewal_told : (front : History) (e : Entry) (back : History) (n : ℕ) → all ≡ front ++ e ∷ back → is_number_among n (recalled_in front) ≡ true → IsRenewed day caller front n e → IsTold e.reply
  renewal_told front e back n is on again =
      told_of e.reply (answers_renewal base day front caller k.trip (wanted base day all n k.trip k.routes k.on_road.0 keeps (was_issued k) k.on_road.1) roads trains e.reply step)
      (never_full base (machine_of base day front) caller (call.Held a) e.reply (last_step base day front (entry caller (call.Held a) e.reply) step).answer)
      (at_place (λ (f : Entry). f.reply ≢ reply.NoMemory) front e back (subst FoundMemory is memory))
    where
      k : IsKnown base day all front n
      k = known base day all front (e ∷ back) n is keeps on

      a : Application
      a = renewed (day_after day front) k.trip

      same : again.trip ≡ a
      same = same_trip (sym again.is_again ∙ told_first k (renewed (day_after day front)))

      asks : e ≡ entry caller (call.Held a) e.reply
      asks = λ i. record { caller = again.by i; call = (again.asked ∙ ap (λ (t : Application). call.Held t) same) i; reply = e.reply }

      step : IsLegal base day (front ++ entry caller (call.Held a) e.reply ∷ [])
      step =
          let whole : IsLegal base day ((front ++ e ∷ []) ++ back) = subst (IsLegal base day) (is ∙ sym (append_assoc front (e ∷ []) back)) legal in
          subst (λ (f : Entry). IsLegal base day (front ++ f ∷ [])) asks (legal_front base (opened day) (front ++ e ∷ []) back whole)

  -- and so is each of those behind a command, which are the caller's and recall nothing
  record AreAllTold (ns : Numbers) (es : History) : Type 0 where
    told : AreTold ns (map (λ (e : Entry). e.reply) es)
    recalls_none : recalled_in es ≡ []
    own : replies_to caller es ≡ map (λ (e : Entry). e.reply) es

  renewals_told : (front : History) (ns : Numbers) (es back : History) → all ≡ front ++ (es ++ back) → ((n : ℕ) → is_number_among n ns ≡ true → is_number_among n (recalled_in front) ≡ true) → AreRenewed day caller front ns es → AreAllTold ns es
  renewals_told front [] es back is on none = subst (AreAllTold []) (sym none) (record { told = tt; recalls_none = refl; own = refl })
  renewals_told front (n ∷ ns) [] back is on none = absurd none
  renewals_told front (n ∷ ns) (e ∷ es) back is on (one, rest) =
      let here : IsTold e.reply = renewal_told front e (es ++ back) n is (on n (ap (λ (b : Bool). b || is_number_among n ns) (eq-eqb n n refl))) one in
      let behind : AreAllTold ns es = renewals_told (front ++ e ∷ []) ns es back (is ∙ sym (append_assoc front (e ∷ []) (es ++ back)))
      (λ m in_rest. subst (λ (l : Numbers). is_number_among m l ≡ true) (sym (recalled_more front (e ∷ []))) (in_front m (recalled_in front) (recalled_in (e ∷ [])) (on m (or_right (n == m) (is_number_among m ns) in_rest)))) rest in
      record {
        told = (record { front = front; again = e; stands = (es ++ back, is); renews = one; answer = refl; told = here }, behind.told);
        recalls_none = ap (λ (l : Numbers). l ++ recalled_in es) (quiet e.reply here) ∙ behind.recalls_none;
        own = ap (λ (b : Bool). map (λ (f : Entry). f.reply) (cond b (e ∷ entries_by caller es) (entries_by caller es))) (eq-eqb e.caller caller one.by) ∙ ap (λ (l : List Reply). e.reply ∷ l) behind.own;
      }

  -- what one command and the applications behind it tell, where what comes behind them is told
  one_told : FirstAttemptsDecide → (front : History) (o : Order) (own again back es : List Entry) → all ≡ front ++ es → es ≡ (own ++ again) ++ back → o.actor < caller → IsFinished o.actor o.command own
      → AreRenewed day caller (front ++ own) (recalled_in own) again → AreTold (recalled_in back) (replies_to caller back) → AreTold (recalled_in es) (replies_to caller es)
  one_told first front o own again back es is whole less finished are behind =
      let m = after_all base (opened day) front in
      let parts : all ≡ front ++ ((own ++ again) ++ back) = is ∙ ap (λ (l : History). front ++ l) whole in
      let own_legal : IsLegalFrom base m own = legal_front base m own again (legal_front base m (own ++ again) back (legal_later base (opened day) front ((own ++ again) ++ back) (subst (IsLegal base day) parts legal))) in
      let once : IsAtOnce o.actor own = at_once first base m o.actor o.command own roads finished own_legal in
      let these : AreAllTold (recalled_in own) again = renewals_told (front ++ own) (recalled_in own) again back
      (parts ∙ (ap (λ (l : History). front ++ l) (append_assoc own again back) ∙ sym (append_assoc front own (again ++ back))))
      (λ n on. subst (λ (l : Numbers). is_number_among n l ≡ true) (sym (recalled_more front own)) (in_back n (recalled_in front) (recalled_in own) on)) are in
      let numbers : recalled_in es ≡ recalled_in own ++ recalled_in back =
      ap recalled_in whole
      ∙ (recalled_more (own ++ again) back
      ∙ ap (λ (l : Numbers). l ++ recalled_in back) (recalled_more own again ∙ (ap (λ (l : Numbers). recalled_in own ++ l) these.recalls_none ∙ append-nil (recalled_in own)))) in
      let replies : replies_to caller es ≡ map (λ (e : Entry). e.reply) again ++ replies_to caller back =
      ap (replies_to caller) whole
      ∙ (replies_behind caller (own ++ again) back
      ∙ ap (λ (l : List Reply). l ++ replies_to caller back)
      (replies_behind caller own again ∙ (ap (λ (l : List Reply). l ++ replies_to caller again) (none_of caller o.actor own less once) ∙ these.own))) in
      subst (λ (ns : Numbers). AreTold ns (replies_to caller es)) (sym numbers) (subst (AreTold (recalled_in own ++ recalled_in back)) (sym replies)
      (told_behind (recalled_in own) (recalled_in back) (map (λ (e : Entry). e.reply) again) (replies_to caller back) these.told behind))

  pub commands_told : FirstAttemptsDecide → (front : History) (orders : List Order) (es : History) → all ≡ front ++ es → All (λ o. o.actor < caller) orders → CarriesOutAgain day caller front orders es → AreTold (recalled_in es) (replies_to caller es)
  commands_told first front [] es is callers none = subst (λ (l : History). AreTold (recalled_in l) (replies_to caller l)) (sym none) tt
  commands_told first front (o ∷ os) es is callers h =
      one_told first front o h.own h.renewals h.back es is h.whole (All-head (λ (p : Order). p.actor < caller) o os callers) h.finished h.renewed
      (commands_told first (front ++ (h.own ++ h.renewals)) os h.back
      (is ∙ (ap (λ (l : History). front ++ l) h.whole ∙ sym (append_assoc front (h.own ++ h.renewals) h.back)))
      (All-tail (λ (p : Order). p.actor < caller) o os callers) h.behind)

pub each_told : FirstAttemptsDecide → EachRecallHasItsLine
each_told first bytes text run =
    let file = run.file in
    let h = run.rerouted in
    let bounded = day_bounded bytes file run.read in
    let callers = (day_keeps bytes file run.read).callers in
    let told = commands_told file.base file.day (length file.actors) run.history bounded.roads bounded.base.trains h.legal h.promises h.memory first [] file.commands run.history refl callers h.commands in
    let ns = recalled_in run.history in
    let rs = replies_to (length file.actors) run.history in
    record {
      lines = lines_for ns rs;
      whole = run.lines ∙ lines_whole ns rs;
      each = answers_have_lines file.day (length file.actors) run.history ns rs told;
    }
