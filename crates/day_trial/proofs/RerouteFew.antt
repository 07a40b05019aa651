-- How many entries the commands of a day make, with the applications for what they recall.
use Rattle.std.proofs.Common.{◌≡◌, ◌∙◌, ap, sym, subst, ℕ, suc, ◌+◌, ◌<◌, ◌≤◌, List, [], ◌∷◌, ◌++◌, length, append_assoc, arith}
use Rattle.std.proofs.Math.Nat.{mul-le-mul}
use Rattle.std.proofs.lemmas.List.{append-nil}
use Rattle.road_graph.specs.Roads.{IsRoads}
use Rattle.trip_analysis.specs.Bases.{BaseLists}
use Rattle.day_text.specs.declared.orders.Order.{Order}
use Rattle.office_core.specs.Happened.{Day, History, issued_in}
use Rattle.office_core.specs.Machine.{IsLegal, IsLegalFrom, machine_of, opened}
use Rattle.office_core.specs.Offices.{entry}
use Rattle.office_core.specs.Promises.{KeepsPromises}
use Rattle.office_core.proofs.Counts.{issued-append, issued-cons, issued_few}
use Rattle.office_core.proofs.Prefixes.{legal_front, legal_later}
use Rattle.reroute_desk.specs.Issues.{recalled_in}
use Rattle.reroute_desk.proofs.Fewer.{recalled_few}
use Rattle.reroute_desk.proofs.Keeping.{recalled_more}
use Rattle.analyst_pool.specs.Laws.{FirstAttemptsDecide}
use Rattle.analyst_pool.specs.Unfolds.{IsFinished, looked_at, submitted}
use Rattle.day_trial.specs.Rerouted.{AreRenewed, CarriesOutAgain, FewCommandsAreNotTooLong, IsCutShort, ReroutedHistoriesAreShort, StopsWithin, most_made, owing, stopped}
use Rattle.day_trial.specs.Rerouting.{IsAtOnce, attempted, called}
use Rattle.day_trial.proofs.AtOnce.{at_once, early_short, stopped_early}
use Rattle.day_trial.proofs.Renewing.{renewed_many}
use Rattle.day_trial.proofs.RerouteLengths.{few_issued, few_owing, few_stopped, one_more_few, of_three_behind, of_two}

-- few entries, of which one at most issues a permit
record AreSmall (es : History) : Type 0 where
  entries : length es ≤ 2
  issued : issued_in es ≤ 1

small : (caller : ℕ) (es : History) → IsAtOnce caller es → AreSmall es
small caller es (attempted a r (version, w, is)) =
    let look = looked_at caller version in
    let submit = submitted caller a version w r in
    let both : issued_in (look ∷ submit ∷ []) ≡ 0 + issued_in (submit ∷ []) = issued-cons look (submit ∷ []) in
    record { entries = omega (arith, ap length is); issued = omega (arith, ap issued_in is, both, issued_few (submit ∷ [])) }
small caller es (called c r is) = record { entries = omega (arith, ap length is); issued = omega (arith, ap issued_in is, issued_few (entry caller c r ∷ [])) }

-- what so many commands leave: hardly more permits than were recalled, and few entries
record AreFew (n : ℕ) (es : History) : Type 0 where
  issued : issued_in es ≤ n + length (recalled_in es)
  entries : length es ≤ most_made n

-- what one command more leaves before its renewals
record AddsFew (front own : History) : Type 0 where
  small : AreSmall own
  recalled : length (recalled_in front) + length (recalled_in own) ≤ issued_in front + issued_in own

module _ (first : FirstAttemptsDecide) (base : BaseLists) (day : Day) (caller : ℕ) (roads : IsRoads base.roads) (whole : History) (legal : IsLegal base day whole) (keeps : KeepsPromises base day whole) where
  own_few : (front own more : History) (order : Order) → whole ≡ front ++ (own ++ more) → IsFinished order.actor order.command own → AddsFew front own
  own_few front own more order is done =
      let m = machine_of base day front in
      let there : IsLegalFrom base m own = legal_front base m own more (legal_later base (opened day) front (own ++ more) (subst (IsLegal base day) is legal)) in
      let counted = recalled_few base day whole (front ++ own) more keeps (is ∙ sym (append_assoc front own more)) in
      record {
        small = small order.actor own (at_once first base m order.actor order.command own roads done there);
        recalled = omega (arith, counted, ap length (recalled_more front own), of_two (recalled_in front) (recalled_in own), issued-append front own);
      }

  -- one command more, with its renewals
  one_more : (n : ℕ) (front own again more : History) (order : Order) → whole ≡ front ++ ((own ++ again) ++ more) → AreFew n front → IsFinished order.actor order.command own → AreRenewed day caller (front ++ own) (recalled_in own) again → AreFew (suc n) (front ++ (own ++ again))
  one_more n front own again more order is few done renewed =
      let added = own_few front own (again ++ more) order (is ∙ ap (λ (l : History). front ++ l) (append_assoc own again more)) done in
      let many = renewed_many day caller (front ++ own) (recalled_in own) again renewed in
      let recalled : length (recalled_in (front ++ (own ++ again))) ≡ length (recalled_in front) + (length (recalled_in own) + length (recalled_in again)) =
      ap length (recalled_more front (own ++ again) ∙ ap (λ l. recalled_in front ++ l) (recalled_more own again)) ∙ of_three_behind (recalled_in front) (recalled_in own) (recalled_in again) in
      let issued : issued_in (front ++ (own ++ again)) ≡ issued_in front + (issued_in own + issued_in again) = omega (arith, issued-append front (own ++ again), issued-append own again) in
      record {
        issued = few_issued n (issued_in front) (length (recalled_in front)) (issued_in own) (length (recalled_in own)) (issued_in again) (length (recalled_in again)) (length again)
            (issued_in (front ++ (own ++ again))) (length (recalled_in (front ++ (own ++ again)))) few.issued added.small.issued (issued_few again) many issued recalled;
        entries = one_more_few n (length front) (issued_in front) (length (recalled_in front)) (length own) (issued_in own) (length (recalled_in own)) (length again) (length (front ++ (own ++ again)))
            few.entries few.issued added.small.entries added.small.issued added.recalled many (of_three_behind front own again);
      }

  carries_few : (orders : List Order) (n : ℕ) (front es more : History) → whole ≡ front ++ (es ++ more) → AreFew n front → CarriesOutAgain day caller front orders es → AreFew (n + length orders) (front ++ es)
  carries_few [] n front es more is few h =
      subst (λ (k : ℕ). AreFew k (front ++ es)) (omega arith) (subst (AreFew n) (sym (ap (λ (l : History). front ++ l) h ∙ append-nil front)) few)
  carries_few (o ∷ os) n front es more is few h =
      let parts : whole ≡ front ++ ((h.own ++ h.renewals) ++ (h.back ++ more)) = is ∙ ap (λ (l : History). front ++ l) (ap (λ (l : History). l ++ more) h.whole ∙ append_assoc (h.own ++ h.renewals) h.back more) in
      let one = one_more n front h.own h.renewals (h.back ++ more) o parts few h.finished h.renewed in
      let rest = carries_few os (suc n) (front ++ (h.own ++ h.renewals)) h.back more (parts ∙ sym (append_assoc front (h.own ++ h.renewals) (h.back ++ more))) one h.behind in
      subst (λ (k : ℕ). AreFew k (front ++ es)) (omega arith)
      (subst (AreFew (suc n + length os)) (append_assoc front (h.own ++ h.renewals) h.back ∙ ap (λ (l : History). front ++ l) (sym h.whole)) rest)

  -- from no entry on
  carries_all : (orders : List Order) (es more : History) → whole ≡ es ++ more → CarriesOutAgain day caller [] orders es → AreFew (length orders) es
  carries_all orders es more is h = subst (λ (k : ℕ). AreFew k es) (omega arith) (carries_few orders 0 [] es more is (record { issued = omega arith; entries = omega arith }) h)

  -- all commands make few entries
  pub carried_short : (orders : List Order) → CarriesOutAgain day caller [] orders whole → length whole ≤ most_made (length orders)
  carried_short orders h = (carries_all orders whole [] (sym (append-nil whole)) h).entries

  cut_short : (most n : ℕ) (ahead last : History) (order : Order) → whole ≡ ahead ++ last → AreFew n ahead → IsCutShort day caller most ahead order last → length whole < most_made (suc n)
  cut_short most n ahead last order is few (stopped early) =
      let m = machine_of base day ahead in
      let there = legal_later base (opened day) ahead last (subst (IsLegal base day) is legal) in
      few_stopped n (length ahead) (length last) (length whole) few.entries (early_short order.actor last (stopped_early order.actor most base m order.command last roads early there)) (ap length is ∙ of_two ahead last)
  cut_short most n ahead last order is few (owing w) =
      let parts : whole ≡ ahead ++ (w.own ++ w.renewals) = is ∙ ap (λ (l : History). ahead ++ l) w.whole in
      let added = own_few ahead w.own w.renewals order parts w.finished in
      let many = renewed_many day caller (ahead ++ w.own) w.again w.renewals w.renewed in
      few_owing n (length ahead) (issued_in ahead) (length (recalled_in ahead)) (length w.own) (issued_in w.own) (length (recalled_in w.own)) (length w.again) (length w.left) (length w.renewals) (length whole)
      few.entries few.issued added.small.entries added.small.issued added.recalled (ap length w.recalled ∙ of_two w.again (w.next ∷ w.left)) many (ap length parts ∙ of_three_behind ahead w.own w.renewals)

  -- those that stop within one make fewer
  pub stopped_short : (most : ℕ) (orders : List Order) → StopsWithin day caller most orders whole → length whole < most_made (length orders)
  stopped_short most orders h =
      let few = carries_all h.done h.ahead h.last h.whole h.carried in
      let less = cut_short most (length h.done) h.ahead h.last h.next h.whole few h.cut in
      let many : suc (length h.done) ≤ length orders = omega (arith, ap length h.orders_are, of_two h.done (h.next ∷ h.left)) in
      omega (arith, less, many, mul-le-mul many many)

-- no history that carries out a day's commands so has more than they make at most
pub all_short : FirstAttemptsDecide → ReroutedHistoriesAreShort
all_short first file history roads h = carried_short first file.base file.day (length file.actors) roads history h.legal h.promises file.commands h.commands

-- so few of them make that a history never stops within one
pub few_fit : FirstAttemptsDecide → FewCommandsAreNotTooLong
few_fit first file roads few long =
    let s = long.stopped in
    let short = stopped_short first file.base file.day (length file.actors) roads long.history s.legal s.promises 1000000 file.commands s.commands in
    absurd (omega (arith, s.full, short, mul-le-mul few few, few))
