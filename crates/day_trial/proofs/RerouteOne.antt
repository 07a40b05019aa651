-- The histories of a day file on which recalled permits are replaced are one.
use Rattle.std.proofs.Common.{◌≡◌, ◌≢◌, ◌∙◌, ap, sym, refl, subst, ℕ, ◌<◌, List, [], ◌∷◌, ◌++◌, length, Some, Option, append_assoc}
use Rattle.std.proofs.lemmas.List.{append-nil}
use Rattle.std.proofs.lemmas.List.Elements.{All-append, All-cons, All-head, All-nil, All-tail}
use Rattle.road_graph.specs.Roads.{IsRoads}
use Rattle.trip_analysis.specs.Bases.{BaseLists}
use Rattle.trip_analysis.specs.declared.application.Application.{Application}
use Rattle.day_text.specs.declared.orders.Order.{Order}
use Rattle.office_words.specs.declared.entry.Call.{Call}
use Rattle.office_words.specs.declared.entry.Call.TheVariants as call
use Rattle.office_words.specs.declared.entry.Entry.{Entry}
use Rattle.office_words.specs.declared.entry.Reply.TheVariants as reply
use Rattle.office_core.specs.Happened.{Day, History, Numbers}
use Rattle.office_core.specs.Laws.{AnswersAreOne}
use Rattle.office_core.specs.Machine.{IsAnswer, IsLegal, IsLegalFrom, Machine, after_all, after_entry, opened}
use Rattle.office_core.specs.Offices.{Opened}
use Rattle.office_core.proofs.Prefixes.{legal_front, legal_later}
use Rattle.reroute_desk.specs.Issues.{recalled_in}
use Rattle.analyst_pool.specs.Laws.{FinishedAreOne, FoundMemory}
use Rattle.analyst_pool.specs.Unfolds.{IsFinished}
use Rattle.day_trial.specs.Serving.{grown_by}
use Rattle.day_trial.specs.Rerouted.{AreRenewed, CarriesOutAgain, CarriesOutFirstAgain, IsCutShort, IsRenewed, ReroutedHistoriesAreOne}
use Rattle.day_trial.specs.Rerouting.{AreLong, HasRerouted, HasReroutedOne, HasStopped, IsLongWith, WasCutShort}
use Rattle.day_trial.proofs.RerouteLengths.{longer_still, of_two}

abbrev Answered : Entry → Type 0
Answered e = e.reply ≢ reply.NoMemory

-- memory sufficed for the first of some entries, and for those behind
memory_front : (es more : List Entry) → FoundMemory (es ++ more) → FoundMemory es
memory_front [] more all = All-nil Answered
memory_front (e ∷ es) more all = All-cons Answered e es (All-head Answered e (es ++ more) all) (memory_front es more (All-tail Answered e (es ++ more) all))

memory_back : (es more : List Entry) → FoundMemory (es ++ more) → FoundMemory more
memory_back [] more all = all
memory_back (e ∷ es) more all = memory_back es more (All-tail Answered e (es ++ more) all)

module _ (answers : AnswersAreOne) (base : BaseLists) (day : Day) (caller : ℕ) where
  one_trip : {a b : Application} {o : Option Application} → o ≡ Some a → o ≡ Some b → a ≡ b
  one_trip e f = cc

  entry_one : (m : Machine) (front : History) (number : ℕ) (e f : Entry) → IsRenewed day caller front number e → IsRenewed day caller front number f → Answered e → Answered f
      → IsAnswer base m e.caller e.call e.reply → IsAnswer base m f.caller f.call f.reply → e ≡ f
  entry_one m front number e f one two whole_e whole_f answer_e answer_f =
      let callers : f.caller ≡ e.caller = two.by ∙ sym one.by in
      let calls : f.call ≡ e.call = two.asked ∙ (ap (λ (a : Application). call.Held a) (one_trip two.is_again one.is_again) ∙ sym one.asked) in
      let there = subst (λ (c : Call). IsAnswer base m e.caller c f.reply) calls (subst (λ (n : ℕ). IsAnswer base m n f.call f.reply) callers answer_f) in
      let replies : e.reply ≡ f.reply = answers base m e.caller e.call e.reply f.reply answer_e there whole_e whole_f in
      λ i. record { caller = sym callers i; call = sym calls i; reply = replies i }

  -- the entries that apply again for some permits are determined
  renewed_one : (m : Machine) (front : History) (ns : Numbers) (a b : List Entry) → AreRenewed day caller front ns a → AreRenewed day caller front ns b → FoundMemory a → FoundMemory b → IsLegalFrom base m a → IsLegalFrom base m b → a ≡ b
  renewed_one m front [] a b h k whole_a whole_b legal_a legal_b = h ∙ sym k
  renewed_one m front (n ∷ ns) [] b h k whole_a whole_b legal_a legal_b = absurd h
  renewed_one m front (n ∷ ns) (e ∷ a) [] h k whole_a whole_b legal_a legal_b = absurd k
  renewed_one m front (n ∷ ns) (e ∷ a) (f ∷ b) h k whole_a whole_b legal_a legal_b =
      let same : f ≡ e = entry_one m front n f e k.0 h.0 (All-head Answered f b whole_b) (All-head Answered e a whole_a) legal_b.0.answer legal_a.0.answer in
      let others : a ≡ b =
      renewed_one (after_entry base m e) (front ++ e ∷ []) ns a b h.1 (subst (λ (x : Entry). AreRenewed day caller (front ++ x ∷ []) ns b) same k.1)
      (All-tail Answered e a whole_a) (All-tail Answered f b whole_b) legal_a.1 (subst (λ (x : Entry). IsLegalFrom base (after_entry base m x) b) same legal_b.1) in
      ap (λ l. e ∷ l) others ∙ ap (λ (x : Entry). x ∷ b) (sym same)

  -- the entries of some commands, with those that apply again behind each, are determined
  pub runs_one : FinishedAreOne → IsRoads base.roads → (m : Machine) (front : History) (orders : List Order) (a b : List Entry) → CarriesOutAgain day caller front orders a → CarriesOutAgain day caller front orders b → FoundMemory a → FoundMemory b → IsLegalFrom base m a → IsLegalFrom base m b → a ≡ b
  runs_one one roads m front [] a b h k whole_a whole_b legal_a legal_b = h ∙ sym k
  runs_one one roads m front (o ∷ os) a b h k whole_a whole_b legal_a legal_b =
      let la = subst (IsLegalFrom base m) h.whole legal_a in
      let lb = subst (IsLegalFrom base m) k.whole legal_b in
      let first_a = legal_front base m (h.own ++ h.renewals) h.back la in
      let first_b = legal_front base m (k.own ++ k.renewals) k.back lb in
      let wa = subst FoundMemory h.whole whole_a in
      let wb = subst FoundMemory k.whole whole_b in
      let owns : h.own ≡ k.own = one base m o.actor o.command h.own k.own roads h.finished k.finished (legal_front base m h.own h.renewals first_a) (legal_front base m k.own k.renewals first_b) in
      let again : h.renewals ≡ k.renewals =
      renewed_one (after_all base m h.own) (front ++ h.own) (recalled_in h.own) h.renewals k.renewals h.renewed
      (subst (λ (l : List Entry). AreRenewed day caller (front ++ l) (recalled_in l) k.renewals) (sym owns) k.renewed)
      (memory_back h.own h.renewals (memory_front (h.own ++ h.renewals) h.back wa)) (memory_back k.own k.renewals (memory_front (k.own ++ k.renewals) k.back wb))
      (legal_later base m h.own h.renewals first_a)
      (subst (λ (l : List Entry). IsLegalFrom base (after_all base m l) k.renewals) (sym owns) (legal_later base m k.own k.renewals first_b)) in
      let fronts : h.own ++ h.renewals ≡ k.own ++ k.renewals = ap (λ l. l ++ h.renewals) owns ∙ ap (λ l. k.own ++ l) again in
      let backs : h.back ≡ k.back =
      runs_one one roads (after_all base m (h.own ++ h.renewals)) (front ++ (h.own ++ h.renewals)) os h.back k.back h.behind
      (subst (λ (l : List Entry). CarriesOutAgain day caller (front ++ l) os k.back) (sym fronts) k.behind)
      (memory_back (h.own ++ h.renewals) h.back wa) (memory_back (k.own ++ k.renewals) k.back wb)
      (legal_later base m (h.own ++ h.renewals) h.back la)
      (subst (λ (l : List Entry). IsLegalFrom base (after_all base m l) k.back) (sym fronts) (legal_later base m (k.own ++ k.renewals) k.back lb)) in
      h.whole ∙ (ap (λ l. l ++ h.back) fronts ∙ (ap (λ l. (k.own ++ k.renewals) ++ l) backs ∙ sym k.whole))

-- two histories that serve a day are one
pub history_one : FinishedAreOne → AnswersAreOne → ReroutedHistoriesAreOne
history_one one answers file history other roads h k =
    runs_one answers file.base file.day (length file.actors) one roads (opened file.day) [] file.commands other history k.commands h.commands k.memory h.memory k.legal h.legal

module _ (day : Day) (caller : ℕ) where
  -- one command more
  carries_more : (front : History) (orders : List Order) (order : Order) (es own again : List Entry) → CarriesOutAgain day caller front orders es → IsFinished order.actor order.command own → AreRenewed day caller ((front ++ es) ++ own) (recalled_in own) again → CarriesOutAgain day caller front (orders ++ order ∷ []) (es ++ (own ++ again))
  carries_more front [] order es own again h done renewed = record {
    own = own;
    renewals = again;
    back = [];
    finished = done;
    renewed = subst (λ (l : History). AreRenewed day caller (l ++ own) (recalled_in own) again) (ap (λ l. front ++ l) h ∙ append-nil front) renewed;
    behind = refl;
    whole = ap (λ l. l ++ (own ++ again)) h ∙ sym (append-nil (own ++ again));
  }
  carries_more front (o ∷ os) order es own again h done renewed =
      let first : List Entry = h.own ++ h.renewals in
      record {
        own = h.own;
        renewals = h.renewals;
        back = h.back ++ (own ++ again);
        finished = h.finished;
        renewed = h.renewed;
        behind = carries_more (front ++ (h.own ++ h.renewals)) os order h.back own again h.behind done
            (subst (λ (l : History). AreRenewed day caller (l ++ own) (recalled_in own) again) (ap (λ l. front ++ l) h.whole ∙ sym (append_assoc front (h.own ++ h.renewals) h.back)) renewed);
        whole = ap (λ l. l ++ (own ++ again)) h.whole ∙ append_assoc (h.own ++ h.renewals) h.back (own ++ again);
      }

  -- the entries of the commands ahead of one, and those from it on
  record IsSplit (front : History) (orders : List Order) (order : Order) (more : List Order) (es : List Entry) : Type 0 where
    ahead : List Entry
    rest : List Entry
    commands : CarriesOutAgain day caller front orders ahead
    next : CarriesOutFirstAgain day caller (front ++ ahead) order (λ l back. CarriesOutAgain day caller l more back) rest
    whole : es ≡ ahead ++ rest

  split : (front : History) (orders : List Order) (order : Order) (more : List Order) (es : List Entry) → CarriesOutAgain day caller front (orders ++ order ∷ more) es → IsSplit front orders order more es
  split front [] order more es h = record {
    ahead = [];
    rest = es;
    commands = refl;
    next = subst (λ (l : History). CarriesOutFirstAgain day caller l order (λ l back. CarriesOutAgain day caller l more back) es) (sym (append-nil front)) h;
    whole = refl;
  }
  split front (o ∷ os) order more es h =
      let p = split (front ++ (h.own ++ h.renewals)) os order more h.back h.behind in
      record {
        ahead = (h.own ++ h.renewals) ++ p.ahead;
        rest = p.rest;
        commands = record { own = h.own; renewals = h.renewals; back = p.ahead; finished = h.finished; renewed = h.renewed; behind = p.commands; whole = refl };
        next = subst (λ (l : History). CarriesOutFirstAgain day caller l order (λ l back. CarriesOutAgain day caller l more back) p.rest) (append_assoc front (h.own ++ h.renewals) p.ahead) p.next;
        whole = h.whole ∙ (ap (λ l. (h.own ++ h.renewals) ++ l) p.whole ∙ sym (append_assoc (h.own ++ h.renewals) p.ahead p.rest));
      }

-- the commands so far, and one more
pub served_more : (o now next : Opened) (caller : ℕ) (orders : List Order) (order : Order) → HasRerouted o now caller orders → HasReroutedOne now caller order next → HasRerouted o next caller (orders ++ order ∷ [])
served_more o now next caller orders order h more =
    let longer : next.history ≡ now.history ++ (more.own ++ more.renewals) = ap (λ (n : Opened). n.history) more.grown in
    record {
      same = more.grown ∙ (ap (λ (n : Opened). grown_by n (more.own ++ more.renewals)) h.same ∙ ap (λ (l : History). record o { history = l }) (sym longer));
      commands = subst (λ (l : History). CarriesOutAgain o.opening caller [] (orders ++ order ∷ []) l) (sym longer)
          (carries_more o.opening caller [] orders order now.history more.own more.renewals h.commands more.finished
          (subst (λ (d : Day). AreRenewed d caller (now.history ++ more.own) (recalled_in more.own) more.renewals) (ap (λ (n : Opened). n.opening) h.same) more.renewed));
      memory = subst FoundMemory (sym longer) (All-append Answered now.history (more.own ++ more.renewals) h.memory more.memory);
    }

-- the commands so far, and one that was cut short
pub stopped_more : (o now next : Opened) (caller : ℕ) (orders : List Order) (order : Order) (more : List Order) → HasRerouted o now caller orders → WasCutShort now caller order next → HasStopped o next caller (orders ++ order ∷ more)
stopped_more o now next caller orders order more h cut =
    let longer : next.history ≡ now.history ++ cut.last = ap (λ (n : Opened). n.history) cut.grown in
    record {
      same = cut.grown ∙ (ap (λ (n : Opened). grown_by n cut.last) h.same ∙ ap (λ (l : History). record o { history = l }) (sym longer));
      commands = record {
        done = orders;
        next = order;
        left = more;
        orders_are = refl;
        ahead = now.history;
        last = cut.last;
        carried = h.commands;
        cut = subst (λ (x : Opened). IsCutShort x.opening caller x.most now.history order cut.last) h.same cut.cut;
        whole = longer;
      };
      memory = subst FoundMemory (sym longer) (All-append Answered now.history cut.last h.memory cut.memory);
      full = cut.full;
    }

-- where a command makes the history too long, it is so of all commands
pub long_at : FinishedAreOne → AnswersAreOne → (o now : Opened) (caller : ℕ) (orders : List Order) (order : Order) (more : List Order) → IsRoads o.base.roads → HasRerouted o now caller orders → IsLegal now.base now.opening now.history → IsLongWith now caller order → AreLong o.base o.opening o.most caller (orders ++ order ∷ more)
long_at one answers o now caller orders order more roads h so_far long history legal commands memory =
    let p = split o.opening caller [] orders order more history commands in
    let n = p.next in
    let there : IsLegal o.base o.opening (p.ahead ++ p.rest) = subst (IsLegal o.base o.opening) p.whole legal in
    let mine : IsLegal o.base o.opening now.history = subst (λ (x : Opened). IsLegal x.base x.opening now.history) h.same so_far in
    let same : p.ahead ≡ now.history =
    runs_one answers o.base o.opening caller one roads (opened o.opening) [] orders p.ahead now.history p.commands h.commands
    (memory_front p.ahead p.rest (subst FoundMemory p.whole memory)) h.memory (legal_front o.base (opened o.opening) p.ahead p.rest there) mine in
    let parts : history ≡ (now.history ++ (n.own ++ n.renewals)) ++ n.back =
    p.whole ∙ (ap (λ l. l ++ p.rest) same ∙ (ap (λ l. now.history ++ l) n.whole ∙ sym (append_assoc now.history (n.own ++ n.renewals) n.back))) in
    let goes_on : IsLongWith (record o { history = now.history }) caller order = subst (λ (x : Opened). IsLongWith x caller order) h.same long in
    let more_long : o.most < length (now.history ++ (n.own ++ n.renewals)) =
    goes_on n.own n.renewals n.finished
    (subst (λ (l : History). AreRenewed o.opening caller (l ++ n.own) (recalled_in n.own) n.renewals) same n.renewed)
    (legal_front o.base (opened o.opening) (now.history ++ (n.own ++ n.renewals)) n.back (subst (IsLegal o.base o.opening) parts legal)) in
    longer_still o.most (length (now.history ++ (n.own ++ n.renewals))) (length n.back) (length history) (length ((now.history ++ (n.own ++ n.renewals)) ++ n.back)) more_long (ap length parts) (of_two (now.history ++ (n.own ++ n.renewals)) n.back)
