-- What the seats of all actors say of a history.
use Rattle.std.proofs.Common.{◌≡◌, ◌≢◌, ◌<◌, ◌≤◌, ◌+◌, ◌++◌, ◌∷◌, [], List, ℕ, zero, suc, None, true, All, cond, eqb, eq-eqb, ne_eqb, eqb-true, filter, map, take, drop, set, length, length-set, get_or, ap, sym, subst, refl, ◌∙◌, append_assoc, append-nil, arith, inl, inr, ◌⊎◌}
use Rattle.std.proofs.lemmas.Bool.{cases_eq}
use Rattle.std.proofs.lemmas.List.{append_cancel_right, drop_all, drop_more, get_or-set_other, get_or-set_same, get_or_append_left, get_or_push, length_push, take-take, take_more}
use Rattle.std.proofs.lemmas.List.Elements.{All-append, All-head, All-nil, All-push, All-tail, All-weaker, filter-append, filter_passes}
use Rattle.office_words.specs.declared.entry.Command.{Command}
use Rattle.office_words.specs.declared.entry.Entry.{Entry}
use Rattle.office_words.specs.declared.entry.Reply.TheVariants as reply
use Rattle.office_core.specs.Machine.{entries_by}
use Rattle.analyst_pool.specs.Unfolds.{AreFinished}
use Rattle.day_text.specs.Scripts.{script_of}
use Rattle.day_text.specs.declared.orders.Order.{Order}
use Rattle.journal_whole.specs.declared.seat.Seat.{Seat}
use Rattle.journal_whole.specs.Leaving.{AreNext, IsNext, Left, after, after_all, behind, ended, fresh}
use Rattle.journal_whole.specs.Seats.{AreSeats, HasTaken, IsBehind, IsFirstLeft, IsSeat, left_of}
use Rattle.journal_whole.specs.Wholes.{HasFinished, IsFirstLacking, IsFirstStray, IsFront, IsWhole}
use Rattle.journal_whole.proofs.Completing.{Completes, completes}
use Rattle.journal_whole.proofs.Finished.{Leads, commands_lead}
use Rattle.journal_whole.proofs.Fronts.{HasDone, done_less, script_parts}
use Rattle.journal_whole.proofs.Nexts.{after_append, after_short, next_append, next_back, next_memory}
use Rattle.journal_whole.proofs.Standing.{Stands, stands_all, stands_finished, stands_none}

no_seat : Seat
no_seat = record { actor = 0; next = 0; tries = 0; looked = None }

-- whose entries are whose
by_append : (i : ℕ) (es fs : List Entry) → entries_by i (es ++ fs) ≡ entries_by i es ++ entries_by i fs
by_append i es fs = filter-append (λ (e : Entry). eqb e.caller i) es fs

by_own : (i : ℕ) (e : Entry) (es : List Entry) → e.caller ≡ i → entries_by i (e ∷ es) ≡ e ∷ entries_by i es
by_own i e es mine = ap (λ b. cond b (e ∷ entries_by i es) (entries_by i es)) (eq-eqb e.caller i mine)

by_other : (i : ℕ) (e : Entry) (es : List Entry) → (e.caller ≡ i → ⊥) → entries_by i (e ∷ es) ≡ entries_by i es
by_other i e es other = ap (λ b. cond b (e ∷ entries_by i es) (entries_by i es)) (ne_eqb e.caller i other)

by_all : (i : ℕ) (es : List Entry) → All (λ e. e.caller ≡ i) es → entries_by i es ≡ es
by_all i [] all = refl
by_all i (e ∷ es) all =
    by_own i e es (All-head (λ (d : Entry). d.caller ≡ i) e es all) ∙ ap (λ l. e ∷ l) (by_all i es (All-tail (λ (d : Entry). d.caller ≡ i) e es all))

by_none : (i : ℕ) (es : List Entry) → All (λ e. e.caller ≡ i → ⊥) es → entries_by i es ≡ []
by_none i [] none = refl
by_none i (e ∷ es) none =
    by_other i e es (All-head (λ (d : Entry). d.caller ≡ i → ⊥) e es none) ∙ by_none i es (All-tail (λ (d : Entry). d.caller ≡ i → ⊥) e es none)

by_mine : (i : ℕ) (es : List Entry) → All (λ e. e.caller ≡ i) (entries_by i es)
by_mine i es = All-weaker (λ (e : Entry). eqb e.caller i ≡ true) (λ (e : Entry). e.caller ≡ i) (λ e is. eqb-true e.caller i is) (entries_by i es) (filter_passes (λ (e : Entry). eqb e.caller i) es)

-- what each caller can finish, all can finish together
record Together (n : ℕ) (scripts : ℕ → List Command) (es : List Entry) : Type 0 where
  more : List Entry
  each : (i : ℕ) → i < n → AreFinished i (scripts i) (entries_by i (es ++ more))
  callers : All (λ e. e.caller < n) more
  memory : All (λ e. e.reply ≢ reply.NoMemory) more

module _ (scripts : ℕ → List Command) (es : List Entry) where
  together_more : (n : ℕ) → Together n scripts es → Completes n (scripts n) (entries_by n es) → Together (suc n) scripts es
  together_more n t c = record {
    more = t.more ++ c.more;
    each = λ i near. each i near (cases_eq i n);
    callers = All-append (λ (e : Entry). e.caller < suc n) t.more c.more
        (All-weaker (λ (e : Entry). e.caller < n) (λ (e : Entry). e.caller < suc n) (λ e low. omega (arith, low)) t.more t.callers)
        (All-weaker (λ (e : Entry). e.caller ≡ n) (λ (e : Entry). e.caller < suc n) (λ e is. omega (arith, is)) c.more c.mine);
    memory = All-append (λ (e : Entry). e.reply ≢ reply.NoMemory) t.more c.more t.memory c.memory;
  }
    where
      last : entries_by n (es ++ (t.more ++ c.more)) ≡ entries_by n es ++ c.more
      last = by_append n es (t.more ++ c.more) ∙ ap (λ l. entries_by n es ++ l) (by_append n t.more c.more
          ∙ (ap (λ l. l ++ entries_by n c.more) (by_none n t.more (All-weaker (λ (e : Entry). e.caller < n) (λ (e : Entry). e.caller ≡ n → ⊥) (λ e low is. omega (arith, low, is)) t.more t.callers))
          ∙ by_all n c.more c.mine))

      before : (i : ℕ) → (i ≡ n → ⊥) → entries_by i (es ++ (t.more ++ c.more)) ≡ entries_by i (es ++ t.more)
      before i other = ap (entries_by i) (sym (append_assoc es t.more c.more)) ∙ (by_append i (es ++ t.more) c.more
          ∙ (ap (λ l. entries_by i (es ++ t.more) ++ l) (by_none i c.more (All-weaker (λ (e : Entry). e.caller ≡ n) (λ (e : Entry). e.caller ≡ i → ⊥) (λ e is mine. other (sym mine ∙ is)) c.more c.mine))
          ∙ append-nil (entries_by i (es ++ t.more))))

      each : (i : ℕ) → i < suc n → (i ≡ n) ⊎ (i ≡ n → ⊥) → AreFinished i (scripts i) (entries_by i (es ++ (t.more ++ c.more)))
      each i near (inl is) = subst (λ (k : ℕ). AreFinished k (scripts k) (entries_by k (es ++ (t.more ++ c.more)))) (sym is) (subst (AreFinished n (scripts n)) (sym last) c.finished)
      each i near (inr other) = subst (AreFinished i (scripts i)) (sym (before i other)) (t.each i (omega (arith, near, other)))

  together : (n : ℕ) → ((i : ℕ) → i < n → Completes i (scripts i) (entries_by i es)) → Together n scripts es
  together zero all = record {
    more = [];
    each = λ i near. absurd (omega (arith, near));
    callers = All-nil (λ (e : Entry). e.caller < zero);
    memory = All-nil (λ (e : Entry). e.reply ≢ reply.NoMemory);
  }
  together (suc n) all = together_more n (together n (λ i near. all i (omega (arith, near)))) (all n (omega arith))

-- a caller stands where its seat says
stands_at : (orders : List Order) (es : List Entry) (i : ℕ) (s : Seat) → IsBehind orders es i s → Stands i (script_of i orders) (entries_by i es) (left_of orders s)
stands_at orders es i s b = subst (λ (l : Left). Stands i (script_of i orders) (entries_by i es) l) (sym b.left)
    (stands_all i (script_of i orders) [] (entries_by i es) (fresh (script_of i orders)) (by_mine i es) b.next (stands_none i (script_of i orders)))

module _ (n : ℕ) (orders : List Order) (es : List Entry) (seats : List Seat) (h : AreSeats n orders es seats) where
  -- what was laid at the seats is a front
  pub front_seated : IsFront n orders es
  front_seated = let all = together (λ i. script_of i orders) es n (λ i near. let s = get_or seats i no_seat in completes i (script_of i orders) (entries_by i es) (left_of orders s) (stands_at orders es i s (h.each i no_seat near))) in (
    all.more,
    record {
      commands = all.each;
      callers = All-append (λ (e : Entry). e.caller < n) es all.more h.callers all.callers;
      memory = All-append (λ (e : Entry). e.reply ≢ reply.NoMemory) es all.more h.memory all.memory;
    },
  )

  -- where no command is left the history is whole
  pub whole_seated : ((i : ℕ) (d : Seat) → i < length seats → length orders ≤ (get_or seats i d).next) → IsWhole n orders es
  whole_seated none = record {
    commands = λ i near. let s = get_or seats i no_seat in
        stands_finished i (script_of i orders) (entries_by i es) (left_of orders s)
        (ap (script_of s.actor) (drop_all s.next orders (none i no_seat (omega (arith, near, h.count))))) (stands_at orders es i s (h.each i no_seat near));
    callers = h.callers;
    memory = h.memory;
  }

-- the commands before the next one of a caller are finished
done_before : (orders : List Order) (es : List Entry) (i : ℕ) (s : Seat) → IsBehind orders es i s → HasDone i (take s.next orders) (entries_by i es)
done_before orders es i s b = let h = stands_at orders es i s b in
    (h.front, h.tried, subst (λ (cs : List Command). AreFinished i cs h.front) (sym (append_cancel_right (script_of i (take s.next orders)) h.done (script_of i (drop s.next orders)) (same h))) h.finished, h.entries)
  where
    same : (h : Stands i (script_of i orders) (entries_by i es) (left_of orders s)) → script_of i (take s.next orders) ++ script_of i (drop s.next orders) ≡ h.done ++ script_of i (drop s.next orders)
    same h = sym (script_parts i s.next orders) ∙ (h.script_is ∙ ap (λ (k : ℕ). h.done ++ script_of k (drop s.next orders)) b.actor_is)

-- the next command of a script
pub script_next : (orders : List Order) (k i : ℕ) (d : Order) → k < length orders → (get_or orders k d).actor ≡ i → script_of i (drop k orders) ≡ (get_or orders k d).command ∷ script_of i (drop (k + 1) orders)
script_next orders k i d there own = ap (script_of i) (drop_more orders k d there)
    ∙ ap (λ b. map (λ (o : Order). o.command) (cond b (get_or orders k d ∷ filter (λ o. eqb o.actor i) (drop (k + 1) orders)) (filter (λ o. eqb o.actor i) (drop (k + 1) orders)))) (eq-eqb (get_or orders k d).actor i own)

-- a command, where there is one
some_order : (orders : List Order) (k : ℕ) → k < length orders → Order
some_order [] k there = absurd (omega (arith, there))
some_order (o ∷ os) k there = o

-- what is left behind the next command
pub ended_at : (orders : List Order) (s : Seat) → s.next < length orders → IsSeat orders s → fresh (script_of s.actor (drop (s.next + 1) orders)) ≡ ended (left_of orders s)
ended_at orders s there seat = let d = some_order orders s.next there in
    ap (λ (cs : List Command). fresh (behind cs)) (sym (script_next orders s.next s.actor d there (seat.own d there)))

-- no command of that actor
pub script_past : (orders : List Order) (k i : ℕ) (d : Order) → k < length orders → ((get_or orders k d).actor ≡ i → ⊥) → script_of i (drop k orders) ≡ script_of i (drop (k + 1) orders)
script_past orders k i d there other = ap (script_of i) (drop_more orders k d there)
    ∙ ap (λ b. map (λ (o : Order). o.command) (cond b (get_or orders k d ∷ filter (λ o. eqb o.actor i) (drop (k + 1) orders)) (filter (λ o. eqb o.actor i) (drop (k + 1) orders)))) (ne_eqb (get_or orders k d).actor i other)

-- the next command of a caller is not finished
not_done : (orders : List Order) (es : List Entry) (i : ℕ) (s : Seat) (d : Order) → s.next < length orders → IsBehind orders es i s → HasDone i (take (s.next + 1) orders) (entries_by i es) → ⊥
not_done orders es i s d there b (front, back, finished, is) = omega (arith, short, ap (λ (l : Left). length l.rest) left, ap length (script_next orders s.next s.actor d there (b.seat.own d there)))
  where
    later : List Command
    later = script_of i (drop (s.next + 1) orders)

    lead : Leads (fresh (script_of i orders)) front (fresh later)
    lead = subst (λ (cs : List Command). Leads (fresh cs) front (fresh later)) (sym (script_parts i (s.next + 1) orders))
        (commands_lead i (script_of i (take (s.next + 1) orders)) later front finished)

    left : left_of orders s ≡ after_all (fresh later) back
    left = b.left ∙ (ap (after_all (fresh (script_of i orders))) is ∙ (after_append (fresh (script_of i orders)) front back ∙ ap (λ (l : Left). after_all l back) lead.left))

    short : length (after_all (fresh later) back).rest ≤ length (script_of s.actor (drop (s.next + 1) orders))
    short = subst (λ (k : ℕ). length (after_all (fresh later) back).rest ≤ length (script_of k (drop (s.next + 1) orders))) (sym b.actor_is) (after_short (fresh later) back)

-- the first command that is left is the first that the history lacks
pub lacking_seated : (n : ℕ) (orders : List Order) (es : List Entry) (seats : List Seat) (k : ℕ) → AreSeats n orders es seats → IsFirstLeft seats (length orders) k → k < length orders → IsFirstLacking n orders es k
lacking_seated n orders es seats k h first there = record {
  there = there;
  front = front_seated n orders es seats h;
  before = λ i near. let s = get_or seats i no_seat in
      subst (λ (os : List Order). HasDone i os (entries_by i es)) (take-take k s.next orders (first.least i no_seat (omega (arith, near, h.count))))
      (done_less i k (take s.next orders) (entries_by i es) (done_before orders es i s (h.each i no_seat near)));
  lacks = by first.named;
}
  where
    by : (k ≡ length orders) ⊎ ((i : ℕ) × (i < length seats) × ((d : Seat) → (get_or seats i d).next ≡ k)) → HasFinished n (take (k + 1) orders) es → ⊥
    by (inl is) has = omega (arith, is, there)
    by (inr (i, inside, named)) has = let s = get_or seats i no_seat in let is = named no_seat in let near : i < n = omega (arith, inside, h.count) in
        not_done orders es i s (some_order orders k there) (omega (arith, is, there)) (h.each i no_seat near)
        (subst (λ (m : ℕ). HasDone i (take (m + 1) orders) (entries_by i es)) (sym is) (has i near))

-- of entries ahead of others one is in the middle
all_middle : (P : Entry → Type 0) (es : List Entry) (e : Entry) (more : List Entry) → All P (es ++ e ∷ [] ++ more) → P e
all_middle P [] e more all = All-head P e more all
all_middle P (x ∷ es) e more all = all_middle P es e more (All-tail P x (es ++ e ∷ [] ++ more) all)

-- an entry of a stranger strays, and so does one that is not its caller's next
foreign_strays : (n : ℕ) (orders : List Order) (es : List Entry) (e : Entry) → n ≤ e.caller → IsFront n orders (es ++ e ∷ []) → ⊥
foreign_strays n orders es e high (more, whole) = omega (arith, high, all_middle (λ (d : Entry). d.caller < n) es e more whole.callers)

not_next_strays : (n : ℕ) (orders : List Order) (es : List Entry) (e : Entry) (s : Seat) → e.caller < n → IsBehind orders es e.caller s → (IsNext (left_of orders s) e → ⊥) → IsFront n orders (es ++ e ∷ []) → ⊥
not_next_strays n orders es e s low b refused (more, whole) = refused (subst (λ (l : Left). IsNext l e) (sym b.left) (next_back (fresh script) (entries_by i es) (e ∷ entries_by i more) next).0)
  where
    i : ℕ
    i = e.caller

    script : List Command
    script = script_of i orders

    mine : entries_by i (es ++ e ∷ [] ++ more) ≡ entries_by i es ++ e ∷ entries_by i more
    mine = ap (entries_by i) (append_assoc es (e ∷ []) more) ∙ (by_append i es (e ∷ more) ∙ ap (λ l. entries_by i es ++ l) (by_own i e more refl))

    next : AreNext (fresh script) (entries_by i es ++ e ∷ entries_by i more)
    next = subst (AreNext (fresh script)) mine (subst (λ (cs : List Command). AreNext (fresh cs) (entries_by i (es ++ e ∷ [] ++ more))) (append-nil script)
        (commands_lead i script [] (entries_by i (es ++ e ∷ [] ++ more)) (whole.commands i low)).next)

module _ (n : ℕ) (orders : List Order) (history : List Entry) (k : ℕ) (seats : List Seat) (h : AreSeats n orders (take k history) seats) (there : k < length history) (e : Entry) (is : e ≡ get_or history k e) where
  one_more : take (k + 1) history ≡ take k history ++ e ∷ []
  one_more = take_more history k e there ∙ ap (λ (d : Entry). take k history ++ d ∷ []) (sym is)

  pub foreign_seated : n ≤ e.caller → IsFirstStray n orders history k
  foreign_seated high = record {
    there = there;
    before = front_seated n orders (take k history) seats h;
    strays = λ front. foreign_strays n orders (take k history) e high (subst (IsFront n orders) one_more front);
  }

  pub refused_seated : (s : Seat) → s ≡ get_or seats e.caller s → e.caller < n → (IsNext (left_of orders s) e → ⊥) → IsFirstStray n orders history k
  refused_seated s at low refused = record {
    there = there;
    before = front_seated n orders (take k history) seats h;
    strays = λ front. not_next_strays n orders (take k history) e s low (subst (IsBehind orders (take k history) e.caller) (sym at) (h.each e.caller s low)) refused (subst (IsFront n orders) one_more front);
  }

  -- an entry that is its caller's next is laid at its seat
  pub taken_seated : (s t : Seat) → s ≡ get_or seats e.caller s → e.caller < n → HasTaken orders s e t → AreSeats n orders (take (k + 1) history) (set seats e.caller t)
  taken_seated s t at low taken = subst (λ (l : List Entry). AreSeats n orders l (set seats e.caller t)) (sym one_more) (record {
    count = length-set seats e.caller t ∙ h.count;
    callers = All-push (λ (d : Entry). d.caller < n) (take k history) e h.callers low;
    memory = All-push (λ (d : Entry). d.reply ≢ reply.NoMemory) (take k history) e h.memory (next_memory (left_of orders s) e taken.next);
    each = λ i d near. by i d near (cases_eq i e.caller);
  })
    where
      es : List Entry
      es = take k history

      c : ℕ
      c = e.caller

      b : IsBehind orders es c s
      b = subst (IsBehind orders es c) (sym at) (h.each c s low)

      own : entries_by c (es ++ e ∷ []) ≡ entries_by c es ++ e ∷ []
      own = by_append c es (e ∷ []) ∙ ap (λ l. entries_by c es ++ l) (by_own c e [] refl)

      moved : IsBehind orders (es ++ e ∷ []) c t
      moved = record {
        actor_is = taken.actor ∙ b.actor_is;
        next = subst (AreNext (fresh (script_of c orders))) (sym own)
            (next_append (fresh (script_of c orders)) (entries_by c es) (e ∷ []) b.next (subst (λ (l : Left). IsNext l e) b.left taken.next, tt));
        left = taken.left ∙ (ap (λ (l : Left). after l e) b.left ∙ (sym (after_append (fresh (script_of c orders)) (entries_by c es) (e ∷ [])) ∙ ap (after_all (fresh (script_of c orders))) (sym own)));
        seat = taken.seat;
      }

      stayed : (i : ℕ) (s : Seat) → (i ≡ c → ⊥) → IsBehind orders es i s → IsBehind orders (es ++ e ∷ []) i s
      stayed i s other p = let same : entries_by i (es ++ e ∷ []) ≡ entries_by i es = by_append i es (e ∷ []) ∙ (ap (λ l. entries_by i es ++ l) (by_other i e [] (λ mine. other (sym mine))) ∙ append-nil (entries_by i es)) in
          record {
            actor_is = p.actor_is;
            next = subst (AreNext (fresh (script_of i orders))) (sym same) p.next;
            left = p.left ∙ ap (after_all (fresh (script_of i orders))) (sym same);
            seat = p.seat;
          }

      by : (i : ℕ) (d : Seat) → i < n → (i ≡ c) ⊎ (i ≡ c → ⊥) → IsBehind orders (es ++ e ∷ []) i (get_or (set seats c t) i d)
      by i d near (inl same) = subst (λ (j : ℕ). IsBehind orders (es ++ e ∷ []) j (get_or (set seats c t) j d)) (sym same)
          (subst (IsBehind orders (es ++ e ∷ []) c) (sym (get_or-set_same seats c t d (omega (arith, low, h.count)))) moved)
      by i d near (inr other) = subst (IsBehind orders (es ++ e ∷ []) i) (sym (get_or-set_other seats c i t d other)) (stayed i (get_or seats i d) other (h.each i d near))

-- the seats of actors of whom nothing was laid
pub seats_none : (orders : List Order) → AreSeats 0 orders [] []
seats_none orders = record {
  count = refl;
  callers = All-nil (λ (e : Entry). e.caller < 0);
  memory = All-nil (λ (e : Entry). e.reply ≢ reply.NoMemory);
  each = λ i d near. absurd (omega (arith, near));
}

pub seats_more : (n : ℕ) (orders : List Order) (seats : List Seat) (s : Seat) → AreSeats n orders [] seats → s.actor ≡ n → left_of orders s ≡ fresh (script_of n orders) → IsSeat orders s → AreSeats (n + 1) orders [] (seats ++ s ∷ [])
seats_more n orders seats s h actor left seat = record {
  count = length_push seats s ∙ ap (λ (k : ℕ). k + 1) h.count;
  callers = All-nil (λ (e : Entry). e.caller < n + 1);
  memory = All-nil (λ (e : Entry). e.reply ≢ reply.NoMemory);
  each = λ i d near. by i d near (cases_eq i n);
}
  where
    by : (i : ℕ) (d : Seat) → i < n + 1 → (i ≡ n) ⊎ (i ≡ n → ⊥) → IsBehind orders [] i (get_or (seats ++ s ∷ []) i d)
    by i d near (inl is) = subst (IsBehind orders [] i) (sym (get_or_push seats s d i (h.count ∙ sym is)))
        (subst (λ (j : ℕ). IsBehind orders [] j s) (sym is) (record { actor_is = actor; next = tt; left = left; seat = seat }))
    by i d near (inr other) = let low : i < length seats = omega (arith, near, other, h.count) in
        subst (IsBehind orders [] i) (sym (get_or_append_left seats (s ∷ []) d i low)) (h.each i d (omega (arith, near, other)))
