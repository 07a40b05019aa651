-- How a run ends, by what its parts promise.
use Rattle.std.proofs.Common.{◌≡◌, ◌≢◌, ◌+◌, ◌++◌, ◌<◌, ◌≤◌, ℕ, Bool, true, false, List, [], Option, Some, None, IfSome, length, take, refl, ap, sym, subst, inl, inr, ◌∙◌, arith}
use Rattle.std.specs.Prelude.{nat_lt}
use Rattle.std.proofs.lemmas.Bool.Decides.{nat_tests}
use Rattle.std.specs.Io.KnownBytes.{Appends, Consumes, IsAtEnd}
use Rattle.std.proofs.lemmas.List.{append-nil, length-append}
use Rattle.office_io.specs.Causes.{Rose, TookAtMost, TookExactly}
use Rattle.office_io.specs.declared.source.ReadRefusal.{ReadRefusal}
use Rattle.office_io.specs.declared.source.ReadRefusal.TheVariants as unread
use Rattle.notice_desk.specs.Deliveries.{RoseAt, StoppedAt}
use Rattle.notice_desk.specs.Lines.{WroteUntilAt}
use Rattle.notice_desk.specs.declared.notice.Recall.{Recall}
use Rattle.command_line.specs.declared.asked.Asked.{Asked}
use Rattle.command_line.specs.declared.asked.Task.{Task}
use Rattle.command_line.specs.declared.asked.Task.TheVariants as task
use Rattle.std.specs.String.{string_bytes}
use Rattle.permit_program.specs.Command.{Answer, Command, IsRefusalOf, Makes}
use Rattle.permit_program.specs.Commands.{command_by, command_of}
use Rattle.permit_program.specs.Day.{day}
use Rattle.permit_program.specs.Endings.{AnswersRefusal, AnswersText, AnswersUnread, WasUnread}
use Rattle.permit_program.specs.Runs.{AsksForDay, CallFor, CountedDay, CountsItsDay, IsPlain, IsRun, Program, IsStatusSettled, IsStatusFor, IsStatusOr, Outside, SinkFailed, SourceAt, Told, Took, WroteLine, bytes_for, bytes_line, permit_cli, status_called_for}
use Rattle.permit_program.specs.declared.refusal.Refusal.{Refusal}
use Rattle.permit_program.specs.declared.refusal.Refusal.TheVariants.{NoMemory, Refused}
use Rattle.permit_program.proofs.Lawful.{IsRefusalStatus, RefusesNamed}

below : (a b : ℕ) → a < b → nat_lt a b ≡ true
below a b less = grind (arith, nat_tests)

not_below : (a b : ℕ) → b ≤ a → nat_lt a b ≡ false
not_below a b more = grind (arith, nat_tests)

-- none of these is plain
away : (k : ℕ) → k ≢ 0 → k ≢ 2 → k ≢ 3 → k ≢ 4 → k ≢ 7 → k ≢ 8 → (n : ℕ) → n ≡ k → IsPlain n → ⊥
away k no0 no2 no3 no4 no7 no8 n is (inl e) = no0 (sym is ∙ e)
away k no0 no2 no3 no4 no7 no8 n is (inr (inl e)) = no2 (sym is ∙ e)
away k no0 no2 no3 no4 no7 no8 n is (inr (inr (inl e))) = no3 (sym is ∙ e)
away k no0 no2 no3 no4 no7 no8 n is (inr (inr (inr (inl e)))) = no4 (sym is ∙ e)
away k no0 no2 no3 no4 no7 no8 n is (inr (inr (inr (inr (inl e))))) = no7 (sym is ∙ e)
away k no0 no2 no3 no4 no7 no8 n is (inr (inr (inr (inr (inr e))))) = no8 (sym is ∙ e)

is_refusals : (n : ℕ) → IsRefusalStatus n → IsPlain n → ⊥
is_refusals n (inl five) plain =
    away 5 (λ e. omega (arith, e)) (λ e. omega (arith, e)) (λ e. omega (arith, e)) (λ e. omega (arith, e)) (λ e. omega (arith, e)) (λ e. omega (arith, e)) n five plain
is_refusals n (inr (inl six)) plain =
    away 6 (λ e. omega (arith, e)) (λ e. omega (arith, e)) (λ e. omega (arith, e)) (λ e. omega (arith, e)) (λ e. omega (arith, e)) (λ e. omega (arith, e)) n six plain
is_refusals n (inr (inr (inl nine))) plain =
    away 9 (λ e. omega (arith, e)) (λ e. omega (arith, e)) (λ e. omega (arith, e)) (λ e. omega (arith, e)) (λ e. omega (arith, e)) (λ e. omega (arith, e)) n nine plain
is_refusals n (inr (inr (inr ten))) plain =
    away 10 (λ e. omega (arith, e)) (λ e. omega (arith, e)) (λ e. omega (arith, e)) (λ e. omega (arith, e)) (λ e. omega (arith, e)) (λ e. omega (arith, e)) n ten plain

-- what holds of the command of a day holds of whatever asks for a day
pub of_a_day : (a : Asked) → a.task ≡ task.Day → (P : Command → Type 0) → P day → P (command_of a)
of_a_day a is P held = subst (λ (t : Task). P (command_by t a.options)) (sym is) held

-- a run of a day is one of whatever asks for a day, from where nothing was done before it
pub of_day : {S K : Type 0} (asked : Option Asked) (before from after : Outside S K) (status : ℕ) → AsksForDay asked → from ≡ before → ((a : Asked) → a.task ≡ task.Day → IsRun permit_cli (Some a) from after status)
    → IsRun permit_cli asked before after status
of_day None before from after status is same run = absurd is
of_day (Some a) before from after status is same run = subst (λ (o : Outside _ _). IsRun permit_cli (Some a) o after status) same (run a is)

pub counts_day : {S K : Type 0} (asked : Option Asked) (before from after : Outside S K) (status : ℕ) (readings : Option (List ℕ)) → from ≡ before → (status ≡ 0 → CountedDay readings from after) → CountsItsDay asked before after status readings
counts_day asked before from after status readings same counted is zero = subst (λ (o : Outside _ _). CountedDay readings o after) same (counted zero)

-- where a day that is asked for ends with 7, nothing is counted of it
pub none_counted : {S K : Type 0} (asked : Option Asked) (before after : Outside S K) (status : ℕ) (readings : Option (List ℕ)) → (AsksForDay asked → status ≡ 7) → CountsItsDay asked before after status readings
none_counted asked before after status readings lacks is zero = absurd (omega (arith, lacks is, zero))

-- the status that bytes call for which were taken
module _ (m : ℕ) (c : Command) (bytes : List ℕ) (few : length bytes ≤ m) (judgement : Option Answer) (judges : c.Judges bytes judgement)
    (status : ℕ) (is : IsStatusOr (status_called_for judgement) status) where
  here : IsStatusFor m c bytes status
  here =
      let called : CallFor c (nat_lt m (length bytes)) bytes (status_called_for judgement) =
      subst (λ (many : Bool). CallFor c many bytes (status_called_for judgement)) (sym (not_below m (length bytes) few)) (judgement, judges, refl) in
      inr (status_called_for judgement, called, is)

  of_all : (left rest : Option (List ℕ)) → IfSome left (λ all. (bytes ≡ all) × (rest ≡ Some [])) → IfSome left (λ all. IsStatusFor m c all status)
  of_all None rest took = tt
  of_all (Some all) rest took = subst (λ (b : List ℕ). IsStatusFor m c b status) took.0 here

  of_read : {S : Type 0} (reads : Bool) (before after : SourceAt S) → Took reads before after bytes → IfSome (bytes_for reads before.left) (λ all. IsStatusFor m c all status)
  of_read true before after took = of_all before.left after.left took
  of_read false before after took = subst (λ (b : List ℕ). IsStatusFor m c b status) took.0 here

-- and so of too many
many_settled : (m : ℕ) (c : Command) (reads : Bool) (left : Option (List ℕ)) → reads ≡ true → IfSome left (λ bytes. m < length bytes) → IfSome (bytes_for reads left) (λ bytes. IsStatusFor m c bytes 6)
many_settled m c true None is many = tt
many_settled m c true (Some bytes) is many =
    let called : CallFor c (nat_lt m (length bytes)) bytes 6 = subst (λ (b : Bool). CallFor c b bytes 6) (sym (below m (length bytes) many)) refl in
    inr (6, called, inl refl)
many_settled m c false left is many = absurd cc

-- want of memory settles nothing
memory_settled : (m : ℕ) (c : Command) (left : Option (List ℕ)) → IfSome left (λ bytes. IsStatusFor m c bytes 7)
memory_settled m c None = tt
memory_settled m c (Some bytes) = inl refl

module _ {A S K : Type 0} (p : Program A) (a : A) (before after : Outside S K) (most : TookAtMost (p.most + 1) before.source.left after.source.left) where
  abbrev pub c : Command
  c = p.command_of a

  of_status : {status status' : ℕ} → status' ≡ status → IsRun p (Some a) before after status → IsRun p (Some a) before after status'
  of_status is run = subst (λ (n : ℕ). IsRun p (Some a) before after n) (sym is) run

  faulted : Rose before.source.faults after.source.faults → after.sink ≡ before.sink → after.desk ≡ before.desk → IsRun p (Some a) before after 3
  faulted rose same desk = record {
    done = λ is. absurd (omega (arith, is));
    usage = λ is. absurd (omega (arith, is));
    unasked = λ none. absurd cc;
    read = λ is. rose;
    written = λ is. absurd (omega (arith, is));
    noticed = λ is. absurd (omega (arith, is));
    refused = inl (inr (inr (inl refl)));
    settled = λ well. absurd (well rose);
    usage_told = λ is. absurd (omega (arith, is));
    nothing_read = λ is. same;
    front = λ is. absurd (omega (arith, is));
    nothing_kept = λ is. absurd (omega (arith, is));
    untold = λ is. absurd (omega (arith, is));
    unheard = λ a b. desk;
    untouched = λ is. absurd (omega (arith, is));
    calm = λ is_not. absurd (is_not refl);
    calm_sink = λ is. absurd (elim is [ inl e ↦ omega (arith, e) | inr e ↦ omega (arith, e) ]);
    most = most;
  }

  too_many : c.reads ≡ true → IfSome before.source.left (λ bytes. p.most < length bytes) → WroteLine bytes_line before.sink after.sink → after.source.faults ≡ before.source.faults → after.desk ≡ before.desk
      → IsRun p (Some a) before after 6
  too_many reads many told calm desk = record {
    done = λ is. absurd (omega (arith, is));
    usage = λ is. absurd (omega (arith, is));
    unasked = λ none. absurd cc;
    read = λ is. absurd (omega (arith, is));
    written = λ is. absurd (omega (arith, is));
    noticed = λ is. absurd (omega (arith, is));
    refused = inr (inl (record { is_status = refl; reads = reads; many = many; told = told }));
    settled = λ well. many_settled p.most c c.reads before.source.left reads many;
    usage_told = λ is. absurd (omega (arith, is));
    nothing_read = λ is. absurd (omega (arith, is));
    front = λ is. absurd (omega (arith, is));
    nothing_kept = λ is. absurd (omega (arith, is));
    untold = λ is. absurd (omega (arith, is));
    unheard = λ a b. desk;
    untouched = λ is. absurd (omega (arith, is));
    calm = λ is. calm;
    calm_sink = λ is. absurd (elim is [ inl e ↦ omega (arith, e) | inr e ↦ omega (arith, e) ]);
    most = most;
  }

  lacked : after.sink ≡ before.sink → after.source.faults ≡ before.source.faults → after.desk ≡ before.desk → IsRun p (Some a) before after 7
  lacked same calm desk = record {
    done = λ is. absurd (omega (arith, is));
    usage = λ is. absurd (omega (arith, is));
    unasked = λ none. absurd cc;
    read = λ is. absurd (omega (arith, is));
    written = λ is. absurd (omega (arith, is));
    noticed = λ is. absurd (omega (arith, is));
    refused = inl (inr (inr (inr (inr (inl refl)))));
    settled = λ well. memory_settled p.most c (bytes_for c.reads before.source.left);
    usage_told = λ is. absurd (omega (arith, is));
    nothing_read = λ is. absurd (omega (arith, is));
    front = λ is. absurd (omega (arith, is));
    nothing_kept = λ is. same;
    untold = λ is. absurd (omega (arith, is));
    unheard = λ a b. desk;
    untouched = λ is. absurd (omega (arith, is));
    calm = λ is. calm;
    calm_sink = λ is. absurd (elim is [ inl e ↦ omega (arith, e) | inr e ↦ omega (arith, e) ]);
    most = most;
  }

  -- the bytes were not all read
  pub ends_unread : (refusal : ReadRefusal) (status : ℕ) → WasUnread c.reads p.most before.source after.source refusal → AnswersUnread refusal before.sink after.sink status → after.desk ≡ before.desk → IsRun p (Some a) before after status
  ends_unread unread.ReadFault status rose answered desk = of_status answered.0 (faulted rose answered.1 desk)
  ends_unread unread.TooLong status (reads, calm, many) answered desk = of_status answered.0 (too_many reads many answered.1 calm desk)
  ends_unread unread.NoMemory status calm answered desk = of_status answered.0 (lacked answered.1 calm desk)

  module _ (bytes : List ℕ) (took : Took c.reads before.source after.source bytes) (few : length bytes ≤ p.most) (calm : after.source.faults ≡ before.source.faults) where
    settles : (judgement : Option Answer) → c.Judges bytes judgement → (status : ℕ) → IsStatusOr (status_called_for judgement) status → IsStatusSettled p.most c before.source.left status
    settles judgement judges status is = of_read p.most c bytes few judgement judges status is c.reads before.source after.source took

    told_why : RefusesNamed c → (answer : Answer) → c.Judges bytes (Some answer) → WroteLine answer.line before.sink after.sink → after.desk ≡ before.desk → IsRun p (Some a) before after answer.status
    told_why statuses answer refused told desk =
        let named : IsPlain answer.status → ⊥ = is_refusals answer.status (statuses bytes answer refused) in record {
          done = λ is. absurd (named (inl is));
          usage = λ is. absurd (named (inr (inl is)));
          unasked = λ none. absurd cc;
          read = λ is. absurd (named (inr (inr (inl is))));
          written = λ is. absurd (named (inr (inr (inr (inl is)))));
          noticed = λ is. absurd (named (inr (inr (inr (inr (inr is))))));
          refused = inr (inr (record { bytes = bytes; answer = answer; took = took; few = few; refused = refused; is_status = refl; told = told }));
          settled = λ well. settles (Some answer) refused answer.status (inl refl);
          usage_told = λ is. absurd (named (inr (inl is)));
          nothing_read = λ is. absurd (named (inr (inr (inl is))));
          front = λ is. absurd (named (inr (inr (inr (inl is)))));
          nothing_kept = λ is. absurd (named (inr (inr (inr (inr (inl is))))));
          untold = λ is. absurd (named (inr (inr (inr (inr (inr is))))));
          unheard = λ a b. desk;
          untouched = λ is. absurd (named (inr (inl is)));
          calm = λ is. calm;
          calm_sink = λ is. absurd (named (elim is [ inl e ↦ inl e | inr e ↦ inr (inr (inr (inr (inr e)))) ]));
          most = most;
        }

    -- the command refuses the bytes
    pub ends_refused : RefusesNamed c → (refusal : Refusal) (status : ℕ) → IsRefusalOf c bytes refusal → AnswersRefusal refusal before.sink after.sink status → after.desk ≡ before.desk → IsRun p (Some a) before after status
    ends_refused statuses (Refused status line) result refused answered desk = of_status answered.0 (told_why statuses (record { status = status; line = string_bytes line }) refused answered.1 desk)
    ends_refused statuses NoMemory result refused answered desk = of_status answered.0 (lacked answered.1 calm desk)

    module _ (text : List ℕ) (made : Makes c bytes text) where
      in_front : (count : ℕ) → Appends before.sink.held after.sink.held (take count text) → SinkFailed before.sink after.sink → after.desk ≡ before.desk → IsRun p (Some a) before after 4
      in_front count wrote failed desk = record {
        done = λ is. absurd (omega (arith, is));
        usage = λ is. absurd (omega (arith, is));
        unasked = λ none. absurd cc;
        read = λ is. absurd (omega (arith, is));
        written = λ is. failed;
        noticed = λ is. absurd (omega (arith, is));
        refused = inl (inr (inr (inr (inl refl))));
        settled = λ well. settles None made.taken 4 (inr (refl, inl refl));
        usage_told = λ is. absurd (omega (arith, is));
        nothing_read = λ is. absurd (omega (arith, is));
        front = λ is. record { bytes = bytes; text = text; count = count; took = took; made = made; wrote = wrote };
        nothing_kept = λ is. absurd (omega (arith, is));
        untold = λ is. absurd (omega (arith, is));
        unheard = λ a b. desk;
        untouched = λ is. absurd (omega (arith, is));
        calm = λ is. calm;
        calm_sink = λ is. absurd (elim is [ inl e ↦ omega (arith, e) | inr e ↦ omega (arith, e) ]);
        most = most;
      }

      pub whole : Appends before.sink.held after.sink.held text → after.sink.faults ≡ before.sink.faults → Told (c.recalls bytes text made.output) before.desk after.desk → IsRun p (Some a) before after 0
      whole wrote calm_sink told = record {
        done = λ is. record { bytes = bytes; text = text; took = took; made = made; wrote = wrote; told = told };
        usage = λ is. absurd (omega (arith, is));
        unasked = λ none. absurd cc;
        read = λ is. absurd (omega (arith, is));
        written = λ is. absurd (omega (arith, is));
        noticed = λ is. absurd (omega (arith, is));
        refused = inl (inl refl);
        settled = λ well. settles None made.taken 0 (inl refl);
        usage_told = λ is. absurd (omega (arith, is));
        nothing_read = λ is. absurd (omega (arith, is));
        front = λ is. absurd (omega (arith, is));
        nothing_kept = λ is. absurd (omega (arith, is));
        untold = λ is. absurd (omega (arith, is));
        unheard = λ is_not. absurd (is_not refl);
        untouched = λ is. absurd (omega (arith, is));
        calm = λ is. calm;
        calm_sink = λ is. calm_sink;
        most = most;
      }

      -- the sink failed, or nobody is to be told anything
      pub ends_made : (status : ℕ) → AnswersText text before.sink after.sink status → (status ≡ 0 → c.recalls bytes text made.output ≡ None) → after.desk ≡ before.desk → IsRun p (Some a) before after status
      ends_made status answered nobody desk = elim answered.statuses [
        | inl is ↦ of_status is (let wrote = answered.whole is in whole wrote.0 wrote.1 (subst (λ (rs : Option (List Recall)). Told rs before.desk after.desk) (sym (nobody is)) desk))
        | inr is ↦ of_status is (let part = answered.front is in in_front part.0.0 part.0.1 part.1 desk)
      ]

      -- an object failed that was to be told of a recall
      pub ends_untold : (recalls : List Recall) (place : ℕ) → c.recalls bytes text made.output ≡ Some recalls → Appends before.sink.held after.sink.held text → after.sink.faults ≡ before.sink.faults
          → StoppedAt place before.desk.standings recalls after.desk.standings → RoseAt place before.desk.faults after.desk.faults → WroteUntilAt place before.desk.standings recalls after.desk.standings before.desk.texts after.desk.texts
          → IsRun p (Some a) before after 8
      ends_untold recalls place told wrote calm_sink stopped rose part = record {
        done = λ is. absurd (omega (arith, is));
        usage = λ is. absurd (omega (arith, is));
        unasked = λ none. absurd cc;
        read = λ is. absurd (omega (arith, is));
        written = λ is. absurd (omega (arith, is));
        noticed = λ is. (place, rose);
        refused = inl (inr (inr (inr (inr (inr refl)))));
        settled = λ well. settles None made.taken 8 (inr (refl, inr refl));
        usage_told = λ is. absurd (omega (arith, is));
        nothing_read = λ is. absurd (omega (arith, is));
        front = λ is. absurd (omega (arith, is));
        nothing_kept = λ is. absurd (omega (arith, is));
        untold = λ is. record {
          bytes = bytes;
          text = text;
          recalls = recalls;
          took = took;
          made = record { made = made; told = told };
          wrote = wrote;
          place = place;
          stopped = stopped;
          rose = rose;
          part = part;
        };
        unheard = λ a is_not. absurd (is_not refl);
        untouched = λ is. absurd (omega (arith, is));
        calm = λ is. calm;
        calm_sink = λ is. calm_sink;
        most = most;
      }
