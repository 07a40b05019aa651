-- Where what is made leads the judge of day files, whatever is drawn.
use Rattle.std.proofs.Common.{◌≡◌, ◌<◌, ◌≤◌, ◌+◌, ◌%◌, ℕ, zero, suc, Ok, Bool, true, false, refl, subst, arith}
use Rattle.std.specs.List.{AllByRecursion}
use Rattle.day_text.specs.Records.{Row}
use Rattle.day_text.specs.Days.{DayParts, ended_day, judge_day}
use Rattle.day_maker.specs.Making.{Draws, Maker, ◌>>◌, drawn, each, nothing, put, when}
use Rattle.day_writer.proofs.Judge.{DayProgress, DaySoFar, open_day}
use Rattle.day_writer.proofs.Leading.{LeadsFrom, from_append, from_one}
use Rattle.day_writer.proofs.Plain.{IsPlainRow, all_rows}

-- what is made leads from one kind of what stands so far to another, and is of ASCII
pub record Leads (P : DaySoFar → Type 0) (make : Maker) (Q : DaySoFar → Type 0) : Type 0 where
  pub leads : (x : ℕ) (d : DaySoFar) → P d → (e : DaySoFar) × LeadsFrom (open_day d) (make x).rows (open_day e) × Q e
  pub plain : (x : ℕ) → AllByRecursion IsPlainRow (make x).rows

-- one record
pub leads_put : (P Q : DaySoFar → Type 0) (fields : Row) → IsPlainRow fields → ((d : DaySoFar) → P d → (e : DaySoFar) × (judge_day (open_day d) fields ≡ Ok (open_day e)) × Q e) → Leads P (put fields) Q
leads_put P Q fields plain step = record {
  leads = λ x d h. let (e, same, k) = step d h in (e, from_one (open_day d) (open_day e) fields plain same, k);
  plain = λ x. (plain, tt);
}

-- one thing and then another
pub leads_then : (P Q R : DaySoFar → Type 0) (first second : Maker) → Leads P first Q → Leads Q second R → Leads P (first >> second) R
leads_then P Q R first second h i = record {
  leads = λ x d p.
      let (e, one, q) = h.leads x d p in
      let (f, two, r) = i.leads (first x).next e q in
      (f, from_append (open_day d) (open_day e) (open_day f) (first x).rows (second (first x).next).rows one two, r);
  plain = λ x. all_rows (first x).rows (second (first x).next).rows (h.plain x) (i.plain (first x).next);
}

-- nothing
pub leads_nothing : (P Q : DaySoFar → Type 0) → ((d : DaySoFar) → P d → Q d) → Leads P nothing Q
leads_nothing P Q h = record { leads = λ x d p. (d, (λ k. (k, refl)), h d p); plain = λ x. tt }

-- where a test holds
pub leads_when : (P Q : DaySoFar → Type 0) (b : Bool) (make : Maker) → (b ≡ true → Leads P make Q) → (b ≡ false → (d : DaySoFar) → P d → Q d) → Leads P (when b make) Q
leads_when P Q true make h i = h refl
leads_when P Q false make h i = leads_nothing P Q (i refl)

-- a draw
pub leads_draw : (P Q : DaySoFar → Type 0) (m : ℕ) (make : ℕ → Maker) → 0 < m → ((n : ℕ) → n < m → Leads P (make n) Q) → Leads P (λ x. make (drawn x % m) (drawn x)) Q
leads_draw P Q m make some h = record {
  leads = λ x d p. (h (drawn x % m) (omega arith)).leads (drawn x) d p;
  plain = λ x. (h (drawn x % m) (omega arith)).plain (drawn x);
}

-- a value that is drawn
pub leads_drawn : {A : Type 0} (P Q : DaySoFar → Type 0) (Good : A → Type 0) (draws : Draws A) (make : A → Maker) → ((x : ℕ) → Good (draws x).0) → ((a : A) → Good a → Leads P (make a) Q) → Leads P (λ x. make (draws x).0 (draws x).1) Q
leads_drawn P Q Good draws make good h = record {
  leads = λ x d p. (h (draws x).0 (good x)).leads (draws x).1 d p;
  plain = λ x. (h (draws x).0 (good x)).plain (draws x).1;
}

-- more is known than is asked
pub leads_weaker : (P Q R S : DaySoFar → Type 0) (make : Maker) → ((d : DaySoFar) → P d → Q d) → Leads Q make R → ((d : DaySoFar) → R d → S d) → Leads P make S
leads_weaker P Q R S make before h behind = record {
  leads = λ x d p. let (e, one, r) = h.leads x d (before d p) in (e, one, behind e r);
  plain = h.plain;
}

-- so many things one after another
pub leads_each : (P : ℕ → DaySoFar → Type 0) (make : ℕ → Maker) (count first end : ℕ) → first + count ≡ end → ((i : ℕ) → first ≤ i → i < end → Leads (P i) (make i) (P (i + 1))) → Leads (P first) (each first count make) (P end)
unfolding each
leads_each P make zero first end e h = let same : first ≡ end = omega arith in leads_nothing (P first) (P end) (λ d p. subst (λ i. P i d) same p)
leads_each P make (suc count) first end e h =
    leads_then (P first) (P (first + 1)) (P end) (make first) (each (first + 1) count make) (h first (omega arith) (omega arith))
    (leads_each P make count (first + 1) end (omega arith) (λ i low high. h i (omega arith) high))

-- a state in which the end was told
pub record IsEnd (q : DayProgress) : Type 0 where
  pub file : DayParts
  pub told : (j : ℕ) → ended_day (j, q) ≡ Ok file

-- what is made leads to the end of the file
pub record Ends (P : DaySoFar → Type 0) (make : Maker) : Type 0 where
  pub ends : (x : ℕ) (d : DaySoFar) → P d → (q : DayProgress) × LeadsFrom (open_day d) (make x).rows q × IsEnd q
  pub plain : (x : ℕ) → AllByRecursion IsPlainRow (make x).rows

pub ends_put : (P : DaySoFar → Type 0) (fields : Row) → IsPlainRow fields → ((d : DaySoFar) → (q : DayProgress) × (judge_day (open_day d) fields ≡ Ok q) × IsEnd q) → Ends P (put fields)
ends_put P fields plain step = record {
  ends = λ x d h. let (q, same, end) = step d in (q, from_one (open_day d) q fields plain same, end);
  plain = λ x. (plain, tt);
}

pub ends_then : (P Q : DaySoFar → Type 0) (first second : Maker) → Leads P first Q → Ends Q second → Ends P (first >> second)
ends_then P Q first second h i = record {
  ends = λ x d p.
      let (e, one, q) = h.leads x d p in
      let (f, two, end) = i.ends (first x).next e q in
      (f, from_append (open_day d) (open_day e) f (first x).rows (second (first x).next).rows one two, end);
  plain = λ x. all_rows (first x).rows (second (first x).next).rows (h.plain x) (i.plain (first x).next);
}
