-- Where the records of a file lead, and how many there are.
use Rattle.std.proofs.Common.{◌≡◌, ◌∙◌, ◌∷◌, ◌+◌, ◌≤◌, [], List, ℕ, zero, suc, length, Result, Ok, Err, Option, Some, None, Bool, true, false, cond, sym, ap, arith}
use Rattle.csv.specs.Machine.{Read, next_record}
use Rattle.csv.specs.Reading.{default_config, is_bom, records_from, records_next, strip_bom}
use Rattle.csv.specs.declared.parser.State.{State}
use Rattle.csv.specs.declared.parser.State.TheVariants as st
use Rattle.day_text.specs.Causes.{Judges, Tells, located}
use Rattle.day_text.specs.Records.{Row, go_on, is_record, judge_record, judged, rows_of}
use Rattle.day_text.specs.declared.refusal.Cause.{Cause}
use Rattle.day_text.specs.declared.refusal.Cause.TheVariants as why
use Rattle.day_text.specs.declared.refusal.RecordCause.TheVariants as bad
use Rattle.day_text.specs.declared.refusal.RecordRefusal.{RecordRefusal}
use Rattle.day_text.specs.declared.refusal.RecordRefusal.TheVariants as refusal

module _ {P : Type 0} (judge : P → Row → Result P Cause) where
  -- a refused record refuses the records from there on
  pub told_refused : (row : ℕ) (p : P) (f : Row) (rest rows : List Row) (why : RecordRefusal) (told : Result (ℕ × P) (ℕ × Cause)) → judged judge row p rows ≡ told → rows ≡ f ∷ rest → Judges {T = P} (Err why) (judge_record judge p f) → Tells {T = ℕ × P} (Err (located row why)) told
  told_refused row p f rest rows (refusal.Refused cause) told same e h =
      sym same ∙ (ap (judged judge row p) e ∙ ap (λ r. go_on row r (λ next. judged judge (row + 1) next rest)) h)
  told_refused row p f rest rows refusal.NoMemory told same e h = tt

  -- what the reader refuses is refused
  pub told_no_record : (row : ℕ) (p : P) (f : Row) (rest rows : List Row) (told : Result (ℕ × P) (ℕ × Cause)) → judged judge row p rows ≡ told → rows ≡ f ∷ rest → is_record f ≡ false → told ≡ Err (row, why.Bad bad.Fields)
  told_no_record row p f rest rows told same e h =
      told_refused row p f rest rows (refusal.Refused (why.Bad bad.Fields)) told same e (ap (λ b. cond b (judge p f) (Err (why.Bad bad.Fields))) h)

  -- a record that was taken leads on
  pub told_more : (row : ℕ) (p next : P) (f : Row) (rest rows : List Row) (told : Result (ℕ × P) (ℕ × Cause)) → judged judge row p rows ≡ told → rows ≡ f ∷ rest → judge_record judge p f ≡ Ok next → judged judge (row + 1) next rest ≡ told
  told_more row p next f rest rows told same e h =
      sym (ap (λ r. go_on row r (λ n. judged judge (row + 1) n rest)) h) ∙ (sym (ap (judged judge row p) e) ∙ same)

-- so many turns give no more records
few_records : (n : ℕ) (s : State) (xs : List ℕ) → length (records_from default_config n s xs) ≤ n
unfolding records_from
few_records zero s xs = omega arith
few_records (suc n) s xs = by (next_record default_config s [] [] xs) (few_records n)
  where
    by : (o : Option Read) → ((s : State) (xs : List ℕ) → length (records_from default_config n s xs) ≤ n) → length (records_next (records_from default_config n) o) ≤ suc n
    by None more = omega arith
    by (Some p) more = omega (arith, more p.1 p.2)

short_strip : (xs : List ℕ) → length (strip_bom xs) ≤ length xs
unfolding strip_bom
short_strip [] = omega arith
short_strip (a ∷ []) = omega arith
short_strip (a ∷ b ∷ []) = omega arith
short_strip (a ∷ b ∷ c ∷ rest) = by (is_bom a b c)
  where
    by : (q : Bool) → length (cond q rest (a ∷ b ∷ c ∷ rest)) ≤ length (a ∷ b ∷ c ∷ rest)
    by true = omega arith
    by false = omega arith

-- there is at most one record more than bytes
pub few_rows : (bytes : List ℕ) → length (rows_of bytes) ≤ length bytes + 1
few_rows bytes = omega (arith, few_records (length (strip_bom bytes) + 1) st.StartRecord (strip_bom bytes), short_strip bytes)

-- a record was taken from those that are left
pub few_more : (row most : ℕ) (f : Row) (rest rows : List Row) → row + length rows ≤ most → rows ≡ f ∷ rest → (row + 1) + length rest ≤ most
few_more row most f rest rows few e = let many : length rows ≡ length (f ∷ rest) = ap length e in omega arith
