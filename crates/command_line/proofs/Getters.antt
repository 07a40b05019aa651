-- What the getters of matches read, over the rows of the matches.
use Rattle.std.proofs.Common.{◌≡◌, ◌∙◌, ◌^◌, ◌<◌, ℕ, List, [], ◌∷◌, map, Option, Some, None, Result, refl, sym, ap, subst, codes}
use Rattle.std.specs.Prelude.{IsSomeAnd, find, option_and_then, option_map, slice_get}
use Rattle.std.specs.Str.{bytes_eq}
use Rattle.std.specs.Borrow.{Bor}
use Rattle.std.specs.Str.Parse.{ExplainsUnsignedError, HasUnsignedDigitsIfOk, ParsesUnsigned, digits_value, without_leading_plus}
use Rattle.std.specs.declared.num.ParseIntError.{ParseIntError}
use Rattle.clap.specs.Words.{first_of, first_value, found_of, one_of, one_text, read_as, rows_of, without_minus}
use Rattle.clap.specs.Facts.{Entry}
use Rattle.clap.specs.Matches.{ReadsOne}
use Rattle.clap.specs.Walk.{row_of, row_text}
use Rattle.clap.specs.declared.parser.matches.ArgMatches.{ArgMatches}
use Rattle.clap.specs.declared.parser.matches.Found.{Found}
use Rattle.clap.specs.declared.builder.value_parser.Reading.{Reading}
use Rattle.clap.proofs.CallerReads.{signed_reads}
use Rattle.clap.proofs.WalkLemmas.{find_row}
use Rattle.command_line.specs.Asking.{HasNumberIn, IsInRange, number_at}
use Rattle.command_line.specs.Office.{NumberOption}

first_text : (how : Reading) (vs : List (Bor (List ℕ))) → option_map (λ s. read_as how s.now) (slice_get vs 0) ≡ option_map (read_as how) (slice_get (map (λ s. s.now) vs) 0)
first_text how [] = refl
first_text how (v ∷ vs) = refl

first_word : (vs : List (Bor (List ℕ))) → option_map (λ s. s.now) (slice_get vs 0) ≡ slice_get (map (λ s. s.now) vs) 0
first_word [] = refl
first_word (v ∷ vs) = refl

one_text-rows : (f : Found) (id : List ℕ) → one_text f id ≡ one_of id (rows_of f)
one_text-rows f id = by (find (λ e. bytes_eq e.0.now id) f.entries.items) ∙ ap (option_and_then row_text) (sym (find_row f.entries.items id))
  where
    by : (o : Option Entry) → option_and_then (λ a. option_map (λ s. read_as a.reading s.now) (slice_get a.vals.items 0)) (option_map (λ e. e.1) o) ≡ option_and_then row_text (option_map row_of o)
    by None = refl
    by (Some e) = first_text e.1.reading e.1.vals.items

first_value-rows : (f : Found) (id : List ℕ) → first_value f id ≡ first_of id (rows_of f)
first_value-rows f id = by (find (λ e. bytes_eq e.0.now id) f.entries.items) ∙ ap (option_and_then (λ r. slice_get r.values 0)) (sym (find_row f.entries.items id))
  where
    by : (o : Option Entry) → option_and_then (λ a. option_map (λ s. s.now) (slice_get a.vals.items 0)) (option_map (λ e. e.1) o) ≡ option_and_then (λ r. slice_get r.values 0) (option_map row_of o)
    by None = refl
    by (Some e) = first_word e.1.vals.items

-- the getter of a text gives what the text at COMMAND names
pub named_by_text : {A : Type 0} (named : List ℕ → Option A) (f : Found) (o : Option (Bor (List ℕ))) → option_map (λ s. s.now) o ≡ first_value f (codes "COMMAND")
    → option_and_then named (option_map (λ s. s.now) o) ≡ option_and_then named (first_of (codes "COMMAND") (rows_of f))
named_by_text named f o h = ap (option_and_then named) (h ∙ first_value-rows f (codes "COMMAND"))

-- the getter of a text gives the text of an argument
pub text_read : (f : Found) (id : List ℕ) (o : Option (Bor (List ℕ))) → option_map (λ s. s.now) o ≡ first_value f id → option_map (λ s. s.now) o ≡ first_of id (rows_of f)
text_read f id o h = h ∙ first_value-rows f id

-- what the getter of a `u32` reads of a text
abbrev Gives : List ℕ → Result ℕ ParseIntError → Type 0
Gives text r = ParsesUnsigned 32 10 text r × ExplainsUnsignedError 10 text r × HasUnsignedDigitsIfOk text r

-- the typed getter of a number in a range gives the number at the option, in that range
pub number_read : (m : ArgMatches) (option : NumberOption) (r : Option ℕ) → option.most < 2 ^ 32
    → ((t : List ℕ) → one_text (found_of m) option.name ≡ Some t → ReadsOne Gives t r) → HasNumberIn option m
    → (r ≡ number_at option (rows_of (found_of m))) × IsSomeAnd r (IsInRange option)
number_read m option r fits value told =
    let t = without_minus told.0 in
    let here = value t told.1 in
    let got = signed_reads ParseIntError Gives 32 option.least option.most told.0 r here (λ u x g. g.0) fits told.2 in
    let read = (subst (λ (x : Option ℕ). ReadsOne Gives t x) got.1 here).0 in
    let same : number_at option (rows_of (found_of m)) ≡ Some (digits_value 10 (without_leading_plus t)) =
    ap (option_map (λ text. digits_value 10 (without_leading_plus text))) (sym (one_text-rows (found_of m) option.name) ∙ told.1) in
    (got.1 ∙ ap Some read.1 ∙ sym same, subst (λ (x : Option ℕ). IsSomeAnd x (IsInRange option)) (sym got.1) (got.2, got.3))
