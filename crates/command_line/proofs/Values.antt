-- The value of an argument that has a default, whose id no other argument has.
use Rattle.std.proofs.Common.{◌≡◌, ◌∙◌, ◌<◌, ◌≤◌, ℕ, zero, suc, Bool, true, false, List, [], ◌∷◌, length, Option, Some, None, is_some, refl, sym, ap, subst, inl, inr, arith, true≢false}
use Rattle.std.specs.Prelude.{find, option_and_then, option_map, slice_get}
use Rattle.std.specs.List.{All, slice_index_or}
use Rattle.std.specs.Str.{bytes_eq}
use Rattle.std.specs.Borrow.{Bor}
use Rattle.std.proofs.lemmas.List.Elements.{All-get_or}
use Rattle.std.proofs.lemmas.Slice.Eq.{bytes_eq-Decides}
use Rattle.clap.specs.Words.{Accepts, IsParsedFrom, args_of, found_of, groups_of, matched_of, one_text, parser_of, read_as, reading_of}
use Rattle.clap.specs.Built.{IsAuto, SameRules}
use Rattle.clap.specs.Facts.{AllowsNone, Entry, EntryPasses, EntryValuesPass, HasId, HasReading, IsCountArg, IsFilledEntry, IsGroupEntry, IsKnownGroup, MayBeEmpty, PassesArg, ReadsByParser, WantsDefault, least_values, parser_of_value}
use Rattle.clap.specs.declared.builder.action.ArgAction.TheVariants.{Count, Set}
use Rattle.clap.specs.declared.builder.arg.Arg.{Arg}
use Rattle.clap.specs.declared.builder.command.Command.{Command}
use Rattle.clap.specs.declared.builder.command.Command.TheViews.{out-Command}
use Rattle.clap.specs.declared.builder.value_parser.ValueParser.{ValueParser}
use Rattle.clap.specs.declared.builder.value_parser.Reading.{Reading}
use Rattle.clap.specs.declared.parser.matches.ArgMatches.{ArgMatches}
use Rattle.clap.specs.declared.parser.matches.MatchedArg.{MatchedArg}
use Rattle.clap.proofs.CallerLemmas.{default_present, entry_by_id, same_rules_by_id}

not_none : (n : ℕ) → n ≡ 0 → 1 ≤ n → ⊥
not_none n none some = omega (arith, none, some)

-- what has an entry is found
found : (p : Entry → Bool) (xs : List Entry) (i : ℕ) → i < length xs → ((d : Entry) → p (slice_index_or xs i d) ≡ true) → option_map (λ e. e.1) (find p xs) ≡ None → ⊥
found p [] i low hit none = absurd (omega arith)
found p (x ∷ xs) i low hit none = by (p x) refl i low hit none (λ j l h. found p xs j l h)
  where
    by : (b : Bool) → p x ≡ b → (j : ℕ) → j < length (x ∷ xs) → ((d : Entry) → p (slice_index_or (x ∷ xs) j d) ≡ true) → option_map (λ e. e.1) (find p (x ∷ xs)) ≡ None
        → ((k : ℕ) → k < length xs → ((d : Entry) → p (slice_index_or xs k d) ≡ true) → option_map (λ e. e.1) (find p xs) ≡ None → ⊥) → ⊥
    by true t j l h n rest = let bad : Some x.1 ≡ None = rw t at n in cc
    by false t zero l h n rest = let e : p x ≡ true = h x in cc
    by false t (suc j) l h n rest = rest j (omega (arith, l)) h (rw t at n)

module _ (old : Command) (m : ArgMatches) (p : IsParsedFrom old m) (k : ℕ) (d : Arg) (lt : k < length (args_of old))
    (unique : (j : ℕ) (e : Arg) → j < length (args_of old) → bytes_eq (slice_index_or (args_of old) j e).id.now (slice_index_or (args_of old) k d).id.now ≡ true → j ≡ k)
    (own : IsAuto (slice_index_or (args_of old) k d) → ⊥) where
  -- each argument with that id is the one
  same_rules : (id : List ℕ) → id ≡ (slice_index_or (args_of old) k d).id.now → (j : ℕ) (a : Arg) → j < length (args_of p.built) → slice_index_or (args_of p.built) j a ≡ a → bytes_eq a.id.now id ≡ true
      → SameRules (slice_index_or (args_of old) k d) a
  same_rules id is j a low at same =
      same_rules_by_id old m p k d lt unique own j a low at (subst (λ (w : List ℕ). bytes_eq a.id.now w ≡ true) is same)

  module _ (q : ValueParser) (parser : (slice_index_or (args_of old) k d).value_parser ≡ Some q) where
    reads : (id : List ℕ) → id ≡ (slice_index_or (args_of old) k d).id.now → (r : Reading) → HasReading p.built id r → r ≡ reading_of q
    reads id is r any =
        let s = same_rules id is any.0 any.1 any.2 any.3 any.4.0 in
        let is_q : parser_of any.1 ≡ q = ap parser_of_value (s.parser q parser) in
        sym any.4.1 ∙ ap reading_of is_q

    passes : (id : List ℕ) → id ≡ (slice_index_or (args_of old) k d).id.now → (v : List ℕ) → PassesArg p.built id v → Accepts (slice_index_or (args_of old) k d).ignore_case q v
    passes id is v any =
        let s = same_rules id is any.0 any.1 any.2 any.3 any.4.0 in
        let is_q : parser_of any.1 ≡ q = ap parser_of_value (s.parser q parser) in
        let as_q : Accepts any.1.ignore_case q v = subst (λ (w : ValueParser). Accepts any.1.ignore_case w v) is_q any.4.1 in
        subst (λ (b : Bool). Accepts b q v) s.ignore_case as_q

    -- what one entry of that id says, where the command has no group
    module _ (no_groups : groups_of p.built ≡ []) (id : List ℕ) (is : id ≡ (slice_index_or (args_of old) k d).id.now) (named : id ≡ [] → ⊥) (e : Entry) (key : e.0.now ≡ id) where
      no_group : IsGroupEntry p.built e → e.1.is_group ≡ true → ⊥
      no_group known g = by (known g)
        where
          by : IsKnownGroup p.built e.0.now → ⊥
          by (inl empty) = named (sym key ∙ empty)
          by (inr lots) = not_none (length (groups_of p.built)) (ap length no_groups) lots

      all_pass : (e.1.is_group ≡ true → ⊥) → EntryValuesPass p.built e → All (λ v. PassesArg p.built id v.now) e.1.vals.items
      all_pass none (inl g) = absurd (none g)
      all_pass none (inr all) = subst (λ (w : List ℕ). All (λ v. PassesArg p.built w v.now) e.1.vals.items) key all

      read_by : (e.1.is_group ≡ true → ⊥) → ReadsByParser p.built e → e.1.reading ≡ reading_of q
      read_by none (inl g) = absurd (none g)
      read_by none (inr any) = reads id is e.1.reading (subst (λ (w : List ℕ). HasReading p.built w e.1.reading) key any)

      -- it has a value: it neither counts, nor may it go without one
      no_count : (slice_index_or (args_of old) k d).action ≡ Some Set → IsCountArg p.built e.0.now → ⊥
      no_count set any =
          let s = same_rules id is any.0 any.1 any.2 any.3 (subst (λ (w : List ℕ). bytes_eq any.1.id.now w ≡ true) key any.4.0) in
          let is_set : any.1.action ≡ Some Set = s.action Set set in
          let bad : Set ≡ Count = rw is_set at any.4.1 in
          cc

      no_gap : (slice_index_or (args_of old) k d).action ≡ Some Set → (slice_index_or (args_of old) k d).val_delim ≡ None → 1 ≤ least_values (slice_index_or (args_of old) k d)
          → AllowsNone p.built e.0.now → ⊥
      no_gap set delim least any = by any.4.1
        where
          s : SameRules (slice_index_or (args_of old) k d) any.1
          s = same_rules id is any.0 any.1 any.2 any.3 (subst (λ (w : List ℕ). bytes_eq any.1.id.now w ≡ true) key any.4.0)

          by : MayBeEmpty any.1 → ⊥
          by (inl empty) = not_none (least_values any.1) empty (s.least set least)
          by (inr has) = true≢false (sym has ∙ ap is_some (s.val_delim ∙ delim))

      filled : (e.1.is_group ≡ true → ⊥) → (IsCountArg p.built e.0.now → ⊥) → (AllowsNone p.built e.0.now → ⊥) → IsFilledEntry p.built e → 0 < length e.1.vals.items
      filled none counts gap (inl g) = absurd (none g.0)
      filled none counts gap (inr (inl some)) = some
      filled none counts gap (inr (inr (inl h))) = absurd (counts h.1)
      filled none counts gap (inr (inr (inr h))) = absurd (gap h)

    -- a value that is there reads as a word that passed
    first : (id : List ℕ) → id ≡ (slice_index_or (args_of old) k d).id.now → (how : Reading) (vs : List (Bor (List ℕ))) → how ≡ reading_of q → All (λ v. PassesArg p.built id v.now) vs → 0 < length vs
        → (word : List ℕ) × (option_map (λ s. read_as how s.now) (slice_get vs 0) ≡ Some (read_as (reading_of q) word)) × Accepts (slice_index_or (args_of old) k d).ignore_case q word
    first id is how [] same all some = absurd (omega (arith, some))
    first id is how (v ∷ vs) same all some =
        (v.now, ap (λ r. Some (read_as r v.now)) same, passes id is v.now (All-get_or (λ v. PassesArg p.built id v.now) (v ∷ vs) 0 v (omega arith) all))

    -- the typed getters read a word that passed its parser
    module _ (globals : (out-Command old).has_globals ≡ false) (no_groups : groups_of p.built ≡ []) (wants : WantsDefault (slice_index_or (args_of old) k d))
        (set : (slice_index_or (args_of old) k d).action ≡ Some Set) (delim : (slice_index_or (args_of old) k d).val_delim ≡ None)
        (least : 1 ≤ least_values (slice_index_or (args_of old) k d)) (id : List ℕ) (is : id ≡ (slice_index_or (args_of old) k d).id.now) (named : id ≡ [] → ⊥) where
      of_entry : (x : MatchedArg) → ((e : Entry) × (e.1 ≡ x) × (bytes_eq e.0.now id ≡ true) × EntryPasses p.built e)
          → (word : List ℕ) × (option_map (λ s. read_as x.reading s.now) (slice_get x.vals.items 0) ≡ Some (read_as (reading_of q) word)) × Accepts (slice_index_or (args_of old) k d).ignore_case q word
      of_entry x got = subst (λ (y : MatchedArg). (word : List ℕ) × (option_map (λ s. read_as y.reading s.now) (slice_get y.vals.items 0) ≡ Some (read_as (reading_of q) word)) × Accepts (slice_index_or (args_of old) k d).ignore_case q word) got.1
          (first id is got.0.1.reading got.0.1.vals.items (read_by no_groups id is named got.0 key none got.3.4) (all_pass no_groups id is named got.0 key none got.3.0)
          (filled no_groups id is named got.0 key none (no_count no_groups id is named got.0 key set) (no_gap no_groups id is named got.0 key set delim least) got.3.1))
        where
          key : got.0.0.now ≡ id
          key = (bytes_eq-Decides got.0.0.now id).0 got.2

          none : got.0.1.is_group ≡ true → ⊥
          none = no_group no_groups id is named got.0 key got.3.3

      pub value : (word : List ℕ) × (one_text (found_of m) id ≡ Some (read_as (reading_of q) word)) × Accepts (slice_index_or (args_of old) k d).ignore_case q word
      value = by (matched_of (found_of m) id) refl
        where
          by : (o : Option MatchedArg) → matched_of (found_of m) id ≡ o
              → (word : List ℕ) × (option_and_then (λ a. option_map (λ s. read_as a.reading s.now) (slice_get a.vals.items 0)) o ≡ Some (read_as (reading_of q) word)) × Accepts (slice_index_or (args_of old) k d).ignore_case q word
          by None none =
              let there : HasId (found_of m) id = subst (λ (w : List ℕ). HasId (found_of m) w) (sym is) (default_present old m p globals k d lt wants) in
              absurd (found (λ e. bytes_eq e.0.now id) (found_of m).entries.items there.0 there.1 there.2 none)
          by (Some x) there = of_entry x (entry_by_id (EntryPasses p.built) (found_of m).entries.items id x ((p.parsed (p.from.globals ∙ globals)).values) there)
