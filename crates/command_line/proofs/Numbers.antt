-- The options of the command line have a number in their range, after a parse that succeeds.
use Rattle.std.proofs.Common.{◌≡◌, ◌&&◌, ◌∙◌, ◌<◌, ℕ, zero, suc, Bool, true, false, List, [], ◌∷◌, length, map, Option, Some, None, is_some, Result, Ok, Err, IfOk, refl, sym, ap, inl, inr, arith, codes, true≢false}
use Rattle.std.specs.Prelude.{not, pos}
use Rattle.std.specs.List.{list_all, list_any, slice_index_or}
use Rattle.std.specs.Str.{bytes_eq}
use Rattle.std.proofs.lemmas.List.{get_or-map, length-map}
use Rattle.std.proofs.lemmas.List.Folds.{list_any_at}
use Rattle.clap.specs.Words.{App, IsParsedFrom, Rule, app_of, args_of, groups_of, items_of, rule_of, shape_of}
use Rattle.clap.specs.Facts.{least_values, unwrap_or_range}
use Rattle.clap.specs.Walk.{is_simple_arg, texts}
use Rattle.clap.specs.declared.builder.arg.Arg.{Arg}
use Rattle.clap.specs.declared.builder.action.ArgAction.TheVariants.{Set}
use Rattle.clap.specs.declared.builder.command.Command.{Command}
use Rattle.clap.specs.declared.builder.value_parser.ValueParser.TheVariants as vp
use Rattle.clap.specs.declared.parser.matches.ArgMatches.{ArgMatches}
use Rattle.clap.proofs.SimpleLemmas.{is_nil, plain_fields, simple_groups}
use Rattle.clap.proofs.WalkLemmas.{both}
use Rattle.command_line.specs.Office.{NumberOption, gap_option, number_rule, office, seed_option, size_option, trucks_option, word_rule}
use Rattle.command_line.specs.Asking.{HasNumberIn, HasNumbers}
use Rattle.command_line.proofs.Values.{value}

abbrev pub all_rules : List Rule
all_rules =
    word_rule ∷ number_rule seed_option ∷ number_rule size_option ∷ number_rule trucks_option ∷ number_rule gap_option ∷ []

-- whether no rule but the one at the place has the name
abbrev is_only_at : List ℕ → List Rule → ℕ → Bool
is_only_at name [] k = true
is_only_at name (r ∷ rules) zero = not (list_any (λ r. bytes_eq r.id name) rules)
is_only_at name (r ∷ rules) (suc k) = not (bytes_eq r.id name) && is_only_at name rules k

place : (name : List ℕ) (rules : List Rule) (k : ℕ) → is_only_at name rules k ≡ true
    → (j : ℕ) (d : Rule) → j < length rules → bytes_eq (slice_index_or rules j d).id name ≡ true → j ≡ k
place name [] k only j d low same = absurd (omega (arith, low))
place name (r ∷ rules) zero only zero d low same = refl
place name (r ∷ rules) zero only (suc j) d low same =
    let there : list_any (λ r. bytes_eq r.id name) rules ≡ true = list_any_at (λ r. bytes_eq r.id name) rules j d (omega (arith, low)) same in
    absurd (true≢false (sym only ∙ ap not there))
place name (r ∷ rules) (suc k) only zero d low same = absurd (true≢false (sym (both _ _ only).0 ∙ ap not same))
place name (r ∷ rules) (suc k) only (suc j) d low same = ap suc (place name rules k (both _ _ only).1 j d (omega (arith, low)) same)

-- whether an option may have the name: it is neither empty nor that of an option of `clap`'s own
abbrev may_be_named : List ℕ → Bool
may_be_named name = not (list_any (bytes_eq name) ([] ∷ codes "help" ∷ codes "version" ∷ []))

is_none : {X : Type 0} (o : Option X) → not (is_some o) ≡ true → o ≡ None
is_none None e = refl
is_none (Some x) e = absurd (true≢false (sym e))

simple_parts : (a : Arg) → is_simple_arg a ≡ true → (a.default_vals_ifs.items ≡ []) × (a.val_delim ≡ None)
simple_parts a e =
    let p = both _ _ e in
    let q = both _ _ p.1 in
    let r = both _ _ q.1 in
    let s = both _ _ r.1 in
    (is_nil _ q.0, is_none _ s.0)

pub if_ok : {T E : Type 0} (r : Result T E) (P Q : T → Type 0) → ((x : T) → P x → Q x) → IfOk r P → IfOk r Q
if_ok (Ok x) P Q f h = f x h
if_ok (Err e) P Q f h = tt

module _ (cmd : Command) (is : app_of cmd ≡ office) where
  rules : map rule_of (args_of cmd) ≡ all_rules
  rules = ap (λ (a : App). a.top.rules) is

  long : length (args_of cmd) ≡ 5
  long = sym (length-map (args_of cmd) rule_of) ∙ ap length rules

  rule_at : (j : ℕ) (d : Arg) → j < 5 → rule_of (slice_index_or (args_of cmd) j d) ≡ slice_index_or all_rules j (rule_of d)
  rule_at j d low = sym (get_or-map rule_of (args_of cmd) j d (rule_of d) (omega (arith, long))) ∙ ap (λ (rs : List Rule). slice_index_or rs j (rule_of d)) rules

  plain : (shape_of cmd).is_plain ≡ true
  plain = ap (λ (a : App). a.top.is_plain) is

  -- the number at an option, by its place and its rule
  module _ (option : NumberOption) (k : ℕ) (low : k < 5) (here : (d : Rule) → slice_index_or all_rules k d ≡ number_rule option)
      (only : is_only_at option.name all_rules k ≡ true) (may : may_be_named option.name ≡ true) where
    not_named : (name : List ℕ) → option.name ≡ name → may_be_named name ≡ false → ⊥
    not_named name e hidden = true≢false (sym may ∙ ap may_be_named e ∙ hidden)

    rule : (d : Arg) → rule_of (slice_index_or (args_of cmd) k d) ≡ number_rule option
    rule d = rule_at k d low ∙ here (rule_of d)

    id_is : (d : Arg) → (slice_index_or (args_of cmd) k d).id.now ≡ option.name
    id_is d = ap (λ (r : Rule). r.id) (rule d)

    unique : (d : Arg) (j : ℕ) (e : Arg) → j < length (args_of cmd) → bytes_eq (slice_index_or (args_of cmd) j e).id.now (slice_index_or (args_of cmd) k d).id.now ≡ true → j ≡ k
    unique d j e lt same =
        let within : j < 5 = omega (arith, long) in
        let id_at : (slice_index_or (args_of cmd) j e).id.now ≡ (slice_index_or all_rules j (rule_of e)).id = ap (λ (r : Rule). r.id) (rule_at j e within) in
        place option.name all_rules k only j (rule_of e) within (sym (ap (λ t. bytes_eq t option.name) id_at) ∙ sym (ap (bytes_eq (slice_index_or (args_of cmd) j e).id.now) (id_is d)) ∙ same)

    numbers : (m : ArgMatches) (p : IsParsedFrom cmd m) (d : Arg) → HasNumberIn option m
    numbers m p d =
        let fields = plain_fields cmd plain in
        let no_groups : groups_of p.built ≡ [] = (p.from.same_groups (simple_groups cmd (ap (λ (a : App). list_all (λ r. r.is_simple) a.top.rules) is))).1 ∙ fields.groups in
        let parser : (slice_index_or (args_of cmd) k d).value_parser ≡ Some (vp.Signed (pos option.least) (pos option.most)) = ap (λ (r : Rule). r.parser) (rule d) in
        let simple : is_simple_arg (slice_index_or (args_of cmd) k d) ≡ true = ap (λ (r : Rule). r.is_simple) (rule d) in
        let set : (slice_index_or (args_of cmd) k d).action ≡ Some Set = ap (λ (r : Rule). r.action) (rule d) in
        let least_is : least_values (slice_index_or (args_of cmd) k d) ≡ 1 = ap (λ (r : Rule). (unwrap_or_range r.range).start_inclusive) (rule d) in
        let one_default : length (texts (items_of (slice_index_or (args_of cmd) k d).default_vals)) ≡ 1 = ap (λ (r : Rule). length r.defaults) (rule d) in
        let parts = simple_parts (slice_index_or (args_of cmd) k d) simple in
        value cmd m p k d (omega (arith, long)) (unique d) (λ auto. elim auto [ inl h ↦ not_named _ (sym (id_is d) ∙ h) refl | inr h ↦ not_named _ (sym (id_is d) ∙ h) refl ]) (vp.Signed (pos option.least) (pos option.most)) parser
        fields.globals no_groups (parts.0, omega (arith, one_default, length-map (items_of (slice_index_or (args_of cmd) k d).default_vals) (λ s. s.now))) set parts.1 (omega (arith, least_is)) option.name (sym (id_is d)) (λ empty. not_named [] empty refl)

one_of_five : (xs : List Arg) → length xs ≡ 5 → Arg
one_of_five [] e = absurd (omega (arith, e))
one_of_five (x ∷ xs) e = x

pub has_numbers : (cmd : Command) (m : ArgMatches) → app_of cmd ≡ office → IsParsedFrom cmd m → HasNumbers m
has_numbers cmd m is p =
    let arg = one_of_five (args_of cmd) (long cmd is) in
    record {
      seed = numbers cmd is seed_option 1 (omega arith) (λ r. refl) refl refl m p arg;
      size = numbers cmd is size_option 2 (omega arith) (λ r. refl) refl refl m p arg;
      trucks = numbers cmd is trucks_option 3 (omega arith) (λ r. refl) refl refl m p arg;
      gap = numbers cmd is gap_option 4 (omega arith) (λ r. refl) refl refl m p arg;
    }
