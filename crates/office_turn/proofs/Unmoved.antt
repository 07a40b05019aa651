-- A step that changes nothing keeps the rule.
use Rattle.std.proofs.Common.{◌≡◌, ℕ, List, Option, get_or, sym, ap, subst}
use lib.ListN.{get_elem?}
use Rattle.atomic_table.specs.Table.{State, Me, keeps, stepped}
use Rattle.atomic_table.proofs.Lists.{set_again}
use Rattle.office_turn.specs.declared.view.View.{View}
use mathlib.Core.Option.{some}
use lib.Seq.{set-get_or}
use Rattle.office_turn.specs.Rule.{Turned}

module _ {V E T : Type 0} (caller : E → ℕ) (story : V → List E) (terms : V → T) (first : T) (most : ℕ) where
  abbrev Known : Type 0
  Known = View E T

  abbrev Whole : Type 0
  Whole = State (Option V) Known

  abbrev Mine : Type 0
  Mine = Me (Option V) Known

  abbrev Rule : Whole → Type 0
  Rule = Turned caller story terms first most

  abbrev pub next : Whole → ℕ
  next s = get_or s.words 0 0

  abbrev pub serving : Whole → ℕ
  serving s = get_or s.words 1 0

  pub next_is : (s : Whole) (r : Rule s) → next s ≡ r.moment.next
  next_is s r = ap (λ ws. get_or ws 0 0) r.words

  pub serving_is : (s : Whole) (r : Rule s) → serving s ≡ r.moment.serving
  serving_is s r = ap (λ ws. get_or ws 1 0) r.words

  -- a step that changes nothing
  pub unmoved : (s : Whole) (i me : ℕ) (v : Known) (cs : List (ℕ × Option V)) → get_elem? s.views me ≡ some v → Rule s → Rule (stepped s i (get_or s.words i 0) me cs v keeps)
  unmoved s i me v cs at r = subst Rule (λ k. record { words = sym (set-get_or s.words i 0) k; homes = s.homes; views = sym (set_again s.views me v at) k }) r
