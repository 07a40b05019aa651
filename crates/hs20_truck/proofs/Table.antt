-- Tables of what is kept for spans of each length.
use Rattle.std.proofs.Common.{◌≡◌, ℕ, ◌+◌, ◌-◌, ◌≤◌, ◌↔◌, true, leb, List, length, get_or, set, replicate, arith, sym, ap, subst, ◌∙◌, inl, inr}
use Rattle.std.proofs.lemmas.List.{length-set, length-replicate, get_or-set_other, get_or-replicate, get_or_past}
use Rattle.std.proofs.lemmas.Grind.{get_or-set_at}
use Rattle.std.proofs.lemmas.Bool.{cases_eq, cases_lt, leb-true, le-leb}
use Rattle.axle_train.specs.declared.axle.Axle.{Axle}
use Rattle.span_rating.specs.Carrying.{Carries, CarriesFrom}
use Rattle.hs20_truck.specs.Kept.{IsNumberFor, IsTable}

-- 0 says nothing
nothing_kept : (axles : List Axle) (inches number : ℕ) → number ≡ 0 → IsNumberFor axles inches number
nothing_kept axles inches number zero least e = absurd (omega arith)

-- one more than the least rating says so
one_more : (axles : List Axle) (inches least number : ℕ) → CarriesFrom axles inches least → number ≡ least + 1 → IsNumberFor axles inches number
one_more axles inches least number is e other f =
    let same : least ≡ other = omega arith in
    subst (λ (n : ℕ). CarriesFrom axles inches n) same is

zero_at : (zeros : List ℕ) (n k : ℕ) → zeros ≡ replicate n 0 → get_or zeros k 0 ≡ 0
zero_at zeros n k are =
    let many : length zeros ≡ n = simp (are, length-replicate) in
    elim (cases_lt k n) [
      | inl inside ↦ rw are (get_or-replicate n k 0 0 inside)
      | inr past ↦ get_or_past zeros k 0 (rw many past)
    ]

-- a table of zeros
pub table_of_zeros : (axles : List Axle) (numbers : List ℕ) (n : ℕ) → n ≡ 6001 → numbers ≡ replicate n 0 → IsTable axles numbers
table_of_zeros axles numbers n long are = record {
  many = ap length are ∙ length-replicate n 0 ∙ long;
  each = λ k. nothing_kept axles k (get_or numbers k 0) (zero_at numbers n k are);
}

-- a table with one more length
pub table_with : (axles : List Axle) (numbers new : List ℕ) (inches least : ℕ) → inches ≤ 6000 → IsTable axles numbers → CarriesFrom axles inches least
    → new ≡ set numbers inches (least + 1) → IsTable axles new
table_with axles numbers new inches least long is from put = record {
  many = ap length put ∙ length-set numbers inches (least + 1) ∙ is.many;
  each = λ k. elim (cases_eq k inches) [
    | inl here ↦ one_more axles k least (get_or new k 0) (subst (λ (n : ℕ). CarriesFrom axles n least) (sym here) from)
        (ap (λ (l : List ℕ). get_or l k 0) put ∙ get_or-set_at numbers inches k (least + 1) 0 here (rw is.many (omega arith)))
    | inr other ↦ subst (IsNumberFor axles k) (sym (ap (λ (l : List ℕ). get_or l k 0) put ∙ get_or-set_other numbers inches k (least + 1) 0 other)) (is.each k)
  ];
}

-- a number that says something says with which ratings the truck is carried
pub kept_says : (axles : List Axle) (inches number rating : ℕ) → IsNumberFor axles inches number → (number ≡ 0 → ⊥) → rating ≤ 100000
    → (leb (number - 1) rating ≡ true) ↔ Carries axles inches rating
kept_says axles inches number rating is some long =
    let from = is (number - 1) (omega arith) rating long in
    (λ h. from.1 (leb-true (number - 1) rating h), λ carries. le-leb (number - 1) rating (from.0 carries))
