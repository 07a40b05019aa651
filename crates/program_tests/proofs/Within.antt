-- One subscriber to whom a list may be delivered.
use Rattle.std.proofs.Common.{◌≡◌, ℕ, ◌≤◌, List, [], ◌∷◌, length, arith}
use Rattle.std.proofs.lemmas.List.Elements.{All-cons, All-nil}
use Rattle.notice_desk.specs.declared.notice.Recall.{Recall}
use Rattle.notice_desk.specs.Standings.{AreWithinRecalls, At, Standing}

pub one_within : (ss : List Standing) (recalls : List Recall) (passed : ℕ) → length ss ≡ 1 → At ss 0 (λ s. passed ≡ s.passed) → passed ≤ length recalls → AreWithinRecalls recalls ss
one_within [] recalls passed one at few = absurd at
one_within (s ∷ []) recalls passed one at few = All-cons (λ x. x.passed ≤ length recalls) s [] (omega (arith, at, few)) (All-nil (λ x. x.passed ≤ length recalls))
one_within (s ∷ t ∷ rest) recalls passed one at few = absurd (omega (arith, one))
