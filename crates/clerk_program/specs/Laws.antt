-- What follows of a certificate, of a day that is carried over, and of a run of the clerk's program.
use Rattle.std.specs.Prelude.{◌≡◌, ◌⊎◌, ◌↔◌, ℕ, Bool, List, Option, None}
use Rattle.command_line.specs.declared.asked.ClerkTask.{ClerkTask}
use Rattle.permit_program.specs.Command.{Answer}
use Rattle.permit_program.specs.Runs.{IsRun, Outside}
use Rattle.clerk_program.specs.Carry.{IsCarried, carry}
use Rattle.clerk_program.specs.Certify.{IsCertificate, certify}
use Rattle.clerk_program.specs.Clerk.{clerk_command_of, permit_clerk}

-- bytes are judged in one way alone
abbrev pub ClerkJudgesOnce : Type 0
ClerkJudgesOnce = (task : ClerkTask) (bytes : List ℕ) (a b : Option Answer) → (clerk_command_of task).Judges bytes a
    → (clerk_command_of task).Judges bytes b → a ≡ b

-- bytes are taken exactly where a text keeps the promise of `certify`
abbrev pub TakesWhatItPromises : Type 0
TakesWhatItPromises = (bytes : List ℕ) → certify.Judges bytes None ↔ ((text : List ℕ) × IsCertificate bytes text)

-- and exactly where one keeps that of `carry`
abbrev pub CarriesWhatItPromises : Type 0
CarriesWhatItPromises = (in_force : Bool) (bytes : List ℕ) → (carry in_force).Judges bytes None ↔ ((text : List ℕ) × IsCarried in_force bytes text)

-- every status that comes
abbrev pub IsClerkStatus : ℕ → Type 0
IsClerkStatus status =
    (status ≡ 0) ⊎ (status ≡ 2) ⊎ (status ≡ 3) ⊎ (status ≡ 4) ⊎ (status ≡ 5) ⊎ (status ≡ 6) ⊎ (status ≡ 7) ⊎ (status ≡ 9)

-- no run ends with another one
abbrev pub ClerkStatusesAreNamed : Type 0 → Type 0 → Type 0
ClerkStatusesAreNamed S K = (asked : Option ClerkTask) (before after : Outside S K) (status : ℕ)
    → IsRun permit_clerk asked before after status → IsClerkStatus status
