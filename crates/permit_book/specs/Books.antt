-- A book of permits, and why a permit is not issued.
use Rattle.std.specs.Prelude.{◌≡◌, ◌≤◌, nat_le, List, length, Option, Some, None, if◌then◌else◌}
use Rattle.permit_book.specs.declared.permit.Permit.{Permit}
use Rattle.permit_book.specs.declared.refusal.BookRefusal.{BookRefusal}
use Rattle.permit_book.specs.declared.refusal.BookRefusal.TheVariants.{Full, NoMemory}
use Rattle.permit_book.specs.Permits.{AreNumbered}

-- permits are numbered by their places, from 1 on, and there are at most 1,000,000
pub record IsBook (permits : List Permit) : Type 0 where
  pub numbered : AreNumbered 0 permits
  pub few : length permits ≤ 1000000

-- why a permit is not issued: there are 1,000,000
abbrev pub issue_refusal : List Permit → Option BookRefusal
issue_refusal permits = if nat_le 1000000 (length permits) then Some Full else None

-- the refusal is the cause that applies; that no memory was left comes only where none applies
abbrev pub IsIssueCause : Option BookRefusal → BookRefusal → Type 0
IsIssueCause cause NoMemory = cause ≡ None
IsIssueCause cause refusal = cause ≡ Some refusal
