-- What is said of a history of which nothing is known.
use Rattle.std.specs.Prelude.{◌≡◌, ◌<◌, ◌+◌, ℕ, List, length, take}
use Rattle.trip_analysis.specs.Bases.{BaseLists}
use Rattle.office_words.specs.declared.entry.Entry.{Entry}
use Rattle.office_core.specs.Machine.{IsLegal, machine_of}
use Rattle.office_core.specs.Registers.{RegisterParts}
use Rattle.journal_audit.specs.declared.verdict.Audited.{Audited}
use Rattle.journal_audit.specs.declared.verdict.Audited.TheVariants as legal_with
use Rattle.journal_audit.specs.declared.verdict.Verdict.{Verdict}
use Rattle.journal_audit.specs.declared.verdict.Verdict.TheVariants.{Bad, Legal}

-- the first n entries are a legal history, and the first n + 1 are none: so n is the least such number
pub record IsFirstBad (base : BaseLists) (day : List ℕ) (es : List Entry) (n : ℕ) : Type 0 where
  pub there : n < length es
  pub before : IsLegal base day (take n es)
  pub bad : IsLegal base day (take (n + 1) es) → ⊥

-- what a verdict says of a history
abbrev pub IsVerdict : BaseLists → List ℕ → List Entry → Verdict → Type 0
IsVerdict base day es Legal = IsLegal base day es
IsVerdict base day es (Bad n) = IsFirstBad base day es n

-- what an office keeps behind a history: it is about the base, and its machine is the one that the entries leave
pub record IsLeftBy (base : BaseLists) (day : List ℕ) (es : List Entry) (office : RegisterParts) : Type 0 where
  pub base_is : office.base ≡ base
  pub machine : office.machine ≡ machine_of base day es

-- what a verdict says of a history, where a legal one leaves what this office keeps
abbrev pub LeavesVerdict : BaseLists → List ℕ → List Entry → RegisterParts → Verdict → Type 0
LeavesVerdict base day es office Legal = IsLegal base day es × IsLeftBy base day es office
LeavesVerdict base day es office (Bad n) = IsFirstBad base day es n

-- what is said of a history that was gone through: it is legal and this is what an office keeps behind it, or its first bad entry
abbrev pub IsAudited : BaseLists → List ℕ → List Entry → Audited → Type 0
IsAudited base day es (legal_with.Legal office) = IsLegal base day es × IsLeftBy base day es office
IsAudited base day es (legal_with.Bad n) = IsFirstBad base day es n

-- one verdict is right for a history: so a legal one is called legal, and one that is not legal has one first bad entry
abbrev pub VerdictsAreOne : Type 0
VerdictsAreOne = (base : BaseLists) (day : List ℕ) (es : List Entry) (v w : Verdict) → IsVerdict base day es v → IsVerdict base day es w → v ≡ w
