-- What is written, whole or in part.
use Rattle.std.proofs.Common.{◌≡◌, ℕ, List, Result, Ok, Err, length, take, sym, subst, refl, inl, inr, arith}
use Rattle.std.proofs.Math.Seq.{take-length}
use Rattle.std.specs.Prelude.{OnOk, OnErr, IfErr}
use Rattle.std.specs.Io.KnownBytes.{Appends}
use Rattle.office_io.specs.Causes.{AppendedPart}
use Rattle.office_io.specs.declared.sink.WriteFault.{WriteFault}
use Rattle.permit_program.specs.Endings.{AnswersText}
use Rattle.permit_program.specs.Runs.{SinkAt, SinkFailed, WroteLine}

-- what a call that writes a line says of it
pub written_line : {K : Type 0} (line : List ℕ) (before after : SinkAt K) (written : Result (Unit {0}) WriteFault)
    → OnOk written (Appends before.held after.held line) → IfErr written (AppendedPart before.held after.held line) → OnErr written (SinkFailed before after) → WroteLine line before after
written_line line before after (Ok x) all part rose = record { front = (length line, subst (Appends before.held after.held) (sym (take-length line)) all); whole = λ calm. all }
written_line line before after (Err fault) all part rose = record { front = (fault.written, part); whole = λ calm. absurd (calm rose) }

-- a text that was written whole, and one of which a front was
pub whole_text : {K : Type 0} (text : List ℕ) (before after : SinkAt K) → Appends before.held after.held text → after.faults ≡ before.faults → AnswersText text before after 0
whole_text text before after wrote calm = record { whole = λ is. (wrote, calm); front = λ is. absurd (omega (arith, is)); statuses = inl refl }
