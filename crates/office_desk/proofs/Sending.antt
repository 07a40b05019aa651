-- What may go to other threads, or be shared by them, since each of its fields may: an office, and by it a pass, a desk and
-- a seat.
use Rattle.std.proofs.Common.{[], ◌∷◌}
use denote.Builtin.{u32}
use denote.Param.Send.{IsSend, IsSync, shr_send, view_sync}
use denote.Param.SendFields.{as_row_send, declared_send, declared_sync}
use denote.RattleType.{RattleType}
use denote.Ref.{NamedLft, ShrRef}
use denote.Struct.Field.{row_field, shr_ref_field}
use denote.Struct.Tuple.{Tuple}
use Rattle.std.specs.declared.sync.ledger.Ledger.{Ghosts}
use Rattle.permit_days.specs.contracts.day.Day as Day
use Rattle.trip_analysis.specs.contracts.base.Base as Base
use Rattle.office_words.specs.contracts.entry.Entry as Entry
use Rattle.office_core.proofs.Sending.{counted_send}
use Rattle.office_turn.proofs.pass.Pass.TheSendSync as pass
use Rattle.office_turn.proofs.turn.Turn.TheSendSync as turn
use Rattle.office_turn.specs.contracts.pass.Pass as Pass
use Rattle.office_desk.specs.contracts.desk.Desk as Desk
use Rattle.office_desk.specs.contracts.desk.Desk.TheInside.{the_row as inside_row, the_type as inside_type}
use Rattle.office_desk.specs.contracts.shared_office.SharedOffice as SharedOffice
use Rattle.office_desk.specs.contracts.shared_office.SharedOfficeStoried.TheImpl.{ghosts as story, no_dict}
use Rattle.office_desk.specs.contracts.seat.Seat as Seat

module _ (L : RattleType) (ledger : Ghosts L.Denot) where
  abbrev shared_office : RattleType
  shared_office = SharedOffice.the_row L ledger

  pub shared_office_send : IsSend shared_office
  shared_office_send = search (declared_send, counted_send, tt) depth 8

  abbrev terms_row : RattleType
  terms_row = Tuple (Base.the_row ∷ Day.the_row ∷ u32 ∷ [])

  pub pass_send : IsSend (Pass.the_row shared_office Entry.the_row terms_row (story L ledger no_dict))
  pass_send = pass.the_send shared_office Entry.the_row terms_row (story L ledger no_dict) shared_office_send

  inside_sync : IsSync (inside_row L ledger)
  inside_sync = declared_sync (inside_type L ledger) (turn.the_sync shared_office Entry.the_row terms_row (story L ledger no_dict) shared_office_send, tt)

  pub desk_sync : IsSync (Desk.the_row L ledger)
  desk_sync = search (view_sync, inside_sync)

  pub seat_send : (κ : NamedLft) (R : RattleType) → IsSync R → IsSend (Seat.the_row κ R L ledger)
  seat_send κ R sync = declared_send (Seat.the_type κ R L ledger) (
    as_row_send (row_field (ShrRef κ.mir κ.lft R)) (shr_send κ.mir κ.lft R sync),
    (as_row_send (shr_ref_field κ (Desk.the_row L ledger) tt) (shr_send κ.mir κ.lft (Desk.the_row L ledger) desk_sync), (pass_send, tt)),
  )
