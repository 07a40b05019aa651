-- What may go to another thread, since each of its fields may: an office and all that it keeps, and by it a seat. A search
-- that goes down through all of it at once runs out of steps, so each part has its lemma.
use Rattle.std.proofs.Common.{[], ◌∷◌}
use denote.Param.Send.{IsSend, sendable, view_send}
use denote.Param.SendFields.{FieldsHave, declared_send}
use denote.RattleType.{RattleType}
use denote.Ref.{NamedLft}
use denote.Struct.Field.{u32-field}
use Rattle.std.proofs.Crossing.{Arc-send, Vec-send, crosses, send as heap_send}
use Rattle.std.specs.contracts.alloc.Global as Global
use Rattle.std.specs.contracts.impls.GlobalAllocator.TheImpl.{ghosts}
use Rattle.std.specs.contracts.option.Option as Last
use Rattle.std.specs.contracts.snapshot.Snapshot as Told
use Rattle.std.specs.contracts.sync.Arc as Arc
use Rattle.std.specs.contracts.vec.Vec as Vec
use Rattle.std.specs.declared.sync.ledger.Ledger.{Ghosts}
use Rattle.restriction_log.proofs.log.Log.TheSendSync as log
use Rattle.restriction_log.proofs.stamps.Stamps.TheSendSync as stamps
use Rattle.restriction_log.proofs.state.State.TheSendSync as state
use Rattle.snapshot_store.specs.contracts.snapshot.Snapshot as Snapshot
use Rattle.snapshot_store.specs.contracts.store.Store as Store
use Rattle.clearance_rules.proofs.steps.Steps.TheSendSync as steps
use Rattle.clearance_rules.specs.contracts.steps.Steps as Steps
use Rattle.permit_days.proofs.day.Day.TheSendSync as day
use Rattle.permit_days.specs.contracts.day.Day as Day
use Rattle.permit_book.proofs.book.Book.TheSendSync as book
use Rattle.permit_book.specs.contracts.book.Book as Book
use Rattle.recall_index.proofs.index.Index.TheSendSync as index
use Rattle.recall_index.specs.contracts.index.Index as Index
use Rattle.trip_analysis.proofs.analyst.Analyst.TheSendSync as analyst
use Rattle.trip_analysis.proofs.base.Base.TheSendSync as base
use Rattle.trip_analysis.specs.contracts.analyst.Analyst as Analyst
use Rattle.trip_analysis.specs.contracts.base.Base as Base
use Rattle.trip_analysis.specs.contracts.follower.Follower as Follower
use Rattle.office_words.specs.contracts.entry.Entry as Entry
use Rattle.office_core.specs.contracts.counted.CountedOffice as CountedOffice
use Rattle.office_core.specs.contracts.office.Office as Office
use Rattle.office_core.specs.contracts.register.Register as Register
use Rattle.office_core.specs.contracts.seat.OneSeat as OneSeat

store_send : IsSend Store.the_row
store_send = search (sendable, crosses, log.the_send, state.the_send, state.the_sync, stamps.the_send, stamps.the_sync) depth 20

snapshot_send : IsSend Snapshot.the_row
snapshot_send = search (sendable, crosses, state.the_send, state.the_sync, stamps.the_send, stamps.the_sync) depth 20

last_send : IsSend (Last.the_row Snapshot.the_row)
last_send = search (sendable, crosses, snapshot_send) depth 20

follower_fields : FieldsHave IsSend (Told.the_field Base.the_row ∷ Analyst.the_field ∷ Last.the_field Snapshot.the_row ∷ [])
follower_fields = (search (sendable, crosses), (analyst.the_send, (last_send, tt)))

follower_send : IsSend Follower.the_row
follower_send = search (view_send, declared_send, follower_fields)

register_fields : FieldsHave IsSend (Global.the_field ∷ Arc.the_field Base.the_row Global.the_row ghosts ∷ Day.the_field ∷ Store.the_field ∷ Book.the_field ∷ Index.the_field ∷ Follower.the_field ∷ [])
register_fields = (heap_send, (Arc-send Base.the_row base.the_send base.the_sync, (day.the_send, (store_send, (book.the_send, (index.the_send, (follower_send, tt)))))))

register_send : IsSend Register.the_row
register_send = search (view_send, declared_send, register_fields)

entry_send : IsSend Entry.the_row
entry_send = search (sendable, crosses) depth 40 fits 20000

office_fields : FieldsHave IsSend (Register.the_field ∷ Day.the_field ∷ u32-field ∷ Vec.the_field Entry.the_row Global.the_row ghosts ∷ [])
office_fields = (register_send, (day.the_send, (search sendable, (Vec-send Entry.the_row entry_send, tt))))

pub office_send : IsSend Office.the_row
office_send = search (view_send, declared_send, office_fields)

reading_send : (L : RattleType) (ledger : Ghosts L.Denot) → IsSend (Told.the_row (Steps.the_row L ledger))
reading_send L ledger = search (sendable, crosses)

counted_fields : (L : RattleType) (ledger : Ghosts L.Denot)
    → FieldsHave IsSend (Office.the_field ∷ Steps.the_field L ledger ∷ Vec.the_field (Told.the_row (Steps.the_row L ledger)) Global.the_row ghosts ∷ [])
counted_fields L ledger = (office_send, (search (steps.the_send, tt), (Vec-send (Told.the_row (Steps.the_row L ledger)) (reading_send L ledger), tt)))

pub counted_send : (L : RattleType) (ledger : Ghosts L.Denot) → IsSend (CountedOffice.the_row L ledger)
counted_send L ledger = search (view_send, declared_send, counted_fields L ledger)

pub seat_send : (κ : NamedLft) (L : RattleType) (ledger : Ghosts L.Denot) → IsSend (OneSeat.the_row κ L ledger)
seat_send κ L ledger = search (sendable, crosses, counted_send) depth 40 fits 20000
