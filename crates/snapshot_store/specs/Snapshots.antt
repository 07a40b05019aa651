-- What holds of a snapshot.
use Rattle.std.specs.Prelude.{◌≡◌}
use Rattle.std.specs.Arc.{arc_value}
use Rattle.snapshot_store.specs.declared.snapshot.Snapshot.TheInside.{Inside}
use Rattle.snapshot_store.specs.Stores.{IsStoreKept, store_version_of}

-- it has the version, the state and the stamps of the store from which it was taken
pub record IsSnapshot (s : Inside) : Type 0 where
  pub version : s.version ≡ store_version_of s.store.value
  pub kept : IsStoreKept s.store.value (arc_value s.state) (arc_value s.stamps)
