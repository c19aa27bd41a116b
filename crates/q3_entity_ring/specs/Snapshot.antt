-- A snapshot as a value.
use Rattle.std.specs.Prelude.{List, []}
use Rattle.q3_player.specs.declared.head.SnapHead.{SnapHead}
use Rattle.q3_entity.specs.declared.state.EntityState.{EntityState}

-- a snapshot: what is said of it, and its entities by rising number
pub record Snapshot : Type 0 where
  pub head : SnapHead
  pub entities : List EntityState

-- the snapshot with none of its entities
abbrev pub without_entities : Snapshot → Snapshot
without_entities snapshot = record snapshot { entities = [] }
