-- What the program lends of a frame.
use Rattle.std.specs.Prelude.{ℕ, List}
use Rattle.q3_player.specs.declared.state.PlayerState.{PlayerState}
use Rattle.q3_entity.specs.declared.state.EntityState.{EntityState}
use Rattle.q3_entity.specs.Entities.{run_of}
use Rattle.q3_entity_ring.specs.Snapshot.{Snapshot}
use Rattle.q3_frames.specs.declared.frames.Base.{Base}

-- a number, a player and entities
pub record Loan : Type 0 where
  pub number : ℕ
  pub player : PlayerState
  pub entities : List EntityState

-- those of a base, as the program lends it
abbrev pub loan_of : Base → Loan
loan_of base = record { number = base.number; player = base.player.now; entities = run_of base.entities }

-- and those of a snapshot
abbrev pub loan_from : Snapshot → Loan
loan_from snapshot = record { number = snapshot.head.number; player = snapshot.head.player; entities = snapshot.entities }
