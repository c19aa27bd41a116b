-- What every state is that is written, and that is read: well formed and in range.
use Rattle.std.specs.Prelude.{◌≡◌, ℕ, ◌^◌, ◌<◌, ◌≤◌, false, [], length, All, IfSome}
use Rattle.q3_text.specs.Texts.{IsText}
use Rattle.q3_config.specs.Strings.{AreStrings}
use Rattle.q3_config.specs.Laws.{HoldTexts}
use Rattle.q3_entity.specs.Entities.{IsList, AreStates, AreNormal}
use Rattle.q3_entity.specs.Baselines.{AreBaselines}
use Rattle.q3_player.specs.State.{IsState, IsNormal}
use Rattle.q3_profile.specs.declared.profile.Profile.{Profile}
use Rattle.q3_rings.specs.Rings.{HeldSnapshot, HeldSnapshots, AreHeldSnapshots, is_young}
use Rattle.q3_rings.specs.ByNumber.{HoldsNewest}
use Rattle.q3_savestate.specs.State.{Saved}

-- what is held of a snapshot, in a ring with so much room: its head, its entities, of which none is left where it is too old, and an age of
-- 32 bits
pub record IsHeldWell (profile : Profile) (ring : ℕ) (held : HeldSnapshot) : Type 0 where
  pub number : held.snapshot.head.number < 2 ^ 31
  pub time : held.snapshot.head.time < 2 ^ 32
  pub flags : held.snapshot.head.flags < 256
  pub area : All (λ byte. byte < 256) held.snapshot.head.area.items
  pub short : length held.snapshot.head.area.items ≤ 32
  pub player : IsState held.snapshot.head.player
  pub normal_player : IsNormal profile.player.kinds held.snapshot.head.player
  pub entities : IsList profile.entity held.snapshot.entities
  pub states : AreStates held.snapshot.entities
  pub normal : AreNormal profile.entity held.snapshot.entities
  pub gone : is_young ring held.age ≡ false → held.snapshot.entities ≡ []
  pub age : held.age < 2 ^ 32

pub record AreWellHeld (profile : Profile) (snapshots : HeldSnapshots) : Type 0 where
  pub room : snapshots.ring ≡ profile.parse_ring
  pub held : AreHeldSnapshots snapshots
  pub newest : HoldsNewest snapshots
  pub each : All (λ place. IfSome place (IsHeldWell profile snapshots.ring)) snapshots.places

pub record IsSaved (profile : Profile) (saved : Saved) : Type 0 where
  pub number : saved.number < 2 ^ 31
  pub executed : saved.executed.executed < 2 ^ 32
  pub last : IsText saved.executed.last
  pub id : saved.id < 2 ^ 31
  pub slot : saved.slot < 2 ^ 32
  pub feed : saved.feed < 2 ^ 32
  pub strings : AreStrings saved.strings
  pub texts : HoldTexts saved.strings
  pub baselines : AreBaselines profile.entity saved.baselines
  pub held : AreWellHeld profile saved.held
