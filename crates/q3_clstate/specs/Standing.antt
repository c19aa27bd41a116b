-- What every state is that messages left: all that it holds is well formed and in range.
use Rattle.std.specs.Prelude.{◌≡◌, ℕ, ◌^◌, ◌<◌, false, [], All, IfSome}
use Rattle.q3_text.specs.Texts.{IsText}
use Rattle.q3_config.specs.Strings.{AreStrings}
use Rattle.q3_config.specs.Laws.{HoldTexts}
use Rattle.q3_player.specs.State.{IsNormal}
use Rattle.q3_entity.specs.Entities.{AreNormal}
use Rattle.q3_entity.specs.Baselines.{AreBaselines}
use Rattle.q3_profile.specs.declared.profile.Profile.{Profile}
use Rattle.q3_profile.specs.Profile.{IsCodec}
use Rattle.q3_svmsg.specs.Laws.{IsHead, AreEntities}
use Rattle.q3_rings.specs.Rings.{HeldSnapshot, AreHeldSnapshots, is_young}
use Rattle.q3_rings.specs.ByNumber.{HoldsNewest}
use Rattle.q3_clstate.specs.State.{AppliedState}

-- what is held of a snapshot, in a ring with so much room: its head, and its entities, of which none is left where it is too old
pub record IsWellHeld (profile : Profile) (ring : ℕ) (held : HeldSnapshot) : Type 0 where
  pub head : IsHead held.snapshot.head
  pub player : IsNormal profile.player.kinds held.snapshot.head.player
  pub entities : AreEntities profile held.snapshot.entities
  pub normal : AreNormal profile.entity held.snapshot.entities
  pub gone : is_young ring held.age ≡ false → held.snapshot.entities ≡ []

-- the profile has a code and tables; numbers are in their ranges; the last text is one; the config strings and the pending text are
-- within their limits, of bytes that a text may hold; the baselines and all that is held of snapshots are in normal form, by rising
-- number; and the ring has the profile's room
pub record IsApplied (state : AppliedState) : Type 0 where
  pub profile : IsCodec state.profile
  pub number : state.number < 2 ^ 32
  pub executed : state.executed.executed < 2 ^ 32
  pub last : IsText state.executed.last
  pub id : state.id < 2 ^ 31
  pub slot : state.slot < 2 ^ 32
  pub feed : state.feed < 2 ^ 32
  pub strings : AreStrings state.strings
  pub texts : HoldTexts state.strings
  pub baselines : AreBaselines state.profile.entity state.baselines
  pub room : state.held.ring ≡ state.profile.parse_ring
  pub held : AreHeldSnapshots state.held
  pub newest : HoldsNewest state.held
  pub snapshots : All (λ place. IfSome place (IsWellHeld state.profile state.held.ring)) state.held.places
