-- What every server keeps, whatever was handed in and whatever came, so that what it begins is well formed.
use Rattle.std.specs.Prelude.{◌≡◌, ◌≢◌, ℕ, ◌+◌, ◌^◌, ◌<◌, true, List, All, Option, Some, None, IfSome}
use Rattle.q3_profile.specs.declared.profile.Profile.{Profile}
use Rattle.q3_profile.specs.Profile.{IsCodec}
use Rattle.q3_text.specs.Texts.{IsTextByte}
use Rattle.q3_chan.specs.Checks.{check_for}
use Rattle.q3_chan.specs.Datagrams.{client_form, server_header}
use Rattle.q3_chan.specs.Laws.{EndsGather, EndsSend}
use Rattle.q3_strings.specs.Laws.{NumberedAreCommands}
use Rattle.q3_config.specs.Strings.{AreStrings, server_id}
use Rattle.q3_config.specs.Laws.{StringsStay, TextsStay}
use Rattle.q3_player.specs.Laws.{NormalIsNormal, ZeroIsNormal}
use Rattle.q3_entity.specs.Laws.{NormalIsNormal as EntityNormalIsNormal, NoneAreBaselines, BaselineIsAdded}
use Rattle.q3_entity.specs.Baselines.{AreBaselines}
use Rattle.q3_frames.specs.Frames.{FramesState, held_frame}
use Rattle.q3_frames.specs.Laws.{NothingIsHeld, HeldWasBuilt, BaseIsNear}
use Rattle.q3_map.specs.Laws.{ListsStayHeld, NewMapsTell}
use Rattle.q3_map.specs.Map.{MapState, AreHeld}
use Rattle.q3_built.specs.Built.{IsHeld, IsArea, IsSnapshot, IsBuilt}
use Rattle.q3_slot.specs.Slot.{SlotState}
use Rattle.q3_server.specs.Server.{ServerState, slot_at, emit_at}

-- the map as the game handed it in: the strings are ones that a gamestate may carry, the first tells the map's id, and the baselines and
-- entities are in normal form
pub record IsMap (profile : Profile) (map : MapState) : Type 0 where
  pub id : map.id < 2 ^ 31
  pub feed : map.feed < 2 ^ 32
  pub time : map.time < 2 ^ 32
  pub strings : AreStrings map.strings
  pub texts : All (All IsTextByte) map.strings.texts
  pub pending : map.strings.pending ≡ None
  pub tells : map.id ≢ 0 → server_id map.strings ≡ Some map.id
  pub baselines : AreBaselines profile.entity map.baselines
  pub entities : AreHeld profile.entity map.entities

-- a client on a map of this id: its player is in normal form, its area bytes are bytes and few, and a gamestate is owed on a map alone;
-- what goes to it has the header of a server, and what its slot hears the form of a client, by its challenge and the protocol
pub record IsJoined (profile : Profile) (id : ℕ) (slot : SlotState) : Type 0 where
  pub player : IsHeld profile slot.player
  pub area : IsArea slot.area.items
  pub owed : slot.owed ≡ true → id ≢ 0
  pub sends : slot.sending.header ≡ server_header (check_for profile.protocol slot.challenge)
  pub hears : slot.gathering.form ≡ client_form (check_for profile.protocol slot.challenge)

-- each client is so
pub record AreJoined (profile : Profile) (id : ℕ) (slots : List (Option SlotState)) : Type 0 where
  pub each : All (λ (found : Option SlotState). IfSome found (IsJoined profile id)) slots

-- each frame that is held is a snapshot as it is built
pub record HoldSnapshots (profile : Profile) (frames : FramesState) : Type 0 where
  pub each : (c number : ℕ) → IfSome (held_frame frames c number) (IsSnapshot profile)

-- a server: its profile has a code and tables, and the map, each client and each frame are so
pub record IsServer (profile : Profile) (map : MapState) (slots : List (Option SlotState)) (frames : FramesState) : Type 0 where
  pub codec : IsCodec profile
  pub is_map : IsMap profile map
  pub clients : AreJoined profile map.id slots
  pub snapshots : HoldSnapshots profile frames

-- and as one value
abbrev pub IsServerState : ServerState → Type 0
IsServerState server = IsServer server.profile server.map server.slots server.frames

-- what is begun for the client in a slot is a message as a server builds it
abbrev pub BeginsBuilt : ServerState → ℕ → Type 0
BeginsBuilt server c =
    IfSome (slot_at server c) (λ slot. IfSome (emit_at server c).began (IsBuilt server.profile slot.challenge (slot.sending.number + 1)))

-- the laws of lower crates on which that rests
pub record Below : Type 0 where
  pub commands : NumberedAreCommands
  pub entity : EntityNormalIsNormal
  pub no_baselines : NoneAreBaselines
  pub baseline : BaselineIsAdded
  pub player : NormalIsNormal
  pub zero : ZeroIsNormal
  pub lists : ListsStayHeld
  pub maps : NewMapsTell
  pub strings : StringsStay
  pub texts : TextsStay
  pub near : BaseIsNear
  pub held : HeldWasBuilt
  pub nothing : NothingIsHeld
  pub gathers : EndsGather
  pub sends : EndsSend
