-- What the server builds: messages with a snapshot, whole or against a base, and messages with a gamestate.
use Rattle.std.specs.Prelude.{◌≡◌, ℕ, ◌+◌, ◌^◌, ◌<◌, ◌≤◌, ◌⊎◌, Bool, false, List, [], ◌∷◌, length, All, Option, Some, None, IfSome, option_map}
use Rattle.q3_bits.specs.Bits.{message_bytes}
use Rattle.q3_bits.specs.Words.{row_bits}
use Rattle.q3_text.specs.declared.text.Command.{Command}
use Rattle.q3_text.specs.Texts.{IsText}
use Rattle.q3_strings.specs.Laws.{IsCommand}
use Rattle.q3_profile.specs.declared.profile.Profile.{Profile}
use Rattle.q3_player.specs.declared.state.PlayerState.{PlayerState}
use Rattle.q3_player.specs.State.{IsState, IsNormal}
use Rattle.q3_entity.specs.Entities.{most_entities}
use Rattle.q3_chan.specs.Datagrams.{sequence_end}
use Rattle.q3_chan.specs.declared.side.Side.TheVariants.{Server}
use Rattle.q3_chan.specs.Keys.{Key, server_key, server_scrambled}
use Rattle.q3_chan.specs.Keys as chan
use Rattle.q3_entity.specs.Baselines.{Baselines, AreBaselines}
use Rattle.q3_gamestate.specs.Values.{Gamestate}
use Rattle.q3_gamestate.specs.Laws.{IsGamestate}
use Rattle.q3_svmsg.specs.Values.{Snap, Game, Message, base_from}
use Rattle.q3_svmsg.specs.Texts.{server_message_bits}
use Rattle.q3_entity_ring.specs.Snapshot.{Snapshot}
use Rattle.q3_map.specs.Map.{AreHeld}

-- a message that was begun, the number of the last command issued by then, that of the gamestate under which its client played, if it
-- did, the snapshot that it is written against, if it is, the baselines of the map, and by what it is scrambled by protocol 68: its
-- text is that of the last client command executed
pub record Built : Type 0 where
  pub message : Message
  pub last : ℕ
  pub under : Option ℕ
  pub base : Option Snapshot
  pub baselines : Baselines
  pub key : Key

-- the number of a base, 0 for none
abbrev pub number_of : Option Snapshot → ℕ
number_of None = 0
number_of (Some base) = base.head.number

-- what a message says besides its section: the number of the last client command executed, the commands that aren't acknowledged, the
-- number of the last one issued, and that of the gamestate under which the client plays, if it does; and by what it is scrambled by
-- protocol 68
pub record Telling : Type 0 where
  pub ack : ℕ
  pub commands : List Command
  pub last : ℕ
  pub under : Option ℕ
  pub key : Key

-- the message that carries a snapshot against a base
abbrev pub message_of : Telling → Option Snapshot → Snapshot → Message
message_of telling base snapshot =
    record { ack = telling.ack; commands = telling.commands; section = Snap (number_of base) snapshot.head snapshot.entities }

abbrev pub built_of : Telling → Baselines → Option Snapshot → Snapshot → Built
built_of telling baselines base snapshot =
    record { message = message_of telling base snapshot; last = telling.last; under = telling.under; base = base; baselines = baselines; key = telling.key }

-- the message that carries a gamestate
abbrev pub game_message_of : Telling → Gamestate → Message
game_message_of telling game = record { ack = telling.ack; commands = telling.commands; section = Game game }

abbrev pub game_built_of : Telling → Baselines → Gamestate → Built
game_built_of telling baselines game =
    record { message = game_message_of telling game; last = telling.last; under = telling.under; base = None; baselines = baselines; key = telling.key }

-- whether the leading long of a message takes more bits than stay clear by protocol 68, so that scrambling would hide a part of it:
-- never by protocol 71, which scrambles nothing
abbrev pub is_unclear : Profile → ℕ → Bool
is_unclear profile ack = chan.is_unclear profile.protocol Server (length (row_bits profile.code ((ack, 32) ∷ [])))

-- the bits of a message
abbrev pub built_bits : Profile → Built → List Bool
built_bits profile built = server_message_bits profile built.baselines (option_map base_from built.base) built.message

-- its bytes before they are scrambled, if they are
abbrev pub plain_bytes : Profile → Built → List ℕ
plain_bytes profile built = message_bytes (built_bits profile built)

-- and its bytes, scrambled after the leading long by protocol 68
abbrev pub built_bytes : Profile → Built → List ℕ
built_bytes profile built = server_scrambled built.key (plain_bytes profile built)

-- a player as the server holds it: a state of the program's type, in normal form
pub record IsHeld (profile : Profile) (player : PlayerState) : Type 0 where
  pub state : IsState player
  pub normal : IsNormal profile.player.kinds player

-- the area bytes of a snapshot
pub record IsArea (area : List ℕ) : Type 0 where
  pub bytes : All (λ byte. byte < 256) area
  pub short : length area ≤ 32

-- a snapshot as it is built
pub record IsSnapshot (profile : Profile) (snapshot : Snapshot) : Type 0 where
  pub number : snapshot.head.number < sequence_end
  pub time : snapshot.head.time < 2 ^ 32
  pub flags : snapshot.head.flags < 2 ^ 8
  pub area : IsArea snapshot.head.area.items
  pub player : IsHeld profile snapshot.head.player
  pub entities : AreHeld profile.entity snapshot.entities
  pub few : length snapshot.entities ≤ most_entities

-- a base is below its message, at most by 28
pub record IsNear (n : ℕ) (base : Snapshot) : Type 0 where
  pub some : 0 < base.head.number
  pub below : base.head.number < n
  pub near : n < base.head.number + 29

-- what a message under a number tells a client that joined with a challenge
pub record IsTelling (profile : Profile) (challenge n : ℕ) (telling : Telling) : Type 0 where
  pub ack : telling.ack < 2 ^ 32
  pub text : IsText telling.key.text
  pub few : length telling.commands ≤ 64
  pub commands : All IsCommand telling.commands
  pub key : telling.key ≡ server_key profile.protocol challenge n telling.key.text
  pub clear : is_unclear profile telling.ack ≡ false

-- a message with a snapshot as it is built under a number
pub record BuildsSnapshot (profile : Profile) (telling : Telling) (n : ℕ) (built : Built) : Type 0 where
  pub snapshot : Snapshot
  pub is : built ≡ built_of telling built.baselines built.base snapshot
  pub number : snapshot.head.number ≡ n
  pub are : IsSnapshot profile snapshot
  pub waits : telling.under ≡ None → (snapshot.entities ≡ []) × (built.base ≡ None)
  pub base_is : IfSome built.base (λ base. IsNear n base × IsSnapshot profile base)

-- and one with a gamestate
pub record BuildsGame (profile : Profile) (telling : Telling) (built : Built) : Type 0 where
  pub game : Gamestate
  pub is : built ≡ game_built_of telling built.baselines game
  pub last : game.command ≡ telling.last
  pub baselines : game.baselines ≡ built.baselines
  pub are : IsGamestate profile game

-- a message as it is built under a number, for a client that joined with a challenge
pub record IsBuilt (profile : Profile) (challenge n : ℕ) (built : Built) : Type 0 where
  pub telling : Telling
  pub tells : IsTelling profile challenge n telling
  pub baselines : AreBaselines profile.entity built.baselines
  pub section : BuildsSnapshot profile telling n built ⊎ BuildsGame profile telling built
