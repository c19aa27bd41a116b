-- What a server's message says, as plain data.
use Rattle.std.specs.Prelude.{◌≡◌, ℕ, zero, suc, ◌<◌, ◌≤◌, ◌+◌, ◌-◌, ◌==◌, ◌&&◌, not, nat_lt, true, false, if◌then◌else◌, List, [], Option, Some, None}
use Rattle.q3_text.specs.declared.text.Command.{Command}
use Rattle.q3_text.specs.Commands.{commands_of}
use Rattle.q3_player.specs.declared.state.PlayerState.{PlayerState}
use Rattle.q3_player.specs.declared.head.SnapHead.{SnapHead}
use Rattle.q3_player.specs.State.{zero_player}
use Rattle.q3_entity.specs.declared.state.EntityState.{EntityState}
use Rattle.q3_fields.specs.Kinds.{Layout}
use Rattle.q3_entity.specs.Entities.{IsList, run_of}
use Rattle.q3_entity.specs.Baselines.{Baselines}
use Rattle.q3_entity_ring.specs.Snapshot.{Snapshot}
use Rattle.q3_gamestate.specs.Values.{Gamestate, gamestate_of}
use Rattle.q3_svmsg.specs.declared.message.Section.{Section}
use Rattle.q3_svmsg.specs.declared.message.Section.TheVariants as sections
use Rattle.q3_svmsg.specs.declared.message.ServerMessage.{ServerMessage}
use Rattle.q3_svmsg.specs.declared.message.SnapParts.{SnapParts}
use Rattle.q3_svmsg.specs.declared.message.GameParts.{GameParts}
use Rattle.q3_svmsg.specs.declared.bases.BaseView.{BaseView}

-- what a snapshot is written against
pub record Base : Type 0 where
  pub player : PlayerState
  pub entities : List EntityState

-- a snapshot as the base of another
abbrev pub base_from : Snapshot → Base
base_from snapshot = record { player = snapshot.head.player; entities = snapshot.entities }

-- the player and the entities of a base; without one the zero player and no entities
abbrev pub base_player : Option Base → PlayerState
base_player None = zero_player
base_player (Some base) = base.player

abbrev pub base_entities : Option Base → List EntityState
base_entities None = []
base_entities (Some base) = base.entities

-- what a reader knows: the snapshots that are held, by number, and the baselines
pub record Context : Type 0 where
  pub base : ℕ → Option Base
  pub baselines : Baselines

-- a message's section: none; a gamestate; a snapshot, with the number of its base, 0 for none; or a snapshot whose base
-- isn't held and of which nothing is kept
pub data Told : Type 0 where
  Nothing : Told
  Game : Gamestate → Told
  Snap : ℕ → SnapHead → List EntityState → Told
  Skipped : ℕ → Told

-- the last client command executed, the commands, and the section
pub record Message : Type 0 where
  pub ack : ℕ
  pub commands : List Command
  pub section : Told

-- what the program's type says
abbrev pub section_of : Section → Gamestate → SnapHead → List EntityState → Told
section_of sections.Nothing game head entities = Nothing
section_of sections.Game game head entities = Game game
section_of (sections.Snap base true) game head entities = Snap base head entities
section_of (sections.Snap base false) game head entities = Skipped base

-- the gamestate for which a message has room
abbrev pub game_of : ServerMessage → Gamestate
game_of message =
    gamestate_of (record { command = message.command; slot = message.slot; feed = message.feed }) message.configs message.baselines

abbrev pub told_of : ServerMessage → Message
told_of message = record {
  ack = message.ack;
  commands = message.commands;
  section = section_of message.section (game_of message) message.head message.entities.value.items;
}

-- what parts say that are lent
abbrev pub parts_told : SnapParts → Message
parts_told parts = record {
  ack = parts.ack;
  commands = commands_of parts.commands;
  section = Snap parts.base parts.head.now (run_of parts.entities);
}

-- and what those of a gamestate say
abbrev pub game_told : GameParts → Message
game_told parts = record {
  ack = parts.ack;
  commands = commands_of parts.commands;
  section = Game (gamestate_of parts.numbers parts.configs.now parts.baselines.now);
}

-- the entities of a snapshot, where there is one, are a list
abbrev pub HasList : Layout → Told → Type 0
HasList table (Snap base head entities) = IsList table entities
HasList table other = Unit {0}

-- the number of a message is that of its snapshot
abbrev pub HasNumber : ℕ → Told → Type 0
HasNumber number (Snap base head entities) = head.number ≡ number
HasNumber number other = Unit {0}

-- the message with nothing in it
abbrev pub empty_message : Message
empty_message = record { ack = 0; commands = []; section = Nothing }

-- a view of a base, as what it is
abbrev pub base_viewed : BaseView → Base
base_viewed view = record { player = view.player.now; entities = run_of view.entities }

-- how far a base is below a message's number; 0 for none
abbrev pub distance_to : ℕ → ℕ → ℕ
distance_to number zero = 0
distance_to number (suc base) = number - (base + 1)

-- the number of the base at a distance: none for 0, and none for one that isn't below the message's number
abbrev pub number_of_base : ℕ → ℕ → ℕ
number_of_base number distance = if nat_lt distance number && not (distance == 0) then number - distance else 0

-- a base is named exactly where there is one, at most 255 below the message
abbrev pub IsNamed : Option Base → ℕ → ℕ → Type 0
IsNamed None number base = base ≡ 0
IsNamed (Some held) number base = (0 < base) × (base < number) × (number ≤ base + 255)

-- a section that a snapshot is written from: it is one that is there, and names its base
abbrev pub HasSnap : Section → Option Base → ℕ → Type 0
HasSnap (sections.Snap base true) against number = IsNamed against number base
HasSnap section against number = ⊥
