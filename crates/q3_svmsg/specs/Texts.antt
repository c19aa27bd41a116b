-- The text of a server's message.
use Rattle.std.specs.Prelude.{ℕ, Bool, List, [], ◌∷◌, ◌++◌, length, Option}
use Rattle.q3_bits.specs.Words.{row_bits}
use Rattle.q3_strings.specs.Texts.{bytes_row}
use Rattle.q3_strings.specs.Commands.{commands_bits}
use Rattle.q3_player.specs.declared.head.SnapHead.{SnapHead}
use Rattle.q3_player.specs.Delta.{player_delta}
use Rattle.q3_entity.specs.declared.state.EntityState.{EntityState}
use Rattle.q3_entity.specs.Baselines.{Baselines}
use Rattle.q3_entity.specs.Lists.{entity_list_bits}
use Rattle.q3_profile.specs.declared.profile.Profile.{Profile}
use Rattle.q3_gamestate.specs.Texts.{gamestate_bits}
use Rattle.q3_svmsg.specs.Values.{Base, base_player, base_entities, distance_to, Told, Game, Snap, Message}

-- the head of a snapshot: the operation 7, the time, how far below the base is, the flags, and the area
abbrev pub head_bits : List (List Bool) → ℕ → SnapHead → List Bool
head_bits words base head =
    row_bits words ((7, 8) ∷ (head.time, 32) ∷ (distance_to head.number base, 8) ∷ (head.flags, 8) ∷ (length head.area.items, 8) ∷ [])
    ++ bytes_row words head.area.items

-- a snapshot against the base of a number: its head, the player, and the entities
unfoldable pub snapshot_bits : Profile → Baselines → Option Base → ℕ → SnapHead → List EntityState → List Bool
snapshot_bits profile baselines against base head entities =
    head_bits profile.code base head
    ++ player_delta profile.code profile.player.kinds (base_player against) head.player
    ++ entity_list_bits profile.code profile.entity baselines (base_entities against) entities

-- the section of a message; a snapshot that was skipped has no text of its own
unfoldable pub section_bits : Profile → Baselines → Option Base → Told → List Bool
section_bits profile baselines against (Game game) = gamestate_bits profile game
section_bits profile baselines against (Snap base head entities) = snapshot_bits profile baselines against base head entities
section_bits profile baselines against other = []

-- a message: the last client command executed, the commands, each after its operation 5, the section, and the end
unfoldable pub server_message_bits : Profile → Baselines → Option Base → Message → List Bool
server_message_bits profile baselines against message =
    row_bits profile.code ((message.ack, 32) ∷ [])
    ++ commands_bits profile.code 5 message.commands
    ++ section_bits profile baselines against message.section
    ++ row_bits profile.code ((8, 8) ∷ [])
