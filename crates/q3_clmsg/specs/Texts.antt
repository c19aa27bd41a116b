-- The text of a client's message.
use Rattle.std.specs.Prelude.{ℕ, Bool, true, false, List, [], ◌∷◌, ◌++◌, length}
use Rattle.q3_bits.specs.Words.{row_bits}
use Rattle.q3_strings.specs.Commands.{commands_bits}
use Rattle.q3_clmsg.specs.declared.moves.Move.{Move}
use Rattle.q3_clmsg.specs.Moves.{no_move, moves_bits}
use Rattle.q3_clmsg.specs.Values.{Message}

-- the operation of a move section: 2 where snapshots may be written against the newest, else 3
abbrev pub move_operation : Bool → ℕ
move_operation true = 2
move_operation false = 3

-- the moves: the operation, how many, and each after the one before, the first after none; without moves there is nothing
abbrev pub move_section_bits : List (List Bool) → ℕ → Bool → List Move → List Bool
move_section_bits words key delta [] = []
move_section_bits words key delta moves =
    row_bits words ((move_operation delta, 8) ∷ (length moves, 8) ∷ []) ++ moves_bits words key no_move moves

-- a message by its key: three longs, the commands with the operation 4, the moves, and the end
unfoldable pub client_message_bits : List (List Bool) → ℕ → Message → List Bool
client_message_bits words key message =
    row_bits words ((message.id, 32) ∷ (message.acknowledged, 32) ∷ (message.command, 32) ∷ [])
    ++ commands_bits words 4 message.commands
    ++ move_section_bits words key message.delta message.moves
    ++ row_bits words ((5, 8) ∷ [])
