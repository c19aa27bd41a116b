-- The commands of a message, each with its operation, and the nops between operations.
use Rattle.std.specs.Prelude.{◌≡◌, ◌≢◌, ℕ, ◌<◌, Bool, List, [], ◌∷◌, ◌++◌, replicate}
use Rattle.std.specs.List.{flat_map}
use Rattle.q3_bits.specs.Words.{row_bits}
use Rattle.q3_text.specs.declared.text.Command.{Command}
use Rattle.q3_strings.specs.Texts.{command_bits}
use Rattle.q3_strings.specs.Spelling.{SpellsCommand}

-- an operation, and a command after it
abbrev pub issued_bits : List (List Bool) → ℕ → Command → List Bool
issued_bits words operation command = row_bits words ((operation, 8) ∷ []) ++ command_bits words command

-- commands, each after the operation
abbrev pub commands_bits : List (List Bool) → ℕ → List Command → List Bool
commands_bits words operation commands = flat_map (issued_bits words operation) commands

-- so many nops
abbrev pub nops_bits : List (List Bool) → ℕ → List Bool
nops_bits words count = row_bits words (replicate count (1, 8))

-- nops, any number of them
abbrev pub SpellsNops : List (List Bool) → List Bool → Type 0
SpellsNops words bits = (count : ℕ) × (bits ≡ nops_bits words count)

-- commands, each after the operation, with nops before that
abbrev pub SpellsCommands : List (List Bool) → ℕ → List Command → List Bool → Type 0
SpellsCommands words operation [] bits = bits ≡ []
SpellsCommands words operation (command ∷ commands) bits =
    (nops : List Bool) × (first : List Bool) × (rest : List Bool) × (bits ≡ nops ++ row_bits words ((operation, 8) ∷ []) ++ first ++ rest)
    × SpellsNops words nops × SpellsCommand words command first × SpellsCommands words operation commands rest

-- commands, each after the operation `command`, nops, and an operation that is neither
pub record SpellsRow (words : List (List Bool)) (command : ℕ) (commands : List Command) (operation : ℕ) (bits : List Bool) : Type 0 where
  pub text : List Bool
  pub nops : List Bool
  pub of_commands : SpellsCommands words command commands text
  pub of_nops : SpellsNops words nops
  pub byte : operation < 256
  pub not_nop : operation ≢ 1
  pub not_command : operation ≢ command
  pub whole : bits ≡ text ++ nops ++ row_bits words ((operation, 8) ∷ [])

-- nops, and the operation `end`
abbrev pub SpellsEnding : List (List Bool) → ℕ → List Bool → Type 0
SpellsEnding words end bits = (nops : List Bool) × SpellsNops words nops × (bits ≡ nops ++ row_bits words ((end, 8) ∷ []))

-- the operations of a message up to its end: commands, each after the operation `command`, a section that has an operation of its own, or
-- nothing, and the operation `end`, with nops before each
pub record SpellsOperations (words : List (List Bool)) (command end : ℕ) (commands : List Command) (section bits : List Bool) : Type 0 where
  pub text : List Bool
  pub nops : List Bool
  pub ending : List Bool
  pub of_commands : SpellsCommands words command commands text
  pub of_nops : SpellsNops words nops
  pub of_ending : SpellsEnding words end ending
  pub whole : bits ≡ text ++ nops ++ section ++ ending
