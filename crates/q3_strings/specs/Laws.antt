-- Laws of bytes, of strings, of commands and of rows of operations.
use Rattle.std.specs.Prelude.{◌≡◌, ◌≢◌, ℕ, ◌+◌, ◌^◌, ◌<◌, ◌≤◌, Bool, List, [], ◌∷◌, ◌++◌, length, All, Ok, Err}
use Rattle.q3_bits.specs.Words.{IsCode, row_bits, field_at}
use Rattle.q3_bits.specs.declared.reader.ReadError.{ReadError}
use Rattle.q3_bits.specs.declared.reader.ReadError.TheVariants.{End}
use Rattle.q3_text.specs.declared.text.Command.{Command}
use Rattle.q3_text.specs.Commands.{numbered}
use Rattle.q3_text.specs.Texts.{IsText, IsTextByte}
use Rattle.q3_strings.specs.Texts.{bytes_row, string_bits, command_bits}
use Rattle.q3_strings.specs.Reading.{string_bytes_at, bounded_string_at, command_at}
use Rattle.q3_strings.specs.Spelling.{SpellsString, SpellsCommand}
use Rattle.q3_strings.specs.Commands.{commands_bits, nops_bits, SpellsNops, SpellsCommands, SpellsRow, SpellsEnding}
use Rattle.q3_strings.specs.Operations.{Row, row_at, ending_at}
use Rattle.q3_strings.specs.Turns.{HasTurn}

-- a command as the program's type holds it
pub record IsCommand (command : Command) : Type 0 where
  pub number : command.number < 2 ^ 32
  pub text : IsText command.text

-- bytes that are read were put, and bytes that are put are read, with whatever follows them
abbrev pub BytesWerePut : Type 0
BytesWerePut = (words : List (List Bool)) (count : ℕ) (bytes : List ℕ) (bits rest : List Bool) → IsCode words → string_bytes_at words count bits ≡ Ok (bytes, rest)
    → (length bytes ≡ count) × All (λ byte. byte < 256) bytes × (bits ≡ bytes_row words bytes ++ rest)

abbrev pub BytesAreRead : Type 0
BytesAreRead = (words : List (List Bool)) (bytes : List ℕ) (rest : List Bool) → IsCode words → All (λ byte. byte < 256) bytes
    → string_bytes_at words (length bytes) (bytes_row words bytes ++ rest) ≡ Ok (bytes, rest)

-- what is written of bytes that a text may hold spells them
abbrev pub StringIsSpelled : Type 0
StringIsSpelled = (words : List (List Bool)) (most : ℕ) (text : List ℕ) → All IsTextByte text → length text ≤ most
    → SpellsString words most text (string_bits words text)

-- what is read as a string was spelled so, and holds bytes that a text may hold
abbrev pub StringReadIsSpelled : Type 0
StringReadIsSpelled = (words : List (List Bool)) (most : ℕ) (text : List ℕ) (bits rest : List Bool) → IsCode words → bounded_string_at words most bits ≡ Ok (text, rest)
    → All IsTextByte text × (spelling : List Bool) × (bits ≡ spelling ++ rest) × SpellsString words most text spelling

-- what is spelled so is read, with whatever follows it
abbrev pub StringSpelledIsRead : Type 0
StringSpelledIsRead = (words : List (List Bool)) (most : ℕ) (text : List ℕ) (spelling rest : List Bool) → IsCode words → SpellsString words most text spelling
    → bounded_string_at words most (spelling ++ rest) ≡ Ok (text, rest)

-- what is written of a command spells it
abbrev pub CommandIsSpelled : Type 0
CommandIsSpelled = (words : List (List Bool)) (command : Command) → IsCommand command → SpellsCommand words command (command_bits words command)

-- what is read as a command was spelled so, and is one that the program's type may hold
abbrev pub CommandReadIsSpelled : Type 0
CommandReadIsSpelled = (words : List (List Bool)) (command : Command) (bits rest : List Bool) → IsCode words → command_at words bits ≡ Ok (command, rest)
    → IsCommand command × (spelling : List Bool) × (bits ≡ spelling ++ rest) × SpellsCommand words command spelling

-- what is spelled so is read, with whatever follows it
abbrev pub CommandSpelledIsRead : Type 0
CommandSpelledIsRead = (words : List (List Bool)) (command : Command) (spelling rest : List Bool) → IsCode words → SpellsCommand words command spelling
    → command_at words (spelling ++ rest) ≡ Ok (command, rest)

-- what is written of commands spells them
abbrev pub CommandsAreSpelled : Type 0
CommandsAreSpelled = (words : List (List Bool)) (operation : ℕ) (commands : List Command) → All IsCommand commands
    → SpellsCommands words operation commands (commands_bits words operation commands)

-- texts under numbers from a first one on, of 32 bits each, are as many commands
abbrev pub NumberedAreCommands : Type 0
NumberedAreCommands = (first : ℕ) (texts : List (List ℕ)) → first + length texts ≤ 2 ^ 32 → All IsText texts
    → All IsCommand (numbered first texts) × (length (numbered first texts) ≡ length texts)

-- a nop before commands, and before the nops after them, is a nop of theirs
abbrev pub NopIsSpelled : Type 0
NopIsSpelled = (words : List (List Bool)) (operation : ℕ) (commands : List Command) (text : List Bool) (count : ℕ) → SpellsCommands words operation commands text
    → (longer : List Bool) × (more : ℕ) × SpellsCommands words operation commands longer
    × ((rest : List Bool) → row_bits words ((1, 8) ∷ []) ++ (text ++ (nops_bits words count ++ rest)) ≡ longer ++ (nops_bits words more ++ rest))

-- nops after nops are nops
abbrev pub NopsAreNops : Type 0
NopsAreNops = (words : List (List Bool)) (first second : List Bool) → SpellsNops words first → SpellsNops words second → SpellsNops words (first ++ second)

-- what holds of operations that are read one after the other
pub record TurnsAreTaken : Type 0 where
  -- an operation takes a bit at least
  pub shorter : (words : List (List Bool)) (bits rest : List Bool) (operation : ℕ) → IsCode words → field_at words 8 bits ≡ Ok (operation, rest)
      → length rest < length bits
  -- so a turn is taken of those that are left
  pub turn : (words : List (List Bool)) (bits rest : List Bool) (operation turns : ℕ) → IsCode words → Ok (operation, rest) ≡ field_at words 8 bits
      → length bits ≤ turns → HasTurn turns rest
  -- where no bit is left, the bits end
  pub ends : (words : List (List Bool)) (e : ReadError) → IsCode words → field_at words 8 [] ≡ Err e → e ≡ End

-- a row of operations that was read: commands more, and how they and the operation after them were spelled
pub record WasRow (words : List (List Bool)) (command : ℕ) (commands : List Command) (bits : List Bool) (row : Row) (rest : List Bool) : Type 0 where
  pub added : List Command
  pub all : row.commands ≡ commands ++ added
  pub few : length commands ≤ 64 → length row.commands ≤ 64
  pub each : All IsCommand added
  pub text : List Bool
  pub spells : SpellsRow words command added row.operation text
  pub parts : bits ≡ text ++ rest

-- what is read as a row was spelled so
abbrev pub RowReadIsSpelled : Type 0
RowReadIsSpelled = (words : List (List Bool)) (command most : ℕ) (commands : List Command) (bits : List Bool) (row : Row) (rest : List Bool) → IsCode words
    → row_at words command most commands bits ≡ Ok (row, rest) → WasRow words command commands bits row rest

-- what is spelled so is read, with whatever follows it, where there are no more than 64 commands then
abbrev pub RowSpelledIsRead : Type 0
RowSpelledIsRead = (words : List (List Bool)) (command operation most : ℕ) (commands added : List Command) (text rest : List Bool) → IsCode words
    → SpellsRow words command added operation text → command ≢ 1 → command < 256 → length commands + length added ≤ 64 → length (text ++ rest) ≤ most
    → row_at words command most commands (text ++ rest) ≡ Ok (record { commands = commands ++ added; operation = operation }, rest)

-- what is read as an ending was spelled so
abbrev pub EndingReadIsSpelled : Type 0
EndingReadIsSpelled = (words : List (List Bool)) (end most : ℕ) (bits rest : List Bool) → IsCode words → ending_at words end most bits ≡ Ok (tt, rest)
    → (text : List Bool) × (bits ≡ text ++ rest) × SpellsEnding words end text

-- what is spelled so is read, with whatever follows it
abbrev pub EndingSpelledIsRead : Type 0
EndingSpelledIsRead = (words : List (List Bool)) (end most : ℕ) (text rest : List Bool) → IsCode words → SpellsEnding words end text → end ≢ 1 → end < 256
    → length (text ++ rest) ≤ most → ending_at words end most (text ++ rest) ≡ Ok (tt, rest)
