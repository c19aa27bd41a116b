-- Laws of client messages.
use Rattle.std.specs.Prelude.{◌≡◌, ℕ, ◌^◌, ◌<◌, ◌≤◌, Bool, false, List, [], ◌++◌, length, All, Ok}
use Rattle.q3_bits.specs.Words.{IsCode}
use Rattle.q3_strings.specs.Laws.{IsCommand}
use Rattle.q3_clmsg.specs.Moves.{IsMove}
use Rattle.q3_clmsg.specs.Values.{Message}
use Rattle.q3_clmsg.specs.Texts.{client_message_bits}
use Rattle.q3_clmsg.specs.Reading.{heads_in, client_message_at}
use Rattle.q3_clmsg.specs.Spelling.{SpellsMessage}

-- a message as an end may send it
pub record IsMessage (message : Message) : Type 0 where
  pub id : message.id < 2 ^ 32
  pub acknowledged : message.acknowledged < 2 ^ 32
  pub command : message.command < 2 ^ 32
  pub few : length message.commands ≤ 64
  pub commands : All IsCommand message.commands
  pub few_moves : length message.moves ≤ 32
  pub moves : All IsMove message.moves
  pub whole : message.moves ≡ [] → message.delta ≡ false

-- what is written of a message spells it
abbrev pub WrittenIsSpelled : Type 0
WrittenIsSpelled = (words : List (List Bool)) (key : ℕ) (message : Message) → IsCode words → key < 2 ^ 32 → IsMessage message
    → SpellsMessage words key message (client_message_bits words key message)

-- what is read as a message was spelled so
abbrev pub ReadIsSpelled : Type 0
ReadIsSpelled = (words : List (List Bool)) (key : ℕ) (message : Message) (bits rest : List Bool) → IsCode words → key < 2 ^ 32
    → client_message_at words key bits ≡ Ok (message, rest)
    → IsMessage message × (text : List Bool) × (bits ≡ text ++ rest) × SpellsMessage words key message text

-- what is spelled so is read, with whatever follows it: so where a reader refuses, no front of the bits is spelled so
abbrev pub SpelledIsRead : Type 0
SpelledIsRead = (words : List (List Bool)) (key : ℕ) (message : Message) (text rest : List Bool) → IsCode words → key < 2 ^ 32
    → SpellsMessage words key message text → client_message_at words key (text ++ rest) ≡ Ok (message, rest)

-- what is written of a message is read back by the same key, with whatever follows it
abbrev pub WrittenIsRead : Type 0
WrittenIsRead = (words : List (List Bool)) (key : ℕ) (message : Message) (rest : List Bool) → IsCode words → key < 2 ^ 32 → IsMessage message
    → client_message_at words key (client_message_bits words key message ++ rest) ≡ Ok (message, rest)

-- the leading longs of what is written of a message are read back, with whatever follows it
abbrev pub HeadsAreRead : Type 0
HeadsAreRead = (words : List (List Bool)) (key : ℕ) (message : Message) (rest : List Bool) → IsCode words → IsMessage message
    → (bits : ℕ) × (heads_in words (client_message_bits words key message ++ rest)
    ≡ Ok (record { id = message.id; acknowledged = message.acknowledged; command = message.command; bits = bits }))
