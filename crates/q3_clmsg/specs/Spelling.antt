-- The spellings of a client's message that a reader accepts: nops between operations, strings of which bytes become `.`, times
-- in 32 bits where 8 would do, fields marked as changed that are as they were, and -128 for -127.
use Rattle.std.specs.Prelude.{◌≡◌, ◌⊎◌, ℕ, ◌+◌, ◌%◌, ◌^◌, ◌<◌, ◌≤◌, Bool, false, List, [], ◌∷◌, ◌++◌, length}
use Rattle.q3_bits.specs.Words.{field_bits, row_bits}
use Rattle.q3_strings.specs.Commands.{SpellsOperations}
use Rattle.q3_clmsg.specs.declared.moves.Move.{Move}
use Rattle.q3_clmsg.specs.Moves.{no_move, move_widths, fields_of, move_of, move_key, hidden}
use Rattle.q3_clmsg.specs.Texts.{move_operation}
use Rattle.q3_clmsg.specs.Values.{Message}

-- a time after another
abbrev pub SpellsTime : List (List Bool) → ℕ → ℕ → List Bool → Type 0
SpellsTime words from to bits =
    ((difference : ℕ) × (difference < 256) × (to ≡ (from + difference) % 2 ^ 32) × (bits ≡ row_bits words ((1, 1) ∷ (difference, 8) ∷ [])))
    ⊎ ((to < 2 ^ 32) × (bits ≡ row_bits words ((0, 1) ∷ (to, 32) ∷ [])))

-- fields: each unmarked and as it was, or marked, and hidden by the key
abbrev pub SpellsFields : List (List Bool) → ℕ → List ℕ → List ℕ → List ℕ → List Bool → Type 0
SpellsFields words key (width ∷ widths) (a ∷ from) to bits =
    (b : ℕ) × (others : List ℕ) × (first : List Bool) × (rest : List Bool) × (to ≡ b ∷ others) × (bits ≡ first ++ rest)
    × (((b ≡ a) × (first ≡ field_bits words 1 0)) ⊎ ((b < 2 ^ width) × (first ≡ row_bits words ((1, 1) ∷ (hidden key width b, width) ∷ []))))
    × SpellsFields words key widths from others rest
SpellsFields words key widths from to bits = (to ≡ []) × (bits ≡ [])

-- a move after another
pub record SpellsMove (words : List (List Bool)) (key : ℕ) (from to : Move) (bits : List Bool) : Type 0 where
  pub time : List Bool
  pub rest : List Bool
  pub of_time : SpellsTime words from.time to.time time
  pub of_rest : ((to ≡ record from { time = to.time }) × (rest ≡ field_bits words 1 0))
      ⊎ ((fields : List ℕ) × (text : List Bool) × (to ≡ move_of to.time fields)
      × SpellsFields words (move_key key to.time) move_widths (fields_of from) fields text × (rest ≡ field_bits words 1 1 ++ text))
  pub whole : bits ≡ time ++ rest

-- moves, each after the one before
abbrev pub SpellsMoves : List (List Bool) → ℕ → Move → List Move → List Bool → Type 0
SpellsMoves words key from [] bits = bits ≡ []
SpellsMoves words key from (one ∷ moves) bits =
    (first : List Bool) × (rest : List Bool) × (bits ≡ first ++ rest) × SpellsMove words key from one first × SpellsMoves words key one moves rest

-- the moves of a message, or none
abbrev pub SpellsSection : List (List Bool) → ℕ → Bool → List Move → List Bool → Type 0
SpellsSection words key delta [] bits = (delta ≡ false) × (bits ≡ [])
SpellsSection words key delta moves bits =
    (text : List Bool) × (length moves ≤ 32) × SpellsMoves words key no_move moves text
    × (bits ≡ row_bits words ((move_operation delta, 8) ∷ (length moves, 8) ∷ []) ++ text)

-- the bits spell a message by its key, up to its end: commands are the operation 4, and the end is 5
pub record SpellsMessage (words : List (List Bool)) (key : ℕ) (message : Message) (bits : List Bool) : Type 0 where
  pub id : message.id < 2 ^ 32
  pub acknowledged : message.acknowledged < 2 ^ 32
  pub command : message.command < 2 ^ 32
  pub few : length message.commands ≤ 64
  pub section : List Bool
  pub operations : List Bool
  pub of_section : SpellsSection words key message.delta message.moves section
  pub of_operations : SpellsOperations words 4 5 message.commands section operations
  pub whole : bits ≡ row_bits words ((message.id, 32) ∷ (message.acknowledged, 32) ∷ (message.command, 32) ∷ []) ++ operations
