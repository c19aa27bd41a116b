-- The words of a move, and those that tell why a client's message isn't legible.
use Rattle.std.specs.Prelude.{ℕ, List, [], ◌∷◌, ◌++◌, map, codes, decimal, Option, Some, None}
use Rattle.std.specs.List.{flat_map}
use Rattle.std.specs.Fmt.{signed_decimal}
use Rattle.q3_clmsg.specs.declared.moves.Move.{Move}
use Rattle.q3_bits.specs.Report.{bits_word}
use Rattle.q3_clmsg.specs.declared.error.ClientIllegible.{ClientIllegible}
use Rattle.q3_clmsg.specs.declared.error.ClientIllegible.TheVariants as causes

-- the words of a move: its time, the three angles, forward, right and up, the buttons, and the weapon
abbrev pub move_words : Move → List (List ℕ)
move_words one =
    decimal one.time ∷ map decimal one.angles
    ++ signed_decimal one.forward ∷ signed_decimal one.right ∷ signed_decimal one.up ∷ decimal one.buttons ∷ decimal one.weapon ∷ []

-- words, each after a space
abbrev pub spaced : List (List ℕ) → List ℕ
spaced words = flat_map (λ word. codes " " ++ word) words

-- the line of a move that was run
abbrev pub move_text : Move → List ℕ
move_text one = codes "+ move" ++ spaced (move_words one) ++ codes "\n"

-- the word of a cause
abbrev pub cause_word : ClientIllegible → List ℕ
cause_word (causes.Bits e) = bits_word e
cause_word (causes.BadOp byte) = codes "op"
cause_word (causes.MoveCount count) = codes "moves"
cause_word causes.TextLong = codes "text"
cause_word causes.Commands = codes "commands"
cause_word (causes.Ack number) = codes "ack"

-- the number after it, if it has one
abbrev pub cause_number : ClientIllegible → Option ℕ
cause_number (causes.Bits e) = None
cause_number (causes.BadOp byte) = Some byte
cause_number (causes.MoveCount count) = Some count
cause_number causes.TextLong = None
cause_number causes.Commands = None
cause_number (causes.Ack number) = Some number
