-- The text of a message's moves.
use Rattle.std.proofs.Common.{◌≡◌, ◌<◌, ℕ, Bool, List, [], ◌∷◌, ◌++◌, length, refl, arith}
use Rattle.q3_bits.specs.Words.{row_bits}
use Rattle.q3_clmsg.specs.declared.moves.Move.{Move}
use Rattle.q3_clmsg.specs.Moves.{no_move, moves_bits}
use Rattle.q3_clmsg.specs.Texts.{move_operation, move_section_bits}

-- without moves there is none
pub section_none : (words : List (List Bool)) (key : ℕ) (delta : Bool) (moves : List Move) → length moves ≡ 0 → move_section_bits words key delta moves ≡ []
section_none words key delta [] none = refl
section_none words key delta (one ∷ moves) none = absurd (omega (arith, none))

-- with some it is the operation, how many they are, and their deltas
pub section_some : (words : List (List Bool)) (key : ℕ) (delta : Bool) (moves : List Move) → 0 < length moves
    → move_section_bits words key delta moves ≡ row_bits words ((move_operation delta, 8) ∷ (length moves, 8) ∷ []) ++ moves_bits words key no_move moves
unfolding row_bits
section_some words key delta [] some = absurd (omega (arith, some))
section_some words key delta (one ∷ moves) some = refl
