-- Moves, each after the one before.
use Rattle.std.proofs.Common.{◌≡◌, ℕ, suc, ◌+◌, ◌≤◌, ◌<◌, Bool, List, [], ◌∷◌, ◌++◌, length, drop, get_or, Ok, Err, refl, sym}
use Rattle.std.proofs.lemmas.List.{drop_more, drop_all}
use Rattle.q3_bits.specs.declared.reader.ReadError.{ReadError}
use Rattle.q3_clmsg.specs.declared.moves.Move.{Move}
use Rattle.q3_clmsg.specs.Moves.{move_delta, moves_bits, move_at, moves_at}
use Rattle.q3_clmsg.proofs.Fronts.{with_front}

-- what is left of the text, one move on
pub moves_bits-next : (words same : List (List Bool)) (key : ℕ) (from : Move) (moves : List Move) (k : ℕ) (d : Move) → same ≡ words → k < length moves
    → moves_bits words key from (drop k moves) ≡ move_delta same key from (get_or moves k d) ++ moves_bits words key (get_or moves k d) (drop (k + 1) moves)
unfolding moves_bits
moves_bits-next words same key from moves k d is more = rw (is, drop_more moves k d more) refl

-- nothing is left at the end
pub moves_bits-end : (words : List (List Bool)) (key : ℕ) (from : Move) (moves : List Move) (k : ℕ) → length moves ≤ k → moves_bits words key from (drop k moves) ≡ []
unfolding moves_bits
moves_bits-end words key from moves k past = rw (drop_all k moves past) refl

-- no move is read
pub moves_none : (words : List (List Bool)) (key : ℕ) (from : Move) (bits : List Bool) → moves_at words key 0 from bits ≡ Ok ([], bits)
unfolding moves_at
moves_none words key from bits = refl

-- one move more
pub moves_more : (words same : List (List Bool)) (key count : ℕ) (from one : Move) (bits rest : List Bool) → same ≡ words → Ok (one, rest) ≡ move_at same key from bits
    → moves_at words key (suc count) from bits ≡ with_front (one ∷ []) (moves_at words key count one rest)
unfolding moves_at
moves_more words same key count from one bits rest is read =
    let first : move_at words key from bits ≡ Ok (one, rest) = rw (← is) (sym read) in
    rw first refl

-- a fault in the next
pub moves_fault : (words same : List (List Bool)) (key count : ℕ) (from : Move) (bits : List Bool) (e : ReadError) → same ≡ words → Err e ≡ move_at same key from bits
    → moves_at words key (suc count) from bits ≡ Err e
unfolding moves_at
moves_fault words same key count from bits e is read =
    let first : move_at words key from bits ≡ Err e = rw (← is) (sym read) in
    rw first refl
