-- A message and its pieces.
use Rattle.std.proofs.Common.{◌≡◌, ◌+◌, ◌*◌, ◌∙◌, ℕ, zero, suc, List, ◌++◌, length, take, drop, map, refl, sym, ap, arith}
use Rattle.std.specs.List.{concat, range_with_len}
use Rattle.std.proofs.Math.Seq.{take-add}
use Rattle.std.proofs.lemmas.List.{take_all, drop-drop}
use Rattle.q3_chan.specs.Datagrams.{fragment_size, piece_count, piece, pieces}
use Rattle.q3_chan.specs.Laws.{PiecesAreWhole}

-- so many pieces from an index on are a part of the message
pieces-part : (message : List ℕ) (index count : ℕ) → concat (map (piece message) (range_with_len index count)) ≡ take (fragment_size * count) (drop (fragment_size * index) message)
pieces-part message index zero = refl
pieces-part message index (suc count) =
    let after = drop (fragment_size * index) message in
    let next : drop (fragment_size * (index + 1)) message ≡ drop fragment_size after =
    ap (λ (n : ℕ). drop n message) (omega arith) ∙ sym (drop-drop fragment_size (fragment_size * index) message) in
    ap (λ (rest : List ℕ). piece message index ++ rest) (pieces-part message (index + 1) count ∙ ap (take (fragment_size * count)) next)
    ∙ sym (take-add fragment_size (fragment_size * count) after)
    ∙ ap (λ (n : ℕ). take n after) (omega arith)

pub pieces_are_whole : PiecesAreWhole
unfolding pieces
pieces_are_whole message = pieces-part message 0 (piece_count (length message)) ∙ take_all (fragment_size * piece_count (length message)) message (omega arith)
