-- A row of one value after a front: another value is set in it.
use Rattle.std.proofs.Common.{◌≡◌, ℕ, suc, ◌+◌, List, [], ◌∷◌, ◌++◌, length, set, replicate, sym, ap, ◌∙◌, arith}
use Rattle.std.proofs.lemmas.List.{append_assoc, length-append, length-replicate, replicate-append-replicate, set_at}

-- a value after so many of the row, and others of it after that value
pub set_in_gap : {X : Type 0} (front : List X) (x y : X) (before after count i : ℕ) → count ≡ before + suc after → i ≡ length front + before
    → set (front ++ replicate count x) i y ≡ (front ++ replicate before x ++ y ∷ []) ++ replicate after x
set_in_gap {X = X} front x y before after count i whole place =
    let head : List X = front ++ replicate before x in
    let row : replicate count x ≡ replicate before x ++ x ∷ replicate after x = ap (λ n. replicate n x) whole ∙ sym (replicate-append-replicate before (suc after) x) in
    let long : length head ≡ i = length-append front (replicate before x) ∙ omega (arith, length-replicate {A = X} before x, place) in
    rw (row, ← append_assoc front (replicate before x) (x ∷ replicate after x), set_at head x (replicate after x) y i long)
    (sym (append_assoc head (y ∷ []) (replicate after x)))
