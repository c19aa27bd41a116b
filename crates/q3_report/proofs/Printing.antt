-- Texts that are printed in parts.
use Rattle.std.proofs.Common.{◌≡◌, ℕ, List, [], ◌∷◌, ◌++◌, codes, decimal, refl, append_assoc}
use Rattle.std.specs.List.{concat}
use Rattle.std.proofs.lemmas.List.{append-nil}

nested : (a b d text end : List ℕ) → concat (a ∷ b ∷ concat (d ∷ text ∷ end ∷ []) ∷ []) ≡ concat (a ∷ b ∷ d ∷ []) ++ (text ++ end)
nested a b d text end = simp (append_assoc, append-nil) refl

-- the line of what is refused
pub refused_in_parts : (word : List ℕ) (number : ℕ) (reason : List ℕ) → concat (word ∷ decimal number ∷ concat (codes " refused " ∷ reason ∷ codes "\n" ∷ []) ∷ [])
    ≡ concat (word ∷ decimal number ∷ codes " refused " ∷ []) ++ (reason ++ codes "\n")
refused_in_parts word number reason = nested word (decimal number) (codes " refused ") reason (codes "\n")

two : (a b rest : List ℕ) → concat (a ∷ b ∷ rest ∷ []) ≡ concat (a ∷ b ∷ []) ++ rest
two a b rest = simp (append_assoc, append-nil) refl

-- what is taken, after a word and a number
pub taken_in_parts : (word : List ℕ) (number : ℕ) (taken : List ℕ) → concat (word ∷ decimal number ∷ taken ∷ []) ≡ concat (word ∷ decimal number ∷ []) ++ taken
taken_in_parts word number taken = two word (decimal number) taken

-- the bytes of a datagram
pub bytes_in_parts : (datagram : ℕ) (hex : List ℕ) → concat (codes "bytes " ∷ decimal datagram ∷ concat (codes " " ∷ hex ∷ codes "\n" ∷ []) ∷ [])
    ≡ concat (codes "bytes " ∷ decimal datagram ∷ codes " " ∷ []) ++ (hex ++ codes "\n")
bytes_in_parts datagram hex = nested (codes "bytes ") (decimal datagram) (codes " ") hex (codes "\n")
