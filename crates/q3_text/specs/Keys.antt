-- The key that a text gives for hiding moves.
use Rattle.std.specs.Prelude.{ℕ, ◌+◌, ◌*◌, ◌/◌, ◌^◌, List, [], ◌∷◌, take, bit_xor}

-- each byte times a weight that rises by one, from 119 for the first
unfoldable pub weighted : ℕ → List ℕ → ℕ
weighted weight [] = 0
weighted weight (byte ∷ text) = byte * weight + weighted (weight + 1) text

-- a sum, mixed with its own high bits
abbrev pub mixed : ℕ → ℕ
mixed sum = bit_xor (bit_xor sum (sum / 2 ^ 10)) (sum / 2 ^ 20)

-- the key of a text: its first 32 bytes count
unfoldable pub key_of : List ℕ → ℕ
key_of text = mixed (weighted 119 (take 32 text))
