-- Bytes in hex, byte by byte.
use Rattle.std.proofs.Common.{◌≡◌, List, ℕ, [], ◌∷◌, ◌<◌, length, refl, arith}
use Rattle.hex.specs.Hex.{encode_with, encode_lower}
use Rattle.q3_io.specs.Print.{hex_text, hex_word}

digits_are : (bytes : List ℕ) → hex_text bytes ≡ encode_lower bytes
unfolding encode_with
digits_are [] = refl
digits_are (byte ∷ bytes) = rw (digits_are bytes) refl

pub hex_in_digits : (bytes : List ℕ) → 0 < length bytes → hex_text bytes ≡ hex_word bytes
hex_in_digits [] some = absurd (omega arith)
hex_in_digits (byte ∷ bytes) some = digits_are (byte ∷ bytes)
