-- Numbers as bits, least bit first, and the bits of a message as its bytes.
use Rattle.std.specs.Prelude.{ℕ, zero, suc, ◌+◌, ◌*◌, ◌/◌, ◌%◌, ◌==◌, Bool, true, false, List, [], ◌∷◌}
use Rattle.std.specs.List.{flat_map}

-- a bit as a number
abbrev pub bit : Bool → ℕ
bit true = 1
bit false = 0

-- the low bits of a number, so many, least first
unfoldable pub low_bits : ℕ → ℕ → List Bool
low_bits zero value = []
low_bits (suc count) value = (value % 2 == 1) ∷ low_bits count (value / 2)

-- the number that bits spell, least first
unfoldable pub number_of : List Bool → ℕ
number_of [] = 0
number_of (b ∷ bits) = bit b + 2 * number_of bits

-- the bits of bytes, each byte's least bit first
unfoldable pub bits_of : List ℕ → List Bool
bits_of bytes = flat_map (low_bits 8) bytes

-- the bytes of a message: its bits fill each byte from the least bit, and the rest of the last byte is 0
unfoldable pub message_bytes : List Bool → List ℕ
message_bytes (a ∷ b ∷ c ∷ d ∷ e ∷ f ∷ g ∷ h ∷ rest) = number_of (a ∷ b ∷ c ∷ d ∷ e ∷ f ∷ g ∷ h ∷ []) ∷ message_bytes rest
message_bytes rest = number_of rest ∷ []

-- how many bytes those are: one more than the bits fill
abbrev pub message_length : ℕ → ℕ
message_length count = count / 8 + 1
