-- Laws of a message's bytes.
use Rattle.std.proofs.Common.{◌≡◌, ℕ, ◌+◌, ◌-◌, ◌*◌, ◌<◌, Bool, false, List, [], ◌∷◌, ◌++◌, length, replicate, refl, ap, subst, ◌∙◌, arith}
use Rattle.std.proofs.Math.Nat.{mod-eq_of_lt}
use Rattle.std.proofs.lemmas.List.{append-nil}
use Rattle.std.proofs.lemmas.List.Elements.{All-nil, All-cons}
use Rattle.std.specs.List.{All}
use Rattle.q3_bits.specs.Bits.{low_bits, number_of, bits_of, message_bytes, message_length}
use Rattle.q3_bits.proofs.Numbers.{number_of-lt, number_of-low_bits, low_bits-of_zero, low_bits-number_of_more}

-- the bits of a first byte are that byte
pub message_bytes-byte : (byte : ℕ) (rest : List Bool) → byte < 256 → message_bytes (low_bits 8 byte ++ rest) ≡ byte ∷ message_bytes rest
unfolding low_bits message_bytes
message_bytes-byte byte rest fits =
    ap (λ first. first ∷ message_bytes rest) (number_of-low_bits 8 byte ∙ mod-eq_of_lt fits)

-- bits that fill no byte are the low bits of the last
pub message_bytes-short : (bits : List Bool) → length bits < 8 → message_bytes bits ≡ number_of bits ∷ []
unfolding message_bytes
message_bytes-short (a ∷ b ∷ c ∷ d ∷ e ∷ f ∷ g ∷ h ∷ rest) short = absurd (omega arith)
message_bytes-short rest short = refl

-- the bits of a byte are those that spell it, and then zeros
pub byte_holds : (bits : List Bool) (more : ℕ) → length bits + more ≡ 8 → low_bits 8 (number_of bits) ≡ bits ++ replicate more false
byte_holds bits more whole = subst (λ (count : ℕ). low_bits count (number_of bits) ≡ bits ++ replicate more false) whole (low_bits-number_of_more bits more ∙ ap (λ (others : List Bool). bits ++ others) (low_bits-of_zero more))

-- the bits of a message's bytes are its bits, and then zeros
pub message_holds_bits : (bits : List Bool) → bits_of (message_bytes bits) ≡ bits ++ replicate (8 * message_length (length bits) - length bits) false
unfolding message_bytes bits_of
message_holds_bits (a ∷ b ∷ c ∷ d ∷ e ∷ f ∷ g ∷ h ∷ rest) =
    let same : 8 * message_length (length rest) - length rest ≡ 8 * message_length (length (a ∷ b ∷ c ∷ d ∷ e ∷ f ∷ g ∷ h ∷ rest)) - length (a ∷ b ∷ c ∷ d ∷ e ∷ f ∷ g ∷ h ∷ rest) = omega arith in
    ap (λ (first : List Bool). first ++ bits_of (message_bytes rest)) (byte_holds (a ∷ b ∷ c ∷ d ∷ e ∷ f ∷ g ∷ h ∷ []) 0 refl)
    ∙ ap (λ (others : List Bool). a ∷ b ∷ c ∷ d ∷ e ∷ f ∷ g ∷ h ∷ others) (message_holds_bits rest)
    ∙ ap (λ (more : ℕ). a ∷ b ∷ c ∷ d ∷ e ∷ f ∷ g ∷ h ∷ (rest ++ replicate more false)) same
message_holds_bits bits =
    append-nil (low_bits 8 (number_of bits)) ∙ byte_holds bits (8 * message_length (length bits) - length bits) (omega arith)

-- each byte is one, and they are as many as the length says
pub message_is_bytes : (bits : List Bool) → (length (message_bytes bits) ≡ message_length (length bits)) × All (λ byte. byte < 256) (message_bytes bits)
unfolding message_bytes
message_is_bytes (a ∷ b ∷ c ∷ d ∷ e ∷ f ∷ g ∷ h ∷ rest) =
    let others = message_is_bytes rest in
    (omega arith, All-cons (λ (byte : ℕ). byte < 256) _ _ (number_of-lt (a ∷ b ∷ c ∷ d ∷ e ∷ f ∷ g ∷ h ∷ [])) others.1)
message_is_bytes bits =
    (omega arith, All-cons (λ (byte : ℕ). byte < 256) (number_of bits) [] (omega (arith, number_of-lt bits)) (All-nil (λ (byte : ℕ). byte < 256)))
