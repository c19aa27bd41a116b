-- Numbers and their bits are one another's inverses, and the bits of bytes stand each at its place.
use Rattle.std.proofs.Common.{◌≡◌, ℕ, zero, suc, ◌+◌, ◌-◌, ◌*◌, ◌/◌, ◌%◌, ◌^◌, ◌<◌, ◌≤◌, Bool, true, false, eqb, List, [], ◌∷◌, ◌++◌, length, replicate, get_or, take, drop, refl, sym, ap, subst, ◌∙◌, add-one, arith}
use Rattle.std.proofs.lemmas.Bool.{eq-eqb, ne_eqb}
use Rattle.std.proofs.lemmas.Bool.Decides.{nat_tests}
use Rattle.std.proofs.lemmas.List.{append-nil, length-append, length-take-le}
use Rattle.std.proofs.lemmas.List.Concat.{flat_map-cons, flat_map-append}
use Rattle.std.proofs.lemmas.Nat.{pow_pos, shr-shr, shr_high, mod_below, mod_low, mod-pow-add}
use Rattle.std.proofs.Math.Nat.{div-eq_of_lt, zero-div, pow-succ'}
use Rattle.std.proofs.lemmas.Grind.{pow_more}
use Rattle.q3_bits.specs.Bits.{bit, low_bits, number_of, bits_of}

-- ---- how the definitions go on

-- no bits
pub low_bits-zero : (value : ℕ) → low_bits 0 value ≡ []
unfolding low_bits
low_bits-zero value = refl

-- the lowest bit, and the others of the half
pub low_bits-suc : (count value : ℕ) → low_bits (suc count) value ≡ eqb (value % 2) 1 ∷ low_bits count (value / 2)
unfolding low_bits
low_bits-suc count value = refl

-- no bits spell 0
pub number_of-nil : number_of [] ≡ 0
unfolding number_of
number_of-nil = refl

-- the first bit, and twice what the others spell
pub number_of-cons : (b : Bool) (bits : List Bool) → number_of (b ∷ bits) ≡ bit b + 2 * number_of bits
unfolding number_of
number_of-cons b bits = refl

-- no bytes have no bits
pub bits_of-nil : bits_of [] ≡ []
unfolding bits_of
bits_of-nil = refl

-- the bits of the first byte, and those of the others
pub bits_of-cons : (byte : ℕ) (bytes : List ℕ) → bits_of (byte ∷ bytes) ≡ low_bits 8 byte ++ bits_of bytes
unfolding bits_of
bits_of-cons byte bytes = flat_map-cons (low_bits 8) byte bytes

-- a byte more is eight bits more
pub bits_of-push : (bytes : List ℕ) (byte : ℕ) → bits_of (bytes ++ byte ∷ []) ≡ bits_of bytes ++ low_bits 8 byte
unfolding bits_of
bits_of-push bytes byte = rw (flat_map-append, append-nil (low_bits 8 byte))

-- what is left of the low bits, one bit on
pub low_bits-next : (count k value : ℕ) → k < count → low_bits (count - k) value ≡ eqb (value % 2) 1 ∷ low_bits (count - (k + 1)) (value / 2)
low_bits-next count k value more = let next : count - k ≡ suc (count - (k + 1)) = omega arith in rw (next, low_bits-suc) refl

-- nothing is left of the low bits at the end
pub low_bits-end : (count k value : ℕ) → count ≤ k → low_bits (count - k) value ≡ []
low_bits-end count k value past = let none : count - k ≡ 0 = omega arith in rw (none, low_bits-zero) refl

-- ---- lengths

-- as many low bits as were taken
pub length-low_bits : (count value : ℕ) → length (low_bits count value) ≡ count
length-low_bits zero value = rw low_bits-zero refl
length-low_bits (suc count) value = rw low_bits-suc (ap suc (length-low_bits count (value / 2)))

-- eight bits a byte
pub length-bits_of : (bytes : List ℕ) → length (bits_of bytes) ≡ 8 * length bytes
length-bits_of [] = rw bits_of-nil refl
length-bits_of (byte ∷ bytes) = rw bits_of-cons (omega (arith, length-append (low_bits 8 byte) (bits_of bytes), length-low_bits 8 byte, length-bits_of bytes))

-- ---- a bit by its place

-- a half shifted is shifted once more
halved : (value k : ℕ) → value / 2 / 2 ^ k ≡ value / 2 ^ suc k
halved value k = shr-shr value 1 k ∙ ap (λ (j : ℕ). value / 2 ^ j) (omega arith)

-- ---- numbers and bits

-- so many bits spell a number of so many
pub number_of-lt : (bits : List Bool) → number_of bits < 2 ^ length bits
number_of-lt [] = rw number_of-nil (omega arith)
number_of-lt (true ∷ bits) = rw number_of-cons (grind (arith, pow_more, number_of-lt bits))
number_of-lt (false ∷ bits) = rw number_of-cons (grind (arith, pow_more, number_of-lt bits))

-- so does a front of so many
pub number_of-take_lt : (count : ℕ) (bits : List Bool) → count ≤ length bits → number_of (take count bits) < 2 ^ count
number_of-take_lt count bits enough = subst (λ (n : ℕ). number_of (take count bits) < 2 ^ n) (length-take-le count bits enough) (number_of-lt (take count bits))

-- the test of the lowest bit, as a number
bit_eqb : (value : ℕ) → bit (eqb (value % 2) 1) ≡ value % 2
bit_eqb value = grind (arith, nat_tests)

-- the lowest bit of a number
eqb_bit : (b : Bool) (n : ℕ) → eqb ((bit b + 2 * n) % 2) 1 ≡ b
eqb_bit true n = eq-eqb _ _ (omega arith)
eqb_bit false n = ne_eqb _ _ (λ e. omega arith)

-- the rest of a number
half_bit : (b : Bool) (n : ℕ) → (bit b + 2 * n) / 2 ≡ n
half_bit true n = omega arith
half_bit false n = omega arith

-- and the lowest bit again
low_bit : (b : Bool) (n : ℕ) → (bit b + 2 * n) % 2 ≡ bit b
low_bit true n = omega arith
low_bit false n = omega arith

-- a remainder is its lowest bit and that of the half
mod_suc : (value n : ℕ) → value % 2 ^ suc n ≡ value % 2 + 2 * (value / 2 % 2 ^ n)
mod_suc value n = ap (λ (j : ℕ). value % 2 ^ j) (sym (add-one n)) ∙ mod-pow-add value n 1 ∙ omega arith

-- the low bits of a number spell its remainder
pub number_of-low_bits : (count value : ℕ) → number_of (low_bits count value) ≡ value % 2 ^ count
number_of-low_bits zero value = rw (low_bits-zero, number_of-nil) (omega arith)
number_of-low_bits (suc count) value = rw (low_bits-suc, number_of-cons, bit_eqb, number_of-low_bits count (value / 2)) (sym (mod_suc value count))

-- bits are the low bits of the number that they spell
pub low_bits-number_of : (bits : List Bool) → low_bits (length bits) (number_of bits) ≡ bits
low_bits-number_of [] = rw low_bits-zero refl
low_bits-number_of (b ∷ bits) = rw (low_bits-suc, number_of-cons, eqb_bit, half_bit, low_bits-number_of bits) refl

-- the same of a front of bits
pub low_bits-number_of_take : (count : ℕ) (bits : List Bool) → count ≤ length bits → low_bits count (number_of (take count bits)) ≡ take count bits
low_bits-number_of_take count bits enough = subst (λ (n : ℕ). low_bits n (number_of (take count bits)) ≡ take count bits) (length-take-le count bits enough) (low_bits-number_of (take count bits))

-- bits above those that are taken don't matter
pub low_bits-mod : (count value : ℕ) → low_bits count (value % 2 ^ count) ≡ low_bits count value
low_bits-mod count value = sym (ap (low_bits count) (number_of-low_bits count value)) ∙ subst (λ (n : ℕ). low_bits n (number_of (low_bits count value)) ≡ low_bits count value) (length-low_bits count value) (low_bits-number_of (low_bits count value))

-- the bits below a higher part of a number are those of the lower
pub low_bits-low : (high count low : ℕ) → low < 2 ^ count → low_bits count (high * 2 ^ count + low) ≡ low_bits count low
low_bits-low high count low fits = sym (low_bits-mod count (high * 2 ^ count + low)) ∙ ap (low_bits count) (mod_low high count low fits)

-- the low bits of a number are its lowest and those of the rest
pub low_bits-add : (m n value : ℕ) → low_bits (m + n) value ≡ low_bits m value ++ low_bits n (value / 2 ^ m)
low_bits-add zero n value = rw (low_bits-zero value) (let same : value / 2 ^ 0 ≡ value = omega arith in let none : zero + n ≡ n = omega arith in rw (same, none) refl)
low_bits-add (suc m) n value = let more : suc m + n ≡ suc (m + n) = omega arith in rw (more, low_bits-suc (m + n) value, low_bits-suc m value, low_bits-add m n (value / 2), halved value m) refl

-- the bits of 0 are zeros
pub low_bits-of_zero : (count : ℕ) → low_bits count 0 ≡ replicate count false
low_bits-of_zero zero = rw low_bits-zero refl
low_bits-of_zero (suc count) = rw (low_bits-suc, low_bits-of_zero count) refl

-- the low bits of the number that bits spell are the bits, and then those of 0
pub low_bits-number_of_more : (bits : List Bool) (more : ℕ) → low_bits (length bits + more) (number_of bits) ≡ bits ++ low_bits more 0
low_bits-number_of_more bits more =
    let none : number_of bits / 2 ^ length bits ≡ 0 = div-eq_of_lt (number_of-lt bits) in
    low_bits-add (length bits) more (number_of bits) ∙ rw (low_bits-number_of, none) refl

-- a bit as a number is that bit
low_bits-bit : (b : Bool) → low_bits 1 (bit b) ≡ b ∷ []
unfolding low_bits
low_bits-bit true = refl
low_bits-bit false = refl

-- a bit above the low bits of a number is one bit more
pub low_bits-push : (count value : ℕ) (b : Bool) → value < 2 ^ count → low_bits (count + 1) (value + 2 ^ count * bit b) ≡ low_bits count value ++ b ∷ []
low_bits-push count value b fits =
    let sum : value + 2 ^ count * bit b ≡ bit b * 2 ^ count + value = grind arith in
    ap (low_bits (count + 1)) sum ∙ low_bits-add count 1 (bit b * 2 ^ count + value)
    ∙ rw (low_bits-low (bit b) count value fits, shr_high (bit b) count value fits, low_bits-bit) refl

-- one more of the bits that a number spells
pub number_of-take_more : (bits : List Bool) (k : ℕ) → k < length bits → number_of (take (k + 1) bits) ≡ number_of (take k bits) + bit (get_or bits k false) * 2 ^ k
number_of-take_more [] k lt = absurd (omega arith)
number_of-take_more (b ∷ bits) zero lt = rw (number_of-cons, number_of-nil) (omega arith)
number_of-take_more (b ∷ bits) (suc k) lt =
    let more : suc k + 1 ≡ suc (k + 1) = omega arith in
    rw (more, number_of-cons b (take (k + 1) bits), number_of-cons b (take k bits), number_of-take_more bits k (omega arith), pow-succ' 2 k) (grind arith)

-- what follows the first bits is spelled by the number shifted
pub number_of-drop : (bits : List Bool) (n : ℕ) → number_of bits / 2 ^ n ≡ number_of (drop n bits)
number_of-drop bits zero = let same : number_of bits / 2 ^ 0 ≡ number_of bits = omega arith in same
number_of-drop [] (suc n) = rw number_of-nil (zero-div (2 ^ suc n))
number_of-drop (b ∷ bits) (suc n) =
    sym (halved (number_of (b ∷ bits)) n) ∙ rw (number_of-cons b bits, half_bit) (number_of-drop bits n)

-- the bits of a number above the low ones are those of a higher part
pub low_bits-join : (m n low high : ℕ) → low < 2 ^ m → low_bits (m + n) (low + high * 2 ^ m) ≡ low_bits m low ++ low_bits n high
low_bits-join m n low high fits =
    let turned : low + high * 2 ^ m ≡ high * 2 ^ m + low = omega arith in
    rw (turned, low_bits-add m n (high * 2 ^ m + low), low_bits-low high m low fits, shr_high high m low fits) refl

-- the number's remainder is what the first bits spell
pub number_of-mod : (bits : List Bool) (n : ℕ) → number_of bits % 2 ^ n ≡ number_of (take n bits)
number_of-mod bits zero = rw number_of-nil (omega arith)
number_of-mod [] (suc n) = rw number_of-nil (omega (arith, mod_suc 0 n, mod_below 0 (2 ^ n) (pow_pos n)))
number_of-mod (b ∷ bits) (suc n) = rw (number_of-cons b bits, mod_suc, half_bit, low_bit, number_of-cons b (take n bits), number_of-mod bits n) refl
