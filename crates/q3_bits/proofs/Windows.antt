-- The bits at the front of what is left, as numbers.
use Rattle.std.proofs.Common.{◌≡◌, ℕ, zero, suc, ◌+◌, ◌-◌, ◌*◌, ◌/◌, ◌%◌, ◌^◌, ◌<◌, ◌≤◌, Bool, List, [], ◌∷◌, ◌++◌, length, get_or, take, drop, min, refl, sym, ap, subst, ◌∙◌, arith}
use Rattle.std.proofs.lemmas.List.{length-drop, take-take, drop-take, drop-drop, drop_at, drop_min, get_or-drop}
use Rattle.std.proofs.Math.Seq.{take-append-add, take-nil, drop-nil}
use Rattle.std.proofs.Math.Nat.{mod-eq_of_lt, pow-suc}
use Rattle.q3_bits.specs.Bits.{low_bits, number_of, bits_of}
use Rattle.q3_bits.proofs.Numbers.{number_of-nil, number_of-cons, bits_of-nil, bits_of-cons, length-low_bits, length-bits_of, number_of-low_bits, number_of-drop, number_of-mod}

-- what two texts spell together
pub number_of-append : (a b : List Bool) → number_of (a ++ b) ≡ number_of a + 2 ^ length a * number_of b
number_of-append [] b = rw number_of-nil (omega arith)
number_of-append (x ∷ a) b =
    let more : 2 ^ suc (length a) ≡ 2 ^ length a * 2 = pow-suc 2 (length a) in
    rw (number_of-cons x (a ++ b), number_of-cons x a, number_of-append a b, more) (grind arith)

-- no bytes spell 0
number_of-no_bytes : (n : ℕ) → number_of (take n (bits_of [])) ≡ 0
number_of-no_bytes n = rw (bits_of-nil, take-nil {A = Bool} n) number_of-nil

-- a byte, and what follows it
number_of-byte : (byte n : ℕ) (bytes : List ℕ) → byte < 256 → number_of (take (8 + n) (bits_of (byte ∷ bytes))) ≡ byte + 256 * number_of (take n (bits_of bytes))
number_of-byte byte n bytes small =
    let long = length-low_bits 8 byte in
    let cut : take (8 + n) (low_bits 8 byte ++ bits_of bytes) ≡ low_bits 8 byte ++ take n (bits_of bytes) = subst (λ (k : ℕ). take (k + n) (low_bits 8 byte ++ bits_of bytes) ≡ low_bits 8 byte ++ take n (bits_of bytes)) long (take-append-add (low_bits 8 byte) (bits_of bytes) n) in
    rw (bits_of-cons, cut, number_of-append, long, number_of-low_bits, mod-eq_of_lt small) refl

-- the first four bytes; a byte that isn't there counts as 0
pub first_four-bytes : (bytes : List ℕ) → ((i : ℕ) → get_or bytes i 0 < 256)
    → number_of (take 32 (bits_of bytes)) ≡ get_or bytes 0 0 + 256 * (get_or bytes 1 0 + 256 * (get_or bytes 2 0 + 256 * get_or bytes 3 0))
first_four-bytes [] small = number_of-no_bytes 32
first_four-bytes (a ∷ []) small = omega (arith, number_of-byte a 24 [] (small 0), number_of-no_bytes 24)
first_four-bytes (a ∷ b ∷ []) small = omega (arith, number_of-byte a 24 (b ∷ []) (small 0), number_of-byte b 16 [] (small 1), number_of-no_bytes 16)
first_four-bytes (a ∷ b ∷ c ∷ []) small =
    omega (arith, number_of-byte a 24 (b ∷ c ∷ []) (small 0), number_of-byte b 16 (c ∷ []) (small 1), number_of-byte c 8 [] (small 2), number_of-no_bytes 8)
first_four-bytes (a ∷ b ∷ c ∷ d ∷ bytes) small =
    let none : number_of (take 0 (bits_of bytes)) ≡ 0 = number_of-nil in
    omega (arith, number_of-byte a 24 (b ∷ c ∷ d ∷ bytes) (small 0), number_of-byte b 16 (c ∷ d ∷ bytes) (small 1), number_of-byte c 8 (d ∷ bytes) (small 2), number_of-byte d 0 bytes (small 3), none)

-- 24 bits from a place on
pub window-bits : (bits : List Bool) (place gathered : ℕ) → place ≤ 39 → gathered ≡ number_of (take 64 bits) → gathered / 2 ^ place % 2 ^ 24 ≡ number_of (take 24 (drop place bits))
window-bits bits place gathered few is =
    let enough : place + 24 ≤ 64 = omega arith in
    rw (is, number_of-drop, number_of-mod)
    (ap number_of (sym (drop-take place 24 (take 64 bits)) ∙ ap (drop place) (take-take (place + 24) 64 bits enough) ∙ drop-take place 24 bits))

-- as many bits as the bytes have after the place
pub length-rest : (bytes : List ℕ) (place : ℕ) → length (drop place (bits_of bytes)) ≡ 8 * length bytes - place
length-rest bytes place = omega (arith, length-drop place (bits_of bytes), length-bits_of bytes)

-- whole bytes are passed over as bytes
pub drop-bytes : (bytes : List ℕ) (n : ℕ) → drop (8 * n) (bits_of bytes) ≡ bits_of (drop n bytes)
drop-bytes bytes zero = refl
drop-bytes [] (suc n) = rw (bits_of-nil, drop-nil {A = Bool} (8 * suc n)) refl
drop-bytes (byte ∷ bytes) (suc n) =
    let more : 8 * suc n ≡ 8 + 8 * n = omega arith in
    rw (more, bits_of-cons, ← drop-drop) (ap (drop (8 * n)) (drop_at (low_bits 8 byte) (bits_of bytes) 8 (length-low_bits 8 byte)) ∙ drop-bytes bytes n)

-- bits are passed over as whole bytes and those of the next
pub drop-place : (bytes : List ℕ) (place : ℕ) → drop (place % 8) (bits_of (drop (place / 8) bytes)) ≡ drop place (bits_of bytes)
drop-place bytes place =
    let whole : 8 * (place / 8) + place % 8 ≡ place = omega arith in
    rw (← drop-bytes, drop-drop, whole) refl

-- 64 bits are 32 and those after them
pub gathered-halves : (bytes : List ℕ) → number_of (take 64 (bits_of bytes)) ≡ number_of (take 32 (bits_of bytes)) + 4294967296 * number_of (take 32 (bits_of (drop 4 bytes)))
gathered-halves bytes =
    let bits = bits_of bytes in
    let whole : number_of bits % 2 ^ 64 ≡ number_of (take 64 bits) = number_of-mod bits 64 in
    let low : number_of bits % 2 ^ 32 ≡ number_of (take 32 bits) = number_of-mod bits 32 in
    let high : number_of bits / 2 ^ 32 % 2 ^ 32 ≡ number_of (take 32 (bits_of (drop 4 bytes))) = rw (number_of-drop, number_of-mod, drop-bytes bytes 4) refl in
    omega (arith, whole, low, high)

-- what follows four bytes, or all of them where there are fewer
pub after_four : (bytes : List ℕ) → drop (min (length bytes) 4) bytes ≡ drop 4 bytes
after_four bytes = ap (λ (n : ℕ). drop n bytes) (omega arith) ∙ drop_min 4 bytes

-- the first eight bytes; a byte that isn't there counts as 0
pub first_eight-bytes : (bytes : List ℕ) → ((i : ℕ) → get_or bytes i 0 < 256)
    → number_of (take 64 (bits_of bytes)) ≡ get_or bytes 0 0 + 256 * (get_or bytes 1 0 + 256 * (get_or bytes 2 0 + 256 * (get_or bytes 3 0 + 256 * (get_or bytes 4 0 + 256 * (get_or bytes 5 0 + 256 * (get_or bytes 6 0 + 256 * get_or bytes 7 0))))))
first_eight-bytes bytes small =
    let after = drop 4 bytes in
    let high = first_four-bytes after (λ i. rw (get_or-drop 4 bytes i 0) (small (4 + i))) in
    omega (arith, gathered-halves bytes, first_four-bytes bytes small, high, get_or-drop 4 bytes 0 0, get_or-drop 4 bytes 1 0, get_or-drop 4 bytes 2 0, get_or-drop 4 bytes 3 0)
