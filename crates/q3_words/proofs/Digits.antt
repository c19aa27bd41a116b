-- Digits of hex, and their pairs: what is read was spelled so, and has no capital.
use Rattle.std.proofs.Common.{◌≡◌, ℕ, zero, suc, ◌+◌, ◌*◌, ◌/◌, ◌%◌, ◌<◌, Bool, true, false, cond, ltb, eqb, List, [], ◌∷◌, Option, Some, None, Result, Ok, Err, inl, inr, refl, ap, ◌∙◌, arith}
use Rattle.std.specs.Prelude.{◌&&◌, ◌||◌, not, slice_index}
use Rattle.std.specs.List.{list_any}
use Rattle.std.proofs.lemmas.Bool.{cases_lt, and_parts, or_parts, or_from, eqb-true, not-true}
use Rattle.hex.specs.declared.error.FromHexError.{FromHexError}
use Rattle.hex.specs.Hex.{◌>>=◌, lower_digits, encode_with, encode_lower, hex_digit_value, digit_or_error, value_at, pair_value, decode_pairs, IsBytes}
use Rattle.q3_words.specs.Hex.{is_capital}

-- ---- digits

-- a test that the first places pass
abbrev first_pass : (ℕ → Bool) → ℕ → Bool
first_pass test zero = true
first_pass test (suc n) = test n && first_pass test n

first_pass-at : (test : ℕ → Bool) (n k : ℕ) → first_pass test n ≡ true → k < n → test k ≡ true
first_pass-at test zero k pass lt = absurd (omega arith)
first_pass-at test (suc n) k pass lt =
    let parts = and_parts (test n) (first_pass test n) pass in
    elim (cases_lt k n) [
      | inl below ↦ first_pass-at test n k parts.1 below
      | inr last ↦ let same : k ≡ n = omega arith in rw same parts.0
    ]

-- the digit of a value
abbrev digit_of : ℕ → ℕ
digit_of value = cond (ltb value 10) (value + 48) (value + 87)

digit_is : (value : ℕ) → value < 16 → slice_index lower_digits value ≡ digit_of value
digit_is value lt = eqb-true _ _ (first_pass-at (λ v. eqb (slice_index lower_digits v) (digit_of v)) 16 value refl lt)

no_capital : (value : ℕ) → value < 16 → is_capital (slice_index lower_digits value) ≡ false
no_capital value lt = not-true _ (first_pass-at (λ v. not (is_capital (slice_index lower_digits v))) 16 value refl lt)

-- a digit that isn't a capital is that of its value
value_small : (digit value : ℕ) → hex_digit_value digit ≡ Some value → value < 16
value_small digit value e = grind (arith)

value_spelled : (digit value : ℕ) → hex_digit_value digit ≡ Some value → is_capital digit ≡ false → digit_of value ≡ digit
value_spelled digit value e small = grind (arith)

digit_spelled : (digit value : ℕ) → hex_digit_value digit ≡ Some value → is_capital digit ≡ false → slice_index lower_digits value ≡ digit
digit_spelled digit value e small = digit_is value (value_small digit value e) ∙ value_spelled digit value e small

-- ---- pairs

abbrev done : {A : Type 0} → A → Result A FromHexError
done x = Ok x

pub done_is : {A : Type 0} (x y : A) → done x ≡ done y → x ≡ y
done_is x y e = cc

-- the value of a step that wasn't refused
pub bind_done : {A B : Type 0} (r : Result A FromHexError) (f : A → Result B FromHexError) (y : B) → (r >>= f) ≡ Ok y → (x : A) × (r ≡ Ok x) × (f x ≡ Ok y)
bind_done (Ok x) f y e = (x, refl, e)
bind_done (Err fault) f y e = absurd cc

digit_read : (digit place value : ℕ) (o : Option ℕ) → digit_or_error digit place o ≡ Ok value → o ≡ Some value
digit_read digit place value (Some v) e = ap (λ (x : ℕ). Some x) (done_is v value e)
digit_read digit place value None e = absurd cc

-- two digits are those of their byte
two_digits : (a b high low byte : ℕ) → high < 16 → low < 16 → high * 16 + low ≡ byte → slice_index lower_digits high ≡ a → slice_index lower_digits low ≡ b → (slice_index lower_digits (byte / 16) ≡ a) × (slice_index lower_digits (byte % 16) ≡ b)
two_digits a b high low byte few less is high_is low_is =
    let first : byte / 16 ≡ high = omega arith in
    let second : byte % 16 ≡ low = omega arith in
    (rw first high_is, rw second low_is)

-- pairs of digits without a capital are those of their bytes
pub pairs_spelled : (place : ℕ) (text bytes : List ℕ) → decode_pairs place text ≡ Ok bytes → list_any is_capital text ≡ false → text ≡ encode_lower bytes
unfolding decode_pairs encode_with
pairs_spelled place [] bytes e small = ap encode_lower (done_is [] bytes e)
pairs_spelled place (a ∷ []) bytes e small = absurd cc
pairs_spelled place (a ∷ b ∷ text) bytes e small =
    let byte = bind_done (pair_value a b place) (λ byte. decode_pairs (place + 2) text >>= λ bytes. Ok (byte ∷ bytes)) bytes e in
    let high = bind_done (value_at a place) (λ high. value_at b (place + 1) >>= λ low. Ok (high * 16 + low)) byte.0 byte.1 in
    let low = bind_done (value_at b (place + 1)) (λ low. Ok (high.0 * 16 + low)) byte.0 high.2 in
    let others = bind_done (decode_pairs (place + 2) text) (λ bytes. Ok (byte.0 ∷ bytes)) bytes byte.2 in
    let outer = or_parts (is_capital a) (is_capital b || list_any is_capital text) small in
    let inner = or_parts (is_capital b) (list_any is_capital text) outer.1 in
    let high_is = digit_read a place high.0 (hex_digit_value a) high.1 in
    let low_is = digit_read b (place + 1) low.0 (hex_digit_value b) low.1 in
    let two = two_digits a b high.0 low.0 byte.0 (value_small a high.0 high_is) (value_small b low.0 low_is) (done_is (high.0 * 16 + low.0) byte.0 low.2) (digit_spelled a high.0 high_is outer.0) (digit_spelled b low.0 low_is inner.0) in
    let rest = pairs_spelled (place + 2) text others.0 others.1 inner.1 in
    let whole : a ∷ b ∷ text ≡ encode_lower (byte.0 ∷ others.0) = rw (two.0, two.1, ← rest) refl in
    whole ∙ ap encode_lower (done_is (byte.0 ∷ others.0) bytes others.2)

-- and there is no capital among the digits of bytes
pub pairs_small : (bytes : List ℕ) → IsBytes bytes → list_any is_capital (encode_lower bytes) ≡ false
unfolding encode_with
pairs_small [] are = refl
pairs_small (byte ∷ bytes) are =
    let small : byte < 256 = are 0 in
    let first = no_capital (byte / 16) (omega arith) in
    let second = no_capital (byte % 16) (omega arith) in
    let others = pairs_small bytes (λ i. are (suc i)) in
    or_from _ _ first (or_from _ _ second others)
