-- Texts that lack a byte: no newline stands in a line, and no space in a word.
use Rattle.std.proofs.Common.{◌≡◌, ℕ, zero, suc, ◌+◌, ◌/◌, ◌%◌, ◌<◌, true, false, not, ◌&&◌, eqb, List, [], ◌∷◌, ◌++◌, get_or, All, ℤ, pos, negsuc, codes, decimal, nat_le, refl, sym, ◌∙◌, arith, inl, inr}
use Rattle.std.specs.List.{flat_map}
use Rattle.std.specs.Fmt.{digits, digits_onto, digit_glyph, signed_decimal}
use Rattle.std.proofs.lemmas.Bool.{cases_Bool, and_parts, not-true, ne_eqb, lt-ltb}
use Rattle.std.proofs.lemmas.List.Folds.{list_all-append}
use Rattle.std.proofs.lemmas.List.Elements.{All-nil, All-cons}
use Rattle.hex.specs.Hex.{lower_digits, encode_with}
use Rattle.q3_io.specs.Print.{hex_word, word_text, words_text}
use Rattle.q3_io.specs.Quoted.{byte_spelling, quoted}
use Rattle.q3_text.specs.Cuts.{lacks}

pub without : (byte : ℕ) (text : List ℕ) → lacks byte text ≡ true → All (λ x. eqb x byte ≡ false) text
without byte [] e = All-nil (λ x. eqb x byte ≡ false)
without byte (x ∷ text) e =
    let parts = and_parts (not (eqb x byte)) (lacks byte text) e in
    All-cons (λ x. eqb x byte ≡ false) x text (not-true (eqb x byte) parts.0) (without byte text parts.1)

pub lacks_both : (byte : ℕ) (front back : List ℕ) → lacks byte front ≡ true → lacks byte back ≡ true → lacks byte (front ++ back) ≡ true
lacks_both byte front back e e' = rw (list_all-append (λ x. not (eqb x byte)) front back, e, e') refl

pub lacks_each : {X : Type 0} (byte : ℕ) (text : X → List ℕ) → ((x : X) → lacks byte (text x) ≡ true) → (xs : List X)
    → lacks byte (flat_map text xs) ≡ true
lacks_each byte text each [] = refl
lacks_each byte text each (x ∷ xs) = lacks_both byte (text x) (flat_map text xs) (each x) (lacks_each byte text each xs)

-- ---- numbers

glyph_is : (d : ℕ) → d < 10 → digit_glyph false d ≡ 48 + d
glyph_is d small = rw (lt-ltb d 10 small) refl

lacks-digits : (byte k n : ℕ) (after : List ℕ) → ((d : ℕ) → d < 10 → 48 + d ≡ byte → ⊥) → lacks byte after ≡ true → lacks byte (digits_onto k 10 false n after) ≡ true
lacks-digits byte zero n after apart e = e
lacks-digits byte (suc k) n after apart e =
    let is : digit_glyph false (n % 10) ≡ 48 + n % 10 = glyph_is (n % 10) (omega arith) in
    let here : lacks byte (digit_glyph false (n % 10) ∷ after) ≡ true = rw (ne_eqb (digit_glyph false (n % 10)) byte (λ same. apart (n % 10) (omega arith) (sym is ∙ same)), e) refl in
    elim (cases_Bool (eqb (n / 10) 0)) [
      | inl last ↦ rw last here
      | inr more ↦ rw more (lacks-digits byte k (n / 10) (digit_glyph false (n % 10) ∷ after) apart here)
    ]

pub lacks-decimal : (byte n : ℕ) → ((d : ℕ) → d < 10 → 48 + d ≡ byte → ⊥) → lacks byte (decimal n) ≡ true
unfolding digits
lacks-decimal byte n apart = lacks-digits byte 64 n [] apart refl

-- no newline stands in a number
pub number : (n : ℕ) → lacks 10 (decimal n) ≡ true
number n = lacks-decimal 10 n (λ d small same. omega arith)

pub signed : (z : ℤ) → lacks 10 (signed_decimal z) ≡ true
signed (pos n) = number n
signed (negsuc n) = number (suc n)

-- ---- bytes in hex, and texts in quotes

lacks-at : (byte : ℕ) (xs : List ℕ) (i : ℕ) → eqb 0 byte ≡ false → lacks byte xs ≡ true → eqb (get_or xs i 0) byte ≡ false
lacks-at byte [] i zero_is e = zero_is
lacks-at byte (x ∷ xs) zero zero_is e = not-true (eqb x byte) (and_parts (not (eqb x byte)) (lacks byte xs) e).0
lacks-at byte (x ∷ xs) (suc i) zero_is e = lacks-at byte xs i zero_is (and_parts (not (eqb x byte)) (lacks byte xs) e).1

pub hex : (bytes : List ℕ) → lacks 10 (encode_with lower_digits bytes) ≡ true
unfolding encode_with
hex [] = refl
hex (byte ∷ bytes) = rw (lacks-at 10 lower_digits (byte / 16) refl refl, lacks-at 10 lower_digits (byte % 16) refl refl, hex bytes) refl

pub hexed : (bytes : List ℕ) → lacks 10 (hex_word bytes) ≡ true
hexed [] = refl
hexed (byte ∷ bytes) = hex (byte ∷ bytes)

spelled_byte : (byte : ℕ) → lacks 10 (byte_spelling byte) ≡ true
spelled_byte byte =
    elim (cases_Bool (eqb byte 34)) [
      | inl quote ↦ rw quote refl
      | inr no_quote ↦ elim (cases_Bool (eqb byte 92)) [
        | inl backslash ↦ rw (no_quote, backslash) refl
        | inr no_backslash ↦ elim (cases_Bool (eqb byte 10)) [
          | inl newline ↦ rw (no_quote, no_backslash, newline) refl
          | inr no_newline ↦ elim (cases_Bool (nat_le 32 byte && nat_le byte 126)) [
            | inl printed ↦ rw (no_quote, no_backslash, no_newline, printed, no_newline) refl
            | inr other ↦ rw (no_quote, no_backslash, no_newline, other) (hex (byte ∷ []))
          ]
        ]
      ]
    ]

pub quote : (text : List ℕ) → lacks 10 (quoted text) ≡ true
quote text = lacks_both 10 (flat_map byte_spelling text) (codes "\"") (lacks_each 10 byte_spelling spelled_byte text) refl

-- ---- words by their index

pub indexed : (letter : List ℕ) → lacks 10 letter ≡ true → (index : ℕ) (words : List ℕ) → lacks 10 (words_text letter index words) ≡ true
unfolding words_text
indexed letter plain index [] = refl
indexed letter plain index (word ∷ words) = lacks_both 10 (word_text letter index word) (words_text letter (index + 1) words) here (indexed letter plain (index + 1) words) where
  here : lacks 10 (word_text letter index word) ≡ true
  here =
      elim (cases_Bool (eqb word 0)) [
        | inl none ↦ rw none refl
        | inr some ↦ rw some (lacks_both 10 letter (decimal index ++ (codes ":" ++ (decimal word ++ []))) plain
            (lacks_both 10 (decimal index) (codes ":" ++ (decimal word ++ [])) (number index) (lacks_both 10 (decimal word) [] (number word) refl)))
      ]
