-- Laws of texts, of numbers in decimal and of texts that are cut at a byte.
use Rattle.std.specs.Prelude.{◌≡◌, ◌≢◌, ℕ, ◌^◌, ◌<◌, ◌≤◌, true, false, List, ◌∷◌, ◌++◌, length, map, All, Some, Ok}
use Rattle.std.specs.List.{list_all}
use Rattle.std.specs.Fmt.{decimal}
use Rattle.q3_text.specs.Texts.{IsText, most_bytes, translated, text_of}
use Rattle.q3_text.specs.Decimals.{is_digit, number_at}
use Rattle.q3_text.specs.Cuts.{cut_at, lacks}

-- what comes of bytes is a text
abbrev pub TextsAreTexts : Type 0
TextsAreTexts = (bytes text : List ℕ) → text_of bytes ≡ Ok text → IsText text

-- and a text is its own
abbrev pub TextsStay : Type 0
TextsStay = (text : List ℕ) → IsText text → text_of text ≡ Ok text

-- few bytes, none of them 0, make one
abbrev pub FewBytesMakeTexts : Type 0
FewBytesMakeTexts = (bytes : List ℕ) → length bytes ≤ most_bytes → lacks 0 bytes ≡ true → text_of bytes ≡ Ok (map translated bytes)

-- numbers below 2 ^ 64 and the words that spell them
pub record DecimalsAreNumbers : Type 0 where
  -- a word that is read as a number is its decimal, and the number is in the range
  pub spelled : (low high : ℕ) (word : List ℕ) (n : ℕ) → high < 2 ^ 64 → number_at low high word ≡ Some n → (low ≤ n) × (n ≤ high) × (word ≡ decimal n)
  -- which is read as it
  pub read : (low high n : ℕ) → high < 2 ^ 64 → low ≤ n → n ≤ high → number_at low high (decimal n) ≡ Some n
  -- and has digits alone, so it lacks every other byte
  pub digits : (n : ℕ) → n < 2 ^ 64 → list_all is_digit (decimal n) ≡ true
  pub others : (byte n : ℕ) → is_digit byte ≡ false → n < 2 ^ 64 → lacks byte (decimal n) ≡ true

-- a text is cut at the first such byte
pub record CutsAreFirst : Type 0 where
  -- a text that was cut is what stood before and after the byte
  pub parts : (byte : ℕ) (text : List ℕ) (parts : List ℕ × List ℕ) → cut_at byte text ≡ Some parts → text ≡ parts.0 ++ byte ∷ parts.1
  -- and what stood before it lacks the byte
  pub before : (byte : ℕ) (text : List ℕ) (parts : List ℕ × List ℕ) → cut_at byte text ≡ Some parts → All (λ other. other ≢ byte) parts.0
  -- a text without it, the byte and any other are cut there
  pub again : (byte : ℕ) (front rest : List ℕ) → lacks byte front ≡ true → cut_at byte (front ++ byte ∷ rest) ≡ Some (front, rest)

-- all of these, for proofs of crates above
pub record TextLaws : Type 0 where
  pub texts : TextsAreTexts
  pub stay : TextsStay
  pub made : FewBytesMakeTexts
  pub numbers : DecimalsAreNumbers
  pub cuts : CutsAreFirst
