-- How long printed lines are.
use Rattle.std.proofs.Common.{◌≡◌, ℕ, zero, suc, ◌+◌, ◌*◌, ◌^◌, ◌<◌, ◌≤◌, ◌&&◌, eqb, leb, List, [], ◌∷◌, ◌++◌, length, replicate, codes, All, refl, ap, ◌∙◌, arith, length-append}
use Rattle.std.specs.Fmt.{decimal}
use Rattle.std.specs.List.{flat_map}
use Rattle.std.proofs.lemmas.Bool.{cond_both}
use Rattle.std.proofs.lemmas.Fmt.{length-decimal-le}
use Rattle.std.proofs.lemmas.List.Elements.{All-head, All-tail}
use Rattle.hex.specs.Hex.{encode_with}
use Rattle.q3_io.specs.Print.{word_text, words_text, indexed_text}
use Rattle.q3_io.specs.Quoted.{byte_spelling}
use Rattle.q3_clmsg.specs.Report.{spaced}
use Rattle.q3_make.specs.Printed.{number_text, numbers_text, quoted_text}

-- a number of 32 bits has at most ten digits
pub ten : (n : ℕ) → n < 2 ^ 32 → length (decimal n) ≤ 10
ten n small = length-decimal-le 10 n (omega arith) (omega arith) (omega arith)

-- and one below 1,000 at most three
pub three : (n : ℕ) → n < 1000 → length (decimal n) ≤ 3
three n small = length-decimal-le 3 n (omega arith) (omega arith) (omega arith)

-- a text and a newline after it
pub with_newline : (text : List ℕ) → length text ≤ 999 → length (text ++ codes "\n") ≤ 1000
with_newline text short = rw (length-append text (codes "\n")) (omega arith)

-- a word and a number
pub number_short : (word : List ℕ) (n : ℕ) → length word ≤ 9 → n < 2 ^ 32 → length (number_text word n) ≤ 19
number_short word n short small =
    let digits = ten n small in
    let e : length (number_text word n) ≡ length word + (length (decimal n) + 0) = length-append word (decimal n ++ []) ∙ ap (λ (k : ℕ). length word + k) (length-append (decimal n) []) in
    rw e (omega arith)

-- a word and two numbers
pub numbers_short : (word : List ℕ) (m n : ℕ) → length word ≤ 9 → m < 2 ^ 32 → n < 2 ^ 32 → length (numbers_text word m n) ≤ 30
numbers_short word m n short small small' =
    let first = ten m small in
    let second = ten n small' in
    let e : length (numbers_text word m n) ≡ length word + (length (decimal m) + (1 + (length (decimal n) + 0))) = simp length-append (omega arith) in
    rw e (omega arith)

-- ---- quotes

-- a byte is spelled by at most four
byte_short : (byte : ℕ) → length (byte_spelling byte) ≤ 4
unfolding encode_with
byte_short byte =
    let P : List ℕ → Type 0 = λ text. length text ≤ 4 in
    cond_both (eqb byte 34) _ _ P (λ _. omega arith)
    (λ _. cond_both (eqb byte 92) _ _ P (λ _. omega arith)
    (λ _. cond_both (eqb byte 10) _ _ P (λ _. omega arith)
    (λ _. cond_both (leb 32 byte && leb byte 126) _ _ P (λ _. omega arith) (λ _. omega arith))))

bytes_short : (bytes : List ℕ) → length (flat_map byte_spelling bytes) ≤ 4 * length bytes
bytes_short [] = omega arith
bytes_short (byte ∷ bytes) =
    let first = byte_short byte in
    let others = bytes_short bytes in
    rw (length-append (byte_spelling byte) (flat_map byte_spelling bytes)) (omega arith)

-- a word, a number and a short text in quotes
pub quoted_short : (word : List ℕ) (n : ℕ) (text : List ℕ) → length word ≤ 9 → n < 2 ^ 32 → length text ≤ 16 → length (quoted_text word n text) ≤ 86
quoted_short word n text short small few =
    let digits = ten n small in
    let bytes = bytes_short text in
    let quote : length (codes "\"") ≡ 1 = refl in
    let e : length (quoted_text word n text) ≡ length word + (length (decimal n) + (3 + length (flat_map byte_spelling text))) = simp length-append (omega arith) in
    rw e (omega arith)

-- ---- words

-- words of at most ten bytes, each after a space
pub spaced_short : (words : List (List ℕ)) → All (λ word. length word ≤ 10) words → length (spaced words) ≤ 11 * length words
spaced_short [] each = omega arith
spaced_short (word ∷ words) each =
    let P : List ℕ → Type 0 = λ word. length word ≤ 10 in
    let first = All-head P word words each in
    let others = spaced_short words (All-tail P word words each) in
    let e : length (spaced (word ∷ words)) ≡ suc (length word) + length (spaced words) = length-append (codes " " ++ word) (spaced words) in
    rw e (omega arith)

-- ---- fields

word_short : (letter : List ℕ) (index word : ℕ) → length letter ≤ 1 → index < 1000 → word < 1000 → length (word_text letter index word) ≤ 9
word_short letter index word short few small =
    let first = three index few in
    let second = three word small in
    let e : length (codes " " ++ indexed_text letter index word) ≡ 1 + (length letter + (length (decimal index) + (1 + (length (decimal word) + 0)))) = simp length-append (omega arith) in
    cond_both (eqb word 0) [] (codes " " ++ indexed_text letter index word) (λ text. length text ≤ 9) (λ _. omega arith) (λ _. rw e (omega arith))

-- words below 1,000
pub words_short : (letter : List ℕ) (index : ℕ) (words : List ℕ) → length letter ≤ 1 → index + length words ≤ 1000 → All (λ word. word < 1000) words → length (words_text letter index words) ≤ 9 * length words
unfolding words_text
words_short letter index [] short few small = omega arith
words_short letter index (word ∷ words) short few small =
    let P : ℕ → Type 0 = λ word. word < 1000 in
    let first = word_short letter index word short (omega arith) (All-head P word words small) in
    let others = words_short letter (index + 1) words short (omega arith) (All-tail P word words small) in
    rw (length-append (word_text letter index word) (words_text letter (index + 1) words)) (omega arith)

-- words of 0 aren't printed
pub zeros_none : (letter : List ℕ) (index n : ℕ) → words_text letter index (replicate n 0) ≡ []
unfolding words_text
zeros_none letter index zero = refl
zeros_none letter index (suc n) = zeros_none letter (index + 1) n
