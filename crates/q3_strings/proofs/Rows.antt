-- Rows of bytes and of commands.
use Rattle.std.proofs.Common.{◌≡◌, ◌+◌, ◌*◌, ◌-◌, ◌/◌, ◌%◌, ◌^◌, ◌<◌, ◌≤◌, ℕ, Bool, List, [], ◌∷◌, ◌++◌, length, take, drop, get_or, refl, sym, ap, ◌∙◌, arith}
use Rattle.std.proofs.lemmas.List.{drop_more, drop_all, map-append, take-append-drop, take-take, drop-take, drop-drop, length-take, append-nil}
use Rattle.std.proofs.lemmas.Grind.{flat_map-append}
use Rattle.q3_bits.specs.Bits.{low_bits}
use Rattle.q3_bits.specs.Words.{word_of, bytes_bits, field_bits, row_bits}
use Rattle.q3_text.specs.declared.text.Command.{Command}
use Rattle.q3_text.specs.declared.text.CommandRun.{CommandRun}
use Rattle.q3_text.specs.Commands.{commands_of}
use Rattle.q3_strings.specs.Texts.{bytes_row, string_bits}
use Rattle.q3_strings.specs.Commands.{issued_bits, commands_bits}

-- what is left of the bytes, one byte on
pub bytes-next : (words same : List (List Bool)) (bytes : List ℕ) (k : ℕ) → same ≡ words → k < length bytes
    → bytes_row words (drop k bytes) ≡ field_bits same 8 (get_or bytes k 0) ++ bytes_row words (drop (k + 1) bytes)
unfolding row_bits
bytes-next words same bytes k is more = rw (is, drop_more bytes k 0 more) refl

pub bytes-end : (words : List (List Bool)) (bytes : List ℕ) (k : ℕ) → length bytes ≤ k → bytes_row words (drop k bytes) ≡ []
unfolding row_bits
bytes-end words bytes k past = rw (drop_all k bytes past) refl

-- a string is its bytes and a 0
pub string-is : (words : List (List Bool)) (text : List ℕ) → string_bits words text ≡ bytes_row words text ++ row_bits words ((0, 8) ∷ [])
unfolding row_bits
string-is words text = rw (map-append, flat_map-append) refl

-- what is left of the commands, one command on
pub commands-next : (words same : List (List Bool)) (operation : ℕ) (commands : List Command) (k : ℕ) (command : Command) → same ≡ words → k < length commands → command ≡ get_or commands k command
    → commands_bits words operation (drop k commands) ≡ issued_bits same operation command ++ commands_bits words operation (drop (k + 1) commands)
commands-next words same operation commands k command is more item = rw (is, drop_more commands k command more, ← item) refl

-- the commands of a run are those of its first piece, and after them those of its second
pub commands-both : (words : List (List Bool)) (operation : ℕ) (run : CommandRun)
    → commands_bits words operation (commands_of run) ≡ commands_bits words operation run.head.now ++ commands_bits words operation run.tail.now
commands-both words operation run = rw flat_map-append refl

-- ---- four bytes at once

bytes-append : (words : List (List Bool)) (xs ys : List ℕ) → bytes_row words (xs ++ ys) ≡ bytes_row words xs ++ bytes_row words ys
unfolding row_bits
bytes-append words xs ys = rw (map-append, flat_map-append) refl

-- bytes, and those after a place of theirs
pub bytes-parts : (words : List (List Bool)) (bytes : List ℕ) (k : ℕ) → bytes_row words bytes ≡ bytes_row words (take k bytes) ++ bytes_row words (drop k bytes)
bytes-parts words bytes k = ap (bytes_row words) (sym (take-append-drop k bytes)) ∙ bytes-append words (take k bytes) (drop k bytes)

-- what is left of so many times four bytes, four bytes on
pub fours-next : (words same : List (List Bool)) (bytes : List ℕ) (count k four : ℕ) → same ≡ words → k < count
    → ((words : List (List Bool)) → field_bits words 32 four ≡ bytes_row words (take 4 (drop (4 * k) bytes)))
    → bytes_row words (drop (4 * k) (take (4 * count) bytes)) ≡ field_bits same 32 four ++ bytes_row words (drop (4 * (k + 1)) (take (4 * count) bytes))
fours-next words same bytes count k four is more text =
    let all = take (4 * count) bytes in
    let rest : ℕ = 4 * count - 4 * k in
    let whole : 4 * count ≡ 4 * k + rest = omega arith in
    let first : take 4 (drop (4 * k) all) ≡ take 4 (drop (4 * k) bytes) =
    ap (λ (n : ℕ). take 4 (drop (4 * k) (take n bytes))) whole ∙ ap (take 4) (drop-take (4 * k) rest bytes) ∙ take-take 4 rest (drop (4 * k) bytes) (omega arith) in
    let after : drop 4 (drop (4 * k) all) ≡ drop (4 * (k + 1)) all = drop-drop 4 (4 * k) all ∙ ap (λ (n : ℕ). drop n all) (omega arith) in
    bytes-parts words (drop (4 * k) all) 4
    ∙ ap (λ (xs : List ℕ). bytes_row words xs ++ bytes_row words (drop 4 (drop (4 * k) all))) first
    ∙ ap (λ (xs : List ℕ). bytes_row words (take 4 (drop (4 * k) bytes)) ++ bytes_row words xs) after
    ∙ ap (λ (bits : List Bool). bits ++ bytes_row words (drop (4 * (k + 1)) all)) (sym (text words) ∙ ap (λ (ws : List (List Bool)). field_bits ws 32 four) (sym is))

pub fours-end : (words : List (List Bool)) (bytes : List ℕ) (count k : ℕ) → count ≤ k → bytes_row words (drop (4 * k) (take (4 * count) bytes)) ≡ []
fours-end words bytes count k past = bytes-end words (take (4 * count) bytes) (4 * k) (omega (arith, length-take (4 * count) bytes))

-- a number of four bytes, as a field
pub four-bytes : (words : List (List Bool)) (a b c d : ℕ) → a < 256 → b < 256 → c < 256 → d < 256
    → field_bits words 32 (a + 256 * b + 65536 * c + 16777216 * d) ≡ bytes_row words (a ∷ b ∷ c ∷ d ∷ [])
unfolding row_bits field_bits bytes_bits low_bits
four-bytes words a b c d a_is b_is c_is d_is =
    let n : ℕ = a + 256 * b + 65536 * c + 16777216 * d in
    let w : ℕ → List Bool = λ x. word_of words (x / 2 ^ (8 % 8) % 256) in
    let one : n / 2 ^ (32 % 8) % 256 ≡ a / 2 ^ (8 % 8) % 256 = omega arith in
    let two : n / 2 ^ (32 % 8) / 256 % 256 ≡ b / 2 ^ (8 % 8) % 256 = omega arith in
    let three : n / 2 ^ (32 % 8) / 256 / 256 % 256 ≡ c / 2 ^ (8 % 8) % 256 = omega arith in
    let last : n / 2 ^ (32 % 8) / 256 / 256 / 256 % 256 ≡ d / 2 ^ (8 % 8) % 256 = omega arith in
    let whole : field_bits words 32 n ≡ w a ++ (w b ++ (w c ++ (w d ++ []))) = rw (one, two, three, last) refl in
    whole
    ∙ sym (ap (λ (x : List Bool). x ++ ((w b ++ []) ++ ((w c ++ []) ++ ((w d ++ []) ++ [])))) (append-nil (w a))
    ∙ ap (λ (x : List Bool). w a ++ (x ++ ((w c ++ []) ++ ((w d ++ []) ++ [])))) (append-nil (w b))
    ∙ ap (λ (x : List Bool). w a ++ (w b ++ (x ++ ((w d ++ []) ++ [])))) (append-nil (w c))
    ∙ ap (λ (x : List Bool). w a ++ (w b ++ (w c ++ (x ++ [])))) (append-nil (w d)))

-- the first four bytes from a place on
pub four-front : (bytes : List ℕ) (place : ℕ) → place + 4 ≤ length bytes
    → take 4 (drop place bytes) ≡ get_or bytes place 0 ∷ get_or bytes (place + 1) 0 ∷ get_or bytes (place + 2) 0 ∷ get_or bytes (place + 3) 0 ∷ []
four-front bytes place within =
    let next : (k m : ℕ) → k + 1 ≡ m → k < length bytes → drop k bytes ≡ get_or bytes k 0 ∷ drop m bytes = λ k m is more.
    drop_more bytes k 0 more ∙ ap (λ (n : ℕ). get_or bytes k 0 ∷ drop n bytes) is in
    ap (take 4) (next place (place + 1) (omega arith) (omega arith)
    ∙ ap (λ (xs : List ℕ). get_or bytes place 0 ∷ xs) (next (place + 1) (place + 2) (omega arith) (omega arith)
    ∙ ap (λ (xs : List ℕ). get_or bytes (place + 1) 0 ∷ xs) (next (place + 2) (place + 3) (omega arith) (omega arith)
    ∙ ap (λ (xs : List ℕ). get_or bytes (place + 2) 0 ∷ xs) (next (place + 3) (place + 4) (omega arith) (omega arith)))))
