-- A change of a config string is the text of a command.
use Rattle.std.proofs.Common.{◌≡◌, ℕ, ◌+◌, ◌*◌, ◌/◌, ◌^◌, ◌<◌, ◌≤◌, true, false, cond, eqb, ltb, leb, List, [], ◌∷◌, ◌++◌, length, take, drop, map, Ok, inl, inr, refl, sym, ap, ◌∙◌, arith, append_assoc, length-append, length-take}
use Rattle.std.specs.Prelude.{codes, IsTrue}
use Rattle.std.specs.Fmt.{decimal}
use Rattle.std.specs.List.{All, concat}
use Rattle.std.proofs.lemmas.Bool.{cases_Bool, ltb-true, le-ltb, ne_eqb, false≢true, leb-true, and_parts}
use Rattle.std.proofs.lemmas.Fmt.{length-decimal-le}
use Rattle.std.proofs.lemmas.List.{map-append, append-nil}
use Rattle.std.proofs.lemmas.List.Folds.{list_all-append, map_fixed}
use Rattle.std.proofs.lemmas.List.Elements.{All-head, All-tail, All-take, All-drop, All-weaker}
use Rattle.std.proofs.lemmas.List.Sums.{AllPass-from_list_all}
use Rattle.q3_text.specs.Texts.{translated, text_of}
use Rattle.q3_text.specs.Decimals.{is_digit}
use Rattle.q3_text.specs.Cuts.{lacks}
use Rattle.q3_config.specs.Strings.{places, is_config_byte}
use Rattle.q3_config.specs.Commands.{Word, Whole, First, Middle, Last, spelled, piece_count, piece_size, change_text}
use Rattle.q3_text.specs.Laws.{TextLaws}

-- ---- what stands in a text

-- bytes that a config command may carry lack every other
pub lacks-carried : (byte : ℕ) (text : List ℕ) → is_config_byte byte ≡ false → All (λ x. IsTrue (is_config_byte x)) text → lacks byte text ≡ true
lacks-carried byte [] other carried = refl
lacks-carried byte (x ∷ text) other carried =
    let first = All-head (λ x. IsTrue (is_config_byte x)) x text carried in
    let differs : eqb x byte ≡ false = ne_eqb x byte (λ same. false≢true (sym other ∙ ap is_config_byte (sym same) ∙ first)) in
    rw (differs, lacks-carried byte text other (All-tail (λ x. IsTrue (is_config_byte x)) x text carried)) refl

-- the words lack what is no letter and no digit
pub lacks-zero : (word : Word) → lacks 0 (spelled word) ≡ true
lacks-zero Whole = refl
lacks-zero First = refl
lacks-zero Middle = refl
lacks-zero Last = refl

pub lacks-space : (word : Word) → lacks 32 (spelled word) ≡ true
lacks-space Whole = refl
lacks-space First = refl
lacks-space Middle = refl
lacks-space Last = refl

-- a text that is put together of such lacks the byte
lacks-joined : (byte : ℕ) (a b c d e f : List ℕ) → lacks byte a ≡ true → lacks byte b ≡ true → lacks byte c ≡ true → lacks byte d ≡ true → lacks byte e ≡ true → lacks byte f ≡ true → lacks byte (a ++ b ++ c ++ d ++ e ++ f) ≡ true
lacks-joined byte a b c d e f at bt ct dt et ft = simp (list_all-append, at, bt, ct, dt, et, ft)

-- ---- how it is kept

fixed-word : (word : Word) → map translated (spelled word) ≡ spelled word
fixed-word Whole = refl
fixed-word First = refl
fixed-word Middle = refl
fixed-word Last = refl

fixed-digit : (byte : ℕ) → is_digit byte ≡ true → translated byte ≡ byte
fixed-digit byte digit =
    let range = and_parts (leb 48 byte) (leb byte 57) digit in
    let low = leb-true 48 byte range.0 in
    let high = leb-true byte 57 range.1 in
    let seven : ltb 127 byte ≡ false = le-ltb 127 byte (omega arith) in
    let other : eqb byte 37 ≡ false = ne_eqb byte 37 (λ same. omega arith) in
    rw (seven, other) refl

fixed-decimal : (laws : TextLaws) (n : ℕ) → n < 2 ^ 64 → map translated (decimal n) ≡ decimal n
fixed-decimal laws n small = map_fixed translated (decimal n) (All-weaker (λ x. is_digit x ≡ true) (λ x. translated x ≡ x) fixed-digit (decimal n) (AllPass-from_list_all is_digit (decimal n) (laws.numbers.digits n small)))

mapped : (a b c d e f : List ℕ) → map translated (a ++ b ++ c ++ d ++ e ++ f) ≡ map translated a ++ map translated b ++ map translated c ++ map translated d ++ map translated e ++ map translated f
mapped a b c d e f = simp map-append

regroup : (a b c d e f : List ℕ) → a ++ b ++ c ++ d ++ e ++ f ≡ concat (a ∷ b ∷ c ∷ d ∷ e ∷ f ∷ [])
regroup a b c d e f = simp (append_assoc, append-nil)

-- ---- the text

-- a change as it is put together, before its text is translated
abbrev pub raw : Word → ℕ → List ℕ → List ℕ
raw word index text = spelled word ++ codes " " ++ decimal index ++ codes " \"" ++ text ++ codes "\"\n"

translated-raw : (laws : TextLaws) (word : Word) (index : ℕ) (text : List ℕ) → index < 2 ^ 64 → map translated (raw word index text) ≡ change_text (record { word = word; index = index; text = map translated text })
unfolding change_text
translated-raw laws word index text small =
    mapped (spelled word) (codes " ") (decimal index) (codes " \"") text (codes "\"\n")
    ∙ rw (fixed-word word, fixed-decimal laws index small) (regroup (spelled word) (codes " ") (decimal index) (codes " \"") (map translated text) (codes "\"\n"))

length-word : (word : Word) → length (spelled word) ≤ 4
length-word Whole = omega arith
length-word First = omega arith
length-word Middle = omega arith
length-word Last = omega arith

length-joined : (a b c d e f : List ℕ) → length (a ++ b ++ c ++ d ++ e ++ f) ≡ length a + length b + length c + length d + length e + length f
length-joined a b c d e f = simp length-append

-- it is put together part by part
pub built : (which : Word) (index : ℕ) (empty one two three four five six all word number text : List ℕ) → word ≡ spelled which → number ≡ decimal index
    → empty ≡ [] → one ≡ empty ++ word → two ≡ one ++ codes " " → three ≡ two ++ number → four ≡ three ++ codes " \"" → five ≡ four ++ text → six ≡ five ++ codes "\"\n" → all ≡ six → all ≡ raw which index text
built which index empty one two three four five six all word number text is_word is_number is_empty is_one is_two is_three is_four is_five is_six is_all =
    rw (is_all, is_six, is_five, is_four, is_three, is_two, is_one, is_empty, is_word, is_number) refl

-- it is few enough bytes, none of them 0
pub text_of-raw : (laws : TextLaws) (word : Word) (index : ℕ) (text : List ℕ) → index < places → length text ≤ piece_size → All (λ byte. IsTrue (is_config_byte byte)) text
    → text_of (raw word index text) ≡ Ok (change_text (record { word = word; index = index; text = map translated text }))
text_of-raw laws word index text within few carried =
    let digits = length-decimal-le 4 index (omega arith) (omega arith) (omega arith) in
    let size = length-joined (spelled word) (codes " ") (decimal index) (codes " \"") text (codes "\"\n") in
    let zeros : lacks 0 (raw word index text) ≡ true = lacks-joined 0 (spelled word) (codes " ") (decimal index) (codes " \"") text (codes "\"\n") (lacks-zero word) refl (laws.numbers.others 0 index refl (omega arith)) refl (lacks-carried 0 text refl carried) refl in
    laws.made (raw word index text) (omega (arith, length-word word)) zeros
    ∙ ap (λ (text : List ℕ). Ok text) (translated-raw laws word index text (omega arith))

-- ---- its pieces

-- the bytes of a piece
abbrev pub part : List ℕ → ℕ → List ℕ
part text k = cond (ltb (length text) 1000) text (take piece_size (drop (piece_size * k) text))

-- a piece begins inside the text
pub piece_inside : (bytes k : ℕ) → 1000 ≤ bytes → k < piece_count bytes → 999 * k < bytes
unfolding piece_count
piece_inside bytes k long within =
    let test : ltb bytes 1000 ≡ false = le-ltb _ _ long in
    let below : k < (bytes + 998) / 999 = rw test at within in
    omega arith

pub length-part : (text : List ℕ) (k : ℕ) → length (part text k) ≤ piece_size
length-part text k =
    elim (cases_Bool (ltb (length text) 1000)) [
      | inl few ↦ let below = ltb-true _ _ few in rw few (omega arith)
      | inr many ↦ rw many (omega (arith, length-take piece_size (drop (piece_size * k) text)))
    ]

pub carried-part : (text : List ℕ) (k : ℕ) → All (λ byte. IsTrue (is_config_byte byte)) text → All (λ byte. IsTrue (is_config_byte byte)) (part text k)
carried-part text k carried =
    elim (cases_Bool (ltb (length text) 1000)) [
      | inl few ↦ rw few carried
      | inr many ↦ rw many (All-take (λ byte. IsTrue (is_config_byte byte)) piece_size (drop (piece_size * k) text) (All-drop (λ byte. IsTrue (is_config_byte byte)) (piece_size * k) text carried))
    ]
