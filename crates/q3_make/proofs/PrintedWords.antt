-- The words that a printed line is cut into.
use Rattle.std.proofs.Common.{◌≡◌, ℕ, zero, suc, ◌+◌, ◌/◌, ◌%◌, ◌^◌, ◌<◌, ◌≤◌, true, false, eqb, List, [], ◌∷◌, ◌++◌, length, replicate, All, refl, sym, ap, subst, ◌∙◌, arith, inl, inr}
use Rattle.std.specs.Prelude.{codes, not, slice_index}
use Rattle.std.specs.Fmt.{decimal}
use Rattle.std.specs.List.{flat_map}
use Rattle.std.proofs.lemmas.Bool.{cases_Bool, and_parts, not-true, ne_eqb}
use Rattle.std.proofs.lemmas.List.{append-nil, length-replicate}
use Rattle.std.proofs.lemmas.List.Folds.{list_all-append}
use Rattle.std.proofs.lemmas.List.Elements.{All-nil, All-cons, All-head, All-tail, All-get_or}
use Rattle.std.proofs.lemmas.List.Sums.{AllPass-from_list_all}
use Rattle.std.proofs.lemmas.List.Splits.{slice_split_at, slice_split_none}
use Rattle.hex.specs.Hex.{lower_digits, encode_with, encode_lower}
use Rattle.q3_io.specs.Print.{indexed_text, words_text}
use Rattle.q3_io.specs.Quoted.{byte_spelling, quoted}
use Rattle.q3_clmsg.specs.Report.{spaced}
use Rattle.q3_fields.specs.Places.{Change, AreRising}
use Rattle.q3_player.specs.Arrays.{changes_from}
use Rattle.q3_text.specs.Cuts.{lacks}
use Rattle.q3_words.specs.Words.{words_of}
use Rattle.q3_io.specs.Print.{hex_word}
use Rattle.q3_words.specs.Fields.{values_of, field_words, AreFields}
use Rattle.q3_words.specs.Quotes.{is_printed}
use Rattle.q3_text.specs.Laws.{TextLaws}
use Rattle.q3_player.specs.Laws.{ArraysAreKept}

-- ---- bytes that a text lacks

pub without : (byte : ℕ) (text : List ℕ) → lacks byte text ≡ true → All (λ x. eqb x byte ≡ false) text
without byte [] e = All-nil (λ x. eqb x byte ≡ false)
without byte (x ∷ text) e =
    let parts = and_parts (not (eqb x byte)) (lacks byte text) e in
    All-cons (λ x. eqb x byte ≡ false) x text (not-true (eqb x byte) parts.0) (without byte text parts.1)

pub lacks_both : (byte : ℕ) (front back : List ℕ) → lacks byte front ≡ true → lacks byte back ≡ true → lacks byte (front ++ back) ≡ true
lacks_both byte front back e e' = rw (list_all-append (λ x. not (eqb x byte)) front back, e, e') refl

-- a word of a line has no space and no newline
pub record IsWord (word : List ℕ) : Type 0 where
  pub no_space : lacks 32 word ≡ true
  pub no_newline : lacks 10 word ≡ true

pub word_and : (front back : List ℕ) → IsWord front → IsWord back → IsWord (front ++ back)
word_and front back is is' = record { no_space = lacks_both 32 front back is.no_space is'.no_space; no_newline = lacks_both 10 front back is.no_newline is'.no_newline }

pub decimal_word : (laws : TextLaws) (n : ℕ) → n < 2 ^ 64 → IsWord (decimal n)
decimal_word laws n small = record { no_space = laws.numbers.others 32 n refl small; no_newline = laws.numbers.others 10 n refl small }

abbrev pub AreLineWords : List (List ℕ) → Type 0
AreLineWords [] = Unit {0}
AreLineWords (word ∷ words) = IsWord word × AreLineWords words

pub words_and : (front back : List (List ℕ)) → AreLineWords front → AreLineWords back → AreLineWords (front ++ back)
words_and [] back are are' = are'
words_and (word ∷ front) back are are' = (are.0, words_and front back are.1 are')

-- ---- lines of words

-- a text on one line that is cut into these words
pub record Prints (text : List ℕ) (words : List (List ℕ)) : Type 0 where
  pub cut : words_of text ≡ words
  pub one_line : lacks 10 text ≡ true

-- the only word
pub only : (word : List ℕ) → IsWord word → Prints word (word ∷ [])
only word is = record { cut = slice_split_none (λ x. eqb x 32) word (without 32 word is.no_space); one_line = is.no_newline }

-- a word in front of others
pub before : (word text : List ℕ) (words : List (List ℕ)) → IsWord word → Prints text words → Prints (word ++ 32 ∷ text) (word ∷ words)
before word text words is others = record {
  cut = slice_split_at (λ x. eqb x 32) word 32 text (without 32 word is.no_space) refl ∙ ap (λ (ws : List (List ℕ)). word ∷ ws) others.cut;
  one_line = lacks_both 10 word (32 ∷ text) is.no_newline others.one_line;
}

-- a row of words
pub row : (word : List ℕ) (words : List (List ℕ)) → IsWord word → AreLineWords words → Prints (word ++ spaced words) (word ∷ words)
row word [] is are = rw append-nil (only word is)
row word (next ∷ words) is are = before word (next ++ spaced words) (next ∷ words) is (row next words are.0 are.1)

-- ---- digits

-- no digit of hex is a space or a newline
no_space_digit : (value : ℕ) → value < 16 → eqb (slice_index lower_digits value) 32 ≡ false
no_space_digit value lt = not-true _ (All-get_or (λ digit. not (eqb digit 32) ≡ true) lower_digits value 0 lt (AllPass-from_list_all (λ digit. not (eqb digit 32)) lower_digits refl))

no_newline_digit : (value : ℕ) → value < 16 → eqb (slice_index lower_digits value) 10 ≡ false
no_newline_digit value lt = not-true _ (All-get_or (λ digit. not (eqb digit 10) ≡ true) lower_digits value 0 lt (AllPass-from_list_all (λ digit. not (eqb digit 10)) lower_digits refl))

hex_is_word : (bytes : List ℕ) → All (λ byte. byte < 256) bytes → IsWord (encode_lower bytes)
unfolding encode_with
hex_is_word [] each = record { no_space = refl; no_newline = refl }
hex_is_word (byte ∷ bytes) each =
    let small = All-head (λ (byte : ℕ). byte < 256) byte bytes each in
    let others = hex_is_word bytes (All-tail (λ (byte : ℕ). byte < 256) byte bytes each) in
    record {
      no_space = rw (no_space_digit (byte / 16) (omega arith), no_space_digit (byte % 16) (omega arith)) others.no_space;
      no_newline = rw (no_newline_digit (byte / 16) (omega arith), no_newline_digit (byte % 16) (omega arith)) others.no_newline;
    }

pub hex_text_is_word : (bytes : List ℕ) → All (λ byte. byte < 256) bytes → IsWord (hex_word bytes)
hex_text_is_word [] each = record { no_space = refl; no_newline = refl }
hex_text_is_word (byte ∷ bytes) each = hex_is_word (byte ∷ bytes) each

-- ---- names

-- no byte of a name is a space or a newline
pub name_is_word : (bytes : List ℕ) → All (λ byte. (33 ≤ byte) × (byte ≤ 126)) bytes → IsWord bytes
name_is_word [] each = record { no_space = refl; no_newline = refl }
name_is_word (byte ∷ bytes) each =
    let here = All-head (λ (byte : ℕ). (33 ≤ byte) × (byte ≤ 126)) byte bytes each in
    let others = name_is_word bytes (All-tail (λ (byte : ℕ). (33 ≤ byte) × (byte ≤ 126)) byte bytes each) in
    let least = here.0 in
    record {
      no_space = rw (ne_eqb byte 32 (λ e. absurd (omega arith))) others.no_space;
      no_newline = rw (ne_eqb byte 10 (λ e. absurd (omega arith))) others.no_newline;
    }

-- ---- bytes in quotes

spelled_on_one_line : (byte : ℕ) → byte < 256 → lacks 10 (byte_spelling byte) ≡ true
unfolding encode_with
spelled_on_one_line byte small =
    elim (cases_Bool (eqb byte 34)) [
      | inl quote ↦ rw quote refl
      | inr no_quote ↦ elim (cases_Bool (eqb byte 92)) [
        | inl backslash ↦ rw (no_quote, backslash) refl
        | inr no_backslash ↦ elim (cases_Bool (eqb byte 10)) [
          | inl newline ↦ rw (no_quote, no_backslash, newline) refl
          | inr no_newline ↦ elim (cases_Bool (is_printed byte)) [
            | inl printed ↦ rw (no_quote, no_backslash, no_newline, printed, no_newline) refl
            | inr unseen ↦ rw (no_quote, no_backslash, no_newline, unseen, no_newline_digit (byte / 16) (omega arith), no_newline_digit (byte % 16) (omega arith)) refl
          ]
        ]
      ]
    ]

spelled_lacks : (bytes : List ℕ) → All (λ byte. (0 < byte) × (byte < 256)) bytes → lacks 10 (flat_map byte_spelling bytes) ≡ true
spelled_lacks [] each = refl
spelled_lacks (byte ∷ bytes) each =
    let here = All-head (λ (byte : ℕ). (0 < byte) × (byte < 256)) byte bytes each in
    lacks_both 10 (byte_spelling byte) (flat_map byte_spelling bytes) (spelled_on_one_line byte here.1) (spelled_lacks bytes (All-tail (λ (byte : ℕ). (0 < byte) × (byte < 256)) byte bytes each))

pub quoted_prints : (bytes : List ℕ) → All (λ byte. (0 < byte) × (byte < 256)) bytes → Prints (quoted bytes) (words_of (quoted bytes))
quoted_prints bytes each = record {
  cut = refl;
  one_line = lacks_both 10 (codes "\"" ++ flat_map byte_spelling bytes) (codes "\"") (lacks_both 10 (codes "\"") (flat_map byte_spelling bytes) refl (spelled_lacks bytes each)) refl;
}

-- ---- fields

field_is_word : (laws : TextLaws) (letter : List ℕ) (index value : ℕ) → IsWord letter → index < 2 ^ 64 → value < 2 ^ 64 → IsWord (indexed_text letter index value)
field_is_word laws letter index value is small small' =
    let colon : IsWord (codes ":") = record { no_space = refl; no_newline = refl } in
    let nothing : IsWord [] = record { no_space = refl; no_newline = refl } in
    word_and letter (decimal index ++ (codes ":" ++ (decimal value ++ []))) is
    (word_and (decimal index) (codes ":" ++ (decimal value ++ [])) (decimal_word laws index small)
    (word_and (codes ":") (decimal value ++ []) colon (word_and (decimal value) [] (decimal_word laws value small') nothing)))

pub fields_are_words : (laws : TextLaws) (letter : List ℕ) (limit least : ℕ) (fields : List Change) → limit < 2 ^ 32 → IsWord letter → AreFields limit least fields → AreLineWords (field_words letter fields)
fields_are_words laws letter limit least [] few is are = tt
fields_are_words laws letter limit least (field ∷ fields) few is are =
    let value = All-head (λ (field : Change). field.1 < 2 ^ 32) field fields are.1 in
    let index = are.0.1 in (
      field_is_word laws letter field.0 field.1 is (omega arith) (omega arith),
      fields_are_words laws letter limit (field.0 + 1) fields few is (are.0.2, All-tail (λ (field : Change). field.1 < 2 ^ 32) field fields are.1),
    )

-- words that are printed with their indexes are fields: those that aren't 0
pub words_spaced : (letter : List ℕ) (index : ℕ) (words : List ℕ) → words_text letter index words ≡ spaced (field_words letter (changes_from index (replicate (length words) 0) words))
unfolding words_text changes_from
words_spaced letter index [] = refl
words_spaced letter index (zero ∷ words) = words_spaced letter (index + 1) words
words_spaced letter index (suc n ∷ words) =
    let some : eqb (suc n) 0 ≡ false = ne_eqb (suc n) 0 (λ none. absurd (omega arith)) in
    let some' : eqb 0 (suc n) ≡ false = ne_eqb 0 (suc n) (λ none. absurd (omega arith)) in
    rw (some, some') (ap (λ (rest : List ℕ). codes " " ++ indexed_text letter index (suc n) ++ rest) (words_spaced letter (index + 1) words))

-- and small, where the words are
changes_small : (index : ℕ) (from words : List ℕ) → All (λ word. word < 2 ^ 32) words → All (λ field. field.1 < 2 ^ 32) (changes_from index from words)
unfolding changes_from
changes_small index [] words each = All-nil (λ (field : Change). field.1 < 2 ^ 32)
changes_small index (x ∷ from) [] each = All-nil (λ (field : Change). field.1 < 2 ^ 32)
changes_small index (x ∷ from) (y ∷ words) each =
    let others = changes_small (index + 1) from words (All-tail (λ (word : ℕ). word < 2 ^ 32) y words each) in
    elim (cases_Bool (eqb x y)) [
      | inl same ↦ rw same others
      | inr differs ↦ rw differs (All-cons (λ (field : Change). field.1 < 2 ^ 32) (index, y) (changes_from (index + 1) from words) (All-head (λ (word : ℕ). word < 2 ^ 32) y words each) others)
    ]

-- the fields of words
pub record HasFields (letter : List ℕ) (count : ℕ) (words : List ℕ) : Type 0 where
  pub fields : List Change
  pub are : AreFields count 0 fields
  pub text : words_text letter 0 words ≡ spaced (field_words letter fields)
  pub values : words ≡ values_of count fields

pub fields_of : (arrays : ArraysAreKept) (letter : List ℕ) (count : ℕ) (words : List ℕ) → length words ≡ count → All (λ word. word < 2 ^ 32) words → HasFields letter count words
fields_of arrays letter count words size each =
    subst (λ (n : ℕ). HasFields letter n words) size (record {
      fields = changes_from 0 (replicate (length words) 0) words;
      are = (
        subst (λ (n : ℕ). AreRising n 0 (changes_from 0 (replicate (length words) 0) words)) (length-replicate (length words) 0) (arrays.rise (replicate (length words) 0) words),
        changes_small 0 (replicate (length words) 0) words each,
      );
      text = words_spaced letter 0 words;
      values = sym (arrays.made (replicate (length words) 0) words (length-replicate (length words) 0));
    })
