-- The words of a text, the first at the first space.
use Rattle.std.proofs.Common.{◌≡◌, ℕ, ◌-◌, ◌<◌, ◌≤◌, Bool, false, eqb, ltb, List, [], ◌∷◌, length, take, drop, Option, Some, None, refl, sym, ap, ◌∙◌, arith, one-add, inl, inr}
use Rattle.std.specs.List.{position, position_or_len, join_with_byte}
use Rattle.std.proofs.lemmas.Bool.{cases_Bool, ltb-false, ne_eqb}
use Rattle.std.proofs.lemmas.Option.{same_Some}
use Rattle.std.proofs.lemmas.List.{take_all, drop_all}
use Rattle.std.proofs.lemmas.List.Splits.{join_with_byte-slice_split}
use Rattle.q3_words.specs.Words.{words_of, words_left, next_of, only_of, text_from}
use Rattle.q3_words.specs.Laws.{IsOfLine, AreLeft}

-- the byte between two words
abbrev is_space : ℕ → Bool
is_space byte = eqb byte 32

-- a next word, and what may be missing
abbrev pub some_next : List ℕ × List (List ℕ) → Option (List ℕ × List (List ℕ))
some_next next = Some next

abbrev none_place : Option ℕ
none_place = None

-- the first word ends at the first space, or at the end
pub words_at_space : (text : List ℕ) → words_of text ≡ take (position_or_len is_space text) text ∷ words_left (drop (position_or_len is_space text) text)
words_at_space [] = refl
words_at_space (x ∷ text) =
    elim (cases_Bool (eqb x 32)) [
      | inl space ↦ rw space refl
      | inr other ↦ rw (other, words_at_space text, one-add) refl
    ]

-- words are left where bytes are
pub some_left : (left : List ℕ) → 0 < length left → eqb (length (words_left left)) 0 ≡ false
some_left [] some = absurd (omega arith)
some_left (space ∷ text) some = rw (words_at_space text) (ne_eqb _ 0 (λ none. absurd (omega arith)))

abbrev some_word : List ℕ → Option (List ℕ)
some_word word = Some word

abbrev none_word : Option (List ℕ)
none_word = None

-- a word is not the only one if something is left after it
pub only_of_more : (word : List ℕ) (left : List ℕ) → 0 < length left → none_word ≡ only_of (word ∷ words_left left)
only_of_more word [] some = absurd (omega arith)
only_of_more word (x ∷ text) some = rw words_at_space refl

-- what the next word was taken from
pub next_of_some : (word : List ℕ) (words left : List (List ℕ)) → some_next (word, words) ≡ next_of left → left ≡ word ∷ words
next_of_some word words [] e = absurd cc
next_of_some word words (first ∷ others) e = ap (λ (x : List ℕ × List (List ℕ)). x.0 ∷ x.1) (same_Some (first, others) (word, words) (sym e))

abbrev pub none_next : Option (List ℕ × List (List ℕ))
none_next = None

-- where there is no next word, none is left
pub next_of_none : (left : List (List ℕ)) → none_next ≡ next_of left → left ≡ []
next_of_none [] e = refl
next_of_none (word ∷ words) e = absurd cc

-- a place that passes is the first, and where none does the first is the end
some_place : (text : List ℕ) (end : ℕ) → Some end ≡ position is_space text → end ≡ position_or_len is_space text
some_place text end is =
    elim (cases_Bool (ltb (position_or_len is_space text) (length text))) [
      | inl below ↦ let e : Some end ≡ Some (position_or_len is_space text) = rw below at is in cc
      | inr past ↦ let e : Some end ≡ None = rw past at is in absurd cc
    ]

-- where no place passes, the first is the end
no_place : (text : List ℕ) → none_place ≡ position is_space text → length text ≤ position_or_len is_space text
no_place text is =
    elim (cases_Bool (ltb (position_or_len is_space text) (length text))) [
      | inl below ↦ let e : none_place ≡ Some (position_or_len is_space text) = rw below at is in absurd cc
      | inr past ↦ ltb-false _ _ past
    ]

-- the first word, and what is left after it, where there is a space
pub words_at_place : (text front back : List ℕ) (end : ℕ) → Some end ≡ position is_space text → front ≡ take end text → back ≡ drop end text → words_of text ≡ front ∷ words_left back
words_at_place text front back end is before after = rw (before, after, some_place text end is) (words_at_space text)

-- the only word, where there is none
pub words_at_none : (text : List ℕ) → none_place ≡ position is_space text → words_of text ≡ text ∷ []
words_at_none text is =
    let past = no_place text is in
    let all : take (position_or_len is_space text) text ≡ text = take_all _ text past in
    let nothing : drop (position_or_len is_space text) text ≡ [] = drop_all _ text past in
    words_at_space text ∙ rw (all, nothing) refl

-- ---- words that come of a line

-- after the first of the words that are left others are left
past_first : (left word : List ℕ) (others : List (List ℕ)) → word ∷ others ≡ words_left left → AreLeft others
past_first [] word others e = absurd cc
past_first (space ∷ text) word others e =
    let both = e ∙ words_at_space text in
    let same : others ≡ words_left (drop (position_or_len is_space text) text) = cc in
    (drop (position_or_len is_space text) text, same)

-- which a line is cut into, if there are any
of_line : (left first : List ℕ) (rest : List (List ℕ)) → first ∷ rest ≡ words_left left → IsOfLine (first ∷ rest)
of_line [] first rest e = absurd cc
of_line (space ∷ text) first rest e = (text, e)

pub second_of_line : (word first : List ℕ) (rest : List (List ℕ)) → AreLeft (word ∷ first ∷ rest) → IsOfLine (first ∷ rest)
second_of_line word first rest are =
    let left = past_first are.0 word (first ∷ rest) are.1 in
    of_line left.0 first rest left.1

-- words that there are, as the one text that they were cut from
text_from_some : (words : List (List ℕ)) (word : List ℕ) (others : List (List ℕ)) → words ≡ word ∷ others → text_from words ≡ Some (join_with_byte 32 words)
text_from_some words word others e = rw e refl

-- all that is left after a space
pub text_after : (left : List ℕ) → 0 < length left → some_word (take (length left - 1) (drop 1 left)) ≡ text_from (words_left left)
text_after [] some = absurd (omega arith)
text_after (space ∷ text) some =
    let size : length (space ∷ text) - 1 ≡ length text = omega arith in
    let all : take (length text) text ≡ text = take_all (length text) text (omega arith) in
    let is = text_from_some (words_of text) (take (position_or_len is_space text) text) (words_left (drop (position_or_len is_space text) text)) (words_at_space text) in
    rw (size, all, is, join_with_byte-slice_split 32 text) refl
