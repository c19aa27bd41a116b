-- Words that are printed by their index.
use Rattle.std.proofs.Common.{◌≡◌, ℕ, ◌+◌, ◌<◌, List, [], ◌∷◌, ◌++◌, length, take, drop, get_or, refl, sym, ap, ◌∙◌, append_assoc, arith}
use Rattle.std.proofs.lemmas.List.{append-nil, take_more, length-take-le, take-append-drop}
use Rattle.q3_io.specs.Print.{word_text, words_text}

-- no words have no text
pub words_text-nil : (letter : List ℕ) → words_text letter 0 [] ≡ []
unfolding words_text
words_text-nil letter = refl

-- the words of joined lists
words_text-append : (letter : List ℕ) (index : ℕ) (xs ys : List ℕ) → words_text letter index (xs ++ ys) ≡ words_text letter index xs ++ words_text letter (index + length xs) ys
unfolding words_text
words_text-append letter index [] ys = ap (λ i. words_text letter i ys) (omega arith)
words_text-append letter index (x ∷ xs) ys =
    ap (λ t. word_text letter index x ++ t) (words_text-append letter (index + 1) xs ys)
    ∙ (sym (append_assoc (word_text letter index x) (words_text letter (index + 1) xs) (words_text letter (index + 1 + length xs) ys))
    ∙ ap (λ i. (word_text letter index x ++ words_text letter (index + 1) xs) ++ words_text letter i ys) (omega arith))

-- the words of a list with one more at its end
words_text-push : (letter : List ℕ) (index : ℕ) (words : List ℕ) (word : ℕ) → words_text letter index (words ++ word ∷ []) ≡ words_text letter index words ++ word_text letter (index + length words) word
unfolding words_text
words_text-push letter index words word = words_text-append letter index words (word ∷ []) ∙ ap (λ t. words_text letter index words ++ t) (append-nil (word_text letter (index + length words) word))

-- the words before an index and the word there
pub words_text-more : (letter words : List ℕ) (index : ℕ) → index < length words
    → words_text letter 0 (take (index + 1) words) ≡ words_text letter 0 (take index words) ++ word_text letter index (get_or words index 0)
words_text-more letter words index within =
    ap (words_text letter 0) (take_more words index 0 within) ∙ (words_text-push letter 0 (take index words) (get_or words index 0)
    ∙ ap (λ i. words_text letter 0 (take index words) ++ word_text letter i (get_or words index 0)) (omega (arith, length-take-le index words (omega arith))))

-- the words after an index
abbrev pub words_after : List ℕ → List ℕ → ℕ → List ℕ
words_after letter words index = words_text letter (0 + length (take (index + 1) words)) (drop (index + 1) words)

-- the words before an index, the word there, and the others
pub words_text-split : (letter words : List ℕ) (index : ℕ) → index < length words
    → words_text letter 0 words ≡ (words_text letter 0 (take index words) ++ word_text letter index (get_or words index 0)) ++ words_after letter words index
words_text-split letter words index within =
    ap (words_text letter 0) (sym (take-append-drop (index + 1) words))
    ∙ (words_text-append letter 0 (take (index + 1) words) (drop (index + 1) words) ∙ ap (λ t. t ++ words_after letter words index) (words_text-more letter words index within))
