-- Words of a code given as text, and where they clash.
use Rattle.std.proofs.Common.{◌≡◌, ◌⊎◌, ℕ, zero, suc, ◌+◌, ◌-◌, ◌^◌, ◌<◌, ◌≤◌, Bool, true, false, cond, eqb, List, [], ◌∷◌, ◌++◌, length, map, get_or, take, drop, Option, Some, None, refl, sym, ap, subst, ◌∙◌, arith, inl, inr}
use Rattle.std.specs.List.{range_with_len, flat_map, find}
use Rattle.std.specs.Option.{is_some, option_or, option_map}
use Rattle.std.specs.Borrow.{Bor}
use Rattle.std.proofs.lemmas.Bool.{cases_Bool, cases_eq, false≢true, eq-eqb, ne_eqb}
use Rattle.std.proofs.lemmas.Option.{none-some}
use Rattle.std.proofs.lemmas.List.{length-map, get_or-map, take_all, drop_more, drop_all, take_more, map_push}
use Rattle.std.proofs.lemmas.List.Concat.{flat_map-cons}
use Rattle.std.proofs.lemmas.List.Folds.{find-append}
use Rattle.std.proofs.Math.Nat.{mod-eq_of_lt}
use Rattle.q3_bits.specs.Bits.{low_bits, number_of}
use Rattle.q3_bits.specs.declared.code.Word.{Word}
use Rattle.q3_bits.specs.Words.{word_of, bits_after, IsCode}
use Rattle.q3_bits.specs.Table.{bits_of_word, words_of, IsWord}
use Rattle.q3_bits.specs.CodeWords.{texts_of, bits_of_text, word_fault, words_fault, pairs, clashes, first_clash, code_fault}
use Rattle.q3_bits.specs.declared.words.CodeError.TheVariants.{NoMemory, Count, Clash}
use Rattle.q3_bits.specs.declared.words.CodeError.{CodeError}
use Rattle.q3_bits.proofs.CodeText.{bits_after-append}
use Rattle.q3_bits.proofs.Numbers.{number_of-take_more, low_bits-number_of, length-low_bits, number_of-low_bits}

-- ---- the bits of a text

-- a bit for each letter
pub length-bits_of_text : (text : List ℕ) → length (bits_of_text text) ≡ length text
unfolding bits_of_text
length-bits_of_text text = length-map text (λ letter. eqb letter 49)

-- one letter more is a 1
pub text_more_one : (text : List ℕ) (k : ℕ) → k < length text → get_or text k 0 ≡ 49 → number_of (take (k + 1) (bits_of_text text)) ≡ number_of (take k (bits_of_text text)) + 2 ^ k
unfolding bits_of_text
text_more_one text k lt is =
    let one : get_or (map (λ letter. eqb letter 49) text) k false ≡ true = get_or-map (λ letter. eqb letter 49) text k 0 false lt ∙ eq-eqb _ _ is in
    number_of-take_more (bits_of_text text) k (omega (arith, length-bits_of_text text)) ∙ rw one (omega arith)

-- or a 0
pub text_more_zero : (text : List ℕ) (k : ℕ) → k < length text → (get_or text k 0 ≡ 49 → ⊥) → number_of (take (k + 1) (bits_of_text text)) ≡ number_of (take k (bits_of_text text))
unfolding bits_of_text
text_more_zero text k lt is =
    let none : get_or (map (λ letter. eqb letter 49) text) k false ≡ false = get_or-map (λ letter. eqb letter 49) text k 0 false lt ∙ ne_eqb _ _ is in
    number_of-take_more (bits_of_text text) k (omega (arith, length-bits_of_text text)) ∙ rw none (omega arith)

-- and at the end the text is spelled
pub text_whole : (text : List ℕ) (k : ℕ) → length text ≤ k → number_of (take k (bits_of_text text)) ≡ number_of (bits_of_text text)
text_whole text k past = ap number_of (take_all k (bits_of_text text) (omega (arith, length-bits_of_text text)))

-- the low bits of the number that a text spells are the text's
pub low_bits-text : (text : List ℕ) → low_bits (length text) (number_of (bits_of_text text)) ≡ bits_of_text text
low_bits-text text = subst (λ (n : ℕ). low_bits n (number_of (bits_of_text text)) ≡ bits_of_text text) (length-bits_of_text text) (low_bits-number_of (bits_of_text text))

-- ---- a search through places

-- the first place left, and the others
range_more : (j count : ℕ) → j < count → range_with_len j (count - j) ≡ j ∷ range_with_len (j + 1) (count - (j + 1))
range_more j count lt = let next : count - j ≡ suc (count - (j + 1)) = omega arith in rw next refl

-- no place is left
range_end : (j count : ℕ) → count ≤ j → range_with_len j (count - j) ≡ []
range_end j count past = let none : count - j ≡ 0 = omega arith in rw none refl

-- the first place left passes
pub find_hit : (p : ℕ → Bool) (j count : ℕ) → j < count → p j ≡ true → find p (range_with_len j (count - j)) ≡ Some j
find_hit p j count lt passes = rw (range_more j count lt, passes) refl

-- or a later one
pub find_miss : (p : ℕ → Bool) (j count : ℕ) → j < count → p j ≡ false → find p (range_with_len j (count - j)) ≡ find p (range_with_len (j + 1) (count - (j + 1)))
find_miss p j count lt fails = rw (range_more j count lt, fails) refl

-- or none
pub find_end : (p : ℕ → Bool) (j count : ℕ) → count ≤ j → find p (range_with_len j (count - j)) ≡ None
find_end p j count past = rw (range_end j count past) refl

-- a search of what places give
find-map : {A : Type 0} (p : A → Bool) (f : ℕ → A) (places : List ℕ) → find p (map f places) ≡ option_map f (find (λ j. p (f j)) places)
find-map p f [] = refl
find-map p f (j ∷ places) =
    elim (p (f j)) as (λ b. cond b (Some (f j)) (find p (map f places)) ≡ option_map f (cond b (Some j) (find (λ j. p (f j)) places))) [
      | true ↦ refl
      | false ↦ find-map p f places
    ]

-- the first pair that passes, of those from a row on
abbrev pub rows_from : (ℕ × ℕ → Bool) → ℕ → ℕ → Option (ℕ × ℕ)
rows_from p i count = find p (flat_map (λ i. map (λ j. (i, j)) (range_with_len 0 count)) (range_with_len i (count - i)))

-- the first row left, and the others
rows_more : (p : ℕ × ℕ → Bool) (i count : ℕ) → i < count → rows_from p i count ≡ option_or (option_map (λ j. (i, j)) (find (λ j. p (i, j)) (range_with_len 0 count))) (rows_from p (i + 1) count)
rows_more p i count lt =
    let row : ℕ → List (ℕ × ℕ) = λ i. map (λ j. (i, j)) (range_with_len 0 count) in
    let others = range_with_len (i + 1) (count - (i + 1)) in
    ap (λ (places : List ℕ). find p (flat_map row places)) (range_more i count lt)
    ∙ ap (find p) (flat_map-cons row i others) ∙ find-append p (row i) (flat_map row others)
    ∙ ap (λ (o : Option (ℕ × ℕ)). option_or o (find p (flat_map row others))) (find-map p (λ j. (i, j)) (range_with_len 0 count))

-- the first row left has a pair that passes
pub rows_hit : (p : ℕ × ℕ → Bool) (i j count : ℕ) → i < count → find (λ j. p (i, j)) (range_with_len 0 count) ≡ Some j → rows_from p i count ≡ Some (i, j)
rows_hit p i j count lt hit = rows_more p i count lt ∙ rw hit refl

-- or a later one
pub rows_miss : (p : ℕ × ℕ → Bool) (i count : ℕ) → i < count → find (λ j. p (i, j)) (range_with_len 0 count) ≡ None → rows_from p i count ≡ rows_from p (i + 1) count
rows_miss p i count lt miss = rows_more p i count lt ∙ rw miss refl

-- or none
pub rows_end : (p : ℕ × ℕ → Bool) (i count : ℕ) → count ≤ i → rows_from p i count ≡ None
rows_end p i count past = rw (range_end i count past) refl

-- ---- clashes

-- the first clash is the first of all rows
pub first_clash-is : (words : List (List Bool)) (count : ℕ) → count ≡ length words → rows_from (clashes words) 0 count ≡ first_clash words
unfolding first_clash pairs
first_clash-is words count e = let all : count - 0 ≡ length words = omega arith in rw (all, e) refl

-- a word is as long as it says
pub word_length : (word : Word) → word.length ≡ length (bits_of_word word)
word_length word = sym (length-low_bits word.length word.bits)

-- and its number is what it spells
pub word_number : (word : Word) → IsWord word → word.bits ≡ number_of (take 24 (bits_of_word word))
word_number word is =
    let whole : take 24 (bits_of_word word) ≡ bits_of_word word = take_all 24 (bits_of_word word) (omega (arith, is.short, word_length word)) in
    rw whole (sym (number_of-low_bits word.length word.bits ∙ mod-eq_of_lt is.fits))

-- a word clashes with another where it begins it
pub clashes-test : (words : List Word) (i j : ℕ) (d : Word) (b : Bool) → i < length words → j < length words → (i ≡ j → ⊥) → b ≡ is_some (bits_after (bits_of_word (get_or words i d)) (bits_of_word (get_or words j d)))
    → clashes (words_of words) (i, j) ≡ b
unfolding clashes
clashes-test words i j d b lt lt' other e =
    rw (ne_eqb _ _ other, get_or-map bits_of_word words i d [] lt, get_or-map bits_of_word words j d [] lt') (sym e)

-- and never with itself
pub clashes-self : (words : List (List Bool)) (i j : ℕ) → i ≡ j → clashes words (i, j) ≡ false
unfolding clashes
clashes-self words i j e = rw (eq-eqb i j e) refl

-- ---- the texts of all words

-- the first of the texts left, and the others
pub texts_more : (texts : List (Bor (List ℕ))) (i : ℕ) (d : Bor (List ℕ)) → i < length texts → drop i (texts_of texts) ≡ (get_or texts i d).now ∷ drop (i + 1) (texts_of texts)
texts_more texts i d lt =
    drop_more (texts_of texts) i [] (omega (arith, length-map texts (λ (text : Bor (List ℕ)). text.now))) ∙ rw (get_or-map (λ (text : Bor (List ℕ)). text.now) texts i d [] lt) refl

-- that text is not at fault
pub words_fault-more : (texts : List (Bor (List ℕ))) (i : ℕ) (d : Bor (List ℕ)) → i < length texts → word_fault i (get_or texts i d).now ≡ None → words_fault i (drop i (texts_of texts)) ≡ words_fault (i + 1) (drop (i + 1) (texts_of texts))
unfolding words_fault
words_fault-more texts i d lt none = rw (texts_more texts i d lt, none) refl

-- or it is
pub words_fault-stop : (texts : List (Bor (List ℕ))) (i : ℕ) (d : Bor (List ℕ)) (e : CodeError) → i < length texts → word_fault i (get_or texts i d).now ≡ Some e → words_fault i (drop i (texts_of texts)) ≡ Some e
unfolding words_fault
words_fault-stop texts i d e lt is = rw (texts_more texts i d lt, is) refl

-- or no text is left
pub words_fault-end : (texts : List (Bor (List ℕ))) (i : ℕ) → length texts ≤ i → words_fault i (drop i (texts_of texts)) ≡ None
unfolding words_fault
words_fault-end texts i past = rw (drop_all i (texts_of texts) (omega (arith, length-map texts (λ (text : Bor (List ℕ)). text.now)))) refl

-- the word of one text more
pub words-push : (words : List Word) (word : Word) (texts : List (Bor (List ℕ))) (i : ℕ) (d : Bor (List ℕ)) → i < length texts → words_of words ≡ map bits_of_text (take i (texts_of texts)) → bits_of_word word ≡ bits_of_text (get_or texts i d).now
    → words_of (words ++ word ∷ []) ≡ map bits_of_text (take (i + 1) (texts_of texts))
words-push words word texts i d lt e is =
    let more : take (i + 1) (texts_of texts) ≡ take i (texts_of texts) ++ (get_or texts i d).now ∷ [] = take_more (texts_of texts) i [] (omega (arith, length-map texts (λ (text : Bor (List ℕ)). text.now))) ∙ rw (get_or-map (λ (text : Bor (List ℕ)). text.now) texts i d [] lt) refl in
    map_push bits_of_word words word ∙ rw (e, is, more, map_push) refl

-- ---- a code

-- where a search finds nothing, no place passes
find_none : (p : ℕ → Bool) (a count j : ℕ) → find p (range_with_len a count) ≡ None → a ≤ j → j < a + count → p j ≡ false
find_none p a zero j none low high = absurd (omega arith)
find_none p a (suc count) j none low high =
    elim (cases_Bool (p a)) [
      | inl passes ↦ absurd (none-some a (sym none ∙ rw passes refl))
      | inr fails ↦ elim (cases_eq j a) [
        | inl here ↦ ap p here ∙ fails
        | inr later ↦ find_none p (a + 1) count j (sym (rw fails refl) ∙ none) (omega arith) (omega arith)
      ]
    ]

-- nor any row
row_none : (p : ℕ × ℕ → Bool) (count i k : ℕ) (o : Option ℕ) → find (λ j. p (i, j)) (range_with_len 0 count) ≡ o → rows_from p i count ≡ None → i ≤ k → k < count
    → (rows_from p (i + 1) count ≡ None → i + 1 ≤ k → find (λ j. p (k, j)) (range_with_len 0 count) ≡ None) → find (λ j. p (k, j)) (range_with_len 0 count) ≡ None
row_none p count i k (Some j) is none low high later = absurd (none-some (i, j) (sym none ∙ rows_hit p i j count (omega arith) is))
row_none p count i k None is none low high later =
    elim (cases_eq k i) [
      | inl here ↦ ap (λ (row : ℕ). find (λ j. p (row, j)) (range_with_len 0 count)) here ∙ is
      | inr other ↦ later (sym (rows_miss p i count (omega arith) is) ∙ none) (omega arith)
    ]

rows_none : (p : ℕ × ℕ → Bool) (count i left : ℕ) → rows_from p i count ≡ None → count ≡ i + left → (k : ℕ) → i ≤ k → k < count → find (λ j. p (k, j)) (range_with_len 0 count) ≡ None
rows_none p count i zero none e k low high = absurd (omega arith)
rows_none p count i (suc left) none e k low high =
    row_none p count i k (find (λ j. p (i, j)) (range_with_len 0 count)) refl none low high (λ none' low'. rows_none p count (i + 1) left none' (omega arith) k low' high)

-- 256 words without a clash are a code
pub code_from_no_clash : (words : List (List Bool)) → length words ≡ 256 → first_clash words ≡ None → IsCode words
unfolding clashes
code_from_no_clash words count none = record {
  count = count;
  prefix_free = λ i j rest lt lt' e. elim (cases_eq i j) [
    | inl same ↦ same
    | inr other ↦
        let row = rows_none (clashes words) 256 0 256 (first_clash-is words 256 (sym count) ∙ none) refl i (omega arith) lt in
        let fails = find_none (λ j. clashes words (i, j)) 0 256 j row (omega arith) (omega arith) in
        let begins : is_some (bits_after (word_of words i) (word_of words j)) ≡ true = ap is_some (ap (bits_after (word_of words i)) (sym e) ∙ bits_after-append (word_of words i) rest) in
        absurd (false≢true (sym fails ∙ rw (ne_eqb i j other, begins) refl))
  ];
}

-- ---- the first rule that texts break

-- their count
pub code_fault-count : (texts : List (List ℕ)) → (length texts ≡ 256 → ⊥) → code_fault texts ≡ Some Count
unfolding code_fault
code_fault-count texts other = rw (ne_eqb _ _ other) refl

-- a text by itself
pub code_fault-word : (texts : List (List ℕ)) (e : CodeError) → length texts ≡ 256 → words_fault 0 texts ≡ Some e → code_fault texts ≡ Some e
unfolding code_fault
code_fault-word texts e count is = rw (eq-eqb _ _ count, is) refl

-- a clash
pub code_fault-clash : (texts : List (List ℕ)) (i j : ℕ) → length texts ≡ 256 → words_fault 0 texts ≡ None → first_clash (map bits_of_text texts) ≡ Some (i, j) → code_fault texts ≡ Some (Clash i j)
unfolding code_fault
code_fault-clash texts i j count none is = rw (eq-eqb _ _ count, none, is) refl

-- or none
pub code_fault-none : (texts : List (List ℕ)) → length texts ≡ 256 → words_fault 0 texts ≡ None → first_clash (map bits_of_text texts) ≡ None → code_fault texts ≡ None
unfolding code_fault
code_fault-none texts count none is = rw (eq-eqb _ _ count, none, is) refl

-- where no rule is broken, an error is want of memory
pub only_memory : (fault : Option CodeError) (e : CodeError) → (e ≡ NoMemory) ⊎ (fault ≡ Some e) → fault ≡ None → e ≡ NoMemory
only_memory fault e (inl is) none = is
only_memory fault e (inr is) none = absurd (none-some e (sym none ∙ is))

-- as many as are lent
pub length-texts_of : (texts : List (Bor (List ℕ))) → length (texts_of texts) ≡ length texts
length-texts_of texts = length-map texts (λ (text : Bor (List ℕ)). text.now)
