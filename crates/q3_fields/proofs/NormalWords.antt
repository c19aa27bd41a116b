-- The normal form of a state's words, also as a loop makes it.
use Rattle.std.proofs.Common.{◌≡◌, ℕ, zero, suc, ◌+◌, ◌^◌, ◌≤◌, ◌<◌, List, [], ◌∷◌, ◌++◌, length, take, drop, get_or, set, replicate, Some, None, slice_get, refl, sym, ap, ◌∙◌, append_assoc, add-one, arith}
use Rattle.std.proofs.lemmas.List.{append-nil, drop_more, drop_all, length-replicate, drop-set-lt, set-get_or, take_all, take_more_set}
use Rattle.std.proofs.lemmas.List.Elements.{All-cons, All-drop, All-head, All-tail, All-replicate}
use Rattle.std.specs.List.{All}
use Rattle.q3_fields.specs.declared.kind.Kind.{Kind}
use Rattle.q3_fields.specs.Kinds.{Layout, IsKind, IsTable, norm}
use Rattle.q3_fields.specs.States.{normal_words}
use Rattle.q3_fields.specs.Laws.{NormIsNormal, ZerosAreNormal}
use Rattle.q3_fields.proofs.Normal.{norm-zero}

-- ---- word by word

-- the first word, by itself
normal_words-first : (table : List Kind) (word y : ℕ) (words : List ℕ) → normal_words table (word ∷ []) ≡ y ∷ [] → normal_words table (word ∷ words) ≡ y ∷ normal_words (drop 1 table) words
unfolding normal_words
normal_words-first [] word y words is =
    let here : 0 ≡ y = cc in
    rw here refl
normal_words-first (kind ∷ table) word y words is =
    let here : norm kind word ≡ y = cc in
    rw here refl

-- a word of 0, whatever field it has
zero_alone : (kinds : List Kind) → All IsKind kinds → normal_words kinds (0 ∷ []) ≡ 0 ∷ []
unfolding normal_words
zero_alone [] all = refl
zero_alone (kind ∷ kinds) all = rw (norm-zero kind (All-head IsKind kind kinds all)) refl

normal_word_of_zero : (table : Layout) (k word : ℕ) → IsTable table → word ≡ 0 → normal_words (drop k table.kinds) (word ∷ []) ≡ 0 ∷ []
normal_word_of_zero table k word is zeros = rw zeros (zero_alone (drop k table.kinds) (All-drop IsKind k table.kinds is.kinds.each))

-- a word that has a field, and one that has none
pub normal_word_of_field : (table : List Kind) (k : ℕ) (kind : Kind) (word : ℕ) → slice_get table k ≡ Some kind → normal_words (drop k table) (word ∷ []) ≡ norm kind word ∷ []
unfolding normal_words
normal_word_of_field [] k kind word here = absurd cc
normal_word_of_field (first ∷ table) zero kind word here =
    let is : first ≡ kind = cc in
    rw is refl
normal_word_of_field (first ∷ table) (suc k) kind word here = normal_word_of_field table k kind word here

pub normal_word_of_none : (table : List Kind) (k word : ℕ) → slice_get table k ≡ None → normal_words (drop k table) (word ∷ []) ≡ 0 ∷ []
unfolding normal_words
normal_word_of_none [] zero word here = refl
normal_word_of_none [] (suc k) word here = refl
normal_word_of_none (first ∷ table) zero word here = absurd cc
normal_word_of_none (first ∷ table) (suc k) word here = normal_word_of_none table k word here

-- a kind further on
drop-next : (table : List Kind) (k : ℕ) → drop 1 (drop k table) ≡ drop (suc k) table
drop-next table zero = refl
drop-next [] (suc k) = refl
drop-next (first ∷ table) (suc k) = drop-next table k

-- one word more is put into normal form in its place
pub normal_words-more : (table : List Kind) (k y : ℕ) (words whole : List ℕ) → k < length words → take k words ++ normal_words (drop k table) (drop k words) ≡ whole
    → normal_words (drop k table) (get_or words k 0 ∷ []) ≡ y ∷ []
    → take (k + 1) (set words k y) ++ normal_words (drop (k + 1) table) (drop (k + 1) (set words k y)) ≡ whole
normal_words-more table k y words whole within is next =
    let rest = normal_words (drop (k + 1) table) (drop (k + 1) words) in
    let after : drop 1 (drop k table) ≡ drop (k + 1) table = rw add-one (drop-next table k) in
    let first : normal_words (drop k table) (get_or words k 0 ∷ drop (k + 1) words) ≡ y ∷ rest = normal_words-first (drop k table) (get_or words k 0) y (drop (k + 1) words) next ∙ ap (λ (kinds : List Kind). y ∷ normal_words kinds (drop (k + 1) words)) after in
    let left : normal_words (drop k table) (drop k words) ≡ y ∷ rest = rw (drop_more words k 0 within) first in
    rw (take_more_set words k y within, drop-set-lt (k + 1) words k y (omega arith)) (append_assoc (take k words) (y ∷ []) rest ∙ ap (λ (ys : List ℕ). take k words ++ ys) (sym left) ∙ is)

-- and one that is 0 stays there
pub normal_words-zero : (table : Layout) (k : ℕ) (words whole : List ℕ) → IsTable table → k < length words → get_or words k 0 ≡ 0
    → take k words ++ normal_words (drop k table.kinds) (drop k words) ≡ whole → take (k + 1) words ++ normal_words (drop (k + 1) table.kinds) (drop (k + 1) words) ≡ whole
normal_words-zero table k words whole is within zeros so =
    let stays : set words k 0 ≡ words = ap (set words k) (sym zeros) ∙ set-get_or words k 0 in
    rw stays at (normal_words-more table.kinds k 0 words whole within so (normal_word_of_zero table k (get_or words k 0) is zeros))

-- all are
pub normal_words-all : (table : List Kind) (k : ℕ) (words whole : List ℕ) → length words ≤ k → take k words ++ normal_words (drop k table) (drop k words) ≡ whole → words ≡ whole
unfolding normal_words
normal_words-all table k words whole past is = rw (take_all k words past, drop_all k words past, append-nil words) at is

-- ---- the normal form

-- the words of a table's fields
pub normal_words-twice : NormIsNormal → (table : List Kind) (words : List ℕ) → All IsKind table → All (λ word. word < 2 ^ 32) words
    → normal_words table (normal_words table words) ≡ normal_words table words
unfolding normal_words
normal_words-twice law [] [] allowed fits = refl
normal_words-twice law [] (word ∷ words) allowed fits =
    ap (λ (ys : List ℕ). 0 ∷ ys) (normal_words-twice law [] words allowed (All-tail (λ word. word < 2 ^ 32) word words fits))
normal_words-twice law (kind ∷ table) [] allowed fits = refl
normal_words-twice law (kind ∷ table) (word ∷ words) allowed fits =
    let here = law kind word (All-head IsKind kind table allowed) (All-head (λ word. word < 2 ^ 32) word words fits) in
    rw (here.1, normal_words-twice law table words (All-tail IsKind kind table allowed) (All-tail (λ word. word < 2 ^ 32) word words fits)) refl

-- have 32 bits, and are as many
pub normal_words-fit : NormIsNormal → (table : List Kind) (words : List ℕ) → All IsKind table → All (λ word. word < 2 ^ 32) words → All (λ word. word < 2 ^ 32) (normal_words table words)
unfolding normal_words
normal_words-fit law [] [] allowed fits = fits
normal_words-fit law [] (word ∷ words) allowed fits =
    All-cons (λ word. word < 2 ^ 32) 0 (normal_words [] words) (omega arith) (normal_words-fit law [] words allowed (All-tail (λ word. word < 2 ^ 32) word words fits))
normal_words-fit law (kind ∷ table) [] allowed fits = fits
normal_words-fit law (kind ∷ table) (word ∷ words) allowed fits =
    let here = law kind word (All-head IsKind kind table allowed) (All-head (λ word. word < 2 ^ 32) word words fits) in
    All-cons (λ word. word < 2 ^ 32) (norm kind word) (normal_words table words) here.0
    (normal_words-fit law table words (All-tail IsKind kind table allowed) (All-tail (λ word. word < 2 ^ 32) word words fits))

pub length-normal_words : (table : List Kind) (words : List ℕ) → length (normal_words table words) ≡ length words
unfolding normal_words
length-normal_words [] [] = refl
length-normal_words [] (word ∷ words) = ap suc (length-normal_words [] words)
length-normal_words (kind ∷ table) [] = refl
length-normal_words (kind ∷ table) (word ∷ words) = ap suc (length-normal_words table words)

-- the normal form depends on the table's fields alone
pub normal_words-front : (table : List Kind) (from to : List ℕ) → length from ≡ length to → take (length table) from ≡ take (length table) to → normal_words table from ≡ normal_words table to
unfolding normal_words
normal_words-front table [] [] long same = refl
normal_words-front table [] (y ∷ to) long same = absurd (omega arith)
normal_words-front table (x ∷ from) [] long same = absurd (omega arith)
normal_words-front [] (x ∷ from) (y ∷ to) long same = ap (λ (xs : List ℕ). 0 ∷ xs) (normal_words-front [] from to (omega arith) refl)
normal_words-front (kind ∷ table) (x ∷ from) (y ∷ to) long same =
    let first : x ≡ y = cc in
    let others : take (length table) from ≡ take (length table) to = cc in
    rw (first, normal_words-front table from to (omega arith) others) refl

-- words of 0 are
normal_words-zeros : (table : List Kind) (count : ℕ) → All IsKind table → normal_words table (replicate count 0) ≡ replicate count 0
unfolding normal_words
normal_words-zeros [] zero allowed = refl
normal_words-zeros [] (suc count) allowed = ap (λ (ys : List ℕ). 0 ∷ ys) (normal_words-zeros [] count allowed)
normal_words-zeros (kind ∷ table) zero allowed = refl
normal_words-zeros (kind ∷ table) (suc count) allowed =
    rw (norm-zero kind (All-head IsKind kind table allowed), normal_words-zeros table count (All-tail IsKind kind table allowed)) refl

pub zeros_are_normal : ZerosAreNormal
zeros_are_normal table is_table = (
  record { count = length-replicate {A = ℕ} 64 0; each = All-replicate (λ word. word < 2 ^ 32) 64 0 (omega arith) },
  normal_words-zeros table 64 is_table.each,
)
