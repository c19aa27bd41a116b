-- Words of a table's fields, read one after the other into a list of zeros.
use Rattle.std.proofs.Common.{◌≡◌, ℕ, ◌+◌, ◌-◌, ◌<◌, ◌≤◌, List, [], ◌∷◌, ◌++◌, length, take, drop, get_or, set, replicate, Some, Ok, Err, refl, ap, ◌∙◌, sym, arith, length-set, append_assoc}
use Rattle.std.specs.Prelude.{slice_get}
use Rattle.std.proofs.lemmas.List.{take_more_set, drop_more, drop_all, drop-set-lt, take-append-drop, append-nil, drop-drop, drop-replicate, length-take-le}
use Rattle.std.proofs.lemmas.Option.{get_or_from_slice_get}
use Rattle.q3_bits.specs.ResultBind.{◌>>=◌}
use Rattle.q3_bits.proofs.Binds.{bind_is}
use Rattle.q3_fields.specs.declared.kind.Kind.{Kind}
use Rattle.q3_savestate.specs.Cursor.{Cursor, Field}
use Rattle.q3_savestate.proofs.Ranges.{refused}
use Rattle.q3_savestate.specs.Entities.{word_at, words_at, state_words_at}

-- values in front of those that are read
abbrev pub with_front : {X : Type 0} → List X → Field (List X) → Field (List X)
with_front front (Ok read) = Ok (front ++ read.0, read.1)
with_front front (Err at) = Err at

-- as many words were read, the others are 0, and what is left to read is the rest of the whole
pub record HasWords (kinds : List Kind) (start now : Cursor) (k : ℕ) (words : List ℕ) : Type 0 where
  pub size : length words ≡ 64
  pub zeros : drop k words ≡ replicate (64 - k) 0
  pub left : with_front (take k words) (words_at (drop k kinds) now) ≡ words_at kinds start

front_none : {X : Type 0} (read : Field (List X)) → with_front [] read ≡ read
front_none (Ok read) = refl
front_none (Err at) = refl

pub begin : (kinds : List Kind) (start : Cursor) (words : List ℕ) → words ≡ replicate 64 0 → HasWords kinds start start 0 words
begin kinds start words e = record {
  size = ap length e;
  zeros = e;
  left = front_none (words_at kinds start);
}

words_at-more : (kind : Kind) (kinds : List Kind) (now next : Cursor) (word : ℕ) → Ok (word, next) ≡ word_at kind now
    → words_at (kind ∷ kinds) now ≡ (words_at kinds next >>= λ others. Ok (word ∷ others.0, others.1))
unfolding words_at
words_at-more kind kinds now next word e = bind_is (word_at kind now) (λ word. words_at kinds word.1 >>= λ others. Ok (word.0 ∷ others.0, others.1)) (word, next) _ (sym e) refl

front_more : (front : List ℕ) (word : ℕ) (read : Field (List ℕ)) → with_front front (read >>= λ others. Ok (word ∷ others.0, others.1)) ≡ with_front (front ++ word ∷ []) read
front_more front word (Ok read) = ap (λ all. Ok (all, read.1)) (sym (append_assoc front (word ∷ []) read.0))
front_more front word (Err at) = refl

drop_here : (kinds : List Kind) (k : ℕ) (kind : Kind) → k < length kinds → slice_get kinds k ≡ Some kind → drop k kinds ≡ kind ∷ drop (k + 1) kinds
drop_here kinds k kind lt e =
    let here : get_or kinds k kind ≡ kind = get_or_from_slice_get kinds k kind kind e in
    drop_more kinds k kind lt ∙ ap (λ first. first ∷ drop (k + 1) kinds) here

-- one word more is read
pub more : (kinds : List Kind) (start now next : Cursor) (k : ℕ) (words : List ℕ) (kind : Kind) (word : ℕ) → length kinds ≤ 64 → HasWords kinds start now k words → k < length kinds
    → slice_get kinds k ≡ Some kind → Ok (word, next) ≡ word_at kind now → HasWords kinds start next (k + 1) (set words k word)
more kinds start now next k words kind word few has lt here read =
    let short : k < length words = omega (arith, has.size) in
    record {
      size = length-set words k word ∙ has.size;
      zeros = drop-set-lt (k + 1) words k word (omega arith) ∙ sym (drop-drop 1 k words) ∙ ap (λ left. drop 1 left) has.zeros ∙ drop-replicate 1 (64 - k) 0 ∙ ap (λ n. replicate n 0) (omega arith);
      left = rw (take_more_set words k word short, ← front_more (take k words) word (words_at (drop (k + 1) kinds) next), ← words_at-more kind (drop (k + 1) kinds) now next word read, ← drop_here kinds k kind lt here) has.left;
    }

-- a word can't be read
pub stops : (kinds : List Kind) (start now : Cursor) (k : ℕ) (words : List ℕ) (kind : Kind) (at : ℕ) → HasWords kinds start now k words → k < length kinds
    → slice_get kinds k ≡ Some kind → Err at ≡ word_at kind now → Err at ≡ state_words_at kinds start
unfolding state_words_at words_at
stops kinds start now k words kind at has lt here read =
    let left : words_at (drop k kinds) now ≡ Err at = rw (drop_here kinds k kind lt here) (refused (word_at kind now) (λ word. words_at (drop (k + 1) kinds) word.1 >>= λ others. Ok (word.0 ∷ others.0, others.1)) at read) in
    let whole : words_at kinds start ≡ Err at = sym has.left ∙ ap (with_front (take k words)) left in
    sym (refused (words_at kinds start) (λ words. Ok (words.0 ++ replicate (64 - length words.0) 0, words.1)) at (sym whole))

-- all are read
pub all : (kinds : List Kind) (start now : Cursor) (k : ℕ) (words : List ℕ) → length kinds ≤ 64 → HasWords kinds start now k words → k ≡ length kinds → Ok (words, now) ≡ state_words_at kinds start
unfolding state_words_at words_at
all kinds start now k words few has e =
    let none : drop k kinds ≡ [] = drop_all k kinds (omega arith) in
    let read : words_at kinds start ≡ Ok (take k words, now) =
    sym has.left ∙ ap (λ kinds. with_front (take k words) (words_at kinds now)) none ∙ ap (λ words. Ok (words, now)) (append-nil (take k words)) in
    let whole : take k words ++ replicate (64 - length (take k words)) 0 ≡ words =
    rw (length-take-le k words (omega (arith, has.size))) (ap (λ left. take k words ++ left) (sym has.zeros) ∙ take-append-drop k words) in
    sym (bind_is (words_at kinds start) (λ words. Ok (words.0 ++ replicate (64 - length words.0) 0, words.1)) (take k words, now) _ read (ap (λ words. Ok (words, now)) whole))
