-- Words of a state: what was written is read, and what is read stood there, in normal form.
use Rattle.std.proofs.Common.{◌≡◌, ℕ, zero, suc, ◌+◌, ◌-◌, ◌^◌, ◌<◌, ◌≤◌, List, [], ◌∷◌, ◌++◌, length, take, replicate, Ok, refl, ap, arith}
use Rattle.std.specs.Prelude.{◌==◌, All}
use Rattle.std.specs.List.{flat_map}
use Rattle.std.proofs.lemmas.Bool.{eq-eqb, eqb-true}
use Rattle.std.proofs.lemmas.List.{length-append, length-replicate, length-take-le, take_at}
use Rattle.std.proofs.lemmas.List.Elements.{All-append, All-cons, All-head, All-nil, All-replicate, All-tail}
use Rattle.byteorder.specs.Endian.{little_bytes, little_number}
use Rattle.q3_bits.specs.ResultBind.{◌>>=◌}
use Rattle.q3_bits.proofs.Binds.{bind_ok}
use Rattle.q3_fields.specs.declared.kind.Kind.{Kind}
use Rattle.q3_fields.specs.Kinds.{norm}
use Rattle.q3_fields.specs.States.{AreWords, normal_words}
use Rattle.q3_savestate.specs.Cursor.{Cursor}
use Rattle.q3_savestate.specs.Entities.{words_bytes, word_at, words_at, state_words_at}
use Rattle.q3_savestate.proofs.Fields.{Took, took_none, took_both, carried, field_back, field_was, number_of_bytes, word_was}

-- ---- what was written is read

-- a word in normal form
word_back : (kind : Kind) (word at : ℕ) (rest : List ℕ) → word < 2 ^ 32 → norm kind word ≡ word
    → word_at kind (record { at = at; bytes = little_bytes 4 word ++ rest }) ≡ Ok (word, record { at = at + 4; bytes = rest })
word_back kind word at rest fits normal =
    field_back 4 (little_number 4) (λ word. norm kind word == word) word (little_bytes 4 word) rest at refl (number_of_bytes 4 word fits) (eq-eqb (norm kind word) word normal)

-- the words of a table's fields
front_back : (kinds : List Kind) (words : List ℕ) (at : ℕ) (rest : List ℕ) → length kinds ≤ length words → All (λ word. word < 2 ^ 32) words → normal_words kinds words ≡ words
    → words_at kinds (record { at = at; bytes = words_bytes kinds words ++ rest }) ≡ Ok (take (length kinds) words, record { at = at + length (words_bytes kinds words); bytes = rest })
unfolding words_at normal_words
front_back [] words at rest few fit normal = ap (λ place. Ok ([], record { at = place; bytes = rest })) (omega arith)
front_back (kind ∷ kinds) [] at rest few fit normal = absurd (omega arith)
front_back (kind ∷ kinds) (word ∷ words) at rest few fit normal =
    let first : norm kind word ≡ word = cc in
    let others : normal_words kinds words ≡ words = cc in
    let one = word_back kind word at (words_bytes kinds words ++ rest) (All-head (λ word. word < 2 ^ 32) word words fit) first in
    let more = front_back kinds words (at + 4) rest (omega arith) (All-tail (λ word. word < 2 ^ 32) word words fit) others in
    rw (one, more) (ap (λ place. Ok (word ∷ take (length kinds) words, record { at = place; bytes = rest })) (omega arith))

-- words that are 0 after a table's fields
zeros_after : (words : List ℕ) → normal_words [] words ≡ words → replicate (length words) 0 ≡ words
unfolding normal_words
zeros_after [] normal = refl
zeros_after (word ∷ words) normal =
    let first : 0 ≡ word = cc in
    let others : normal_words [] words ≡ words = cc in
    rw (zeros_after words others, first) refl

-- are those of the fields and zeros
padded : (kinds : List Kind) (words : List ℕ) (count : ℕ) → length words ≡ length kinds + count → normal_words kinds words ≡ words → take (length kinds) words ++ replicate count 0 ≡ words
unfolding normal_words
padded [] words count long normal =
    let is : count ≡ length words = omega arith in
    rw is (zeros_after words normal)
padded (kind ∷ kinds) [] count long normal = absurd (omega arith)
padded (kind ∷ kinds) (word ∷ words) count long normal =
    let others : normal_words kinds words ≡ words = cc in
    ap (λ words. word ∷ words) (padded kinds words count (omega arith) others)

-- a state's words
pub words_back : (kinds : List Kind) (words : List ℕ) (at : ℕ) (rest : List ℕ) → length kinds ≤ 64 → AreWords 64 words → normal_words kinds words ≡ words
    → state_words_at kinds (record { at = at; bytes = words_bytes kinds words ++ rest }) ≡ Ok (words, record { at = at + length (words_bytes kinds words); bytes = rest })
unfolding state_words_at
words_back kinds words at rest few are normal =
    let front = front_back kinds words at rest (omega (arith, are.count)) are.each normal in
    let count : length (take (length kinds) words) ≡ length kinds = length-take-le (length kinds) words (omega (arith, are.count)) in
    rw (front, count) (ap (λ all. Ok (all, record { at = at + length (words_bytes kinds words); bytes = rest })) (padded kinds words (64 - length kinds) (omega (arith, are.count)) normal))

-- ---- what is read stood there

-- words that are read, as many as there are kinds
record HasRead (kinds : List Kind) (cursor : Cursor) (words : List ℕ) (rest : Cursor) : Type 0 where
  took : Took cursor (flat_map (little_bytes 4) words) rest
  count : length words ≡ length kinds
  each : All (λ word. word < 2 ^ 32) words
  normal : normal_words kinds words ≡ words

-- one before others
has_read : (kind : Kind) (kinds : List Kind) (cursor next rest : Cursor) (word : ℕ) (words : List ℕ) → All (λ byte. byte < 256) cursor.bytes → word_at kind cursor ≡ Ok (word, next)
    → (All (λ byte. byte < 256) next.bytes → HasRead kinds next words rest) → HasRead (kind ∷ kinds) cursor (word ∷ words) rest
unfolding normal_words
has_read kind kinds cursor next rest word words fit e after =
    let was = field_was 4 (little_number 4) (λ word. norm kind word == word) cursor word next e in
    let one = word_was 4 cursor word next fit was.0 was.1 was.3 in
    let more = after one.0.fit in
    let first : norm kind word ≡ word = eqb-true (norm kind word) word was.2 in
    record {
      took = took_both cursor next rest (little_bytes 4 word) (flat_map (little_bytes 4) words) one.0 more.took;
      count = ap suc more.count;
      each = All-cons (λ word. word < 2 ^ 32) word words one.1 more.each;
      normal = rw (first, more.normal) refl;
    }

-- one for each kind
front_were : (kinds : List Kind) (cursor : Cursor) (words : List ℕ) (rest : Cursor) → All (λ byte. byte < 256) cursor.bytes → words_at kinds cursor ≡ Ok (words, rest) → HasRead kinds cursor words rest
unfolding words_at normal_words
front_were [] cursor words rest fit e =
    carried (HasRead [] cursor) [] words cursor rest e (record { took = took_none cursor fit; count = refl; each = All-nil (λ word. word < 2 ^ 32); normal = refl })
front_were (kind ∷ kinds) cursor words rest fit e =
    let one = bind_ok (word_at kind cursor) (λ word. words_at kinds word.1 >>= λ others. Ok (word.0 ∷ others.0, others.1)) (words, rest) e in
    let more = bind_ok (words_at kinds one.0.1) (λ others. Ok (one.0.0 ∷ others.0, others.1)) (words, rest) one.2 in
    carried (HasRead (kind ∷ kinds) cursor) (one.0.0 ∷ more.0.0) words more.0.1 rest more.2
    (has_read kind kinds cursor one.0.1 more.0.1 one.0.0 more.0.0 fit one.1 (λ fits. front_were kinds one.0.1 more.0.0 more.0.1 fits more.1))

-- zeros after the fields are in normal form
zeros_normal : (count : ℕ) → normal_words [] (replicate count 0) ≡ replicate count 0
unfolding normal_words
zeros_normal zero = refl
zeros_normal (suc count) = ap (λ words. 0 ∷ words) (zeros_normal count)

-- also after words in normal form
padded_normal : (kinds : List Kind) (words : List ℕ) (count : ℕ) → length words ≡ length kinds → normal_words kinds words ≡ words
    → normal_words kinds (words ++ replicate count 0) ≡ words ++ replicate count 0
unfolding normal_words
padded_normal [] [] count long normal = zeros_normal count
padded_normal [] (word ∷ words) count long normal = absurd (omega arith)
padded_normal (kind ∷ kinds) [] count long normal = absurd (omega arith)
padded_normal (kind ∷ kinds) (word ∷ words) count long normal =
    let first : norm kind word ≡ word = cc in
    let others : normal_words kinds words ≡ words = cc in
    rw (first, padded_normal kinds words count (omega arith) others) refl

-- a state's words that are read
pub record ReadsWords (kinds : List Kind) (cursor : Cursor) (words : List ℕ) (rest : Cursor) : Type 0 where
  pub took : Took cursor (words_bytes kinds words) rest
  pub are : AreWords 64 words
  pub normal : normal_words kinds words ≡ words

-- they are those of the fields and zeros
padded_read : (kinds : List Kind) (cursor : Cursor) (words : List ℕ) (rest : Cursor) → length kinds ≤ 64 → HasRead kinds cursor words rest
    → ReadsWords kinds cursor (words ++ replicate (64 - length words) 0) rest
padded_read kinds cursor words rest few has = record {
  took = rw (take_at words (replicate (64 - length words) 0) (length kinds) has.count) has.took;
  are = record {
    count = omega (arith, length-append words (replicate (64 - length words) 0), length-replicate {A = ℕ} (64 - length words) 0, has.count);
    each = All-append (λ word. word < 2 ^ 32) words (replicate (64 - length words) 0) has.each (All-replicate (λ word. word < 2 ^ 32) (64 - length words) 0 (omega arith));
  };
  normal = padded_normal kinds words (64 - length words) has.count has.normal;
}

-- they stood there
pub reads_words : (kinds : List Kind) (cursor : Cursor) (words : List ℕ) (rest : Cursor) → length kinds ≤ 64 → All (λ byte. byte < 256) cursor.bytes → state_words_at kinds cursor ≡ Ok (words, rest)
    → ReadsWords kinds cursor words rest
unfolding state_words_at
reads_words kinds cursor words rest few fit e =
    let front = bind_ok (words_at kinds cursor) (λ words. Ok (words.0 ++ replicate (64 - length words.0) 0, words.1)) (words, rest) e in
    carried (ReadsWords kinds cursor) (front.0.0 ++ replicate (64 - length front.0.0) 0) words front.0.1 rest front.2
    (padded_read kinds cursor front.0.0 front.0.1 few (front_were kinds cursor front.0.0 front.0.1 fit front.1))

-- its parts
pub words_were : (kinds : List Kind) (cursor : Cursor) (words : List ℕ) (rest : Cursor) → length kinds ≤ 64 → All (λ byte. byte < 256) cursor.bytes → state_words_at kinds cursor ≡ Ok (words, rest)
    → AreWords 64 words × (normal_words kinds words ≡ words) × (cursor.bytes ≡ words_bytes kinds words ++ rest.bytes) × (rest.at ≡ cursor.at + length (words_bytes kinds words))
    × All (λ byte. byte < 256) rest.bytes
words_were kinds cursor words rest few fit e =
    let is = reads_words kinds cursor words rest few fit e in
    (is.are, is.normal, is.took.stood, is.took.place, is.took.fit)
