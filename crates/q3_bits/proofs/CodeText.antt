-- The laws of code words, bytes and fields.
use Rattle.std.proofs.Common.{◌≡◌, ℕ, zero, suc, ◌+◌, ◌-◌, ◌*◌, ◌/◌, ◌%◌, ◌^◌, ◌<◌, ◌≤◌, Bool, true, false, cond, ltb, List, [], ◌∷◌, ◌++◌, length, get_or, take, drop, min, Option, Some, None, Result, Ok, Err, refl, sym, ap, subst, ◌∙◌, add-one, append_assoc, arith, inl, inr}
use Rattle.std.specs.Option.{ok_or, option_or, option_map}
use Rattle.std.proofs.lemmas.Bool.{cases_lt, ltb-false, le-ltb, lt-ltb}
use Rattle.std.proofs.lemmas.Option.{some_pair_parts}
use Rattle.std.proofs.lemmas.Grind.{pow_more}
use Rattle.std.proofs.lemmas.List.{length-append, length-map, take-append-drop, take_at, drop_at, drop_all, drop_more, take-take, append-nil, nil_from_length, get_or-map}
use Rattle.std.proofs.lemmas.List.FromFn.{length-map-range_with_len, get_or-map-range_with_len}
use Rattle.std.proofs.Math.Seq.{take-append-add}
use Rattle.std.proofs.lemmas.Nat.{pow-add, shr_high, shr_below, shl_whole, mul-add-lt}
use Rattle.std.proofs.Math.Nat.{mod-add-div, mod-eq_of_lt, pow-le-pow_right, pow-succ'}
use Rattle.q3_bits.specs.ResultBind.{◌>>=◌}
use Rattle.q3_bits.proofs.Binds.{bind_ok}
use Rattle.q3_bits.specs.Bits.{low_bits, number_of}
use Rattle.q3_bits.specs.Words.{word_of, IsCode, plain_words, bytes_bits, field_bits, raw_at, bits_after, byte_from, begins_word, byte_at, bytes_at, field_at}
use Rattle.q3_bits.specs.declared.reader.ReadError.{ReadError}
use Rattle.q3_bits.specs.declared.reader.ReadError.TheVariants.{End, NoWord}
use Rattle.q3_bits.specs.declared.code.Word.{Word}
use Rattle.q3_bits.specs.declared.code.Entry.{Entry}
use Rattle.q3_bits.specs.Table.{bits_of_word, words_of, no_word, IsWord, Leads}
use Rattle.q3_bits.proofs.Numbers.{number_of-mod, length-low_bits, number_of-take_lt, number_of-low_bits, low_bits-number_of_take, low_bits-mod, low_bits-add, low_bits-zero, low_bits-low, low_bits-number_of_more}

-- ---- how the definitions go on

-- no words, no byte
pub byte_from-nil : (byte : ℕ) (bits : List Bool) → byte_from byte [] bits ≡ None
unfolding byte_from
byte_from-nil byte bits = refl

-- the first word, or else a later one
pub byte_from-cons : (byte : ℕ) (word : List Bool) (words : List (List Bool)) (bits : List Bool) → byte_from byte (word ∷ words) bits ≡ option_or (option_map (λ rest. (byte, rest)) (bits_after word bits)) (byte_from (byte + 1) words bits)
unfolding byte_from
byte_from-cons byte word words bits = refl

-- no bytes are 0
pub bytes_at-zero : (words : List (List Bool)) (bits : List Bool) → bytes_at words 0 bits ≡ Ok (0, bits)
unfolding bytes_at
bytes_at-zero words bits = refl

-- and have no words
pub bytes_bits-zero : (words : List (List Bool)) (value : ℕ) → bytes_bits words 0 value ≡ []
unfolding bytes_bits
bytes_bits-zero words value = refl

-- the lowest byte's word, and those of the others
pub bytes_bits-suc : (words : List (List Bool)) (count value : ℕ) → bytes_bits words (suc count) value ≡ word_of words (value % 256) ++ bytes_bits words count (value / 256)
unfolding bytes_bits
bytes_bits-suc words count value = refl

-- the same of a lowest byte and of what is above it
bytes_bits-parts : (words : List (List Bool)) (count value byte high : ℕ) → value % 256 ≡ byte → value / 256 ≡ high → bytes_bits words (suc count) value ≡ word_of words byte ++ bytes_bits words count high
bytes_bits-parts words count value byte high low rest = rw (bytes_bits-suc, low, rest) refl

-- ---- a word

-- the rest after a word follows it
pub bits_after_some : (word bits rest : List Bool) → bits_after word bits ≡ Some rest → bits ≡ word ++ rest
unfolding bits_after
bits_after_some [] bits rest e = cc
bits_after_some (true ∷ word) [] rest e = absurd cc
bits_after_some (false ∷ word) [] rest e = absurd cc
bits_after_some (true ∷ word) (true ∷ bits) rest e = ap (λ (x : List Bool). true ∷ x) (bits_after_some word bits rest e)
bits_after_some (true ∷ word) (false ∷ bits) rest e = absurd cc
bits_after_some (false ∷ word) (true ∷ bits) rest e = absurd cc
bits_after_some (false ∷ word) (false ∷ bits) rest e = ap (λ (x : List Bool). false ∷ x) (bits_after_some word bits rest e)

-- a rest that follows a word is the rest after it
pub bits_after-append : (word rest : List Bool) → bits_after word (word ++ rest) ≡ Some rest
unfolding bits_after
bits_after-append [] rest = refl
bits_after-append (true ∷ word) rest = bits_after-append word rest
bits_after-append (false ∷ word) rest = bits_after-append word rest

-- what is never there is none
pub none_from : {A : Type 0} (o : Option A) → ((x : A) → o ≡ Some x → ⊥) → o ≡ None
none_from None never = refl
none_from (Some x) never = absurd (never x refl)

-- bits that are no word and a rest have nothing after the word
pub bits_after_none : (word bits : List Bool) → ((rest : List Bool) → bits ≡ word ++ rest → ⊥) → bits_after word bits ≡ None
bits_after_none word bits never = none_from (bits_after word bits) (λ rest e. never rest (bits_after_some word bits rest e))

-- a word of the low bits of a number begins the bits that spell the number
pub bits_after-low_bits : (count number : ℕ) (bits : List Bool) → count ≤ length bits → number_of (take count bits) ≡ number → bits_after (low_bits count number) bits ≡ Some (drop count bits)
bits_after-low_bits count number bits enough e =
    let spelt : low_bits count number ≡ take count bits = rw (← e) (low_bits-number_of_take count bits enough) in
    rw spelt (ap (bits_after (take count bits)) (sym (take-append-drop count bits)) ∙ bits_after-append (take count bits) (drop count bits))

-- and no others
pub bits_after-low_bits_none : (count number : ℕ) (bits : List Bool) → number < 2 ^ count → (count ≤ length bits → number_of (take count bits) ≡ number → ⊥) → bits_after (low_bits count number) bits ≡ None
bits_after-low_bits_none count number bits fits never =
    let long = length-low_bits count number in
    bits_after_none (low_bits count number) bits (λ rest e.
    never (omega (arith, long, length-append (low_bits count number) rest, ap length e))
    (rw (e, take_at (low_bits count number) rest count long) (number_of-low_bits count number ∙ mod-eq_of_lt fits)))

-- ---- a byte

-- the first word of these that begins the bits
pub byte_from_first : (words : List (List Bool)) (byte k : ℕ) (bits rest : List Bool) → k < length words → bits ≡ word_of words k ++ rest
    → ((j : ℕ) (other : List Bool) → j < k → bits ≡ word_of words j ++ other → ⊥) → byte_from byte words bits ≡ Some (byte + k, rest)
byte_from_first [] byte k bits rest lt begins first = absurd (omega arith)
byte_from_first (word ∷ words) byte zero bits rest lt begins first =
    let found : bits_after word bits ≡ Some rest = ap (bits_after word) begins ∙ bits_after-append word rest in
    let same : byte + zero ≡ byte = omega arith in
    rw (byte_from-cons, found, same) refl
byte_from_first (word ∷ words) byte (suc k) bits rest lt begins first =
    let passed : bits_after word bits ≡ None = bits_after_none word bits (λ other e. first 0 other (omega arith) e) in
    let next : byte + suc k ≡ byte + 1 + k = omega arith in
    rw (byte_from-cons, passed, next) (byte_from_first words (byte + 1) k bits rest (omega arith) begins (λ j other below e. first (suc j) other (omega arith) e))

-- the place of a byte among the words, and that its word begins the bits
abbrev HasWord : List (List Bool) → ℕ → List Bool → ℕ × List Bool → Type 0
HasWord words byte bits found = (k : ℕ) × (k < length words) × (found.0 ≡ byte + k) × (bits ≡ word_of words k ++ found.1)

-- the first word or a later one
HasWord-cons : (word : List Bool) (words : List (List Bool)) (byte : ℕ) (bits : List Bool) (found : ℕ × List Bool) (o : Option (List Bool)) → bits_after word bits ≡ o
    → option_or (option_map (λ rest. (byte, rest)) o) (byte_from (byte + 1) words bits) ≡ Some found → (byte_from (byte + 1) words bits ≡ Some found → HasWord words (byte + 1) bits found) → HasWord (word ∷ words) byte bits found
HasWord-cons word words byte bits found (Some rest) b e later =
    let parts = some_pair_parts byte found.0 rest found.1 e in
    (0, omega arith, omega (arith, parts.0), bits_after_some word bits rest b ∙ ap (λ (x : List Bool). word ++ x) parts.1)
HasWord-cons word words byte bits found None b e later =
    let at = later e in
    (suc at.0, omega (arith, at.1), omega (arith, at.2), at.3)

-- a byte that is read has a word, which begins the bits
pub byte_from_some : (words : List (List Bool)) (byte : ℕ) (bits : List Bool) (found : ℕ × List Bool) → byte_from byte words bits ≡ Some found → HasWord words byte bits found
byte_from_some [] byte bits found e = absurd (let none = byte_from-nil byte bits in cc)
byte_from_some (word ∷ words) byte bits found e =
    HasWord-cons word words byte bits found (bits_after word bits) refl (rw byte_from-cons at e) (λ later. byte_from_some words (byte + 1) bits found later)

-- of two fronts of the same bits the shorter begins the longer
pub begins_longer : (a b rest bits : List Bool) (n : ℕ) → a ++ rest ≡ b ++ bits → length a + n ≡ length b → a ++ take n rest ≡ b
begins_longer a b rest bits n e longer = sym (take-append-add a rest n) ∙ rw (e, longer) (take_at b bits (length b) refl)

-- two words that both begin the same bits are one
pub same_word : (words : List (List Bool)) (code : IsCode words) (i j : ℕ) (a b : List Bool) → i < 256 → j < 256 → word_of words i ++ a ≡ word_of words j ++ b → i ≡ j
same_word words code i j a b lt lt' e =
    let word = word_of words i in
    let other = word_of words j in
    elim (cases_lt (length word) (length other)) [
      | inl shorter ↦ code.prefix_free i j (take (length other - length word) a) lt lt' (begins_longer word other a b (length other - length word) e (omega arith))
      | inr longer ↦ sym (code.prefix_free j i (take (length word - length other) b) lt' lt (begins_longer other word b a (length word - length other) (sym e) (omega arith)))
    ]

-- a byte's word is read as that byte
pub byte_again : (words : List (List Bool)) (code : IsCode words) (byte : ℕ) (rest : List Bool) → byte < 256 → byte_from 0 words (word_of words byte ++ rest) ≡ Some (byte, rest)
byte_again words code byte rest lt =
    let found = byte_from_first words 0 byte (word_of words byte ++ rest) rest (omega (arith, code.count)) refl (λ j other below e. let same = same_word words code byte j rest other lt (omega arith) e in omega arith) in
    let start : 0 + byte ≡ byte = omega arith in
    rw start at found

-- ---- a table of words

-- the front of a window spells what the front of the bits spells
pub window_of_word : (window : ℕ) (left : List Bool) (long : ℕ) → window ≡ number_of (take 24 left) → long ≤ 24 → window % 2 ^ long ≡ number_of (take long left)
window_of_word window left long spells short =
    rw (spells, number_of-mod, take-take) refl

-- the place of a word that begins the bits
pub word_hit : (words : List Word) (i count window : ℕ) (left : List Bool) (d : Word) → i < length words → IsWord (get_or words i d) → count ≡ min 25 (length left) → window ≡ number_of (take 24 left)
    → (get_or words i d).length ≤ count → window % 2 ^ (get_or words i d).length ≡ (get_or words i d).bits
    → byte_from i (drop i (words_of words)) left ≡ Some (i, drop (get_or words i d).length left)
word_hit words i count window left d lt is within spells short same =
    let word = get_or words i d in
    let found : bits_after (bits_of_word word) left ≡ Some (drop word.length left) = bits_after-low_bits word.length word.bits left (omega arith) (sym (window_of_word window left word.length spells is.short) ∙ same) in
    let here : drop i (words_of words) ≡ bits_of_word word ∷ drop (i + 1) (words_of words) = drop_more (words_of words) i [] (omega (arith, length-map words bits_of_word)) ∙ rw (get_or-map bits_of_word words i d [] lt) refl in
    rw (here, byte_from-cons, found) refl

-- one word on, where it doesn't begin them
pub word_miss : (words : List Word) (i count window : ℕ) (left : List Bool) (d : Word) → i < length words → IsWord (get_or words i d) → count ≡ min 25 (length left) → window ≡ number_of (take 24 left)
    → ((get_or words i d).length ≤ count → window % 2 ^ (get_or words i d).length ≡ (get_or words i d).bits → ⊥)
    → byte_from i (drop i (words_of words)) left ≡ byte_from (i + 1) (drop (i + 1) (words_of words)) left
word_miss words i count window left d lt is within spells never =
    let word = get_or words i d in
    let passed : bits_after (bits_of_word word) left ≡ None = bits_after-low_bits_none word.length word.bits left is.fits (λ enough same.
    let short : word.length ≤ count = omega (arith, is.short) in
    never short (window_of_word window left word.length spells is.short ∙ same)) in
    let here : drop i (words_of words) ≡ bits_of_word word ∷ drop (i + 1) (words_of words) = drop_more (words_of words) i [] (omega (arith, length-map words bits_of_word)) ∙ rw (get_or-map bits_of_word words i d [] lt) refl in
    rw (here, byte_from-cons, passed) refl

-- the one word that begins the bits is the first
pub word_only : (words : List (List Bool)) (code : IsCode words) (byte : ℕ) (bits rest : List Bool) → byte < 256 → bits ≡ word_of words byte ++ rest → byte_from 0 words bits ≡ Some (byte, rest)
word_only words code byte bits rest lt begins = ap (byte_from 0 words) begins ∙ byte_again words code byte rest lt

-- an entry that says which word begins the bits says which byte is read
pub entry_found : (words : List Word) (entry : Entry) (window : ℕ) (left : List Bool) → IsCode (words_of words) → Leads words entry (window % 4096) → entry.length ≤ 12 → entry.length ≤ length left
    → window ≡ number_of (take 24 left) → byte_from 0 (words_of words) left ≡ Some (entry.byte, drop entry.length left)
entry_found words entry window left code leads short enough spells =
    let word = get_or words entry.byte no_word in
    let few : length words ≡ 256 = sym (length-map words bits_of_word) ∙ code.count in
    let front : number_of (take entry.length left) ≡ window % 4096 % 2 ^ entry.length =
    sym (rw (window_of_word window left 12 spells (omega arith), number_of-mod, take-take) refl) in
    let spelt : bits_after (low_bits entry.length word.bits) left ≡ Some (drop entry.length left) = bits_after-low_bits entry.length word.bits left enough (front ∙ leads.begins) in
    let is : word_of (words_of words) entry.byte ≡ low_bits entry.length word.bits = get_or-map bits_of_word words entry.byte no_word [] leads.byte ∙ ap (λ (n : ℕ). low_bits n word.bits) leads.length in
    let lt = leads.byte in
    word_only (words_of words) code entry.byte left (drop entry.length left) (omega arith)
    (bits_after_some (low_bits entry.length word.bits) left (drop entry.length left) spelt ∙ ap (λ (x : List Bool). x ++ drop entry.length left) (sym is))

-- after the last word
pub word_end : (words : List Word) (i : ℕ) (left : List Bool) → length words ≤ i → byte_from i (drop i (words_of words)) left ≡ None
word_end words i left past = rw (drop_all i (words_of words) (omega (arith, length-map words bits_of_word)), byte_from-nil) refl

-- ---- bytes

-- a byte as it is defined
pub byte_at-is : (words : List (List Bool)) (bits : List Bool) → byte_at words bits ≡ ok_or (byte_from 0 words bits) (cond (begins_word words bits) End NoWord)
unfolding byte_at
byte_at-is words bits = refl

-- a value that was found
ok_or_ok : (o : Option (ℕ × List Bool)) (cause : ReadError) (found : ℕ × List Bool) → ok_or o cause ≡ Ok found → o ≡ Some found
ok_or_ok (Some x) cause found e = cc
ok_or_ok None cause found e = absurd cc

-- a byte that is read is the first whose word begins the bits
pub byte_at_ok : (words : List (List Bool)) (bits : List Bool) (found : ℕ × List Bool) → byte_at words bits ≡ Ok found → byte_from 0 words bits ≡ Some found
byte_at_ok words bits found e = ok_or_ok (byte_from 0 words bits) (cond (begins_word words bits) End NoWord) found (sym (byte_at-is words bits) ∙ e)

-- what is read after the low bytes of a number, as read with them
abbrev pub onto : ℕ → ℕ → Result (ℕ × List Bool) ReadError → Result (ℕ × List Bool) ReadError
onto number scale (Ok found) = Ok (number + scale * found.0, found.1)
onto number scale (Err e) = Err e

-- nothing was read before
pub onto_nothing : (r : Result (ℕ × List Bool) ReadError) → onto 0 1 r ≡ r
onto_nothing (Ok found) = let same : 0 + 1 * found.0 ≡ found.0 = omega arith in rw same refl
onto_nothing (Err e) = refl

-- all bytes were read
pub bytes_end : (words : List (List Bool)) (number scale : ℕ) (bits : List Bool) → onto number scale (bytes_at words 0 bits) ≡ Ok (number, bits)
bytes_end words number scale bits = let same : number + scale * 0 ≡ number = omega arith in rw (bytes_at-zero, same) refl

-- one byte more was read
pub bytes_more : (words : List (List Bool)) (count left number scale : ℕ) (bits : List Bool) (found : ℕ × List Bool) → count ≡ left + 1 → byte_at words bits ≡ Ok found
    → onto number scale (bytes_at words count bits) ≡ onto (number + scale * found.0) (256 * scale) (bytes_at words left found.1)
unfolding bytes_at
bytes_more words count left number scale bits found e first = rw (e, add-one, first) (under (bytes_at words left found.1))
  where
    under : (r : Result (ℕ × List Bool) ReadError) → onto number scale (r >>= λ others. Ok (found.0 + 256 * others.0, others.1)) ≡ onto (number + scale * found.0) (256 * scale) r
    under (Ok others) = let same : number + scale * (found.0 + 256 * others.0) ≡ number + scale * found.0 + 256 * scale * others.0 = grind arith in rw same refl
    under (Err e) = refl

-- no byte is there
pub bytes_stop : (words : List (List Bool)) (count number scale : ℕ) (bits : List Bool) (e : ReadError) → 0 < count → byte_at words bits ≡ Err e → onto number scale (bytes_at words count bits) ≡ Err e
unfolding bytes_at
bytes_stop words zero number scale bits e some is = absurd (omega arith)
bytes_stop words (suc count) number scale bits e some is = rw is refl

-- an answer of a reader
abbrev pub answer : ℕ → List Bool → Result (ℕ × List Bool) ReadError
answer x rest = Ok (x, rest)

-- its parts
pub answer_parts : (x x' : ℕ) (rest rest' : List Bool) → answer x rest ≡ answer x' rest' → (x ≡ x') × (rest ≡ rest')
answer_parts x x' rest rest' e =
    let whole : (λ (p : ℕ × List Bool). p) (x, rest) ≡ (x', rest') = cc in
    (ap (λ (p : ℕ × List Bool). p.0) whole, ap (λ (p : ℕ × List Bool). p.1) whole)

-- bytes that are read were put: their words stand at the front
pub bytes_at_some : (words : List (List Bool)) (code : IsCode words) (count : ℕ) (bits : List Bool) (found : ℕ × List Bool) → bytes_at words count bits ≡ Ok found
    → (found.0 < 256 ^ count) × (bits ≡ bytes_bits words count found.0 ++ found.1)
unfolding bytes_at
bytes_at_some words code zero bits found e =
    let parts = answer_parts 0 found.0 bits found.1 e in
    (omega arith, rw bytes_bits-zero parts.1)
bytes_at_some words code (suc count) bits found e =
    let first = bind_ok (byte_at words bits) (λ first. bytes_at words count first.1 >>= λ others. Ok (first.0 + 256 * others.0, others.1)) found e in
    let others = bind_ok (bytes_at words count first.0.1) (λ others. answer (first.0.0 + 256 * others.0) others.1) found first.2 in
    let parts = answer_parts (first.0.0 + 256 * others.0.0) found.0 others.0.1 found.1 others.2 in
    let word = byte_from_some words 0 bits first.0 (byte_at_ok words bits first.0 first.1) in
    let later = bytes_at_some words code count first.0.1 others.0 others.1 in
    let byte : first.0.0 ≡ word.0 = omega (arith, word.2) in
    let small : word.0 < 256 = omega (arith, word.1, code.count) in
    let low : found.0 % 256 ≡ word.0 = omega (arith, parts.0) in
    let high : found.0 / 256 ≡ others.0.0 = omega (arith, parts.0) in (
      subst (λ (n : ℕ). found.0 < n) (sym (pow-succ' 256 count)) (omega (arith, later.0, parts.0)),
      word.3 ∙ ap (λ (x : List Bool). word_of words word.0 ++ x) later.1 ∙ sym (append_assoc (word_of words word.0) (bytes_bits words count others.0.0) others.0.1)
          ∙ ap (λ (x : List Bool). x ++ others.0.1) (sym (bytes_bits-parts words count found.0 word.0 others.0.0 low high))
          ∙ ap (λ (x : List Bool). bytes_bits words (suc count) found.0 ++ x) parts.1,
    )

-- bytes that are put are read again
pub bytes_again : (words : List (List Bool)) (code : IsCode words) (count value : ℕ) (rest : List Bool) → value < 256 ^ count → bytes_at words count (bytes_bits words count value ++ rest) ≡ Ok (value, rest)
unfolding bytes_at
bytes_again words code zero value rest lt = let none : value ≡ 0 = omega arith in rw (bytes_bits-zero, none) refl
bytes_again words code (suc count) value rest lt =
    let high : value / 256 < 256 ^ count = omega (arith, pow-succ' 256 count) in
    let whole : value % 256 + 256 * (value / 256) ≡ value = omega arith in
    rw (bytes_bits-suc, append_assoc, byte_at-is, byte_again words code (value % 256) (bytes_bits words count (value / 256) ++ rest) (omega arith), bytes_again words code count (value / 256) rest high, whole) refl

-- ---- raw bits

-- a test that let pass
guard_ok : {A : Type 0} (b : Bool) (x y : A) → (λ (r : Result A ReadError). r) (cond b (Err End) (Ok x)) ≡ Ok y → (b ≡ false) × (x ≡ y)
guard_ok true x y e = absurd cc
guard_ok false x y e = (refl, cc)

-- raw bits that are read are the low bits of their number
pub raw_at_some : (count : ℕ) (bits : List Bool) (found : ℕ × List Bool) → raw_at count bits ≡ Ok found → (found.0 < 2 ^ count) × (bits ≡ low_bits count found.0 ++ found.1)
unfolding raw_at
raw_at_some count bits found e =
    let guarded = guard_ok (ltb (length bits) count) (number_of (take count bits), drop count bits) found e in
    let enough : count ≤ length bits = ltb-false _ _ guarded.0 in
    let number : number_of (take count bits) ≡ found.0 = ap (λ (p : ℕ × List Bool). p.0) guarded.1 in
    let rest : drop count bits ≡ found.1 = ap (λ (p : ℕ × List Bool). p.1) guarded.1 in
    let spelt : low_bits count found.0 ≡ take count bits = rw (← number) (low_bits-number_of_take count bits enough) in
    (rw (← number) (number_of-take_lt count bits enough), rw (spelt, ← rest) (sym (take-append-drop count bits)))

-- the low bits of a number are read again as its remainder
pub raw_again : (count value : ℕ) (rest : List Bool) → raw_at count (low_bits count value ++ rest) ≡ Ok (value % 2 ^ count, rest)
unfolding raw_at
raw_again count value rest =
    let long = length-low_bits count value in
    let enough : ltb (length (low_bits count value ++ rest)) count ≡ false = le-ltb _ _ (omega (arith, length-append (low_bits count value) rest)) in
    rw (enough, take_at (low_bits count value) rest count long, drop_at (low_bits count value) rest count long, number_of-low_bits) refl

-- fewer bits than are asked for
pub raw_at_few : (count : ℕ) (bits : List Bool) → length bits < count → raw_at count bits ≡ Err End
unfolding raw_at
raw_at_few count bits few = rw (lt-ltb _ _ few) refl

-- as many, or more
pub raw_at_enough : (count : ℕ) (bits : List Bool) → count ≤ length bits → raw_at count bits ≡ Ok (number_of (take count bits), drop count bits)
unfolding raw_at
raw_at_enough count bits enough = rw (le-ltb _ _ enough) refl

-- ---- a field

-- a byte has eight bits
pow_bytes : (count : ℕ) → 2 ^ (8 * count) ≡ 256 ^ count
pow_bytes zero = refl
pow_bytes (suc count) = ap (λ (n : ℕ). 2 ^ n) (omega arith) ∙ pow-add 2 8 (8 * count) ∙ rw (pow_bytes count, pow-succ' 256 count) refl

-- a byte shifted above the bytes below it
pub byte_shifted : (number byte k : ℕ) → k < 4 → number < 256 ^ k → byte < 256
    → (byte * 2 ^ (8 * k) % 2 ^ 32 ≡ 256 ^ k * byte) × (number + byte * 2 ^ (8 * k) % 2 ^ 32 < 256 ^ (k + 1)) × (256 ^ (k + 1) ≡ 256 * 256 ^ k) × (256 ^ (k + 1) ≤ 2 ^ 32)
byte_shifted number byte k few fits small =
    let whole : byte * 2 ^ (8 * k) % 2 ^ 32 ≡ 256 ^ k * byte = shl_whole byte 8 (8 * k) 32 small (omega arith) ∙ rw (pow_bytes k) (grind arith) in
    let more : 256 ^ (k + 1) ≡ 256 * 256 ^ k = pow_more 256 k ∙ grind arith in
    (whole, omega (arith, whole, more, mul-add-lt byte (256 ^ k) number 256 small fits), more, pow-le-pow_right {n = 256} (omega arith) {i = k + 1} {j = 4} (omega arith))

-- a width is its raw bits and its bytes
pow_width : (width : ℕ) → 2 ^ width ≡ 2 ^ (width % 8) * 256 ^ (width / 8)
pow_width width = ap (λ (n : ℕ). 2 ^ n) (omega arith) ∙ pow-add 2 (width % 8) (8 * (width / 8)) ∙ ap (λ (n : ℕ). 2 ^ (width % 8) * n) (pow_bytes (width / 8))

-- a field as it is defined
pub field_bits-is : (words : List (List Bool)) (width value : ℕ) → field_bits words width value ≡ low_bits (width % 8) value ++ bytes_bits words (width / 8) (value / 2 ^ (width % 8))
unfolding field_bits
field_bits-is words width value = refl

-- the same of its raw bits and of what is above them
field_bits-parts : (words : List (List Bool)) (width value raw high : ℕ) → low_bits (width % 8) value ≡ low_bits (width % 8) raw → value / 2 ^ (width % 8) ≡ high
    → field_bits words width value ≡ low_bits (width % 8) raw ++ bytes_bits words (width / 8) high
field_bits-parts words width value raw high low rest = rw (field_bits-is, low, rest) refl

-- a field that is read was put: its value fits the width, and its text stands at the front
pub field_at_some : (words : List (List Bool)) (code : IsCode words) (width : ℕ) (bits : List Bool) (found : ℕ × List Bool) → field_at words width bits ≡ Ok found
    → (found.0 < 2 ^ width) × (bits ≡ field_bits words width found.0 ++ found.1)
unfolding field_at
field_at_some words code width bits found e =
    let part = 2 ^ (width % 8) in
    let raw = bind_ok (raw_at (width % 8) bits) (λ raw. bytes_at words (width / 8) raw.1 >>= λ bytes. Ok (raw.0 + part * bytes.0, bytes.1)) found e in
    let bytes = bind_ok (bytes_at words (width / 8) raw.0.1) (λ bytes. answer (raw.0.0 + part * bytes.0) bytes.1) found raw.2 in
    let parts = answer_parts (raw.0.0 + part * bytes.0.0) found.0 bytes.0.1 found.1 bytes.2 in
    let first = raw_at_some (width % 8) bits raw.0 raw.1 in
    let later = bytes_at_some words code (width / 8) raw.0.1 bytes.0 bytes.1 in
    let sum : found.0 ≡ bytes.0.0 * part + raw.0.0 = sym parts.0 ∙ grind arith in
    let low : low_bits (width % 8) found.0 ≡ low_bits (width % 8) raw.0.0 = ap (low_bits (width % 8)) sum ∙ low_bits-low bytes.0.0 (width % 8) raw.0.0 first.0 in
    let high : found.0 / part ≡ bytes.0.0 = ap (λ (n : ℕ). n / part) sum ∙ shr_high bytes.0.0 (width % 8) raw.0.0 first.0 in (
      omega (arith, sum, pow_width width, mul-add-lt bytes.0.0 part raw.0.0 (256 ^ (width / 8)) later.0 first.0),
      first.1 ∙ ap (λ (x : List Bool). low_bits (width % 8) raw.0.0 ++ x) later.1
          ∙ sym (append_assoc (low_bits (width % 8) raw.0.0) (bytes_bits words (width / 8) bytes.0.0) bytes.0.1)
          ∙ ap (λ (x : List Bool). x ++ bytes.0.1) (sym (field_bits-parts words width found.0 raw.0.0 bytes.0.0 low high))
          ∙ ap (λ (x : List Bool). field_bits words width found.0 ++ x) parts.1,
    )

-- a field that is put is read again
pub field_again : (words : List (List Bool)) (code : IsCode words) (width value : ℕ) (rest : List Bool) → value < 2 ^ width → field_at words width (field_bits words width value ++ rest) ≡ Ok (value, rest)
unfolding field_at
field_again words code width value rest lt =
    let high : value / 2 ^ (width % 8) < 256 ^ (width / 8) = subst (λ (n : ℕ). value / 2 ^ (width % 8) < n) (pow_bytes (width / 8)) (shr_below value (8 * (width / 8)) (width % 8) (subst (λ (n : ℕ). value < 2 ^ n) (omega arith) lt)) in
    let whole : value % 2 ^ (width % 8) + 2 ^ (width % 8) * (value / 2 ^ (width % 8)) ≡ value = mod-add-div value (2 ^ (width % 8)) in
    rw (field_bits-is, append_assoc, raw_again, bytes_again words code (width / 8) (value / 2 ^ (width % 8)) rest high, whole) refl

-- the parts of a field that are read are its value
pub field_found : (words : List (List Bool)) (width : ℕ) (bits : List Bool) (raw bytes : ℕ × List Bool) → raw_at (width % 8) bits ≡ Ok raw
    → bytes_at words (width / 8) raw.1 ≡ Ok bytes → field_at words width bits ≡ Ok (raw.0 + 2 ^ (width % 8) * bytes.0, bytes.1)
unfolding field_at
field_found words width bits raw bytes is found = rw (is, found) refl

-- where the raw bits aren't there, no field is
pub field_no_raw : (words : List (List Bool)) (width : ℕ) (bits : List Bool) (e : ReadError) → raw_at (width % 8) bits ≡ Err e → field_at words width bits ≡ Err e
unfolding field_at
field_no_raw words width bits e is = rw is refl

-- nor where one of the bytes isn't
pub field_no_bytes : (words : List (List Bool)) (width : ℕ) (bits : List Bool) (raw : ℕ × List Bool) (e : ReadError) → raw_at (width % 8) bits ≡ Ok raw
    → bytes_at words (width / 8) raw.1 ≡ Err e → field_at words width bits ≡ Err e
unfolding field_at
field_no_bytes words width bits raw e is none = rw (is, none) refl

-- the bytes of a field shifted above its raw bits
pub field_shifted : (low high width : ℕ) → width ≤ 32 → low < 2 ^ (width % 8) → high < 256 ^ (width / 8)
    → (high * 2 ^ (width % 8) % 2 ^ 32 ≡ 2 ^ (width % 8) * high) × (low + high * 2 ^ (width % 8) % 2 ^ 32 < 2 ^ width) × (2 ^ width ≤ 2 ^ 32)
field_shifted low high width most fits fits' =
    let whole : high * 2 ^ (width % 8) % 2 ^ 32 ≡ 2 ^ (width % 8) * high = shl_whole high (8 * (width / 8)) (width % 8) 32 (rw pow_bytes fits') (omega arith) ∙ grind arith in
    (whole, omega (arith, whole, pow_width width, mul-add-lt high (2 ^ (width % 8)) low (256 ^ (width / 8)) fits' fits), pow-le-pow_right {n = 2} (omega arith) most)

-- ---- the plain code

-- the word of a byte is its bits
pub plain_word : (byte : ℕ) → byte < 256 → word_of plain_words byte ≡ low_bits 8 byte
unfolding plain_words
plain_word byte lt = get_or-map-range_with_len (low_bits 8) 0 256 byte byte [] lt (omega arith)

-- there are 256
pub length-plain_words : length plain_words ≡ 256
unfolding plain_words
length-plain_words = length-map-range_with_len (low_bits 8) 0 256

-- no word begins another
same_byte : (i j : ℕ) (rest : List Bool) → i < 256 → j < 256 → low_bits 8 i ++ rest ≡ low_bits 8 j → i ≡ j
same_byte i j rest lt lt' e =
    let none : rest ≡ [] = nil_from_length rest (omega (arith, length-append (low_bits 8 i) rest, length-low_bits 8 i, length-low_bits 8 j, ap length e)) in
    let same : low_bits 8 i ≡ low_bits 8 j = sym (append-nil (low_bits 8 i)) ∙ rw none at e in
    omega (arith, number_of-low_bits 8 i, number_of-low_bits 8 j, ap number_of same)

-- so it is a code
pub plain_is_code : IsCode plain_words
plain_is_code = record {
  count = length-plain_words;
  prefix_free = λ i j rest lt lt' e. same_byte i j rest lt lt' (rw (plain_word i lt, plain_word j lt') at e);
}

-- and its bytes are their bits
plain_bytes : (count value : ℕ) → bytes_bits plain_words count value ≡ low_bits (8 * count) value
plain_bytes zero value = rw (bytes_bits-zero, low_bits-zero) refl
plain_bytes (suc count) value =
    let more : 8 * suc count ≡ 8 + 8 * count = omega arith in
    rw (bytes_bits-suc, plain_word (value % 256) (omega arith), plain_bytes count (value / 256), more, low_bits-add 8 (8 * count) value, low_bits-mod 8 value) refl

-- by the plain code a field is its value's bits
pub plain_field : (width value : ℕ) → field_bits plain_words width value ≡ low_bits width value
plain_field width value =
    let whole : width % 8 + 8 * (width / 8) ≡ width = omega arith in
    field_bits-is plain_words width value ∙ rw (plain_bytes, ← low_bits-add (width % 8) (8 * (width / 8)) value, whole) refl

-- bits that are fewer than the width are the front of a field
pub plain_front : (width : ℕ) (bits : List Bool) → length bits ≤ width → bits ++ low_bits (width - length bits) 0 ≡ field_bits plain_words width (number_of bits)
plain_front width bits few =
    let long : width ≡ length bits + (width - length bits) = omega arith in
    sym (plain_field width (number_of bits) ∙ ap (λ (n : ℕ). low_bits n (number_of bits)) long ∙ low_bits-number_of_more bits (width - length bits))

-- by the plain code a field is read wherever its bits are there
pub plain_reads : (width : ℕ) (bits : List Bool) → width ≤ length bits → field_at plain_words width bits ≡ Ok (number_of (take width bits), drop width bits)
plain_reads width bits enough =
    let front = take width bits in
    let text : field_bits plain_words width (number_of front) ≡ front = plain_field width (number_of front) ∙ low_bits-number_of_take width bits enough in
    let whole : field_bits plain_words width (number_of front) ++ drop width bits ≡ bits = rw text (take-append-drop width bits) in
    ap (field_at plain_words width) (sym whole) ∙ field_again plain_words plain_is_code width (number_of front) (drop width bits) (number_of-take_lt width bits enough)
