-- Why no word and no field is read.
use Rattle.std.proofs.Common.{◌≡◌, ℕ, zero, suc, ◌+◌, ◌-◌, ◌*◌, ◌/◌, ◌%◌, ◌^◌, ◌<◌, ◌≤◌, Bool, true, false, cond, eqb, List, [], ◌∷◌, ◌++◌, length, get_or, take, drop, min, Option, Some, None, Result, Ok, Err, refl, sym, ap, ◌∙◌, append_assoc, arith, inl, inr}
use Rattle.std.specs.Prelude.{nat_lt}
use Rattle.std.specs.Option.{is_some, ok_or}
use Rattle.std.proofs.lemmas.Bool.{cases_Bool, cases_lt, false≢true, eqb-true, eqb-false, ltb-true}
use Rattle.std.proofs.lemmas.Option.{none-some}
use Rattle.std.proofs.lemmas.List.{append_cancel_left, length-append, length-map, take_at, get_or-map, get_or_default, drop_at, drop_more, drop_all, take_all}
use Rattle.std.proofs.lemmas.List.Folds.{list_any_at, Any-from_list_any}
use Rattle.std.proofs.lemmas.Nat.{shr_high, one_shl}
use Rattle.q3_bits.specs.ResultBind.{◌>>=◌}
use Rattle.q3_bits.proofs.Binds.{bind_err}
use Rattle.q3_bits.specs.Bits.{low_bits, number_of}
use Rattle.q3_bits.specs.Laws.{EndsCutShort}
use Rattle.q3_bits.specs.declared.reader.ReadError.{ReadError}
use Rattle.q3_bits.specs.declared.reader.ReadError.TheVariants.{End, NoWord}
use Rattle.q3_bits.specs.declared.code.Word.{Word}
use Rattle.q3_bits.specs.Words.{word_of, IsCode, plain_words, bytes_bits, field_bits, raw_at, bits_after, byte_from, byte_at, bytes_at, field_at, begins_word, IsCutShort}
use Rattle.q3_bits.specs.Table.{bits_of_word, words_of}
use Rattle.q3_bits.proofs.Numbers.{length-low_bits, number_of-low_bits, low_bits-number_of, low_bits-mod, low_bits-add, low_bits-low, low_bits-number_of_more}
use Rattle.q3_bits.proofs.CodeText.{answer, bytes_bits-suc, bits_after_some, bits_after-append, bits_after_none, byte_from_some, byte_again, byte_at-is, byte_at_ok, same_word, begins_longer, raw_at_some, field_bits-is, plain_is_code, plain_reads, plain_front}

-- ---- bits that begin a word

-- the low bits of a number that go on from other bits
front_is : (count number : ℕ) (bits rest : List Bool) → length bits ≤ count → low_bits count number ≡ bits ++ rest → low_bits (length bits) number ≡ bits
front_is count number bits rest short e =
    let n = length bits in
    let whole : low_bits n number ++ low_bits (count - n) (number / 2 ^ n) ≡ bits ++ rest = sym (low_bits-add n (count - n) number) ∙ ap (λ (k : ℕ). low_bits k number) (omega arith) ∙ e in
    sym (take_at (low_bits n number) (low_bits (count - n) (number / 2 ^ n)) n (length-low_bits n number)) ∙ ap (take n) whole ∙ take_at bits rest n refl

-- bits begin a word where its low bits spell what they spell
pub bits_after-number : (count number : ℕ) (bits : List Bool) → length bits ≤ count → eqb (number % 2 ^ length bits) (number_of bits) ≡ is_some (bits_after bits (low_bits count number))
bits_after-number count number bits short =
    let n = length bits in
    elim (cases_Bool (eqb (number % 2 ^ n) (number_of bits))) [
      | inl same ↦
          let spelt : low_bits n number ≡ bits = sym (low_bits-mod n number) ∙ ap (low_bits n) (eqb-true _ _ same) ∙ low_bits-number_of bits in
          let whole : low_bits count number ≡ bits ++ low_bits (count - n) (number / 2 ^ n) = ap (λ (k : ℕ). low_bits k number) (omega arith) ∙ low_bits-add n (count - n) number ∙ ap (λ (x : List Bool). x ++ low_bits (count - n) (number / 2 ^ n)) spelt in
          same ∙ sym (ap is_some (ap (bits_after bits) whole ∙ bits_after-append bits (low_bits (count - n) (number / 2 ^ n))))
      | inr other ↦
          let none : bits_after bits (low_bits count number) ≡ None = bits_after_none bits (low_bits count number) (λ rest e.
          eqb-false _ _ other (sym (number_of-low_bits n number) ∙ ap number_of (front_is count number bits rest short e))) in
          other ∙ sym (ap is_some none)
    ]

-- bits that are more than a word has begin none
pub bits_after-short : (bits word : List Bool) → length word < length bits → bits_after bits word ≡ None
bits_after-short bits word few = bits_after_none bits word (λ rest e. omega (arith, ap length e, length-append bits rest))

-- the word at a place, as it is kept
begins_word-at : (words : List (List Bool)) (k : ℕ) (bits rest : List Bool) → k < length words → bits ++ rest ≡ word_of words k → begins_word words bits ≡ true
unfolding begins_word
begins_word-at words k bits rest lt e =
    list_any_at (λ word. is_some (bits_after bits word)) words k [] lt (ap is_some (ap (bits_after bits) (sym e) ∙ bits_after-append bits rest))

-- what is there is some
some_from : {A : Type 0} (o : Option A) → is_some o ≡ true → (x : A) × (o ≡ Some x)
some_from (Some x) e = (x, refl)
some_from None e = absurd (false≢true e)

-- bits that begin a word begin one at a place
begins_word-some : (words : List (List Bool)) (bits : List Bool) → begins_word words bits ≡ true → (k : ℕ) × (rest : List Bool) × (k < length words) × (word_of words k ≡ bits ++ rest)
unfolding begins_word
begins_word-some words bits e =
    let any = Any-from_list_any (λ word. is_some (bits_after bits word)) words e in
    let rest = some_from (bits_after bits any.1) any.4 in
    (any.0, rest.0, any.2, get_or_default words any.0 [] any.1 any.2 ∙ any.3 ∙ bits_after_some bits any.1 rest.0 rest.1)

-- ---- bytes whose text is cut short

-- the bits are the front of the words of some bytes
abbrev IsCutBytes : List (List Bool) → ℕ → List Bool → Type 0
IsCutBytes words count bits = (value : ℕ) × (more : List Bool) × (bits ++ more ≡ bytes_bits words count value)

-- the words of a low byte and of those above it
bytes_bits-byte : (words : List (List Bool)) (count byte high : ℕ) → byte < 256 → bytes_bits words (suc count) (byte + 256 * high) ≡ word_of words byte ++ bytes_bits words count high
bytes_bits-byte words count byte high small =
    let low : (byte + 256 * high) % 256 ≡ byte = omega arith in
    let rest : (byte + 256 * high) / 256 ≡ high = omega arith in
    rw (bytes_bits-suc, low, rest) refl

-- a byte that isn't read: no word begins the bits, and the cause says whether they are a front of one
byte_at_err : (words : List (List Bool)) (bits : List Bool) (e : ReadError) → byte_at words bits ≡ Err e → (byte_from 0 words bits ≡ None) × (cond (begins_word words bits) End NoWord ≡ e)
byte_at_err words bits e is = go (byte_from 0 words bits) (sym (byte_at-is words bits) ∙ is)
  where
    go : (o : Option (ℕ × List Bool)) → ok_or o (cond (begins_word words bits) End NoWord) ≡ Err e → (o ≡ None) × (cond (begins_word words bits) End NoWord ≡ e)
    go None is = (refl, cc)
    go (Some x) is = absurd cc

-- a cause of the end is no other
end_true : (b : Bool) → cond b End NoWord ≡ End → b ≡ true
end_true true e = refl
end_true false e = absurd cc

-- where the bits end, they are a front
pub cut_from_end : (words : List (List Bool)) (code : IsCode words) (count : ℕ) (bits : List Bool) → bytes_at words count bits ≡ Err End → IsCutBytes words count bits
unfolding bytes_at
cut_from_end words code zero bits e = absurd cc
cut_from_end words code (suc count) bits e =
    elim (bind_err (byte_at words bits) (λ first. bytes_at words count first.1 >>= λ others. answer (first.0 + 256 * others.0) others.1) End e) [
      | inl none ↦
          let word = begins_word-some words bits (end_true (begins_word words bits) (byte_at_err words bits End none).1) in
          let others = bytes_bits words count 0 in
          (word.0 + 256 * 0, word.1 ++ others, sym (append_assoc bits word.1 others) ∙ ap (λ (x : List Bool). x ++ others) (sym word.3) ∙ sym (bytes_bits-byte words count word.0 0 (omega (arith, word.2, code.count))))
      | inr (first, is, later) ↦
          elim (bind_err (bytes_at words count first.1) (λ others. answer (first.0 + 256 * others.0) others.1) End later) [
            | inl stuck ↦
                let word = byte_from_some words 0 bits first (byte_at_ok words bits first is) in
                let rest = cut_from_end words code count first.1 stuck in
                (word.0 + 256 * rest.0, rest.1, ap (λ (x : List Bool). x ++ rest.1) word.3 ∙ append_assoc (word_of words word.0) first.1 rest.1 ∙ ap (λ (x : List Bool). word_of words word.0 ++ x) rest.2 ∙ sym (bytes_bits-byte words count word.0 rest.0 (omega (arith, word.1, code.count))))
            | inr (others, found, none) ↦ absurd cc
          ]
    ]

-- the front of a byte's word and of what follows it, where no byte is read, is a front of the word
front_of_word : (words : List (List Bool)) (code : IsCode words) (byte : ℕ) (bits more rest : List Bool) → byte_from 0 words bits ≡ None → byte < 256 → bits ++ more ≡ word_of words byte ++ rest → begins_word words bits ≡ true
front_of_word words code byte bits more rest e small whole =
    let word = word_of words byte in
    elim (cases_lt (length bits) (length word)) [
      | inl shorter ↦ begins_word-at words byte bits (take (length word - length bits) more) (omega (arith, code.count)) (begins_longer bits word more rest (length word - length bits) whole (omega arith))
      | inr longer ↦
          let front = take (length bits - length word) rest in
          let is : word ++ front ≡ bits = begins_longer word bits rest more (length bits - length word) (sym whole) (omega arith) in
          absurd (none-some (byte, front) (sym e ∙ ap (byte_from 0 words) (sym is) ∙ byte_again words code byte front small))
    ]

-- where the bits are a front, they end
pub end_from_cut : (words : List (List Bool)) (code : IsCode words) (count value : ℕ) (bits more : List Bool) (e : ReadError) → bits ++ more ≡ bytes_bits words count value → bytes_at words count bits ≡ Err e → e ≡ End
unfolding bytes_at
end_from_cut words code zero value bits more e cut is = absurd cc
end_from_cut words code (suc count) value bits more e cut is =
    let byte = value % 256 in
    let others = bytes_bits words count (value / 256) in
    let whole : bits ++ more ≡ word_of words byte ++ others = cut ∙ bytes_bits-suc words count value in
    elim (bind_err (byte_at words bits) (λ first. bytes_at words count first.1 >>= λ others. answer (first.0 + 256 * others.0) others.1) e is) [
      | inl none ↦
          let cause = byte_at_err words bits e none in
          let begins = front_of_word words code byte bits more others cause.0 (omega arith) whole in
          sym (rw begins at cause.1)
      | inr (first, read, later) ↦
          elim (bind_err (bytes_at words count first.1) (λ others. answer (first.0 + 256 * others.0) others.1) e later) [
            | inl stuck ↦
                let word = byte_from_some words 0 bits first (byte_at_ok words bits first read) in
                let both_after : word_of words word.0 ++ (first.1 ++ more) ≡ word_of words byte ++ others = sym (append_assoc (word_of words word.0) first.1 more) ∙ ap (λ (x : List Bool). x ++ more) (sym word.3) ∙ whole in
                let same : word.0 ≡ byte = same_word words code word.0 byte (first.1 ++ more) others (omega (arith, word.1, code.count)) (omega arith) both_after in
                let rest : first.1 ++ more ≡ others = append_cancel_left (word_of words byte) (first.1 ++ more) others (rw same at both_after) in
                end_from_cut words code count (value / 256) first.1 more e rest stuck
            | inr (found, ok, none) ↦ absurd cc
          ]
    ]

-- ---- fields

-- fewer bits than are raw are a front
few_raw : (words : List (List Bool)) (width : ℕ) (bits : List Bool) → length bits < width % 8 → IsCutShort words width bits
few_raw words width bits few =
    let value = number_of bits in
    let n = width % 8 in
    let others = bytes_bits words (width / 8) (value / 2 ^ n) in
    let raw : low_bits n value ≡ bits ++ low_bits (n - length bits) 0 = ap (λ (k : ℕ). low_bits k value) (omega arith) ∙ low_bits-number_of_more bits (n - length bits) in
    (value, low_bits (n - length bits) 0 ++ others, sym (append_assoc bits (low_bits (n - length bits) 0) others) ∙ ap (λ (x : List Bool). x ++ others) (sym raw) ∙ sym (field_bits-is words width value))

-- raw bits that aren't read are too few
raw_at_err : (count : ℕ) (bits : List Bool) (e : ReadError) → raw_at count bits ≡ Err e → (length bits < count) × (e ≡ End)
unfolding raw_at
raw_at_err count bits e is = go (nat_lt (length bits) count) refl is
  where
    go : (b : Bool) → nat_lt (length bits) count ≡ b → (λ (r : Result (ℕ × List Bool) ReadError). r) (cond b (Err End) (Ok (number_of (take count bits), drop count bits))) ≡ Err e → (length bits < count) × (e ≡ End)
    go true few is = (ltb-true _ _ few, cc)
    go false few is = absurd cc

-- how a field goes on after its raw bits
abbrev after_raw : List (List Bool) → ℕ → ℕ × List Bool → Result (ℕ × List Bool) ReadError
after_raw words width raw = bytes_at words (width / 8) raw.1 >>= λ bytes. Ok (raw.0 + 2 ^ (width % 8) * bytes.0, bytes.1)

-- where a field's bits end, they are the front of its text
field_cut : (words : List (List Bool)) (code : IsCode words) (width : ℕ) (bits : List Bool) → field_at words width bits ≡ Err End → IsCutShort words width bits
unfolding field_at
field_cut words code width bits e =
    elim (bind_err (raw_at (width % 8) bits) (after_raw words width) End e) [
      | inl none ↦ few_raw words width bits (raw_at_err (width % 8) bits End none).0
      | inr (raw, is, later) ↦
          elim (bind_err (bytes_at words (width / 8) raw.1) (λ bytes. answer (raw.0 + 2 ^ (width % 8) * bytes.0) bytes.1) End later) [
            | inl stuck ↦
                let n = width % 8 in
                let cut = cut_from_end words code (width / 8) raw.1 stuck in
                let front = raw_at_some n bits raw is in
                let value = cut.0 * 2 ^ n + raw.0 in
                let low : low_bits n value ≡ low_bits n raw.0 = low_bits-low cut.0 n raw.0 front.0 in
                let high : value / 2 ^ n ≡ cut.0 = shr_high cut.0 n raw.0 front.0 in
                (value, cut.1, ap (λ (x : List Bool). x ++ cut.1) front.1 ∙ append_assoc (low_bits n raw.0) raw.1 cut.1 ∙ ap (λ (x : List Bool). low_bits n raw.0 ++ x) cut.2 ∙ sym (field_bits-is words width value ∙ rw (low, high) refl))
            | inr (bytes, found, none) ↦ absurd cc
          ]
    ]

-- where the bits are the front of a field's text, they end
pub field_end : (words : List (List Bool)) (code : IsCode words) (width value : ℕ) (bits more : List Bool) (e : ReadError) → bits ++ more ≡ field_bits words width value → field_at words width bits ≡ Err e → e ≡ End
unfolding field_at
field_end words code width value bits more e cut is =
    elim (bind_err (raw_at (width % 8) bits) (after_raw words width) e is) [
      | inl none ↦ (raw_at_err (width % 8) bits e none).1
      | inr (raw, read, later) ↦
          elim (bind_err (bytes_at words (width / 8) raw.1) (λ bytes. answer (raw.0 + 2 ^ (width % 8) * bytes.0) bytes.1) e later) [
            | inl stuck ↦
                let n = width % 8 in
                let front = raw_at_some n bits raw read in
                let others = bytes_bits words (width / 8) (value / 2 ^ n) in
                let whole : low_bits n raw.0 ++ (raw.1 ++ more) ≡ low_bits n value ++ others = sym (append_assoc (low_bits n raw.0) raw.1 more) ∙ ap (λ (x : List Bool). x ++ more) (sym front.1) ∙ cut ∙ field_bits-is words width value in
                let rest : raw.1 ++ more ≡ others = sym (drop_at (low_bits n raw.0) (raw.1 ++ more) n (length-low_bits n raw.0)) ∙ ap (drop n) whole ∙ drop_at (low_bits n value) others n (length-low_bits n value) in
                end_from_cut words code (width / 8) (value / 2 ^ n) raw.1 more e rest stuck
            | inr (bytes, found, none) ↦ absurd cc
          ]
    ]

-- where bits end they are cut short, and elsewhere they aren't
pub ends_cut_short : (words : List (List Bool)) (width : ℕ) (bits : List Bool) → IsCode words → EndsCutShort words width bits
ends_cut_short words width bits code = record {
  end = λ e. field_cut words code width bits e;
  no_word = λ e cut. (let same : NoWord ≡ End = field_end words code width cut.0 bits cut.1 NoWord cut.2 e in absurd cc);
}

-- by the plain code the cause is always the end
pub plain_ends : (width : ℕ) (bits : List Bool) (e : ReadError) → field_at plain_words width bits ≡ Err e → e ≡ End
plain_ends width bits e is =
    elim (cases_lt (length bits) width) [
      | inl few ↦ field_end plain_words plain_is_code width (number_of bits) bits (low_bits (width - length bits) 0) e (plain_front width bits (omega arith)) is
      | inr enough ↦ absurd (let read = plain_reads width bits enough in cc)
    ]

-- ---- a table of words

-- a word of the table begins with the bits that its number begins with
pub starts_with-test : (word : Word) (count front : ℕ) (bits : List Bool) → word.length ≤ 24 → count ≤ word.length → count ≡ min 25 (length bits) → front ≡ number_of (take 24 bits)
    → eqb (word.bits % (1 * 2 ^ count % 2 ^ 32)) front ≡ is_some (bits_after bits (bits_of_word word))
starts_with-test word count front bits short within is spells =
    let long : count ≡ length bits = omega arith in
    let shift : 1 * 2 ^ count % 2 ^ 32 ≡ 2 ^ length bits = one_shl count 32 (omega arith) ∙ ap (λ (n : ℕ). 2 ^ n) long in
    let whole : take 24 bits ≡ bits = take_all 24 bits (omega arith) in
    rw (shift, spells, whole) (bits_after-number word.length word.bits bits (omega arith))

-- and is no longer than the bits
pub starts_with-long : (word : Word) (bits : List Bool) → word.length < length bits → is_some (bits_after bits (bits_of_word word)) ≡ false
starts_with-long word bits few = ap is_some (bits_after-short bits (bits_of_word word) (omega (arith, length-low_bits word.length word.bits)))

-- the words from a place on
words_from : (words : List Word) (i : ℕ) (d : Word) → i < length words → drop i (words_of words) ≡ bits_of_word (get_or words i d) ∷ drop (i + 1) (words_of words)
words_from words i d lt = drop_more (words_of words) i [] (omega (arith, length-map words bits_of_word)) ∙ rw (get_or-map bits_of_word words i d [] lt) refl

-- the word at a place goes on from the bits
pub begins_hit : (words : List Word) (i : ℕ) (bits : List Bool) (d : Word) → i < length words → true ≡ is_some (bits_after bits (bits_of_word (get_or words i d))) → begins_word (drop i (words_of words)) bits ≡ true
unfolding begins_word
begins_hit words i bits d lt hit = rw (words_from words i d lt, ← hit) refl

-- or a later one
pub begins_miss : (words : List Word) (i : ℕ) (bits : List Bool) (d : Word) → i < length words → false ≡ is_some (bits_after bits (bits_of_word (get_or words i d))) → begins_word (drop i (words_of words)) bits ≡ begins_word (drop (i + 1) (words_of words)) bits
unfolding begins_word
begins_miss words i bits d lt miss = rw (words_from words i d lt, ← miss) refl

-- or none
pub begins_none : (words : List Word) (i : ℕ) (bits : List Bool) → length words ≤ i → begins_word (drop i (words_of words)) bits ≡ false
unfolding begins_word
begins_none words i bits past = rw (drop_all i (words_of words) (omega (arith, length-map words bits_of_word))) refl
