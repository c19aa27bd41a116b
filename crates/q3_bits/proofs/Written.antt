-- Bits as they lie in a writer's bytes.
use Rattle.std.proofs.Common.{◌≡◌, ℕ, zero, suc, ◌+◌, ◌-◌, ◌*◌, ◌/◌, ◌%◌, ◌^◌, ◌<◌, ◌≤◌, ◌≢◌, Bool, List, [], ◌∷◌, ◌++◌, length, get_or, set, take, min, sym, refl, ap, subst, ◌∙◌, inl, inr, append_assoc, arith}
use Rattle.std.proofs.lemmas.Nat.{shl_whole, shr_below, pow-add, pow_pos, mod_below, mul-add-lt}
use Rattle.std.proofs.lemmas.Bool.{cases_lt}
use Rattle.std.proofs.Math.Nat.{mod-eq_of_lt, pow-succ', pow-le-pow_right, div-div-eq-div-mul}
use Rattle.std.proofs.lemmas.List.{append-nil, length-append, length-take-le, length-set, take-set, take_more_set, take_more, get_or-set_same, get_or-set_other}
use Rattle.std.proofs.lemmas.List.Elements.{recursion_from_All, All-take}
use Rattle.std.specs.List.{All, AllByRecursion as ByRecursion}
use Rattle.q3_bits.specs.Bits.{low_bits, bits_of, message_bytes}
use Rattle.q3_bits.specs.Buffer.{bits_within, writing_of, IsClear, IsWritten}
use Rattle.q3_bits.specs.declared.writer.Writer.TheInside.{Inside}
use Rattle.q3_bits.specs.Table.{bits_of_word}
use Rattle.q3_bits.specs.Words.{bytes_bits, field_bits, word_of}
use Rattle.q3_bits.specs.declared.code.Word.{Word}
use Rattle.q3_bits.specs.declared.writer.Gathered.{Gathered}
use Rattle.q3_bits.proofs.Numbers.{low_bits-zero, low_bits-add, low_bits-join, low_bits-mod, bits_of-push, length-low_bits, length-bits_of, number_of-low_bits}
use Rattle.q3_bits.proofs.CodeText.{bytes_bits-zero, bytes_bits-suc, field_bits-is}
use Rattle.q3_bits.proofs.MessageBytes.{message_bytes-byte, message_bytes-short}

-- so many bits lie in the bytes
pub length-bits_within : (bytes : List ℕ) (count : ℕ) → count / 8 ≤ length bytes → length (bits_within bytes count) ≡ count
length-bits_within bytes count within =
    let whole = take (count / 8) bytes in
    let last = get_or bytes (count / 8) 0 in
    omega (arith, length-append (bits_of whole) (low_bits (count % 8) last), length-bits_of whole, length-take-le (count / 8) bytes within, length-low_bits (count % 8) last)

-- a writer has as many bits as it counts
pub length-writing : (w : Inside) → IsWritten w → length w.bytes ≡ 16384 → length (writing_of w).bits ≡ w.count
length-writing w written told =
    let room = written.room in
    let within = written.within in
    length-bits_within w.bytes w.count (omega arith)

-- ---- bits that are stored byte by byte

-- of the bits that lie there and those that go after them, the bytes up to one are there, and the rest is a number
pub record HasStored (start now : List ℕ) (place : ℕ) (text : List Bool) (end k rest : ℕ) : Type 0 where
  pub places : length now ≡ length start
  pub bits : bits_of (take k now) ++ low_bits (end - 8 * k) rest ≡ bits_within start place ++ text
  pub fits : rest < 2 ^ (end - 8 * k)
  pub after : (j : ℕ) → end / 8 < j → get_or now j 0 ≡ 0

-- at the start the rest is the part of a byte that lies there, and the bits after it
pub HasStored-none : (start : List ℕ) (place bits count : ℕ) → IsClear start place → bits < 2 ^ count
    → HasStored start start place (low_bits count bits) (place + count) (place / 8) (get_or start (place / 8) 0 + bits * 2 ^ (place % 8))
HasStored-none start place bits count clear fits =
    let part = clear.part in
    let left : place + count - 8 * (place / 8) ≡ place % 8 + count = omega arith in
    record {
      places = refl;
      bits = rw (left, low_bits-join (place % 8) count (get_or start (place / 8) 0) bits part) (sym (append_assoc (bits_of (take (place / 8) start)) (low_bits (place % 8) (get_or start (place / 8) 0)) (low_bits count bits)));
      fits = rw (left, pow-add 2 (place % 8) count) (omega (arith, mul-add-lt bits (2 ^ (place % 8)) (get_or start (place / 8) 0) (2 ^ count) fits part));
      after = λ j past. clear.after j (omega arith);
    }

-- a byte more is stored
pub HasStored-more : (start now : List ℕ) (place : ℕ) (text : List Bool) (end k rest : ℕ) → HasStored start now place text end k rest → k < end / 8 → k < length now
    → HasStored start (set now k (rest % 256)) place text end (k + 1) (rest / 256)
HasStored-more start now place text end k rest h more within =
    let left : end - 8 * k ≡ 8 + (end - 8 * (k + 1)) = omega arith in
    let low : low_bits 8 (rest % 256) ≡ low_bits 8 rest = low_bits-mod 8 rest in
    record {
      places = length-set now k (rest % 256) ∙ h.places;
      bits = rw (take_more_set, bits_of-push, low, append_assoc, ← low_bits-add 8 (end - 8 * (k + 1)) rest, ← left) h.bits;
      fits = shr_below rest (end - 8 * (k + 1)) 8 (subst (λ (n : ℕ). rest < 2 ^ n) (left ∙ omega arith) h.fits);
      after = λ j past. (let other : j ≢ k = omega arith in rw get_or-set_other (h.after j past));
    }

-- the last byte is a part
pub stored-bits : (start now : List ℕ) (place : ℕ) (text : List Bool) (end rest : ℕ) → HasStored start now place text end (end / 8) rest → end / 8 < length now
    → bits_within (set now (end / 8) rest) end ≡ bits_within start place ++ text
stored-bits start now place text end rest h within =
    let left : end - 8 * (end / 8) ≡ end % 8 = omega arith in
    let bits = rw left at h.bits in
    rw (take-set, get_or-set_same) bits

pub stored-clear : (start now : List ℕ) (place : ℕ) (text : List Bool) (end rest : ℕ) → HasStored start now place text end (end / 8) rest → end / 8 < length now
    → IsClear (set now (end / 8) rest) end
stored-clear start now place text end rest h within =
    let left : end - 8 * (end / 8) ≡ end % 8 = omega arith in
    record {
      part = rw get_or-set_same (subst (λ (n : ℕ). rest < 2 ^ n) left h.fits);
      after = λ k past. (let other : k ≢ end / 8 = omega arith in rw get_or-set_other (h.after k past));
    }

-- what is stored is a number of 64 bits
pub stored-fits : (part place bits count : ℕ) → part < 2 ^ (place % 8) → bits < 2 ^ count → count ≤ 56
    → (bits * 2 ^ (place % 8) % 2 ^ 64 ≡ bits * 2 ^ (place % 8)) × (part + bits * 2 ^ (place % 8) < 2 ^ 64)
stored-fits part place bits count small fits few =
    let whole : bits * 2 ^ (place % 8) % 2 ^ 64 ≡ bits * 2 ^ (place % 8) = shl_whole bits count (place % 8) 64 fits (omega arith) in
    let most : 2 ^ (place % 8 + count) ≤ 2 ^ 64 = pow-le-pow_right {n = 2} (omega arith) {i = place % 8 + count} {j = 64} (omega arith) in
    (whole, omega (arith, pow-add 2 (place % 8) count, mul-add-lt bits (2 ^ (place % 8)) part (2 ^ count) fits small))

-- ---- words that are gathered

-- a word is that of one byte
pub gathered-one : (words : List (List Bool)) (value : ℕ) (word : Word) → bits_of_word word ≡ word_of words (value % 256) → bits_of_word word ≡ bytes_bits words 1 value
gathered-one words value word is = is ∙ sym (rw (bytes_bits-suc, bytes_bits-zero, append-nil) refl)

-- two words are those of two bytes
pub gathered-two : (words : List (List Bool)) (value : ℕ) (low high : Word) → bits_of_word low ≡ word_of words (value % 256) → bits_of_word high ≡ word_of words (value / 256 % 256)
    → bits_of_word low ++ bits_of_word high ≡ bytes_bits words 2 value
gathered-two words value low high is is' = rw (is, is') (sym (rw (bytes_bits-suc, bytes_bits-suc, bytes_bits-zero, append-nil) refl))

-- the words of the low bytes and those of the others are all
pub bytes_bits-split : (words : List (List Bool)) (m n value : ℕ) → bytes_bits words (m + n) value ≡ bytes_bits words m value ++ bytes_bits words n (value / 256 ^ m)
bytes_bits-split words zero n value =
    let same : value / 256 ^ 0 ≡ value = omega arith in
    let none : zero + n ≡ n = omega arith in
    rw (none, bytes_bits-zero, same) refl
bytes_bits-split words (suc m) n value =
    let more : suc m + n ≡ suc (m + n) = omega arith in
    let next : value / 256 / 256 ^ m ≡ value / 256 ^ suc m = div-div-eq-div-mul value 256 (256 ^ m) ∙ ap (λ (d : ℕ). value / d) (sym (pow-succ' 256 m)) in
    rw (more, bytes_bits-suc, bytes_bits-suc, bytes_bits-split words m n (value / 256), next) (sym (append_assoc (word_of words (value % 256)) (bytes_bits words m (value / 256)) (bytes_bits words n (value / 256 ^ suc m))))

-- whole bytes and the low bits of one more are those bytes
message_bytes-bits : (whole : List ℕ) (count last : ℕ) → ByRecursion (λ (byte : ℕ). byte < 256) whole → count < 8 → last < 2 ^ count
    → message_bytes (bits_of whole ++ low_bits count last) ≡ whole ++ last ∷ []
unfolding bits_of
message_bytes-bits [] count last fits few small =
    message_bytes-short (low_bits count last) (omega (arith, length-low_bits count last)) ∙ ap (λ (byte : ℕ). byte ∷ []) (number_of-low_bits count last ∙ mod-eq_of_lt small)
message_bytes-bits (byte ∷ whole) count last fits few small =
    ap message_bytes (append_assoc (low_bits 8 byte) (bits_of whole) (low_bits count last))
    ∙ message_bytes-byte byte (bits_of whole ++ low_bits count last) fits.0
    ∙ ap (λ (others : List ℕ). byte ∷ others) (message_bytes-bits whole count last fits.1 few small)

-- the message of the bits that lie in bytes is the front of the bytes
pub message_bytes-within : (bytes : List ℕ) (count : ℕ) → All (λ (byte : ℕ). byte < 256) bytes → count / 8 < length bytes → get_or bytes (count / 8) 0 < 2 ^ (count % 8)
    → message_bytes (bits_within bytes count) ≡ take (count / 8 + 1) bytes
message_bytes-within bytes count fits within part =
    message_bytes-bits (take (count / 8) bytes) (count % 8) (get_or bytes (count / 8) 0)
    (recursion_from_All (λ (byte : ℕ). byte < 256) (take (count / 8) bytes) (All-take (λ (byte : ℕ). byte < 256) (count / 8) bytes fits)) (omega arith) part
    ∙ sym (take_more bytes (count / 8) 0 within)

-- the words of the lowest two bytes, and those of the others
pub words-split : (words : List (List Bool)) (count value : ℕ) → bytes_bits words (min count 2) value ++ bytes_bits words (count - min count 2) (value / 65536) ≡ bytes_bits words count value
words-split words count value =
    elim (cases_lt count 2) [
      | inl few ↦
          let all : min count 2 ≡ count = omega arith in
          let none : count - min count 2 ≡ 0 = omega arith in
          rw (none, bytes_bits-zero, append-nil, all) refl
      | inr many ↦
          let two : min count 2 ≡ 2 = omega arith in
          let whole : 2 + (count - min count 2) ≡ count = omega arith in
          let parts = bytes_bits-split words 2 (count - min count 2) value in
          rw two (sym (bytes_bits-split words 2 (count - 2) value) ∙ ap (λ (n : ℕ). bytes_bits words n value) (omega arith))
    ]

-- the words that were gathered are all
pub gathered-all : (words : List (List Bool)) (bytes value first low size high more : ℕ) → first ≡ min bytes 2 → low_bits size low ≡ bytes_bits words first value
    → low_bits more high ≡ bytes_bits words (bytes - first) (value / 65536) → bytes_bits words bytes value ≡ low_bits size low ++ low_bits more high
gathered-all words bytes value first low size high more is is_low is_high = rw (is_low, is_high, is) (sym (words-split words bytes value))

pub length-gathered : (raw count low size high more : ℕ) (text : List Bool) → text ≡ low_bits size low ++ low_bits more high → length (low_bits count raw ++ text) ≡ count + size + more
length-gathered raw count low size high more text is =
    omega (arith, ap length is, length-append (low_bits count raw) text, length-append (low_bits size low) (low_bits more high), length-low_bits count raw, length-low_bits size low, length-low_bits more high)

-- bits, and others above them, as one number
pub joined-fits : (count more bits others : ℕ) → count + more ≤ 64 → bits < 2 ^ count → others < 2 ^ more
    → (others * 2 ^ count % 2 ^ 64 ≡ others * 2 ^ count) × (bits + others * 2 ^ count < 2 ^ (count + more)) × (2 ^ (count + more) ≤ 2 ^ 64)
joined-fits count more bits others few fits above = (
  shl_whole others more count 64 above (omega arith),
  rw (pow-add 2 count more) (omega (arith, mul-add-lt others (2 ^ count) bits (2 ^ more) above fits)),
  pow-le-pow_right {n = 2} (omega arith) {i = count + more} {j = 64} few,
)

-- raw bits, and two parts of words above them, as one number
pub three-fit : (count low high raw first second : ℕ) → count + low + high ≤ 56 → raw < 2 ^ count → first < 2 ^ low → second < 2 ^ high
    → (first * 2 ^ count % 2 ^ 64 ≡ first * 2 ^ count) × (raw + first * 2 ^ count < 2 ^ 64) × (second * 2 ^ (count + low) % 2 ^ 64 ≡ second * 2 ^ (count + low))
    × (raw + first * 2 ^ count + second * 2 ^ (count + low) < 2 ^ (count + low + high)) × (2 ^ (count + low + high) ≤ 2 ^ 64)
    × (low_bits (count + low + high) (raw + first * 2 ^ count + second * 2 ^ (count + low)) ≡ low_bits count raw ++ (low_bits low first ++ low_bits high second))
three-fit count low high raw first second few fits above higher =
    let two = joined-fits count low raw first (omega arith) fits above in
    let all = joined-fits (count + low) high (raw + first * 2 ^ count) second (omega arith) two.1 higher in (
      two.0,
      omega (arith, two.1, two.2),
      all.0,
      all.1,
      all.2,
      low_bits-join (count + low) high (raw + first * 2 ^ count) second two.1
          ∙ rw (low_bits-join count low raw first fits) (append_assoc (low_bits count raw) (low_bits low first) (low_bits high second)),
    )

-- a field is its raw bits, as a number, and the words of its bytes
pub field_bits-put : (words : List (List Bool)) (width value : ℕ) → low_bits (width % 8) (value % 2 ^ (width % 8)) ++ bytes_bits words (width / 8) (value / 2 ^ (width % 8)) ≡ field_bits words width value
field_bits-put words width value = rw (low_bits-mod (width % 8) value) (sym (field_bits-is words width value))

-- one of fewer than eight bits has no words
pub field_bits-raw : (words : List (List Bool)) (width value : ℕ) → width < 8 → low_bits width (value % 2 ^ width) ≡ field_bits words width value
field_bits-raw words width value few =
    let raw : width % 8 ≡ width = omega arith in
    let none : width / 8 ≡ 0 = omega arith in
    low_bits-mod width value ∙ sym (field_bits-is words width value ∙ rw (raw, none, bytes_bits-zero, append-nil) refl)

-- so one after another is one
field_bits-short : (words : List (List Bool)) (width value : ℕ) → width < 8 → field_bits words width value ≡ low_bits width value
field_bits-short words width value few = sym (field_bits-raw words width value few) ∙ low_bits-mod width value

pub marks-none : (words : List (List Bool)) (value : ℕ) → field_bits words 0 value ≡ []
marks-none words value = field_bits-short words 0 value (omega arith) ∙ low_bits-zero value

-- three fields in two parts, each as a number
pub record AreInTwo (front back : Gathered) (text : List Bool) : Type 0 where
  pub is : low_bits front.count front.bits ++ low_bits back.count back.bits ≡ text
  pub long : length text ≡ front.count + back.count

pub in_two : (own words : List (List Bool)) (front back : Gathered) (first mark last : ℕ × ℕ) → own ≡ words
    → low_bits front.count front.bits ≡ field_bits own 0 0 ++ field_bits own first.1 first.0
    → low_bits back.count back.bits ≡ field_bits own mark.1 mark.0 ++ field_bits own last.1 last.0
    → AreInTwo front back (field_bits words first.1 first.0 ++ (field_bits words mark.1 mark.0 ++ field_bits words last.1 last.0))
in_two own words front back first mark last same front_is back_is =
    let text : List (List Bool) → List Bool = λ ws. field_bits ws first.1 first.0 ++ (field_bits ws mark.1 mark.0 ++ field_bits ws last.1 last.0) in
    let low = low_bits front.count front.bits in
    let high = low_bits back.count back.bits in
    let none : low ≡ field_bits own first.1 first.0 = front_is ∙ ap (λ (bits : List Bool). bits ++ field_bits own first.1 first.0) (marks-none own 0) in
    let is : low ++ high ≡ text words = rw (none, back_is) refl ∙ ap text same in
    record {
      is = is;
      long = omega (arith, ap length is, length-append low high, length-low_bits front.count front.bits, length-low_bits back.count back.bits);
    }

pub marks-joined : (words : List (List Bool)) (first second mark other : ℕ) → first + second < 8 → mark < 2 ^ first
    → field_bits words (first + second) (mark + other * 2 ^ first) ≡ field_bits words first mark ++ field_bits words second other
marks-joined words first second mark other few fits =
    field_bits-short words (first + second) (mark + other * 2 ^ first) few ∙ low_bits-join first second mark other fits
    ∙ sym (rw (field_bits-short words first mark (omega (arith, few)), field_bits-short words second other (omega (arith, few))) refl)

-- a mark and a field
pub marked-put : (words : List (List Bool)) (mark count width value : ℕ) → count < 8
    → low_bits (count + width % 8) (mark % 2 ^ count + value % 2 ^ (width % 8) * 2 ^ count) ++ bytes_bits words (width / 8) (value / 2 ^ (width % 8))
    ≡ field_bits words count mark ++ field_bits words width value
marked-put words mark count width value few =
    let raw = width % 8 in
    rw (low_bits-join count raw (mark % 2 ^ count) (value % 2 ^ raw) (mod_below mark (2 ^ count) (pow_pos count)), field_bits-raw words count mark few)
    (append_assoc (field_bits words count mark) (low_bits raw (value % 2 ^ raw)) (bytes_bits words (width / 8) (value / 2 ^ raw))
    ∙ ap (λ (x : List Bool). field_bits words count mark ++ x) (field_bits-put words width value))

-- and its raw bits fit
pub marked-fits : (mark count raw value : ℕ) → count ≤ 7 → raw < 8
    → (value % 2 ^ raw * 2 ^ count % 2 ^ 32 ≡ value % 2 ^ raw * 2 ^ count) × (mark % 2 ^ count + value % 2 ^ raw * 2 ^ count < 2 ^ (count + raw)) × (2 ^ (count + raw) ≤ 2 ^ 14)
marked-fits mark count raw value few short = (
  shl_whole (value % 2 ^ raw) raw count 32 (mod_below value (2 ^ raw) (pow_pos raw)) (omega arith),
  rw (pow-add 2 count raw) (omega (arith, mul-add-lt (value % 2 ^ raw) (2 ^ count) (mark % 2 ^ count) (2 ^ raw) (mod_below value (2 ^ raw) (pow_pos raw)) (mod_below mark (2 ^ count) (pow_pos count)))),
  pow-le-pow_right {n = 2} (omega arith) {i = count + raw} {j = 14} (omega arith),
)

-- a mark and a short field, as one number
pub short-fits : (mark count raw value words size : ℕ) → count ≤ 7 → raw < 8 → size ≤ 24 → words < 2 ^ size
    → (words * 2 ^ (count + raw) % 2 ^ 64 ≡ words * 2 ^ (count + raw))
    × (mark % 2 ^ count + value % 2 ^ raw * 2 ^ count + words * 2 ^ (count + raw) < 2 ^ (count + raw + size)) × (2 ^ (count + raw + size) ≤ 2 ^ 64)
short-fits mark count raw value words size few short least fits =
    joined-fits (count + raw) size (mark % 2 ^ count + value % 2 ^ raw * 2 ^ count) words (omega arith) (marked-fits mark count raw value few short).1 fits

pub short-text : (code : List (List Bool)) (mark count width value words size : ℕ) → count ≤ 7 → low_bits size words ≡ bytes_bits code (width / 8) (value / 2 ^ (width % 8))
    → low_bits (count + width % 8 + size) (mark % 2 ^ count + value % 2 ^ (width % 8) * 2 ^ count + words * 2 ^ (count + width % 8)) ≡ field_bits code count mark ++ field_bits code width value
short-text code mark count width value words size few is =
    low_bits-join (count + width % 8) size (mark % 2 ^ count + value % 2 ^ (width % 8) * 2 ^ count) words (marked-fits mark count (width % 8) value few (omega arith)).1
    ∙ rw is (marked-put code mark count width value (omega (arith, few)))
