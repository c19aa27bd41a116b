-- Bits that are gathered in a number, and those of the bytes after them.
use Rattle.std.proofs.Common.{◌≡◌, ◌⊎◌, ℕ, ◌+◌, ◌-◌, ◌*◌, ◌/◌, ◌%◌, ◌^◌, ◌<◌, ◌≤◌, Bool, List, [], ◌∷◌, ◌++◌, length, take, drop, min, Some, Result, Ok, Err, refl, sym, ap, ◌∙◌, inl, inr, append_assoc, arith}
use Rattle.std.proofs.lemmas.List.{length-append, length-drop, take_at, drop_at, take-append-drop, take-take, append-nil, nil_from_length}
use Rattle.std.proofs.lemmas.Nat.{shl_whole, shr_below, shr-shr, mul-add-lt, pow-add}
use Rattle.std.proofs.Math.Nat.{mod-lt, mod-eq_of_lt, pow-le-pow_right}
use Rattle.q3_bits.specs.declared.reader.ReadError.{ReadError}
use Rattle.q3_bits.specs.declared.reader.ReadError.TheVariants.{End}
use Rattle.q3_bits.specs.Bits.{bit, low_bits, number_of, bits_of}
use Rattle.q3_bits.specs.ResultBind.{◌>>=◌}
use Rattle.q3_bits.specs.Words.{IsCode, raw_at, byte_from, byte_at, bytes_at, field_at}
use Rattle.q3_bits.specs.Streams.{Reads}
use Rattle.q3_bits.proofs.Numbers.{length-low_bits, length-bits_of, low_bits-add, low_bits-join, low_bits-number_of_take, number_of-take_lt, number_of-low_bits, number_of-mod, number_of-nil, number_of-cons, bits_of-nil}
use Rattle.q3_bits.proofs.Windows.{drop-bytes}
use Rattle.q3_bits.proofs.CodeText.{raw_at_few, raw_at_enough, field_no_raw, bytes_at-zero, byte_at-is, onto, onto_nothing, answer, bytes_more, bytes_end, field_found, field_at_some, field_again}

-- as many bits as were gathered and the bytes have
pub length-ahead : (count bits : ℕ) (bytes : List ℕ) → length (low_bits count bits ++ bits_of bytes) ≡ count + 8 * length bytes
length-ahead count bits bytes = omega (arith, length-append (low_bits count bits) (bits_of bytes), length-low_bits count bits, length-bits_of bytes)

-- the first of the bits that were gathered, and the others
pub gathered-parts : (n count bits : ℕ) (rest : List Bool) → n ≤ count → low_bits count bits ++ rest ≡ low_bits n bits ++ (low_bits (count - n) (bits / 2 ^ n) ++ rest)
gathered-parts n count bits rest few =
    let whole : count ≡ n + (count - n) = omega arith in
    ap (λ (k : ℕ). low_bits k bits ++ rest) whole ∙ ap (λ (xs : List Bool). xs ++ rest) (low_bits-add n (count - n) bits) ∙ append_assoc (low_bits n bits) (low_bits (count - n) (bits / 2 ^ n)) rest

-- what follows the first of them
pub drop-gathered : (n count bits : ℕ) (rest : List Bool) → n ≤ count → drop n (low_bits count bits ++ rest) ≡ low_bits (count - n) (bits / 2 ^ n) ++ rest
drop-gathered n count bits rest few =
    ap (drop n) (gathered-parts n count bits rest few) ∙ drop_at (low_bits n bits) (low_bits (count - n) (bits / 2 ^ n) ++ rest) n (length-low_bits n bits)

-- the first of them
pub take-gathered : (n count bits : ℕ) (rest : List Bool) → n ≤ count → take n (low_bits count bits ++ rest) ≡ low_bits n bits
take-gathered n count bits rest few =
    ap (take n) (gathered-parts n count bits rest few) ∙ take_at (low_bits n bits) (low_bits (count - n) (bits / 2 ^ n) ++ rest) n (length-low_bits n bits)

-- with none after them
pub drop-low_bits : (n count bits : ℕ) → n ≤ count → drop n (low_bits count bits) ≡ low_bits (count - n) (bits / 2 ^ n)
drop-low_bits n count bits few =
    ap (drop n) (sym (append-nil (low_bits count bits))) ∙ drop-gathered n count bits [] few ∙ append-nil (low_bits (count - n) (bits / 2 ^ n))

-- the number that the first of them spell
pub number-gathered : (n count bits : ℕ) (rest : List Bool) → n ≤ count → number_of (take n (low_bits count bits ++ rest)) ≡ bits % 2 ^ n
number-gathered n count bits rest few = ap number_of (take-gathered n count bits rest few) ∙ number_of-low_bits n bits

pub number-low_bits : (n count bits : ℕ) → n ≤ count → number_of (take n (low_bits count bits)) ≡ bits % 2 ^ n
number-low_bits n count bits few = ap (λ (xs : List Bool). number_of (take n xs)) (sym (append-nil (low_bits count bits))) ∙ number-gathered n count bits [] few

-- the number that the next 24 spell, where no others are after them
pub window-gathered : (count bits : ℕ) → bits < 2 ^ count → bits % 2 ^ 24 ≡ number_of (take 24 (low_bits count bits))
window-gathered count bits fits =
    let whole : number_of (low_bits count bits) ≡ bits = number_of-low_bits count bits ∙ mod-eq_of_lt fits in
    ap (λ (n : ℕ). n % 2 ^ 24) (sym whole) ∙ number_of-mod (low_bits count bits) 24

-- or enough were gathered
pub window-full : (count bits : ℕ) (bytes : List ℕ) → bits < 2 ^ count → (25 ≤ count) ⊎ (length bytes ≡ 0) → bits % 2 ^ 24 ≡ number_of (take 24 (low_bits count bits ++ bits_of bytes))
window-full count bits bytes fits (inl many) = sym (number-gathered 24 count bits (bits_of bytes) (omega arith))
window-full count bits bytes fits (inr none) =
    let nothing : bits_of bytes ≡ [] = ap bits_of (nil_from_length bytes none) ∙ bits_of-nil in
    window-gathered count bits fits ∙ ap (λ (xs : List Bool). number_of (take 24 xs)) (sym (ap (λ (xs : List Bool). low_bits count bits ++ xs) nothing ∙ append-nil (low_bits count bits)))

-- bytes that are gathered more: the number that the next of them spell, put after the others
pub record Gathers (count bits more word : ℕ) (bytes : List ℕ) : Type 0 where
  pub next : word % 2 ^ (8 * more) < 2 ^ (8 * more)
  pub shifted : word % 2 ^ (8 * more) * 2 ^ count % 2 ^ 64 ≡ word % 2 ^ (8 * more) * 2 ^ count
  pub fits : bits + word % 2 ^ (8 * more) * 2 ^ count < 2 ^ (count + 8 * more)
  pub most : 2 ^ (count + 8 * more) ≤ 2 ^ 64
  pub same : low_bits (count + 8 * more) (bits + word % 2 ^ (8 * more) * 2 ^ count) ++ bits_of (drop more bytes) ≡ low_bits count bits ++ bits_of bytes

pub gathers : (count bits more word : ℕ) (bytes : List ℕ) → bits < 2 ^ count → count + 8 * more < 64 → more ≤ length bytes → word ≡ number_of (take 64 (bits_of bytes)) → Gathers count bits more word bytes
gathers count bits more word bytes fits room there spells =
    let n = 8 * more in
    let enough : n ≤ length (bits_of bytes) = omega (arith, length-bits_of bytes) in
    let low : word % 2 ^ n ≡ number_of (take n (bits_of bytes)) =
    ap (λ (w : ℕ). w % 2 ^ n) spells ∙ number_of-mod (take 64 (bits_of bytes)) n ∙ ap number_of (take-take n 64 (bits_of bytes) (omega arith)) in
    let small : word % 2 ^ n < 2 ^ n = rw low (number_of-take_lt n (bits_of bytes) enough) in
    let spelt : low_bits n (word % 2 ^ n) ≡ take n (bits_of bytes) = rw low (low_bits-number_of_take n (bits_of bytes) enough) in
    let power : 2 ^ (count + n) ≡ 2 ^ count * 2 ^ n = pow-add 2 count n in
    record {
      next = small;
      shifted = shl_whole (word % 2 ^ n) n count 64 small (omega arith);
      fits = rw power (omega (arith, mul-add-lt (word % 2 ^ n) (2 ^ count) bits (2 ^ n) small fits));
      most = pow-le-pow_right {n = 2} (omega arith) {i = count + n} {j = 64} (omega arith);
      same =
          ap (λ (xs : List Bool). xs ++ bits_of (drop more bytes)) (low_bits-join count n bits (word % 2 ^ n) fits ∙ ap (λ (xs : List Bool). low_bits count bits ++ xs) spelt)
          ∙ append_assoc (low_bits count bits) (take n (bits_of bytes)) (bits_of (drop more bytes))
          ∙ ap (λ (xs : List Bool). low_bits count bits ++ xs) (ap (λ (xs : List Bool). take n (bits_of bytes) ++ xs) (sym (drop-bytes bytes more)) ∙ take-append-drop n (bits_of bytes));
    }

-- so many bits are passed over, and what they say is answered
pub passed : (words : List (List Bool)) (total : ℕ) (left next : List Bool) (n value : ℕ) (answer : Result (ℕ × List Bool) ReadError) → length left ≤ 8 * total → n ≤ length left
    → next ≡ drop n left → answer ≡ Ok (value, drop n left)
    → Reads {T = ℕ} {E = ReadError} (record { words = words; left = left; place = 8 * total - length left }) (record { words = words; left = next; place = 8 * total - length next }) answer (Ok value)
passed words total left next n value answer within few is e = record {
  value = ap (λ (rest : List Bool). (λ (r : Result (ℕ × List Bool) ReadError). r) (Ok (value, rest))) is ∙ sym e;
  words = refl;
  place = omega (arith, length-drop n left, ap length is);
}

-- a field without words whose bits are there
pub field_raw : (words : List (List Bool)) (width : ℕ) (bits : List Bool) → width < 8 → width ≤ length bits → field_at words width bits ≡ Ok (number_of (take width bits), drop width bits)
field_raw words width bits small enough =
    let low : width % 8 ≡ width = omega arith in
    let none : width / 8 ≡ 0 = omega arith in
    let raw : raw_at (width % 8) bits ≡ Ok (number_of (take width bits), drop width bits) = ap (λ (n : ℕ). raw_at n bits) low ∙ raw_at_enough width bits enough in
    let bytes : bytes_at words (width / 8) (drop width bits) ≡ Ok (0, drop width bits) = ap (λ (n : ℕ). bytes_at words n (drop width bits)) none ∙ bytes_at-zero words (drop width bits) in
    let same : number_of (take width bits) + 2 ^ (width % 8) * 0 ≡ number_of (take width bits) = omega arith in
    field_found words width bits (number_of (take width bits), drop width bits) (0, drop width bits) raw bytes ∙ ap (λ (n : ℕ). (λ (r : Result (ℕ × List Bool) ReadError). r) (Ok (n, drop width bits))) same

-- a mark is its bit
pub mark-here : (words : List (List Bool)) (b : Bool) (bits : List Bool) → field_at words 1 (b ∷ bits) ≡ Ok (bit b, bits)
mark-here words b bits =
    let one : number_of (b ∷ []) ≡ bit b = number_of-cons b [] ∙ omega (arith, number_of-nil) in
    field_raw words 1 (b ∷ bits) (omega arith) (omega arith) ∙ ap (λ (n : ℕ). (λ (r : Result (ℕ × List Bool) ReadError). r) (Ok (n, bits))) one

-- and isn't there where the bits end
pub mark-none : (words : List (List Bool)) → field_at words 1 [] ≡ Err End
mark-none words = field_no_raw words 1 [] End (raw_at_few 1 [] (omega arith))

-- what is read of the front of bits is read of all of them
pub field_more : (words : List (List Bool)) (width value : ℕ) (bits rest more : List Bool) → IsCode words → field_at words width bits ≡ Ok (value, rest) → field_at words width (bits ++ more) ≡ Ok (value, rest ++ more)
field_more words width value bits rest more code e =
    let put = field_at_some words code width bits (value, rest) e in
    ap (λ (xs : List Bool). field_at words width (xs ++ more)) put.1 ∙ ap (field_at words width) (append_assoc _ rest more) ∙ field_again words code width value (rest ++ more) put.0

-- a byte whose word was gathered
pub field_byte : (words : List (List Bool)) (bits byte long count : ℕ) → long ≤ count → byte_from 0 words (low_bits count bits) ≡ Some (byte, drop long (low_bits count bits))
    → field_at words 8 (low_bits count bits) ≡ Ok (byte, low_bits (count - long) (bits / 2 ^ long))
field_byte words bits byte long count enough found =
    let text = low_bits count bits in
    let rest = drop long text in
    let first : byte_at words text ≡ Ok (byte, rest) = rw (byte_at-is, found) refl in
    let one : 0 + 1 * byte ≡ byte = omega arith in
    let raw : raw_at 0 text ≡ Ok (0, text) = rw (raw_at_enough 0 text (omega arith), number_of-nil) refl in
    let bytes : bytes_at words 1 text ≡ Ok (byte, rest) =
    sym (onto_nothing (bytes_at words 1 text)) ∙ bytes_more words 1 0 0 1 text (byte, rest) (omega arith) first ∙ bytes_end words (0 + 1 * byte) (256 * 1) rest ∙ ap (λ (n : ℕ). answer n rest) one in
    field_found words 8 text (0, text) (byte, rest) raw bytes ∙ ap (λ (n : ℕ). answer n rest) one ∙ ap (answer byte) (drop-low_bits long count bits enough)

-- so many are left where they were gathered, or all were
pub has-left : (n count bits : ℕ) (bytes : List ℕ) → n ≤ 24 → (25 ≤ count) ⊎ (length bytes ≡ 0)
    → (n ≤ count → n ≤ length (low_bits count bits ++ bits_of bytes)) × (n ≤ length (low_bits count bits ++ bits_of bytes) → n ≤ count)
has-left n count bits bytes few (inl many) = (λ h. omega (arith, length-ahead count bits bytes), λ h. omega arith)
has-left n count bits bytes few (inr none) = (λ h. omega (arith, length-ahead count bits bytes), λ h. omega (arith, length-ahead count bits bytes))

-- how many are left, up to 25
pub left-of : (count bits : ℕ) (bytes : List ℕ) → (25 ≤ count) ⊎ (length bytes ≡ 0) → min count 25 ≡ min 25 (length (low_bits count bits ++ bits_of bytes))
left-of count bits bytes (inl many) = omega (arith, length-ahead count bits bytes)
left-of count bits bytes (inr none) = omega (arith, length-ahead count bits bytes)

-- a field is its raw bits and what its words add
field-onto : (words : List (List Bool)) (width : ℕ) (bits : List Bool) (raw : ℕ × List Bool) → raw_at (width % 8) bits ≡ Ok raw → field_at words width bits ≡ onto raw.0 (2 ^ (width % 8)) (bytes_at words (width / 8) raw.1)
unfolding field_at
field-onto words width bits raw is = rw is (under (bytes_at words (width / 8) raw.1))
  where
    under : (r : Result (ℕ × List Bool) ReadError) → (r >>= λ bytes. Ok (raw.0 + 2 ^ (width % 8) * bytes.0, bytes.1)) ≡ onto raw.0 (2 ^ (width % 8)) r
    under (Ok bytes) = refl
    under (Err e) = refl

-- so far a field's raw bits and words were read from the bits of a number: those that are left, read after the value, are the field
pub record HasSpelled (words : List (List Bool)) (raw bytes bits k value left taken : ℕ) : Type 0 where
  pub fits : value < 2 ^ (raw + 8 * k)
  pub few : taken ≤ raw + 64 * k
  pub after : taken < 64 → left ≡ bits / 2 ^ taken
  pub reads : (count : ℕ) → count < 64 → bits < 2 ^ count → taken ≤ count
      → onto value (2 ^ (raw + 8 * k)) (bytes_at words (bytes - k) (low_bits (count - taken) left)) ≡ field_at words (raw + 8 * bytes) (low_bits count bits)

pub spelled-none : (words : List (List Bool)) (raw bytes bits : ℕ) → raw < 8 → HasSpelled words raw bytes bits 0 (bits % 2 ^ raw) (bits / 2 ^ raw) raw
spelled-none words raw bytes bits small =
    let scale : raw + 8 * 0 ≡ raw = omega arith in
    let low : (raw + 8 * bytes) % 8 ≡ raw = omega arith in
    let high : (raw + 8 * bytes) / 8 ≡ bytes = omega arith in
    let all : bytes - 0 ≡ bytes = omega arith in
    record {
      fits = rw scale (mod-lt bits {m = 2 ^ raw} (omega (arith, pow-le-pow_right {n = 2} (omega arith) {i = 0} {j = raw} (omega arith))));
      few = omega arith;
      after = λ some. refl;
      reads = λ count most fits enough.
          let front : raw_at raw (low_bits count bits) ≡ Ok (bits % 2 ^ raw, low_bits (count - raw) (bits / 2 ^ raw)) =
          rw (raw_at_enough raw (low_bits count bits) (omega (arith, length-low_bits count bits)), drop-low_bits raw count bits enough, number-low_bits raw count bits enough) refl in
          sym (field-onto words (raw + 8 * bytes) (low_bits count bits) (bits % 2 ^ raw, low_bits (count - raw) (bits / 2 ^ raw)) (rw low front) ∙ rw (low, high, scale, all) refl);
    }

-- a byte more, after the others
pub record Shifts (value byte place : ℕ) : Type 0 where
  pub whole : byte * 2 ^ place % 2 ^ 32 ≡ 2 ^ place * byte
  pub fits : value + 2 ^ place * byte < 2 ^ (place + 8)
  pub scale : 2 ^ (place + 8) ≡ 256 * 2 ^ place
  pub most : 2 ^ (place + 8) ≤ 2 ^ 32

pub shifts : (value byte place : ℕ) → place ≤ 24 → value < 2 ^ place → byte < 256 → Shifts value byte place
shifts value byte place few fits small =
    let power : 2 ^ (place + 8) ≡ 2 ^ place * 256 = pow-add 2 place 8 in
    let turned : byte * 2 ^ place ≡ 2 ^ place * byte = grind arith in
    record {
      whole = shl_whole byte 8 place 32 small (omega arith) ∙ turned;
      fits = rw power (omega (arith, turned, mul-add-lt byte (2 ^ place) value 256 small fits));
      scale = power ∙ grind arith;
      most = pow-le-pow_right {n = 2} (omega arith) {i = place + 8} {j = 32} (omega arith);
    }

-- a word more was read, or none was found, which makes it longer than any bits that are gathered
pub spelled-more : (words : List (List Bool)) (raw bytes bits k value left taken byte long : ℕ) → HasSpelled words raw bytes bits k value left taken → k < bytes → raw + 8 * bytes ≤ 32 → byte < 256 → long ≤ 64
    → ((text : List Bool) → left % 2 ^ 24 ≡ number_of (take 24 text) → long < 64 → long ≤ length text → byte_from 0 words text ≡ Some (byte, drop long text))
    → HasSpelled words raw bytes bits (k + 1) (value + 2 ^ (raw + 8 * k) * byte) (left / 2 ^ (long % 64)) (taken + long)
spelled-more words raw bytes bits k value left taken byte long so few most small short found =
    let s = shifts value byte (raw + 8 * k) (omega arith) so.fits small in
    let place : raw + 8 * (k + 1) ≡ raw + 8 * k + 8 = omega arith in
    record {
      fits = rw place s.fits;
      few = omega (arith, so.few);
      after = λ some. (let same : long % 64 ≡ long = omega arith in rw same (ap (λ (n : ℕ). n / 2 ^ long) (so.after (omega arith)) ∙ shr-shr bits taken long));
      reads = λ count limit fits enough.
          let same : long % 64 ≡ long = omega arith in
          let rest = count - taken in
          let left-is : left ≡ bits / 2 ^ taken = so.after (omega arith) in
          let below : left < 2 ^ rest = rw left-is (shr_below bits rest taken (rw (whole count taken (omega arith)) fits)) in
          let text = low_bits rest left in
          let byte-is : byte_at words text ≡ Ok (byte, drop long text) =
          rw (byte_at-is, found text (window-gathered rest left below) (omega arith) (omega (arith, length-low_bits rest left))) refl in
          let after : drop long text ≡ low_bits (count - (taken + long)) (left / 2 ^ long) =
          drop-low_bits long rest left (omega arith) ∙ ap (λ (n : ℕ). low_bits n (left / 2 ^ long)) (omega arith) in
          rw (same, place, s.scale, ← after) (sym (bytes_more words (bytes - k) (bytes - (k + 1)) value (2 ^ (raw + 8 * k)) text (byte, drop long text) (omega arith) byte-is)) ∙ so.reads count limit fits (omega arith);
    }
  where
    whole : (count taken : ℕ) → taken ≤ count → count - taken + taken ≡ count
    whole count taken enough = omega arith

-- all were
pub spelled-end : (words : List (List Bool)) (raw bytes bits k value left taken : ℕ) → HasSpelled words raw bytes bits k value left taken → bytes ≤ k
    → (count : ℕ) → count < 64 → bits < 2 ^ count → taken ≤ count → field_at words (raw + 8 * bytes) (low_bits count bits) ≡ Ok (value, low_bits (count - taken) (bits / 2 ^ taken))
spelled-end words raw bytes bits k value left taken so past count limit fits enough =
    let none : bytes - k ≡ 0 = omega arith in
    sym (so.reads count limit fits enough) ∙ rw (none, bytes_end, so.after (omega arith)) refl
