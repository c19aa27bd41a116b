-- Laws of the code text, of texts that are written and read one after the other, and of the bytes of a message.
use Rattle.std.specs.Prelude.{◌≡◌, ℕ, ◌+◌, ◌-◌, ◌*◌, ◌^◌, ◌<◌, ◌≤◌, Bool, false, List, [], ◌∷◌, ◌++◌, length, take, drop, replicate, All, slice_index, slice_set, Result, Ok, Err}
use Rattle.q3_bits.specs.Bits.{bit, bits_of, message_bytes, message_length}
use Rattle.q3_bits.specs.declared.reader.ReadError.{ReadError}
use Rattle.q3_bits.specs.declared.reader.ReadError.TheVariants.{End, NoWord}
use Rattle.q3_bits.specs.declared.writer.Overflow.{Overflow}
use Rattle.q3_bits.specs.Words.{IsCode, plain_words, field_bits, field_at, IsCutShort}
use Rattle.q3_bits.specs.Streams.{Writing, Reading, IsOverlong, Writes, HasWritten}
use Rattle.q3_bits.specs.InPlace.{ListRead, with_front, with_first, HasRead}

-- what is read was put: the value fits the width, and its text stands at the front
abbrev pub ReadWasPut : Type 0
ReadWasPut = (words : List (List Bool)) (width value : ℕ) (bits rest : List Bool) → IsCode words
    → field_at words width bits ≡ Ok (value, rest)
    → (value < 2 ^ width) × (bits ≡ field_bits words width value ++ rest)

-- what is put is read back, with whatever follows it
abbrev pub PutIsRead : Type 0
PutIsRead = (words : List (List Bool)) (width value : ℕ) (rest : List Bool) → IsCode words → value < 2 ^ width
    → field_at words width (field_bits words width value ++ rest) ≡ Ok (value, rest)

-- where the bits end, they are the front of a field's text; where they begin no word, they are none
pub record EndsCutShort (words : List (List Bool)) (width : ℕ) (bits : List Bool) : Type 0 where
  pub end : field_at words width bits ≡ Err End → IsCutShort words width bits
  pub no_word : field_at words width bits ≡ Err NoWord → ¬ IsCutShort words width bits

abbrev pub FieldsEndCutShort : Type 0
FieldsEndCutShort = (words : List (List Bool)) (width : ℕ) (bits : List Bool) → IsCode words → EndsCutShort words width bits

-- by the plain code nothing is read only where the bits end
abbrev pub PlainBitsEnd : Type 0
PlainBitsEnd = (width : ℕ) (bits : List Bool) (e : ReadError) → field_at plain_words width bits ≡ Err e → e ≡ End

-- what holds of fields of fewer than eight bits, which have no code words
pub record MarksAreJoined : Type 0 where
  pub none : (words : List (List Bool)) (value : ℕ) → field_bits words 0 value ≡ []
  -- one after another is one field
  pub join : (words : List (List Bool)) (first second mark other : ℕ) → first + second < 8 → mark < 2 ^ first
      → field_bits words (first + second) (mark + other * 2 ^ first) ≡ field_bits words first mark ++ field_bits words second other

-- what holds of a field of one bit: it is the bit
pub record MarksAreBits : Type 0 where
  pub here : (words : List (List Bool)) (b : Bool) (bits : List Bool) → field_at words 1 (b ∷ bits) ≡ Ok (bit b, bits)
  pub none : (words : List (List Bool)) → field_at words 1 [] ≡ Err End

-- what holds of texts that are written one after the other
pub record TextsAreWritten : Type 0 where
  -- nothing is written where what stands there fits
  pub nothing : (w : Writing) → ¬ IsOverlong w [] → Writes w w [] (Ok tt)
  -- a text after a text is both
  pub then : (start mid now : Writing) (first whole : List Bool) (second : List (List Bool) → List Bool) (result : Result (Unit {0}) Overflow)
      → whole ≡ first ++ second start.words → Writes start mid first (Ok tt) → Writes mid now (second mid.words) result → Writes start now whole result
  -- where a text is refused, so is one that begins with it
  pub early : (start now : Writing) (first others whole : List Bool) (e : Overflow) → whole ≡ first ++ others
      → Writes start now first (Err e) → Writes start now whole (Err e)
  -- the same for rows, whose text grows at its end: a text more, given as a function of the words
  pub next : {start mid now : Writing} {first : List Bool} {result : Result (Unit {0}) Overflow} (second : List (List Bool) → List Bool)
      → Writes start mid first (Ok tt) → Writes mid now (second mid.words) result → Writes start now (first ++ second start.words) result
  -- and where a text is refused, so is the row that goes on after it
  pub refused : {start now : Writing} {first : List Bool} {e : Overflow} (others : List Bool)
      → Writes start now first (Err e) → Writes start now (first ++ others) (Err e)
  -- a whole is written text by text
  pub begin : (start : Writing) (whole : List Bool) → ¬ IsOverlong start [] → HasWritten start start whole whole
  pub more : (start now next : Writing) (left whole piece others : List Bool) → HasWritten start now left whole → left ≡ piece ++ others
      → Writes now next piece (Ok tt) → HasWritten start next others whole
  pub stops : (start now next : Writing) (left whole piece others : List Bool) (e : Overflow) → HasWritten start now left whole → left ≡ piece ++ others
      → Writes now next piece (Err e) → Writes start next whole (Err e)
  pub all : (start now : Writing) (whole : List Bool) → HasWritten start now [] whole → Writes start now whole (Ok tt)
  pub words : (start now : Writing) (left whole : List Bool) → HasWritten start now left whole → now.words ≡ start.words

-- what holds of values that are read one after the other over those of a list
pub record ListsAreRead : Type 0 where
  -- at the start all is left
  pub begin : (start : Reading) (from : List ℕ) (whole : ListRead) → HasRead start start 0 from from whole whole
  -- the next value is as it was
  pub here : (start now : Reading) (k : ℕ) (from into : List ℕ) (left whole : ListRead) → HasRead start now k from into left whole → slice_index into k ≡ slice_index from k
  -- one value more is read
  pub more : (start now next : Reading) (k : ℕ) (from into : List ℕ) (left whole others : ListRead) (y : ℕ) → HasRead start now k from into left whole → k < length from
      → next.words ≡ now.words → next.place + length next.left ≡ now.place + length now.left → left ≡ with_first y others
      → HasRead start next (k + 1) from (slice_set into k y) others whole
  -- more of them stay
  pub keep : (start now next : Reading) (k n : ℕ) (from into : List ℕ) (left whole others : ListRead) → HasRead start now k from into left whole → k + n ≤ length from
      → next.words ≡ now.words → next.place + length next.left ≡ now.place + length now.left → left ≡ with_front (take n (drop k from)) others
      → HasRead start next (k + n) from into others whole
  -- a fault ends it
  pub stops : (start now : Reading) (k : ℕ) (from into : List ℕ) (left whole : ListRead) (e : ReadError) → HasRead start now k from into left whole → left ≡ Err e → whole ≡ Err e
  -- all were read
  pub all : (start now : Reading) (k : ℕ) (from into : List ℕ) (left whole : ListRead) → HasRead start now k from into left whole → left ≡ Ok (drop k from, now.left)
      → whole ≡ Ok (into, now.left)

-- the bits of a message's bytes are its bits, and then zeros
abbrev pub MessageHoldsBits : Type 0
MessageHoldsBits = (bits : List Bool)
    → bits_of (message_bytes bits) ≡ bits ++ replicate (8 * message_length (length bits) - length bits) false

-- the bytes are as many as the length says, and each is one
abbrev pub MessageIsBytes : Type 0
MessageIsBytes = (bits : List Bool)
    → (length (message_bytes bits) ≡ message_length (length bits)) × All (λ byte. byte < 256) (message_bytes bits)
