-- What a writer and a reader of bits are to their callers, and what a call that writes or reads a text does to them.
use Rattle.std.specs.Prelude.{◌≡◌, ◌↔◌, ℕ, ◌+◌, ◌<◌, Bool, List, ◌++◌, length, drop, Result, Ok, Err, IsErr, IfOk, OnOk}
use Rattle.q3_bits.specs.Bits.{message_length, message_bytes}
use Rattle.q3_bits.specs.declared.writer.Overflow.{Overflow}

-- what was written so far, by which words, and how many bytes the message may have
pub record Writing : Type 0 where
  pub words : List (List Bool)
  pub bits : List Bool
  pub room : ℕ

-- what is left to read, by which words, and how many bits were read
pub record Reading : Type 0 where
  pub words : List (List Bool)
  pub left : List Bool
  pub place : ℕ

-- with this text after what was written, the message is longer than its room
abbrev pub IsOverlong : Writing → List Bool → Type 0
IsOverlong w text = w.room < message_length (length w.bits + length text)

-- a front of the text was written after what stood there
abbrev pub Extends : Writing → Writing → List Bool → Type 0
Extends old new text = (written : List Bool) × (rest : List Bool) × (written ++ rest ≡ text)
    × (new ≡ record old { bits = old.bits ++ written })

-- a text was written, or is refused, exactly where it is overlong; a front of it then stands there
pub record Writes (old new : Writing) (text : List Bool) (result : Result (Unit {0}) Overflow) : Type 0 where
  pub refused : IsErr result ↔ IsOverlong old text
  pub ok : OnOk result (new ≡ record old { bits = old.bits ++ text })
  pub front : Extends old new text

-- a front of a whole was written after what stood at the start, and the rest is left
pub record HasWritten (start now : Writing) (left whole : List Bool) : Type 0 where
  pub written : List Bool
  pub parts : written ++ left ≡ whole
  pub writes : Writes start now written (Ok tt)

-- a message's bytes stand at the front of a buffer, and what follows them stays; it is refused exactly where they
-- don't fit
pub record Fills (old new : List ℕ) (text : List Bool) (result : Result ℕ Overflow) : Type 0 where
  pub refused : IsErr result ↔ (length old < message_length (length text))
  pub ok : IfOk result (λ count. (count ≡ message_length (length text)) × (new ≡ message_bytes text ++ drop count old))
  pub long : length new ≡ length old

-- an answer, with what is left to read after it
abbrev pub with_rest : {T : Type 0} → {E : Type 0} → List Bool → Result T E → Result (T × List Bool) E
with_rest left (Ok value) = Ok (value, left)
with_rest left (Err e) = Err e

-- the answer of a reader that leaves its value in a place
abbrev pub holding : {T : Type 0} → {E : Type 0} → T → Result (Unit {0}) E → Result T E
holding value (Ok done) = Ok value
holding value (Err e) = Err e

-- the reader answered this value and stands after its text, or answered this fault
pub record Reads {T E : Type 0} (old new : Reading) (answer : Result (T × List Bool) E) (result : Result T E) : Type 0 where
  pub value : with_rest new.left result ≡ answer
  pub words : new.words ≡ old.words
  pub place : new.place + length new.left ≡ old.place + length old.left
