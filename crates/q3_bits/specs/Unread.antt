-- What a reader has left of its bytes.
use Rattle.std.specs.Prelude.{◌≡◌, ◌⊎◌, ℕ, ◌*◌, ◌-◌, ◌≤◌, Bool, List, ◌++◌, length, Result, Ok, Err}
use Rattle.q3_bits.specs.declared.ahead.Ahead.{Ahead}
use Rattle.q3_bits.specs.declared.reader.ReadError.{ReadError}
use Rattle.q3_bits.specs.declared.reader.Reader.TheInside.{Inside}
use Rattle.q3_bits.specs.Bits.{low_bits, bits_of}
use Rattle.q3_bits.specs.Words.{IsCode}
use Rattle.q3_bits.specs.Streams.{Reading}

-- the bits that are left: those that were gathered, and those of the bytes after them
abbrev pub bits_ahead : Ahead → List Bool
bits_ahead ahead = low_bits ahead.count ahead.bits ++ bits_of ahead.rest.now

-- more bits are gathered than a word has, or all that are left
abbrev pub IsFull : Ahead → Type 0
IsFull ahead = (25 ≤ ahead.count) ⊎ (length ahead.rest.now ≡ 0)

-- a value and what follows it, by its bits
abbrev pub found_ahead : Result (ℕ × Ahead) ReadError → Result (ℕ × List Bool) ReadError
found_ahead (Ok found) = Ok (found.0, bits_ahead found.1)
found_ahead (Err e) = Err e

abbrev pub reading_of : Inside → Reading
reading_of r = record { words = r.code.now; left = bits_ahead r.ahead; place = 8 * r.total - length (bits_ahead r.ahead) }

-- there were at least as many bits as are left, and the words are a code
pub record IsWithin (r : Inside) : Type 0 where
  pub total : length (bits_ahead r.ahead) ≤ 8 * r.total
  pub code : IsCode r.code.now
