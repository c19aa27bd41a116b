-- How the bits of a message lie in a writer's bytes.
use Rattle.std.specs.Prelude.{◌≡◌, ℕ, ◌/◌, ◌%◌, ◌^◌, ◌<◌, ◌≤◌, Bool, List, ◌++◌, take, slice_index}
use Rattle.q3_bits.specs.declared.writer.Writer.TheInside.{Inside}
use Rattle.q3_bits.specs.Bits.{low_bits, bits_of}
use Rattle.q3_bits.specs.Streams.{Writing}

-- so many bits: whole bytes, and the low bits of the next
abbrev pub bits_within : List ℕ → ℕ → List Bool
bits_within bytes count = bits_of (take (count / 8) bytes) ++ low_bits (count % 8) (slice_index bytes (count / 8))

-- every bit after so many is 0
pub record IsClear (bytes : List ℕ) (count : ℕ) : Type 0 where
  pub part : slice_index bytes (count / 8) < 2 ^ (count % 8)
  pub after : (k : ℕ) → count / 8 < k → slice_index bytes k ≡ 0

abbrev pub writing_of : Inside → Writing
writing_of w = record { words = w.code.now; bits = bits_within w.bytes w.count; room = w.room }

-- there is room for one byte more than the bits fill, and every bit not yet written is 0
pub record IsWritten (w : Inside) : Type 0 where
  pub room : w.room ≤ 16384
  pub within : w.count / 8 < w.room
  pub clear : IsClear w.bytes w.count
