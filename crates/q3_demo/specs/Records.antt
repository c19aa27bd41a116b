-- The records of a demo file, one after the other.
use Rattle.std.specs.Prelude.{ℕ, ◌+◌, ◌==◌, ◌||◌, nat_le, nat_lt, if◌then◌else◌, List, drop, length, Result, Ok, Err}
use Rattle.byteorder.specs.Endian.{little_number}
use Rattle.q3_demo.specs.declared.error.DemoError.{DemoError}
use Rattle.q3_demo.specs.declared.error.DemoError.TheVariants.{Truncated, BadLength, BadNumber}
use Rattle.q3_demo.specs.declared.record.Piece.{Piece}
use Rattle.q3_demo.specs.declared.record.Piece.TheVariants as piece

-- a record begins with its number and the length of its message, of four bytes each, the lowest first
abbrev pub head_bytes : ℕ
head_bytes = 8

abbrev pub number_of : List ℕ → ℕ
number_of bytes = little_number 4 bytes

abbrev pub length_of : List ℕ → ℕ
length_of bytes = little_number 4 (drop 4 bytes)

-- a length of -1 ends the demo
abbrev pub end_mark : ℕ
end_mark = 4294967295

-- the longest message, the number below which those of records are, and the place that no record goes beyond
abbrev pub longest_record : ℕ
longest_record = 16384

abbrev pub number_end : ℕ
number_end = 2147483648

abbrev pub most_bytes : ℕ
most_bytes = 1073741824

-- what stands at a place of a demo, by the bytes from there on, after a record of this number, 0 for none: its end, which is also
-- where the bytes end within a head; a record; or the first of its rules that it breaks
abbrev pub piece_of : List ℕ → ℕ → ℕ → Result Piece DemoError
piece_of bytes at last =
    if nat_lt (length bytes) head_bytes || (length_of bytes == end_mark) then Ok piece.End
    else if nat_lt longest_record (length_of bytes) then Err (BadLength at)
    else if nat_le (number_of bytes) last || nat_le number_end (number_of bytes) then Err (BadNumber at)
    else if nat_lt (length bytes) (head_bytes + length_of bytes) || nat_lt most_bytes (at + head_bytes + length_of bytes) then Err (Truncated at)
    else Ok (piece.Message (number_of bytes) (length_of bytes) (at + head_bytes + length_of bytes))
