-- Bytes that are read field by field: a value and the bytes after it, or the place of the first field that is cut short or breaks a rule.
use Rattle.std.specs.Prelude.{ℕ, ◌+◌, ◌==◌, ◌&&◌, not, nat_lt, nat_le, if◌then◌else◌, Bool, List, length, take, drop, Result, Ok, Err}
use Rattle.std.specs.List.{list_all}
use Rattle.byteorder.specs.Endian.{little_number}

-- the bytes from a place on
pub record Cursor : Type 0 where
  pub at : ℕ
  pub bytes : List ℕ

-- what is read
abbrev pub Field : Type 0 → Type 0
Field X = Result (X × Cursor) ℕ

-- what follows so many bytes
abbrev pub cursor_after : ℕ → Cursor → Cursor
cursor_after count cursor = record { at = cursor.at + count; bytes = drop count cursor.bytes }

-- so many bytes, as a value that meets a rule
abbrev pub field_at : {X : Type 0} → ℕ → (List ℕ → X) → (X → Bool) → Cursor → Field X
field_at count value rule cursor =
    if nat_lt (length cursor.bytes) count then Err cursor.at
    else if rule (value (take count cursor.bytes)) then Ok (value (take count cursor.bytes), cursor_after count cursor)
    else Err cursor.at

-- a number of so many bytes, the lowest first, from least to most
abbrev pub number_at : ℕ → ℕ → ℕ → Cursor → Field ℕ
number_at count least most = field_at count (little_number count) (λ number. nat_le least number && nat_le number most)

-- a byte that a text may hold
abbrev pub is_text_byte : ℕ → Bool
is_text_byte byte = nat_lt 0 byte && nat_lt byte 128 && not (byte == 37)

-- a text of so many bytes
abbrev pub text_at : ℕ → Cursor → Field (List ℕ)
text_at count = field_at count (λ bytes. bytes) (list_all is_text_byte)

-- nothing more stands there
abbrev pub end_at : Cursor → Result (Unit {0}) ℕ
end_at cursor = if length cursor.bytes == 0 then Ok tt else Err cursor.at

-- ---- what a call answers that moves a cursor on

abbrev pub found : {X : Type 0} → Result X ℕ → Cursor → Field X
found (Ok x) cursor = Ok (x, cursor)
found (Err at) cursor = Err at

-- and that puts what it read into its place
abbrev pub found_in : {X : Type 0} → Result (Unit {0}) ℕ → X → Cursor → Field X
found_in (Ok none) x cursor = Ok (x, cursor)
found_in (Err at) x cursor = Err at
