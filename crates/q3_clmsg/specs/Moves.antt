-- Moves: what one says, and the delta in which a message carries it, hidden by a key.
use Rattle.std.specs.Prelude.{◌≡◌, ℕ, zero, suc, ◌+◌, ◌-◌, ◌%◌, ◌^◌, ◌<◌, ◌==◌, nat_lt, if◌then◌else◌, Bool, List, [], ◌∷◌, ◌++◌, length, All, bit_xor, ℤ, pos, neg_ℤ, ◌≤ℤ◌, Result, Ok}
use Rattle.std.specs.Int.{w8, cast_unsigned, cast_signed}
use Rattle.std.specs.Str.{bytes_eq}
use Rattle.q3_bits.specs.ResultBind.{◌>>=◌}
use Rattle.q3_bits.specs.Words.{field_bits, row_bits, field_at}
use Rattle.q3_bits.specs.declared.reader.ReadError.{ReadError}
use Rattle.q3_text.specs.Keys.{key_of}
use Rattle.q3_clmsg.specs.declared.moves.Move.{Move}

-- the move with nothing in it
abbrev pub no_move : Move
no_move = record { time = 0; angles = 0 ∷ 0 ∷ 0 ∷ []; forward = pos 0; right = pos 0; up = pos 0; buttons = 0; weapon = 0 }

-- a signed value of 8 bits
abbrev pub IsSignedByte : ℤ → Type 0
IsSignedByte value = (neg_ℤ (pos 128) ≤ℤ value) × (value ≤ℤ pos 127)

-- a move as the program's type holds it
pub record IsHeldMove (one : Move) : Type 0 where
  pub time : one.time < 2 ^ 32
  pub three : length one.angles ≡ 3
  pub angles : All (λ angle. angle < 2 ^ 16) one.angles
  pub forward : IsSignedByte one.forward
  pub right : IsSignedByte one.right
  pub up : IsSignedByte one.up
  pub buttons : one.buttons < 2 ^ 16
  pub weapon : one.weapon < 2 ^ 8

-- a signed value of 8 bits other than -128
abbrev pub IsStep : ℤ → Type 0
IsStep value = (neg_ℤ (pos 127) ≤ℤ value) × (value ≤ℤ pos 127)

-- a move as the program's type holds it and as an end may send it
pub record IsMove (one : Move) : Type 0 where
  pub time : one.time < 2 ^ 32
  pub three : length one.angles ≡ 3
  pub angles : All (λ angle. angle < 2 ^ 16) one.angles
  pub forward : IsStep one.forward
  pub right : IsStep one.right
  pub up : IsStep one.up
  pub buttons : one.buttons < 2 ^ 16
  pub weapon : one.weapon < 2 ^ 8

-- ---- the fields of a move but its time

-- how many bits each has: three angles, forward, right and up, the buttons, and the weapon
abbrev pub move_widths : List ℕ
move_widths = 16 ∷ 16 ∷ 16 ∷ 8 ∷ 8 ∷ 8 ∷ 16 ∷ 8 ∷ []

-- each field fits its width
abbrev pub AreFields : List ℕ → List ℕ → Type 0
AreFields (width ∷ widths) (field ∷ fields) = (field < 2 ^ width) × AreFields widths fields
AreFields widths fields = Unit {0}

-- the fields as numbers of so many bits
abbrev pub fields_of : Move → List ℕ
fields_of one =
    one.angles ++ cast_unsigned w8 one.forward ∷ cast_unsigned w8 one.right ∷ cast_unsigned w8 one.up ∷ one.buttons ∷ one.weapon ∷ []

-- a signed value as it is read: -128 counts as -127
abbrev pub step_of : ℕ → ℤ
step_of field = if field == 128 then neg_ℤ (pos 127) else cast_signed w8 field

-- the move of a time that has these fields
abbrev pub move_of : ℕ → List ℕ → Move
move_of time (a ∷ b ∷ c ∷ forward ∷ right ∷ up ∷ buttons ∷ weapon ∷ []) = record {
  time = time;
  angles = a ∷ b ∷ c ∷ [];
  forward = step_of forward;
  right = step_of right;
  up = step_of up;
  buttons = buttons;
  weapon = weapon;
}
move_of time fields = no_move

-- ---- the key

-- the key of a message's moves, without their times: the map's checksum feed, the number of the newest server message, and
-- the hash of the newest server command's text
abbrev pub message_key : ℕ → ℕ → List ℕ → ℕ
message_key feed acknowledged text = bit_xor (bit_xor feed acknowledged) (key_of text)

-- the key of one move, by its time
abbrev pub move_key : ℕ → ℕ → ℕ
move_key key time = bit_xor key time

-- a field hidden by the key, or shown: the same both ways
abbrev pub hidden : ℕ → ℕ → ℕ → ℕ
hidden key width field = bit_xor field (key % 2 ^ width)

-- ---- what is written

-- how far a time is after another, modulo 2^32
abbrev pub time_since : ℕ → ℕ → ℕ
time_since from to = (to + 2 ^ 32 - from) % 2 ^ 32

-- the time: bit 1 and the difference in 8 bits where it is below 256, or bit 0 and the time
abbrev pub time_bits : List (List Bool) → ℕ → ℕ → List Bool
time_bits words from to =
    if nat_lt (time_since from to) 256 then row_bits words ((1, 1) ∷ (time_since from to, 8) ∷ []) else row_bits words ((0, 1) ∷ (to, 32) ∷ [])

-- a field: bit 0 where it is as it was, or bit 1 and the field, hidden
abbrev pub field_delta : List (List Bool) → ℕ → ℕ → ℕ → ℕ → List Bool
field_delta words key width from to =
    if from == to then field_bits words 1 0 else row_bits words ((1, 1) ∷ (hidden key width to, width) ∷ [])

-- fields, each against the one that was
unfoldable pub fields_bits : List (List Bool) → ℕ → List ℕ → List ℕ → List ℕ → List Bool
fields_bits words key (width ∷ widths) (a ∷ from) (b ∷ to) = field_delta words key width a b ++ fields_bits words key widths from to
fields_bits words key widths from to = []

-- what changed beside the time: bit 0 where nothing did, or bit 1 and the fields
abbrev pub changed_bits : List (List Bool) → ℕ → List ℕ → List ℕ → List Bool
changed_bits words key from to =
    if bytes_eq from to then field_bits words 1 0 else field_bits words 1 1 ++ fields_bits words key move_widths from to

-- a move after another: its time, and what else changed
unfoldable pub move_delta : List (List Bool) → ℕ → Move → Move → List Bool
move_delta words key from to =
    time_bits words from.time to.time ++ changed_bits words (move_key key to.time) (fields_of from) (fields_of to)

-- moves, each after the one before
unfoldable pub moves_bits : List (List Bool) → ℕ → Move → List Move → List Bool
moves_bits words key from [] = []
moves_bits words key from (one ∷ moves) = move_delta words key from one ++ moves_bits words key one moves

-- ---- what is read

-- a time after another
unfoldable pub time_at : List (List Bool) → ℕ → List Bool → Result (ℕ × List Bool) ReadError
time_at words from bits = do
  near ← field_at words 1 bits
  if near.0 == 0 then field_at words 32 near.1 else (do
    difference ← field_at words 8 near.1
    Ok ((from + difference.0) % 2 ^ 32, difference.1))

-- a field, which stays where it isn't marked as changed
abbrev pub field_over : List (List Bool) → ℕ → ℕ → ℕ → List Bool → Result (ℕ × List Bool) ReadError
field_over words key width from bits = do
  changed ← field_at words 1 bits
  if changed.0 == 0 then Ok (from, changed.1) else (do
    field ← field_at words width changed.1
    Ok (hidden key width field.0, field.1))

-- fields, each over the one that was
unfoldable pub fields_at : List (List Bool) → ℕ → List ℕ → List ℕ → List Bool → Result (List ℕ × List Bool) ReadError
fields_at words key (width ∷ widths) (a ∷ from) bits = do
  field ← field_over words key width a bits
  others ← fields_at words key widths from field.1
  Ok (field.0 ∷ others.0, others.1)
fields_at words key widths from bits = Ok ([], bits)

-- a move after another
unfoldable pub move_at : List (List Bool) → ℕ → Move → List Bool → Result (Move × List Bool) ReadError
move_at words key from bits = do
  time ← time_at words from.time bits
  changed ← field_at words 1 time.1
  if changed.0 == 0 then Ok (record from { time = time.0 }, changed.1) else (do
    fields ← fields_at words (move_key key time.0) move_widths (fields_of from) changed.1
    Ok (move_of time.0 fields.0, fields.1))

-- so many moves, each after the one before
unfoldable pub moves_at : List (List Bool) → ℕ → ℕ → Move → List Bool → Result (List Move × List Bool) ReadError
moves_at words key zero from bits = Ok ([], bits)
moves_at words key (suc count) from bits = do
  one ← move_at words key from bits
  others ← moves_at words key count one.0 one.1
  Ok (one.0 ∷ others.0, others.1)
