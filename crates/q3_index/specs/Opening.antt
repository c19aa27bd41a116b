-- What the heads of an index say: those of its checkpoints lie between their states.
use Rattle.std.specs.Prelude.{ℕ, zero, suc, ◌+◌, ◌/◌, ◌==◌, ◌&&◌, ◌||◌, Bool, true, if◌then◌else◌, List, [], ◌∷◌, length, Result, Ok, Err}
use Rattle.std.specs.Str.{bytes_eq}
use Rattle.q3_fields.specs.Kinds.{least_number_bits, most_number_bits}
use Rattle.q3_bits.specs.ResultBind.{◌>>=◌, fault_as}
use Rattle.q3_savestate.specs.Cursor.{Cursor, Field, field_at, number_at, end_at}
use Rattle.q3_index.specs.declared.index.Checkpoint.{Checkpoint}
use Rattle.q3_index.specs.declared.error.IndexError.{IndexError}
use Rattle.q3_index.specs.declared.error.IndexError.TheVariants.{NotIndex, OtherDemo, OtherWidth}
use Rattle.q3_index.specs.declared.opening.Head.{Head}
use Rattle.q3_index.specs.declared.opening.Version.{Version}
use Rattle.q3_index.specs.declared.opening.Version.TheVariants.{First, Second}
use Rattle.q3_index.specs.Text.{spacing, magic}

-- what an index was made of, how many bits an entity's number has in it, how many records it counts, and its checkpoints: for each the place
-- in the demo of the next record, and the place and the length of its state in the index
pub record Heads : Type 0 where
  pub length : ℕ
  pub mark : ℕ
  pub width : ℕ
  pub records : ℕ
  pub checkpoints : List Checkpoint

-- so many checkpoints, the first of which stands after so many records; the places of the next records rise, and are within the demo
unfoldable pub checkpoints_at : ℕ → ℕ → ℕ → ℕ → Cursor → Field (List Checkpoint)
checkpoints_at zero number least most cursor = Ok ([], cursor)
checkpoints_at (suc left) number least most cursor = do
  record_number ← number_at 4 number number cursor
  place ← number_at 8 least most record_number.1
  length ← number_at 4 0 4294967295 place.1
  state ← field_at length.0 (λ bytes. bytes) (λ bytes. true) length.1
  others ← checkpoints_at left (number + spacing) (place.0 + 1) most state.1
  Ok (record { place = place.0; state = length.1.at; length = length.0 } ∷ others.0, others.1)

-- what an index begins with, and the version that this tells
abbrev pub is_magic : List ℕ → Bool
is_magic found = bytes_eq found (magic First) || bytes_eq found (magic Second)

abbrev pub version_of : List ℕ → Version
version_of found = if bytes_eq found (magic First) then First else Second

unfoldable pub version_at : Cursor → Field Version
version_at cursor = do
  found ← field_at 8 (λ found. found) is_magic cursor
  Ok (version_of found.0, found.1)

-- how many bits the number of an entity has, 10 to 12
abbrev pub width_at : Version → Cursor → Field ℕ
width_at First cursor = Ok (least_number_bits, cursor)
width_at Second cursor = number_at 1 least_number_bits most_number_bits cursor

-- the head of an index of a version, after what it begins with
unfoldable pub head_after : Version → Cursor → Field Head
head_after version cursor = do
  length ← number_at 8 0 18446744073709551615 cursor
  mark ← number_at 8 0 18446744073709551615 length.1
  width ← width_at version mark.1
  records ← number_at 4 0 4294967295 width.1
  count ← number_at 4 (records.0 / spacing) (records.0 / spacing) records.1
  Ok (record { version = version; length = length.0; mark = mark.0; width = width.0; records = records.0; count = count.0 }, count.1)

unfoldable pub head_at : Cursor → Field Head
head_at cursor = do
  version ← version_at cursor
  head_after version.0 version.1

-- the checkpoints that follow a head, and nothing after the last state
unfoldable pub checkpoints_of : Head → Cursor → Result (List Checkpoint) ℕ
checkpoints_of head cursor = do
  checkpoints ← checkpoints_at head.count spacing 0 head.length cursor
  none ← end_at checkpoints.1
  Ok checkpoints.0

-- the heads that bytes have; or the place of the first field that is cut short or breaks a rule
unfoldable pub heads_at : List ℕ → Result Heads ℕ
heads_at bytes = do
  head ← head_at (record { at = 0; bytes = bytes })
  checkpoints ← checkpoints_of head.0 head.1
  Ok (record { length = head.0.length; mark = head.0.mark; width = head.0.width; records = head.0.records; checkpoints = checkpoints })

-- the index is of a demo of this length and of a profile with this mark, whose numbers of entities have so many bits
abbrev pub matching : ℕ → ℕ → ℕ → Heads → Result Heads IndexError
matching length mark width heads =
    if (heads.length == length) && (heads.mark == mark) then (if heads.width == width then Ok heads else Err (OtherWidth heads.width width))
    else Err (OtherDemo (heads.length, heads.mark) (length, mark))

-- bytes as the index of a demo of this length, by a profile with this mark and so many bits
abbrev pub open_at : ℕ → ℕ → ℕ → List ℕ → Result Heads IndexError
open_at length mark width bytes = do
  heads ← fault_as NotIndex (heads_at bytes)
  matching length mark width heads
