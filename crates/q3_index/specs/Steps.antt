-- How an index is made, opened and sought in step by step.
use Rattle.std.specs.Prelude.{◌≡◌, ◌⊎◌, ℕ, ◌+◌, ◌*◌, ◌^◌, ◌<◌, ⊤, Bool, true, false, if◌then◌else◌, List, [], ◌∷◌, ◌++◌, length, take, drop, All, Option, Some, None, IsSome, Result, Ok, Err}
use Rattle.std.specs.List.{concat, flat_map}
use Rattle.q3_bits.specs.ResultBind.{◌>>=◌, fault_as}
use Rattle.byteorder.specs.Endian.{little_bytes}
use Rattle.q3_io.specs.Told.{Told, contents_of, contents_at, name_of}
use Rattle.q3_entity.specs.Entities.{most_entities}
use Rattle.q3_profile.specs.declared.profile.Profile.{Profile}
use Rattle.q3_savestate.specs.Cursor.{Cursor, Field, field_at, number_at}
use Rattle.q3_savestate.specs.State.{Saved, state_at}
use Rattle.q3_clstate.specs.Within.{IsWithin}
use Rattle.q3_demo.specs.Player.{PlayerState}
use Rattle.q3_demo.specs.Steps.{Leads}
use Rattle.q3_demo.specs.Playing.{Played, Stepped, step, go_on}
use Rattle.q3_demo.specs.declared.error.DemoError.{DemoError}
use Rattle.q3_demo.specs.declared.error.DemoError.TheVariants as demo
use Rattle.q3_index.specs.declared.error.IndexError.{IndexError}
use Rattle.q3_index.specs.declared.error.IndexError.TheVariants as opening
use Rattle.q3_index.specs.declared.error.SeekError.{SeekError}
use Rattle.q3_index.specs.declared.error.SeekError.TheVariants.{ReadFault, NotIndex, NoMemory, Demo}
use Rattle.q3_index.specs.declared.index.Checkpoint.{Checkpoint}
use Rattle.q3_index.specs.declared.opening.Version.{Version}
use Rattle.q3_index.specs.declared.opening.Version.TheVariants.{First, Second}
use Rattle.q3_index.specs.Text.{checkpoint_bytes, is_checkpoint, checkpoints}
use Rattle.q3_index.specs.Running.{LeavesIndex}

-- ---- opening

-- the bytes from a place of a file on
abbrev pub from_place : List ℕ → ℕ → Cursor
from_place bytes at = record { at = at; bytes = drop at bytes }

-- what is read, and not what follows it
abbrev pub value_of : {X : Type 0} → Field X → Result X ℕ
value_of (Ok x) = Ok x.0
value_of (Err at) = Err at

-- how many bytes the head of an index has
abbrev pub head_size : Version → ℕ
head_size First = 32
head_size Second = 33

-- the head of a checkpoint that stands after so many records, where the next one's place is within these
unfoldable pub numbers_at : ℕ → ℕ → ℕ → Cursor → Field Checkpoint
numbers_at number least most cursor = do
  record_number ← number_at 4 number number cursor
  place ← number_at 8 least most record_number.1
  length ← number_at 4 0 4294967295 place.1
  Ok (record { place = place.0; state = length.1.at; length = length.0 }, length.1)

-- and after it as many bytes as its state has
unfoldable pub checkpoint_at : ℕ → ℕ → ℕ → Cursor → Field Checkpoint
checkpoint_at number least most cursor = do
  checkpoint ← numbers_at number least most cursor
  state ← field_at checkpoint.0.length (λ bytes. bytes) (λ bytes. true) checkpoint.1
  Ok (checkpoint.0, state.1)

-- the least place of the next record, where none below 2^64 may be left
abbrev pub least_of : Option ℕ → ℕ
least_of None = 2 ^ 64
least_of (Some least) = least

-- a call answers this, or a read failed, or memory was wanted
abbrev pub Reads : {X Y : Type 0} → (Y → X) → Result X ℕ → Result Y IndexError → Type 0
Reads value whole (Ok y) = whole ≡ Ok (value y)
Reads value whole (Err opening.ReadFault) = ⊤
Reads value whole (Err (opening.NotIndex place)) = whole ≡ Err place
Reads value whole (Err (opening.OtherDemo kept found)) = ⊥
Reads value whole (Err (opening.OtherWidth kept found)) = ⊥
Reads value whole (Err opening.NoMemory) = ⊤

-- a checkpoint was read, and what follows its state
abbrev pub read_to : List ℕ → Checkpoint → Checkpoint × Cursor
read_to bytes checkpoint = (checkpoint, from_place bytes (checkpoint.state + checkpoint.length))

-- ---- seeking

-- a checkpoint's state ends below 2^64
abbrev pub IsPlaced : Checkpoint → Type 0
IsPlaced checkpoint = checkpoint.state + checkpoint.length < 2 ^ 64

abbrev pub ArePlaced : List Checkpoint → Type 0
ArePlaced checkpoints = All IsPlaced checkpoints

-- a call answers this, or a read failed, or memory was wanted
abbrev pub Answers : {X Y : Type 0} → (Y → X) → Result X SeekError → Result Y SeekError → Type 0
Answers value whole (Ok y) = whole ≡ Ok (value y)
Answers value whole (Err ReadFault) = ⊤
Answers value whole (Err NoMemory) = ⊤
Answers value whole (Err e) = whole ≡ Err e

-- the state of a checkpoint
abbrev pub saved_at : Profile → List ℕ → Checkpoint → Result Saved SeekError
saved_at profile index checkpoint = fault_as (λ place. NotIndex (checkpoint.state + place)) (state_at profile (take checkpoint.length (drop checkpoint.state index)))

-- how far a player is
abbrev pub played_by : PlayerState → Played
played_by player = player.played

-- one record more
abbrev pub play_one : List ℕ → Played → Result Played SeekError
play_one demo played = fault_as Demo (step demo played >>= go_on played)

-- what a refusal counts as: a read fault stays one, and else the demo is refused
abbrev pub refused_as : DemoError → SeekError
refused_as demo.ReadFault = ReadFault
refused_as e = Demo e

-- ---- making

-- what went wrong is of the outside
abbrev pub IsOutside : DemoError → Type 0
IsOutside demo.ReadFault = ⊤
IsOutside demo.WriteFault = ⊤
IsOutside demo.NoMemory = ⊤
IsOutside other = ⊥

-- the index has a file
abbrev pub HasIndex : Told → ℕ → Type 0
HasIndex told index = IsSome (contents_of told.files (name_of told index))

-- a front of bytes was put after those of the index before something from outside ended it
abbrev pub BreaksOff : Told → Option Told → ℕ → List ℕ → DemoError → Type 0
BreaksOff told now index bytes e = IsOutside e × (front : List ℕ) × (rest : List ℕ) × (front ++ rest ≡ bytes) × LeavesIndex told now index (contents_at told index ++ front)

-- bytes were put after those of the index, or a front of them
abbrev pub Extends : {X : Type 0} → Told → Option Told → ℕ → List ℕ → Result X DemoError → Type 0
Extends told now index bytes (Ok x) = LeavesIndex told now index (contents_at told index ++ bytes)
Extends told now index bytes (Err e) = BreaksOff told now index bytes e

-- what stands in front of a checkpoint's state
abbrev pub numbers_bytes : ℕ → ℕ → ℕ → List ℕ
numbers_bytes records place length = concat (little_bytes 4 records ∷ little_bytes 8 place ∷ little_bytes 4 length ∷ [])

-- what is held of each snapshot is at most as old as so many messages make it
abbrev pub IsAged : Played → Type 0
IsAged played = IsWithin (played.records * most_entities) played.state

-- all records of a demo were played, and so many they are; or the first that is refused
abbrev pub Counts : Result (Unit {0}) DemoError → ℕ → Result ℕ DemoError → Type 0
Counts ending count (Ok records) = (ending ≡ Ok tt) × (records ≡ count)
Counts ending count (Err demo.ReadFault) = ⊤
Counts ending count (Err demo.NoMemory) = ⊤
Counts ending count (Err e) = ending ≡ Err e

-- the next record was played, or the demo ends there, or it is refused
abbrev pub CountsNext : Result (Option Stepped) DemoError → Played → Result Bool DemoError → Type 0
CountsNext step now (Ok true) = Leads step now
CountsNext step now (Ok false) = step ≡ Ok None
CountsNext step now (Err demo.ReadFault) = ⊤
CountsNext step now (Err e) = step ≡ Err e

-- what is written after a record that is played
abbrev pub step_bytes : Profile → Result (Option Stepped) DemoError → List ℕ
step_bytes profile (Ok (Some stepped)) = if is_checkpoint stepped.played then checkpoint_bytes profile stepped.played else []
step_bytes profile other = []

-- the next record was played, and what belongs after it was written; or the demo ends there; or the record is refused, or a front was written
abbrev pub WritesNext : Profile → Told → Option Told → ℕ → Result (Option Stepped) DemoError → Played → Result Bool DemoError → Type 0
WritesNext profile told after index step now (Ok true) = Leads step now × LeavesIndex told after index (contents_at told index ++ step_bytes profile step)
WritesNext profile told after index step now (Ok false) = step ≡ Ok None
WritesNext profile told after index step now (Err e) = (step ≡ Err e) ⊎ BreaksOff told after index (step_bytes profile step) e

-- the checkpoints of records, one after the other
abbrev pub checkpoints_bytes : Profile → List Stepped → List ℕ
checkpoints_bytes profile records = flat_map (checkpoint_bytes profile) (checkpoints records)
