-- How an index is made, opened and sought in, over files.
use Rattle.std.specs.Prelude.{◌≡◌, ◌≢◌, ◌⊎◌, ℕ, ◌^◌, ◌<◌, ◌≤◌, ◌/◌, ⊤, List, [], ◌++◌, length, Option, Some, None, Result, Ok, Err}
use Rattle.q3_io.specs.Faults.{Rose}
use Rattle.q3_io.specs.Told.{Told, contents_at, name_of, with_contents}
use Rattle.q3_profile.specs.declared.profile.Profile.{Profile}
use Rattle.q3_profile.specs.Profile.{IsCodec}
use Rattle.q3_clstate.specs.State.{AppliedState}
use Rattle.q3_demo.specs.declared.error.DemoError.{DemoError}
use Rattle.q3_demo.specs.declared.error.DemoError.TheVariants as demo
use Rattle.q3_demo.specs.Playing.{Played, records_of, play_state}
use Rattle.q3_demo.specs.Running.{asked_of}
use Rattle.q3_demo.specs.Laws.{IsRefusal}
use Rattle.q3_index.specs.declared.build.Built.{Built}
use Rattle.q3_index.specs.declared.error.IndexError.{IndexError}
use Rattle.q3_index.specs.declared.error.IndexError.TheVariants as opening
use Rattle.q3_index.specs.declared.error.SeekError.{SeekError}
use Rattle.q3_index.specs.declared.error.SeekError.TheVariants as seeking
use Rattle.q3_index.specs.declared.index.Checkpoint.{Checkpoint}
use Rattle.q3_index.specs.declared.opening.Version.{Version}
use Rattle.q3_index.specs.Text.{spacing, Tells, index_by, index_text, index_of}
use Rattle.q3_index.specs.Opening.{Heads, open_at}
use Rattle.q3_index.specs.Seeking.{seek_at}

-- ---- making

-- bytes were put after those of the index, which had none; of every file else nothing changed but how much of it was asked for
pub record Puts (told now : Told) (index : ℕ) (bytes : List ℕ) : Type 0 where
  pub files : now.files ≡ with_contents told.files (name_of told index) bytes
  pub numbers : now.numbers ≡ told.numbers
  pub named : now.named ≡ told.named

abbrev pub LeavesIndex : Told → Option Told → ℕ → List ℕ → Type 0
LeavesIndex told None index bytes = ⊥
LeavesIndex told (Some now) index bytes = Puts told now index bytes

-- a front of the index was written, and nothing unless every record may be played
abbrev pub BeginsIndex : Profile → Told → ℕ → ℕ → Option Told → Type 0
BeginsIndex profile told demo_file index now =
    (front : List ℕ) × (rest : List ℕ) × (front ++ rest ≡ index_text profile (contents_at told demo_file)) × LeavesIndex told now index front
    × ((front ≡ []) ⊎ (index_of profile (contents_at told demo_file) ≡ Ok (index_text profile (contents_at told demo_file))))

-- the index was made whole; nothing was written where a record is refused, and else a front of it
abbrev pub Builds : Profile → Told → ℕ → ℕ → Option Told → Result Built DemoError → Type 0
Builds profile told demo_file index now (Ok built) =
    (index_of profile (contents_at told demo_file) ≡ Ok (index_text profile (contents_at told demo_file)))
    × LeavesIndex told now index (index_text profile (contents_at told demo_file))
    × (built.records ≡ length (records_of profile (contents_at told demo_file))) × (built.checkpoints ≡ built.records / spacing)
Builds profile told demo_file index now (Err demo.ReadFault) = BeginsIndex profile told demo_file index now
Builds profile told demo_file index now (Err demo.WriteFault) = BeginsIndex profile told demo_file index now
Builds profile told demo_file index now (Err demo.NoMemory) = BeginsIndex profile told demo_file index now
Builds profile told demo_file index now (Err e) =
    (index_of profile (contents_at told demo_file) ≡ Err e) × LeavesIndex told now index []

-- a fault of reading comes only where the files' count rose, and one of writing only where that of failed writes did; none is passed over
abbrev pub BuildCause : {T : Type 0} → ℕ → ℕ → Result T DemoError → Type 0
BuildCause before now (Err demo.ReadFault) = (before ≤ now) × Rose before now
BuildCause before now other = now ≡ before

abbrev pub BuildWrites : {T : Type 0} → ℕ → ℕ → Result T DemoError → Type 0
BuildWrites before now (Err demo.WriteFault) = (before ≤ now) × Rose before now
BuildWrites before now other = now ≡ before

-- ---- opening

-- an index that was opened: the numbers of the demo's file and its own, how many records it counts, and its checkpoints
pub record IndexState : Type 0 where
  pub demo : ℕ
  pub index : ℕ
  pub records : ℕ
  pub checkpoints : List Checkpoint

abbrev pub opened : ℕ → ℕ → Heads → IndexState
opened demo_file index heads = record { demo = demo_file; index = index; records = heads.records; checkpoints = heads.checkpoints }

abbrev pub Opens : ℕ → ℕ → Result Heads IndexError → Result IndexState IndexError → Type 0
Opens demo_file index whole (Ok state) = (heads : Heads) × (whole ≡ Ok heads) × (state ≡ opened demo_file index heads)
Opens demo_file index whole (Err opening.ReadFault) = ⊤
Opens demo_file index whole (Err opening.NoMemory) = ⊤
Opens demo_file index whole (Err e) = whole ≡ Err e

abbrev pub OpenCause : {T : Type 0} → ℕ → ℕ → Result T IndexError → Type 0
OpenCause before now (Err opening.ReadFault) = (before ≤ now) × Rose before now
OpenCause before now other = now ≡ before

-- ---- seeking

-- only of two files more was asked for
abbrev pub AsksOfTwo : ℕ → ℕ → Option Told → Option Told → Type 0
AsksOfTwo first second before now = (other : ℕ) → other ≢ first → other ≢ second → asked_of now other ≡ asked_of before other

abbrev pub Seeks : Profile → IndexState → List ℕ → List ℕ → ℕ → Result AppliedState SeekError → Type 0
Seeks profile index demo_bytes index_bytes number (Ok state) =
    (played : Played) × (seek_at profile demo_bytes index_bytes index.records index.checkpoints number ≡ Ok played) × (state ≡ played.state)
Seeks profile index demo_bytes index_bytes number (Err seeking.ReadFault) = ⊤
Seeks profile index demo_bytes index_bytes number (Err seeking.NoMemory) = ⊤
Seeks profile index demo_bytes index_bytes number (Err e) = seek_at profile demo_bytes index_bytes index.records index.checkpoints number ≡ Err e

-- the demo itself is refused for what it holds alone
abbrev pub RefusesDemo : SeekError → Type 0
RefusesDemo (seeking.Demo e) = IsRefusal e
RefusesDemo other = ⊤

abbrev pub SeekCause : {T : Type 0} → ℕ → ℕ → Result T SeekError → Type 0
SeekCause before now (Err seeking.ReadFault) = (before ≤ now) × Rose before now
SeekCause before now other = now ≡ before

-- these bytes are the index that is made of a demo by a version, and it was opened with it
pub record IsMade (profile : Profile) (index : IndexState) (demo_bytes index_bytes : List ℕ) : Type 0 where
  pub codec : IsCodec profile
  pub ring : 512 ≤ profile.parse_ring
  pub mark : profile.mark < 2 ^ 64
  pub long : length demo_bytes < 2 ^ 64
  pub version : Version
  pub tells : Tells version profile.entity.number_bits
  pub made : index_by version profile demo_bytes ≡ Ok index_bytes
  pub heads : Heads
  pub opens : open_at (length demo_bytes) profile.mark profile.entity.number_bits index_bytes ≡ Ok heads
  pub is : index ≡ opened index.demo index.index heads

-- a seek answers what playing so many records leaves, or a read failed, or memory was wanted
abbrev pub PlaysSo : Profile → List ℕ → ℕ → Result AppliedState SeekError → Type 0
PlaysSo profile demo_bytes number (Ok state) = (played : Played) × (play_state profile demo_bytes number ≡ Ok played) × (state ≡ played.state)
PlaysSo profile demo_bytes number (Err seeking.ReadFault) = ⊤
PlaysSo profile demo_bytes number (Err seeking.NoMemory) = ⊤
PlaysSo profile demo_bytes number (Err e) = ⊥
