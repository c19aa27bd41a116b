-- How a command goes: as its verdict says, or something from outside ends it early.
use Rattle.std.specs.Prelude.{◌≡◌, ◌≢◌, ◌⊎◌, ℕ, ◌+◌, ◌*◌, ◌/◌, ◌^◌, ◌<◌, ◌≤◌, true, false, List, [], length, Option, Some, None, Result, Ok, Err}
use Rattle.q3_io.specs.declared.address.Address.{Address}
use Rattle.q3_io.specs.Told.{Told, Named, contents_of}
use Rattle.q3_io.specs.Traffic.{Traffic}
use Rattle.q3_io.specs.Written.{Written, Wrote, NothingWaits}
use Rattle.q3_node.specs.declared.error.NodeError.{NodeError}
use Rattle.q3_node.specs.declared.error.NodeError.TheVariants as node
use Rattle.q3_node.specs.Node.{Turn, text_of}
use Rattle.q3_node.specs.Running.{effects, wire_after, at_bound, EndsIn}
use Rattle.q3_profile.specs.declared.profile.Profile.{Profile as ProfileValue}
use Rattle.q3_demo.specs.Playing.{Played, records_of, play_state}
use Rattle.q3_demo.specs.Report.{state_text}
use Rattle.q3_index.specs.declared.opening.Version.{Version}
use Rattle.q3_index.specs.Text.{spacing, Tells, index_by}
use Rattle.q3_index.specs.Seeking.{bytes_between}
use Rattle.q3_runs.specs.Faults.{node_fault}
use Rattle.q3_runs.specs.Input.{IsFront, LeavesTold, Touches, IsCounted, asked_by_name}
use Rattle.q3_runs.specs.Verdict.{StopPlace, Nowhere, First, Anywhere, Stops, Verdict, Outside, profile_in}
use Rattle.q3_runs.specs.declared.fault.Fault.{Fault}
use Rattle.q3_runs.specs.declared.fault.Fault.TheVariants.{NoMemory, Read, Write, FileWrite, Wire}

-- ---- how a command ends

-- something may come at such a place
abbrev pub Comes : StopPlace → Type 0
Comes Nowhere = ⊥
Comes place = Unit {0}

-- and so much of a text is printed by then
abbrev pub ComesAfter : StopPlace → List ℕ → List ℕ → Type 0
ComesAfter Nowhere printed text = ⊥
ComesAfter First printed text = printed ≡ []
ComesAfter Anywhere printed text = IsFront printed text

-- where a fault from outside may stop a command; the sink is told of apart
abbrev pub place_of : Stops → Fault → StopPlace
place_of stops NoMemory = stops.memory
place_of stops Read = stops.reads
place_of stops FileWrite = stops.writes
place_of stops Wire = stops.wire
place_of stops other = Nowhere

-- how a command ends, and what it printed before any fault line: as its verdict says, or stopped early
abbrev pub EndsAs : Verdict → Result (Unit {0}) Fault → List ℕ → Type 0
EndsAs verdict ended printed =
    ((ended ≡ verdict.ending) × (printed ≡ verdict.text))
    ⊎ ((fault : Fault) × (ended ≡ Err fault) × ComesAfter (place_of verdict.stops fault) printed verdict.text)

-- what the sink took by then of a command whose verdict meets a rule; where it failed, a front of the verdict's text
abbrev pub Executes : (Verdict → Type 0) → Option Written → Option Written → Result (Unit {0}) Fault → Type 0
Executes Rule old now ended =
    (verdict : Verdict) × Rule verdict
    × (((printed : List ℕ) × EndsAs verdict ended printed × Wrote old now printed true)
    ⊎ ((ended ≡ Err Write) × Wrote old now verdict.text false))

-- what a command has done with the files by then: as its verdict says, or the first of it
abbrev pub LeavesFiles : (Verdict → Type 0) → Option Told → Option Told → Result (Unit {0}) Fault → Type 0
LeavesFiles Rule told now ended = (verdict : Verdict) × Rule verdict × Touches ended verdict.named verdict.acts told now

-- a text was printed whole, or the sink failed and took a front of it
abbrev pub PrintsAll : List ℕ → Option Written → Option Written → Result (Unit {0}) Fault → Type 0
PrintsAll text old now ended = ((ended ≡ Ok tt) × Wrote old now text true) ⊎ ((ended ≡ Err Write) × Wrote old now text false)

-- ---- the wire

-- what is told of the wire where a verdict's turns were had at its address, or these of them; without an address it stays
abbrev pub wire_by : Option Traffic → Option Address → List Turn → Option Traffic
wire_by told None turns = told
wire_by told (Some at) turns = wire_after (at_bound told at) turns

-- what is told of the wire, and of the files, as a run leaves them
pub record Left : Type 0 where
  pub wire : Option Traffic
  pub files : Option Told

abbrev pub left_so : Option Traffic → Option Told → Left
left_so wire files = record { wire = wire; files = files }

-- a node ended early in one of these turns, of files that only names were given to: what it printed by then, and what is left
pub record EndsEarly (turns : List Turn) (at : Address) (told : Outside) (old now : Option Written) (left : Left) (e : NodeError) : Type 0 where
  pub looked : Option Told
  pub given : List Named
  pub looks : LeavesTold told.files looked given []
  pub clock : Option (List ℕ)
  pub ends : EndsIn turns e told.clock clock (effects old (at_bound told.wire at) looked) (effects now left.wire left.files)

-- what may end a node before its address is bound
abbrev pub IsBeforehand : Result (Unit {0}) Fault → Type 0
IsBeforehand (Err NoMemory) = Unit {0}
IsBeforehand (Err Read) = Unit {0}
IsBeforehand (Err Wire) = Unit {0}
IsBeforehand other = ⊥

-- of a node all turns were had, or it ended early before an address was bound, or in one of them, and the text of those before was printed;
-- of any other command the wire stays
abbrev pub WiredBy : Option Address → Verdict → Result (Unit {0}) Fault → List ℕ → Outside → Option Written → Option Written → Left → Type 0
WiredBy None verdict ended printed told old now left = left.wire ≡ told.wire
WiredBy (Some at) verdict ended printed told old now left =
    ((ended ≡ verdict.ending) × (left.wire ≡ wire_by told.wire (Some at) verdict.turns))
    ⊎ ((IsBeforehand ended × (printed ≡ []) × (left.wire ≡ told.wire))
    ⊎ ((e : NodeError) × (ended ≡ Err (node_fault e)) × (early : EndsEarly verdict.turns at told old now left e) × (printed ≡ text_of early.ends.first)))

-- the lines of its turns were handed on, where nothing waited before
abbrev pub HandedOn : Option Address → Option Written → Option Written → Type 0
HandedOn None old now = Unit {0}
HandedOn (Some at) old now = NothingWaits old → NothingWaits now

-- where the sink failed: in one of its turns
abbrev pub FailsBy : Option Address → List Turn → Outside → Option Written → Option Written → Left → Type 0
FailsBy None turns told old now left = left.wire ≡ told.wire
FailsBy (Some at) turns told old now left = EndsEarly turns at told old now left node.WriteFault

-- what the sink took of a command by then, and what it left of the wire and, where a node ended early, of the files
abbrev pub ExecutesWired : (Verdict → Type 0) → Outside → Option Written → Option Written → Left → Result (Unit {0}) Fault → Type 0
ExecutesWired Rule told old now left ended =
    (verdict : Verdict) × Rule verdict
    × (((printed : List ℕ) × EndsAs verdict ended printed × WiredBy verdict.at verdict ended printed told old now left × Wrote old now printed true
    × HandedOn verdict.at old now)
    ⊎ ((ended ≡ Err Write) × Wrote old now verdict.text false × FailsBy verdict.at verdict.turns told old now left))

-- an address is bound only by a command that binds one
abbrev pub MayBind : (Verdict → Type 0) → Type 0
MayBind Rule = (verdict : Verdict) × Rule verdict × (at : Address) × (verdict.at ≡ Some at)

-- ---- a demo that is sought in

-- where it is sought by an index of either version that was made of the demo, by the same profile
abbrev pub WhereIndexWasMade : Option Told → (profile demo index : List ℕ) → ℕ → (ProfileValue → List ℕ → ℕ → Type 0) → Type 0
WhereIndexWasMade told profile demo index records So =
    (files : Told) (by : ProfileValue) (version : Version) (bytes made : List ℕ) → told ≡ Some files → profile_in (contents_of files.files profile) ≡ Ok by
    → contents_of files.files demo ≡ Some bytes → contents_of files.files index ≡ Some made → length bytes < 2 ^ 64 → Tells version by.entity.number_bits → index_by version by bytes ≡ Ok made
    → records ≤ length (records_of by bytes) → So by bytes records

-- what so many of a demo's records leave is what playing them leaves, and is printed; only want of memory, a read that
-- fails and a write that does come before that
abbrev pub EndsWithPlayedState : ProfileValue → List ℕ → ℕ → Option Written → Option Written → Result (Unit {0}) Fault → Type 0
EndsWithPlayedState by demo records old now ended =
    ((played : Played) × (play_state by demo records ≡ Ok played) × PrintsAll (state_text played.state records) old now ended)
    ⊎ ((ended ≡ Err NoMemory) ⊎ (ended ≡ Err Read))

abbrev pub SeekEndsWithPlayedState : Option Told → (profile demo index : List ℕ) → ℕ → Option Written → Option Written → Result (Unit {0}) Fault → Type 0
SeekEndsWithPlayedState told profile demo index records old now ended = WhereIndexWasMade told profile demo index records (λ by bytes records. EndsWithPlayedState by bytes records old now ended)

-- where a demo is sought so, its file isn't that of the profile or of the index, and nothing was asked for by a number that isn't given, no
-- more of it is asked for than the records have that are played: those after the last 256th at or below so many
abbrev pub SeekAsksFromCheckpoint : Option Told → Option Told → (profile demo index : List ℕ) → ℕ → Type 0
SeekAsksFromCheckpoint told now profile demo index records =
    IsCounted told → profile ≢ demo → index ≢ demo
    → WhereIndexWasMade told profile demo index records
    (λ by bytes records. asked_by_name now demo ≤ asked_by_name told demo + bytes_between by bytes (spacing * (records / spacing)) records)
