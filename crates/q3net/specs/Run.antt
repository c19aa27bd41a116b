-- How a run goes: as the verdict of its command says, or something from outside ends it early.
use Rattle.std.specs.Prelude.{◌≡◌, ◌≢◌, ◌⊎◌, ℕ, ◌≤◌, ⊤, true, false, List, [], ◌++◌, map, take, Option, Some, OnOk, Result, Ok, Err, IsErr}
use Rattle.std.specs.List.{flat_map}
use Rattle.q3_io.specs.Faults.{Rose}
use Rattle.q3_io.specs.Acts.{FileAct, ActsOn}
use Rattle.q3_io.specs.Told.{Told}
use Rattle.q3_io.specs.Traffic.{Traffic}
use Rattle.q3_io.specs.Written.{Written, Wrote, NothingWaits}
use Rattle.q3_report.specs.Answers.{Answered}
use Rattle.q3_report.specs.AnswerLines.{lines_of}
use Rattle.q3_world.specs.Files.{by_files}
use Rattle.q3_world.specs.declared.told.StepError.{StepError}
use Rattle.q3_world.specs.declared.told.StepError.TheVariants as step
use Rattle.q3_profile.specs.declared.profile.Profile.{Profile as ProfileValue}
use Rattle.q3_demo.specs.Playing.{Played, play_state}
use Rattle.q3_demo.specs.Report.{state_text}
use Rattle.q3_command.specs.Command.{Command, Seek, files_of}
use Rattle.q3_runs.specs.Faults.{IsOutside, FileCause}
use Rattle.q3_runs.specs.Input.{looked_up, created, LeavesTold, LeavesFirst}
use Rattle.q3_runs.specs.Lines.{fault_status, ending_line, ending_status}
use Rattle.q3_runs.specs.Run.{Comes, place_of, EndsAs, wire_by, Left, WiredBy, HandedOn, FailsBy, WhereIndexWasMade, EndsWithPlayedState, SeekAsksFromCheckpoint}
use Rattle.q3_runs.specs.Verdict.{Stops, Verdict, Outside}
use Rattle.q3net.specs.Verdict.{IsVerdict}
use Rattle.q3_runs.specs.declared.fault.Fault.{Fault}
use Rattle.q3_runs.specs.declared.fault.Fault.TheVariants.{Write}

-- all that waited in the sink was handed on, and the text after it
abbrev pub HandsOn : Option Written → Option Written → List ℕ → Type 0
HandsOn old now text = Wrote old now text true × NothingWaits now

-- ---- how a run ends

-- the whole text was handed on and the status is that of the end, or the sink failed, took a front of the text, and the status is 4
abbrev pub Took : Result (Unit {0}) Fault → List ℕ → Option Written → Option Written → ℕ → Type 0
Took ended text old now status = ((status ≡ ending_status ended) × HandsOn old now text) ⊎ ((status ≡ 4) × Wrote old now text false)

-- a run prints what its command prints, and after that the fault line, if any, which is that of a file's write exactly where the files'
-- count of these changed, and of which the sink may take a front; or the sink failed before, and took a front of the text; and it left of
-- the wire, and of the files, what goes with that
abbrev pub Prints : Option Command → Outside → ℕ → ℕ → Option Written → Option Written → Left → ℕ → Type 0
Prints command told before after old now left status =
    (verdict : Verdict) × IsVerdict told command verdict × (ended : Result (Unit {0}) Fault) × FileCause before after ended
    × (((printed : List ℕ) × (mid : Option Written) × EndsAs verdict ended printed × WiredBy verdict.at verdict ended printed told old mid left
    × Wrote old mid printed true × HandedOn verdict.at old mid × Took ended (ending_line ended) mid now status)
    ⊎ ((ended ≡ Err Write) × (status ≡ 4) × Wrote old now verdict.text false × FailsBy verdict.at verdict.turns told old now left))

-- the verdict is that the command is done, its whole text was printed, and all its turns were had
abbrev pub Reports : Option Command → Outside → Option Written → Option Written → Option Traffic → Type 0
Reports command told old now wired =
    (verdict : Verdict) × IsVerdict told command verdict × (verdict.ending ≡ Ok tt) × HandsOn old now verdict.text × (wired ≡ wire_by told.wire verdict.at verdict.turns)

-- a write of the files failed, in a command that does something to them
abbrev pub FilesFail : Option Command → Outside → ℕ → ℕ → Type 0
FilesFail command told before after =
    (verdict : Verdict) × IsVerdict told command verdict × Comes verdict.stops.writes × (before ≤ after) × Rose before after

-- the status of a run that something from outside ended early: that of a fault that may stop its command, or 4 where the sink failed
abbrev pub IsEarlyStatus : Stops → ℕ → Type 0
IsEarlyStatus stops status = (status ≡ 4) ⊎ ((fault : Fault) × Comes (place_of stops fault) × (status ≡ fault_status fault))

-- the status is the verdict's, unless something from outside ended the run early
abbrev pub IsDecided : Option Command → Outside → ℕ → Type 0
IsDecided command told status =
    (verdict : Verdict) × IsVerdict told command verdict × ((status ≡ ending_status verdict.ending) ⊎ IsEarlyStatus verdict.stops status)

-- the status is the verdict's, unless memory ran out
abbrev pub IsComplete : Option Command → Outside → ℕ → Type 0
IsComplete command told status =
    (verdict : Verdict) × IsVerdict told command verdict × ((status ≡ ending_status verdict.ending) ⊎ (status ≡ 1))

-- a run's own status; where none began that of the fault, or 4 where the fault line can't be written
abbrev pub Settles : Result ℕ Fault → ℕ → ℕ → ℕ → Type 0
Settles (Ok status) before now settled = (settled ≡ status) × (now ≡ before)
Settles (Err fault) before now settled = ((settled ≡ fault_status fault) × (now ≡ before)) ⊎ ((settled ≡ 4) × Rose before now)

-- what the run did with the files is what its verdict says, or the first of it, where something from outside ended it early
abbrev pub HasLeft : Option Command → Outside → Option Told → ℕ → Type 0
HasLeft command told now status =
    (verdict : Verdict) × IsVerdict told command verdict
    × (LeavesTold told.files now verdict.named verdict.acts
    ⊎ ((fault : Fault) × IsOutside fault × (status ≡ fault_status fault) × LeavesFirst told.files now verdict.named verdict.acts))

-- what so many of a demo's records leave is what playing them leaves, and is printed; only want of memory, a read that fails and a write that
-- does come before that
abbrev pub ReportsPlayedState : ProfileValue → List ℕ → ℕ → Option Written → Option Written → ℕ → Type 0
ReportsPlayedState by demo records old now status =
    ((status ≡ 0) × (played : Played) × (play_state by demo records ≡ Ok played) × HandsOn old now (state_text played.state records))
    ⊎ ((status ≡ 1) ⊎ ((status ≡ 3) ⊎ (status ≡ 4)))

-- where a command seeks by an index that was made of its demo
abbrev pub WhereSeekIndexWasMade : Option Command → Outside → (ProfileValue → List ℕ → ℕ → Type 0) → Type 0
WhereSeekIndexWasMade (Some (Seek profile demo index records)) told So = WhereIndexWasMade told.files profile demo index records So
WhereSeekIndexWasMade command told So = ⊤

abbrev pub SeekReportsPlayedState : Option Command → Outside → Option Written → Option Written → ℕ → Type 0
SeekReportsPlayedState command told old now status = WhereSeekIndexWasMade command told (λ by bytes records. ReportsPlayedState by bytes records old now status)

-- how a command that seeks so ends, before its status
abbrev pub CommandEndsWithPlayedState : Option Command → Outside → Option Written → Option Written → Result (Unit {0}) Fault → Type 0
CommandEndsWithPlayedState command told old now ended = WhereSeekIndexWasMade command told (λ by bytes records. EndsWithPlayedState by bytes records old now ended)

-- and what such a command asks of the demo's file
abbrev pub CommandAsksFromCheckpoint : Option Command → Option Told → Option Told → Type 0
CommandAsksFromCheckpoint (Some (Seek profile demo index records)) told now = SeekAsksFromCheckpoint told now profile demo index records
CommandAsksFromCheckpoint command told now = ⊤

-- the names of the command's words are looked up, once each and in this order, and then the files that the verdict makes are created, or
-- the first of these; its acts are done, or the first of them, and every other file stays
abbrev pub Touched : Option Command → Outside → Option Told → Type 0
Touched command told now =
    (verdict : Verdict) × IsVerdict told command verdict × LeavesFirst told.files now (map looked_up (files_of command) ++ created verdict.acts) verdict.acts

-- ---- of the steps

-- the lines of all answers; those of the first of them, where memory runs out or a file can't be written; a front of the lines, where the
-- sink fails
abbrev pub AddsLines : List Answered → Option Written → Option Written → Result (Unit {0}) StepError → Type 0
AddsLines all old now (Ok x) = Wrote old now (flat_map lines_of all) true
AddsLines all old now (Err step.NoMemory) = (k : ℕ) × Wrote old now (flat_map lines_of (take k all)) true
AddsLines all old now (Err step.FileFault) = (k : ℕ) × Wrote old now (flat_map lines_of (take k all)) true
AddsLines all old now (Err step.WriteFault) = Wrote old now (flat_map lines_of all) false

-- what the first of these acts did, of which there are some where one failed, and all of them where what comes after the events is left
abbrev pub DoesFirst : Option Told → Option Told → List FileAct → List FileAct → Result (Unit {0}) StepError → Type 0
DoesFirst told now acts last result =
    (done : List FileAct) × (rest : List FileAct) × (acts ≡ done ++ rest) × ActsOn told now done (by_files result) × OnOk result (rest ≡ last)
    × (IsErr (by_files result) → done ≢ [])
