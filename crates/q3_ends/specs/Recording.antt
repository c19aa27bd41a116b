-- A client records the messages that it applies into a file: what that does at its end, and to the file.
use Rattle.std.specs.Prelude.{◌≡◌, ◌≢◌, ℕ, ◌<◌, ◌≤◌, if◌then◌else◌, Bool, true, false, List, [], ◌∷◌, Option, Some, None, IfSome, IsErr, Result, Ok, Err}
use Rattle.q3_io.specs.declared.sink.Failed.{Failed}
use Rattle.q3_io.specs.Acts.{FileAct, Makes, Extends, ActsOn}
use Rattle.q3_io.specs.Faults.{HasCause}
use Rattle.q3_io.specs.Told.{Told, name_of}
use Rattle.q3_window.specs.Outgoing.{issued_of}
use Rattle.q3_client.specs.declared.client.ClientTook.{ClientTook}
use Rattle.q3_client.specs.declared.client.ClientTook.TheVariants.{Applied}
use Rattle.q3_client.specs.Client.{ClientState, Taken}
use Rattle.q3_demo.specs.declared.recorder.Stage.{Stage}
use Rattle.q3_demo.specs.declared.recorder.Stage.TheVariants.{Waits, Ended}
use Rattle.q3_demo.specs.Recorder.{is_waiting}
use Rattle.q3_demo.specs.Recording.{Noting, composed, game_bits, note_at, closing}
use Rattle.q3_report.specs.declared.answer.RecordRefused.{RecordRefused}
use Rattle.q3_report.specs.declared.answer.RecordRefused.TheVariants.{NoGame, Already}
use Rattle.q3_report.specs.declared.answer.StopRefused.{StopRefused}
use Rattle.q3_report.specs.declared.answer.StopRefused.TheVariants.{NotRecording}

-- a recording that goes on: the name of its file, and how far it is
pub record RecordingState : Type 0 where
  pub name : List ℕ
  pub stage : Stage

abbrev pub new_recording : List ℕ → RecordingState
new_recording name = record { name = name; stage = Waits }

-- whether it waits for its first whole snapshot
abbrev pub waits_in : Option RecordingState → Bool
waits_in None = false
waits_in (Some recording) = is_waiting recording.stage

-- a client that asks for whole snapshots exactly while its recording waits
abbrev pub asking : ClientState → Option RecordingState → ClientState
asking client recording = record client { asks_whole = waits_in recording }

-- bytes go after those of a file, if there are any
abbrev pub extends : List ℕ → List ℕ → List FileAct
extends name [] = []
extends name (byte ∷ bytes) = Extends name (byte ∷ bytes) ∷ []

-- ---- it begins, and has its end

-- the recording after a line, the answer, and what becomes of files
pub record RecordingStep (E : Type 0) : Type 0 where
  pub recording : Option RecordingState
  pub answer : Result (Unit {0}) E
  pub acts : List FileAct

-- a recording begins, into a file that is made, where none goes on
abbrev pub begin_new : Option RecordingState → RecordingState → RecordingStep RecordRefused
begin_new None fresh = record { recording = Some fresh; answer = Ok tt; acts = Makes fresh.name ∷ [] }
begin_new (Some going) fresh = record { recording = Some going; answer = Err Already; acts = [] }

-- and of a client that has a gamestate
abbrev pub begin_at : ClientState → Option RecordingState → RecordingState → RecordingStep RecordRefused
begin_at client recording fresh =
    if client.state.has_game then begin_new recording fresh else record { recording = recording; answer = Err NoGame; acts = [] }

-- a recording has its end, where one goes on
abbrev pub stop_at : Option RecordingState → RecordingStep StopRefused
stop_at None = record { recording = None; answer = Err NotRecording; acts = [] }
stop_at (Some going) = record { recording = None; answer = Ok tt; acts = extends going.name (closing going.stage) }

-- ---- it goes on

abbrev pub is_ended : Stage → Bool
is_ended Ended = true
is_ended other = false

-- how far a recording is after what its client took, whether it ended by that, and what it adds to its file
pub record RecorderTook : Type 0 where
  pub stage : Stage
  pub ended : Bool
  pub bytes : List ℕ

abbrev pub noted_by : Noting → RecorderTook
noted_by noting = record { stage = noting.stage; ended = is_ended noting.stage; bytes = noting.bytes }

-- a message that was applied is noted, with the gamestate that the client had before it
abbrev pub recorder_took : Stage → ClientState → Taken → ClientTook → RecorderTook
recorder_took stage client taken (Applied applied) =
    noted_by (note_at stage (composed (game_bits client.state (issued_of client.issued))) taken.client.state applied taken.client.message)
recorder_took stage client taken other = record { stage = stage; ended = false; bytes = [] }

-- the recording after what its client took, whether it ended by that, and what becomes of its file
pub record RecordingTook : Type 0 where
  pub recording : Option RecordingState
  pub ended : Bool
  pub acts : List FileAct

abbrev pub note_taken : Option RecordingState → ClientState → Taken → RecordingTook
note_taken None client taken = record { recording = None; ended = false; acts = [] }
note_taken (Some going) client taken =
    let took = recorder_took going.stage client taken taken.answer in
    record {
      recording = if took.ended then None else Some (record going { stage = took.stage });
      ended = took.ended;
      acts = extends going.name took.bytes;
    }

-- ---- files

-- a number stands for the file of a name, where it is told
abbrev pub StandsForName : Option Told → ℕ → List ℕ → Type 0
StandsForName told file name = IfSome told (λ t. name_of t file ≡ name)

-- a number was given to the file of a recording, if one goes on
abbrev pub HasFile : Option Told → ℕ → ℕ → Option RecordingState → Type 0
HasFile told given file None = Unit {0}
HasFile told given file (Some recording) = (file < given) × StandsForName told file recording.name

-- what a call does to files: these acts, or where one fails some of them; no number is lost, nor the name that it stands for, nothing is
-- read, and a write that failed was counted
pub record WritesFiles (told now : Option Told) (given after faults faults_after write_faults write_faults_after : ℕ) (acts : List FileAct) (result : Result (Unit {0}) Failed) : Type 0 where
  pub acts_on : ActsOn told now acts result
  pub some : IsErr result → acts ≢ []
  pub numbers : given ≤ after
  pub names : (file : ℕ) (name : List ℕ) → file < given → StandsForName told file name → StandsForName now file name
  pub reads : faults_after ≡ faults
  pub cause : HasCause write_faults write_faults_after result
