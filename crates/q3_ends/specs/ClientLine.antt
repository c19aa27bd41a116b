-- The lines of a script that are a client's own, `type`, `move`, `record`, `stop` and `show`, and what each does at the client that it
-- names: a command or a move is issued, a recording begins or has its end, or the client is shown.
use Rattle.std.specs.Prelude.{ℕ, List, [], Option, Some, None, option_map, Err}
use Rattle.q3_io.specs.Acts.{FileAct}
use Rattle.q3_script.specs.declared.event.Event.{Event}
use Rattle.q3_script.specs.declared.event.Event.TheVariants as events
use Rattle.q3_client.specs.Client.{ClientState}
use Rattle.q3_report.specs.declared.answer.HandedIn.TheVariants as answers
use Rattle.q3_report.specs.declared.answer.MoveRefused.TheVariants as unmoved
use Rattle.q3_report.specs.declared.answer.TypeRefused.TheVariants as untyped
use Rattle.q3_report.specs.declared.answer.RecordRefused.{RecordRefused}
use Rattle.q3_report.specs.declared.answer.RecordRefused.TheVariants as unrecorded
use Rattle.q3_report.specs.declared.answer.StopRefused.{StopRefused}
use Rattle.q3_report.specs.declared.answer.StopRefused.TheVariants as unstopped
use Rattle.q3_report.specs.Answers.{Answered, Given, Shown, ShowsNobody}
use Rattle.q3_ends.specs.declared.client.LineAnswer.{LineAnswer}
use Rattle.q3_ends.specs.declared.client.LineAnswer.TheVariants.{HandedIn, Shows}
use Rattle.q3_ends.specs.AtClient.{ClientStep, type_text, add_move, showing}
use Rattle.q3_ends.specs.Recording.{RecordingState, RecordingStep, new_recording, begin_at, stop_at}

-- a client after a line, and its recording, with the answer, and what becomes of files
pub record ClientDone : Type 0 where
  pub client : ClientState
  pub recording : Option RecordingState
  pub answer : Answered
  pub acts : List FileAct

-- a command or a move is issued
abbrev pub issued_by : Option RecordingState → ClientStep → ClientDone
issued_by recording step = record { client = step.client; recording = recording; answer = Given step.answer; acts = [] }

-- a recording begins, or has its end
abbrev pub begun_by : ClientState → ℕ → RecordingStep RecordRefused → ClientDone
begun_by client c begun = record { client = client; recording = begun.recording; answer = Given (answers.Record c begun.answer); acts = begun.acts }

abbrev pub stopped_by : ClientState → ℕ → RecordingStep StopRefused → ClientDone
stopped_by client c stopped = record { client = client; recording = stopped.recording; answer = Given (answers.Stop c stopped.answer); acts = stopped.acts }

-- what a line does at a client, if it is one of a client's own
abbrev pub client_line : ClientState → Option RecordingState → Event → Option ClientDone
client_line client recording (events.TypeText c text) = Some (issued_by recording (type_text client c text))
client_line client recording (events.Move c one) = Some (issued_by recording (add_move client c one))
client_line client recording (events.RecordTo c name) = Some (begun_by client c (begin_at client recording (new_recording name)))
client_line client recording (events.Stop c) = Some (stopped_by client c (stop_at recording))
client_line client recording (events.Show c) = Some (record { client = client; recording = recording; answer = Shown c (showing client); acts = [] })
client_line client recording other = None

-- the client that such a line names
abbrev pub client_named : Event → Option ℕ
client_named (events.TypeText c text) = Some c
client_named (events.Move c one) = Some c
client_named (events.RecordTo c name) = Some c
client_named (events.Stop c) = Some c
client_named (events.Show c) = Some c
client_named other = None

-- what is answered to it where there is no such client
abbrev pub unjoined : Event → Option Answered
unjoined (events.TypeText c text) = Some (Given (answers.TypeText c (Err untyped.NoClient)))
unjoined (events.Move c one) = Some (Given (answers.Move c (Err unmoved.NoClient)))
unjoined (events.RecordTo c name) = Some (Given (answers.Record c (Err unrecorded.NoClient)))
unjoined (events.Stop c) = Some (Given (answers.Stop c (Err unstopped.NoClient)))
unjoined (events.Show c) = Some (Shown c ShowsNobody)
unjoined other = None

-- the recording that it would begin
abbrev pub fresh_of : Event → Option RecordingState
fresh_of (events.RecordTo c name) = Some (new_recording name)
fresh_of other = None

-- ---- after a line

-- the client and its recording after a line, or as they were
abbrev pub client_after : ClientState → Option ClientDone → ClientState
client_after client None = client
client_after client (Some done) = done.client

abbrev pub recording_after : Option RecordingState → Option ClientDone → Option RecordingState
recording_after recording None = recording
recording_after recording (Some done) = done.recording

-- what is answered, and what becomes of files
abbrev pub answer_in : Option ClientDone → Option Answered
answer_in line = option_map (λ (done : ClientDone). done.answer) line

abbrev pub acts_in : Option ClientDone → List FileAct
acts_in None = []
acts_in (Some done) = done.acts

-- an answer of a line, with the client after it
abbrev pub answer_with : LineAnswer → ClientState → Answered
answer_with (HandedIn handed) client = Given handed
answer_with (Shows c) client = Shown c (showing client)
