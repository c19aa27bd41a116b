-- What events do to files: those of recordings are made, and what clients apply is written to them.
use Rattle.std.specs.Prelude.{ℕ, ◌-◌, ◌<◌, List, [], ◌∷◌, ◌++◌, map, Option, Some, None, option_map, Result, Ok, Err, slice_get, slice_index}
use Rattle.std.specs.List.{flat_map}
use Rattle.q3_io.specs.declared.sink.Failed.{Failed}
use Rattle.q3_io.specs.Acts.{FileAct}
use Rattle.q3_io.specs.Told.{Told}
use Rattle.q3_script.specs.declared.event.Event.{Event}
use Rattle.q3_script.specs.declared.event.Event.TheVariants as events
use Rattle.q3_server.specs.Server.{places}
use Rattle.q3_client.specs.Client as takes
use Rattle.q3_ends.specs.ClientLine.{client_line, client_named, acts_in}
use Rattle.q3_ends.specs.Recording.{stop_at, note_taken, HasFile, WritesFiles}
use Rattle.q3_world.specs.declared.made.Direction.{Direction}
use Rattle.q3_world.specs.declared.made.Direction.TheVariants.{ToClient, ToServer}
use Rattle.q3_world.specs.declared.places.Place.{Place}
use Rattle.q3_world.specs.declared.told.StepError.{StepError}
use Rattle.q3_world.specs.declared.told.StepError.TheVariants.{NoMemory, WriteFault, FileFault}
use Rattle.q3_world.specs.Ends.{Ends, place_at, recording_at}
use Rattle.q3_world.specs.Kept.{SentBytes, Kept, kept_step}

-- a line of a client's own; its recording has its end; or it goes on by bytes that the client takes
abbrev pub place_acts : Option Place → Event → List FileAct
place_acts None event = []
place_acts (Some place) event = acts_in (client_line place.client place.recording event)

abbrev pub stop_acts : Option Place → List FileAct
stop_acts None = []
stop_acts (Some place) = (stop_at place.recording).acts

abbrev pub take_acts : Option Place → List ℕ → List FileAct
take_acts None bytes = []
take_acts (Some place) bytes = (note_taken place.recording place.client (takes.take_at place.client bytes)).acts

-- the datagram of a number, if it was made, arrives
abbrev pub arrive_acts : Ends → SentBytes → Direction → List FileAct
arrive_acts ends sent ToClient = take_acts (place_at ends sent.client) sent.bytes
arrive_acts ends sent (ToServer from) = []

abbrev pub deliver_acts : Ends → Option SentBytes → List FileAct
deliver_acts ends None = []
deliver_acts ends (Some sent) = arrive_acts ends sent sent.direction

-- a line of the client that it names; any other does nothing to files
abbrev pub client_or_game_acts : Ends → Event → Option ℕ → List FileAct
client_or_game_acts ends event (Some c) = place_acts (place_at ends c) event
client_or_game_acts ends event None = []

-- what a line does to files that hands something in, or hands bytes to an end
unfoldable pub line_acts : Ends → Event → List FileAct
line_acts ends (events.Toclient c bytes) = take_acts (place_at ends c) bytes
line_acts ends other = client_or_game_acts ends other (client_named other)

-- what an event does to files
unfoldable pub acts_of : Kept → Event → List FileAct
acts_of kept (events.Deliver number) = deliver_acts kept.ends (slice_get kept.datagrams (number - 1))
acts_of kept event = line_acts kept.ends event

-- after the last event every recording that goes on has its end, by client
abbrev pub ending_acts : Ends → List FileAct
ending_acts ends = flat_map stop_acts ends.clients

-- what these events do to files, and the end after them
unfoldable pub acts_from : Kept → List Event → List FileAct
acts_from kept [] = ending_acts kept.ends
acts_from kept (event ∷ events) = acts_of kept event ++ acts_from (kept_step kept event).kept events

-- ---- the program's files

-- each recording that goes on has its file under the number that is kept for its client
abbrev pub AreNumbered : Option Told → ℕ → List ℕ → Ends → Type 0
AreNumbered told given numbers ends = (c : ℕ) → c < places → HasFile told given (slice_index numbers c) (recording_at (place_at ends c))

-- the ends with no recording any more, and everything else as it was
abbrev pub without : Option Place → Option Place
without found = option_map (λ (place : Place). record place { recording = None }) found

abbrev pub ended : Ends → Ends
ended ends = record ends { clients = map without ends.clients }

-- at want of memory nothing is done to files, and otherwise all; or some of it, where one of them can't be written
abbrev pub acts_by : Result (Unit {0}) StepError → List FileAct → List FileAct
acts_by (Ok x) acts = acts
acts_by (Err NoMemory) acts = []
acts_by (Err WriteFault) acts = acts
acts_by (Err FileFault) acts = acts

abbrev pub by_files : Result (Unit {0}) StepError → Result (Unit {0}) Failed
by_files (Ok x) = Ok tt
by_files (Err NoMemory) = Ok tt
by_files (Err WriteFault) = Ok tt
by_files (Err FileFault) = Err (record {})

abbrev pub DoesFiles : Option Told → Option Told → ℕ → ℕ → ℕ → ℕ → ℕ → ℕ → List FileAct → Result (Unit {0}) StepError → Type 0
DoesFiles told now given after faults faults_after write_faults write_faults_after acts result =
    WritesFiles told now given after faults faults_after write_faults write_faults_after (acts_by result acts) (by_files result)
