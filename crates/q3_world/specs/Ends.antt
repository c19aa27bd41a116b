-- The two ends of every client, and what a line does at them.
use Rattle.std.specs.Prelude.{ℕ, List, replicate, Option, Some, None, option_map, slice_set, slice_index_or, Result, Ok, Err}
use Rattle.q3_profile.specs.declared.profile.Profile.{Profile}
use Rattle.q3_io.specs.declared.address.Address.{Address}
use Rattle.q3_world.specs.declared.places.Place.{Place}
use Rattle.q3_entity_ring.specs.Snapshot.{Snapshot}
use Rattle.q3_script.specs.declared.event.Event.{Event}
use Rattle.q3_script.specs.declared.event.Event.TheVariants as events
use Rattle.q3_server.specs.declared.server.SlotError.{SlotError}
use Rattle.q3_server.specs.Server.{ServerState, places, new_server, add_client_at}
use Rattle.q3_server.specs.Taking as hears
use Rattle.q3_client.specs.Client.{ClientState, new_client}
use Rattle.q3_client.specs.Client as takes
use Rattle.q3_report.specs.declared.answer.HandedIn.{HandedIn}
use Rattle.q3_report.specs.declared.answer.HandedIn.TheVariants.{Client, Port, Time}
use Rattle.q3_report.specs.declared.answer.Front.{Front}
use Rattle.q3_report.specs.declared.answer.Front.TheVariants.{Toclient, Toserver}
use Rattle.q3_report.specs.declared.answer.TakeRefused.TheVariants.{NoClient}
use Rattle.q3_report.specs.Answers.{Answered, Given, Untaken}
use Rattle.q3_ends.specs.AtServer.{ServerStep, server_line, taken_by_server}
use Rattle.q3_ends.specs.AtClient.{taken_by_client, newest_of}
use Rattle.q3_ends.specs.ClientLine.{client_line, client_named, unjoined, client_after, recording_after, answer_in}
use Rattle.q3_ends.specs.Recording.{RecordingState, note_taken}

-- the server, and at its place each client with the address that its datagrams come from, and its recording, if one goes on
pub record Ends : Type 0 where
  pub server : ServerState
  pub clients : List (Option Place)

-- what is at a place, and the client there
abbrev pub place_at : Ends → ℕ → Option Place
place_at ends c = slice_index_or ends.clients c None

abbrev pub client_of : Place → ClientState
client_of place = place.client

abbrev pub client_at : Ends → ℕ → Option ClientState
client_at ends c = option_map client_of (place_at ends c)

-- its recording, if there is a client and it records
abbrev pub recording_at : Option Place → Option RecordingState
recording_at None = None
recording_at (Some place) = place.recording

-- the ends with this at a place, and with this client there
abbrev pub with_place : Ends → ℕ → Place → Ends
with_place ends c place = record ends { clients = slice_set ends.clients c (Some place) }

abbrev pub with_client : Ends → ℕ → Place → ClientState → Ends
with_client ends c place client = with_place ends c (record place { client = client })

-- a server and no client
abbrev pub new_ends : Profile → Ends
new_ends profile = record { server = new_server profile places; clients = replicate places None }

-- the ends after a line, and the answer
pub record EndsStep : Type 0 where
  pub ends : Ends
  pub answer : Answered

-- ---- what is handed in, and read

-- something was handed in
abbrev pub given : Ends → HandedIn → EndsStep
given ends answer = record { ends = ends; answer = Given answer }

-- a client that sends from an address joins, at its own end too where the server took it
abbrev pub joined : Ends → ℕ → Place → Result (Unit {0}) SlotError → EndsStep
joined ends c place (Ok x) = given (with_place ends c place) (Client c (Ok tt))
joined ends c place (Err e) = given ends (Client c (Err e))

-- a client that was made asks to join
abbrev pub join_with : Ends → ℕ → ℕ → ℕ → Place → EndsStep
join_with ends c challenge qport place =
    let added = add_client_at ends.server c challenge qport place.address in
    joined (record ends { server = added.server }) c place added.answer

-- a client asks to join
abbrev pub join : Profile → Ends → ℕ → ℕ → ℕ → ℕ → Address → EndsStep
join profile ends c challenge qport dup address =
    join_with ends c challenge qport (record { client = new_client profile challenge qport dup; address = address; recording = None })

-- a client's later datagrams come from another port, if it is there
abbrev pub set_port_of : Ends → ℕ → ℕ → Option Place → EndsStep
set_port_of ends c port None = given ends (Port c (Err (record {})))
set_port_of ends c port (Some place) = given (with_place ends c (record place { address = record place.address { port = port } })) (Port c (Ok tt))

abbrev pub set_port : Ends → ℕ → ℕ → EndsStep
set_port ends c port = set_port_of ends c port (place_at ends c)

-- a line of the game, at the server
abbrev pub to_server : Ends → ServerStep → EndsStep
to_server ends step = given (record ends { server = step.server }) step.answer

-- and so is each line that `line_of` doesn't name and that names no client: with no step it never comes there
abbrev pub game_step : Ends → Option ServerStep → EndsStep
game_step ends (Some step) = to_server ends step
game_step ends None = given ends Time

-- the answer to a line of a client; with none it never comes there
abbrev pub told_as : Option Answered → Answered
told_as (Some answer) = answer
told_as None = Given Time

-- a line of a client's own, at its end, if it is there
abbrev pub client_step_of : Ends → ℕ → Event → Option Place → EndsStep
client_step_of ends c event None = record { ends = ends; answer = told_as (unjoined event) }
client_step_of ends c event (Some place) =
    let line = client_line place.client place.recording event in
    record {
      ends = with_place ends c (record place { client = client_after place.client line; recording = recording_after place.recording line });
      answer = told_as (answer_in line);
    }

abbrev pub client_step : Ends → ℕ → Event → EndsStep
client_step ends c event = client_step_of ends c event (place_at ends c)

-- a line of the client that it names, or of the game
abbrev pub client_or_game_step : Ends → Event → Option ℕ → EndsStep
client_or_game_step ends event (Some c) = client_step ends c event
client_or_game_step ends event None = game_step ends (server_line ends.server event)

-- the newest snapshot that a client accepted, if it is there
abbrev pub newest : Option ClientState → Option Snapshot
newest None = None
newest (Some client) = newest_of client

-- ---- bytes come to an end

-- a client took something, and what it applied is recorded, where a recording goes on
abbrev pub client_took : Ends → ℕ → Front → Place → takes.Taken → EndsStep
client_took ends c front place taken =
    let noted = note_taken place.recording place.client taken in
    record {
      ends = with_client ends c (record place { recording = noted.recording }) taken.client;
      answer = taken_by_client front c taken noted.ended;
    }

-- the client at a place, if there is one, takes bytes
abbrev pub client_takes : Ends → ℕ → Front → List ℕ → Option Place → EndsStep
client_takes ends c front bytes None = record { ends = ends; answer = Untaken front NoClient }
client_takes ends c front bytes (Some place) = client_took ends c front place (takes.take_at place.client bytes)

-- the server took something
abbrev pub server_took : Ends → Front → hears.Taken → EndsStep
server_took ends front taken = record { ends = record ends { server = taken.server }; answer = taken_by_server front taken }

-- the server takes bytes from an address
abbrev pub server_takes : Ends → Front → Address → List ℕ → EndsStep
server_takes ends front from bytes = server_took ends front (hears.take_at ends.server from bytes)

-- bytes are handed to a client
abbrev pub hand_client : Ends → ℕ → List ℕ → EndsStep
hand_client ends c bytes = client_takes ends c (Toclient c) bytes (place_at ends c)

-- bytes are handed to the server from the address of a client, if there is one
abbrev pub hand_server_of : Ends → ℕ → List ℕ → Option Place → EndsStep
hand_server_of ends c bytes None = record { ends = ends; answer = Untaken (Toserver c) NoClient }
hand_server_of ends c bytes (Some place) = server_takes ends (Toserver c) place.address bytes

abbrev pub hand_server : Ends → ℕ → List ℕ → EndsStep
hand_server ends c bytes = hand_server_of ends c bytes (place_at ends c)

-- ---- every line

-- what a line does: it hands something in, or shows a client, with the ends after it and the answer; asks the server for a datagram for a
-- client, or a client for one; delivers the datagram of a number, or prints its bytes; or hands bytes of its own to an end, in the name of
-- a client, with the ends after it and the answer
pub data Line : Type 0 where
  Hands : EndsStep → Line
  Serves : ℕ → Line
  Sends : ℕ → Line
  Delivers : ℕ → Line
  TellsBytes : ℕ → Line
  HandsBytes : ℕ → EndsStep → Line

unfoldable pub line_of : Profile → Ends → Event → Line
line_of profile ends (events.Client c challenge qport dup address) = Hands (join profile ends c challenge qport dup address)
line_of profile ends (events.Port c port) = Hands (set_port ends c port)
line_of profile ends (events.Serve c) = Serves c
line_of profile ends (events.Send c) = Sends c
line_of profile ends (events.Deliver number) = Delivers number
line_of profile ends (events.Bytes number) = TellsBytes number
line_of profile ends (events.Toclient c bytes) = HandsBytes c (hand_client ends c bytes)
line_of profile ends (events.Toserver c bytes) = HandsBytes c (hand_server ends c bytes)
line_of profile ends other = Hands (client_or_game_step ends other (client_named other))

-- the step of a line that hands something in, hands bytes to an end, or shows a client
abbrev pub step_in : Line → Option EndsStep
step_in (Hands step) = Some step
step_in (HandsBytes c step) = Some step
step_in other = None
