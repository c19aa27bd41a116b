-- What a client does at a line of its script, and at an arrival.
use Rattle.std.specs.Prelude.{ℕ, ◌==◌, ◌&&◌, if◌then◌else◌, Bool, false, List, [], ◌∷◌, Option, Some, None, is_some, Ok}
use Rattle.q3_io.specs.declared.address.Address.{Address}
use Rattle.q3_io.specs.Traffic.{Parcel}
use Rattle.q3_profile.specs.declared.profile.Profile.{Profile}
use Rattle.q3_script.specs.declared.event.Event.{Event}
use Rattle.q3_script.specs.declared.event.Event.TheVariants as events
use Rattle.q3_client.specs.Client.{ClientState, new_client, take_at}
use Rattle.q3_client.specs.Sending.{emit_at}
use Rattle.q3_report.specs.declared.answer.HandedIn.TheVariants as handed
use Rattle.q3_report.specs.declared.answer.Front.TheVariants.{Arrive}
use Rattle.q3_report.specs.declared.answer.TakeRefused.TheVariants.{Stranger}
use Rattle.q3_report.specs.Answers.{Given, SentOut, Untaken}
use Rattle.q3_ends.specs.AtClient.{taken_by_client}
use Rattle.q3_ends.specs.ClientLine.{ClientDone, client_line, fresh_of, client_after, recording_after, answer_in, acts_in}
use Rattle.q3_ends.specs.Recording.{RecordingState, asking, stop_at, note_taken}
use Rattle.q3_node.specs.Node.{LineDone, Arrived, Rules, answers, parcel_to}

-- a client, its number in its script, the address of its server, and its recording, if one goes on
pub record ClientEnd : Type 0 where
  pub c : ℕ
  pub client : ClientState
  pub server : Address
  pub recording : Option RecordingState

-- one that records nothing
abbrev pub new_end : ℕ → ClientState → Address → ClientEnd
new_end c client server = record { c = c; client = client; server = server; recording = None }

-- the client of a script, which its first line joins
abbrev pub client_of : Profile → Address → List Event → Option ClientEnd
client_of profile server (events.Client c challenge qport dup address ∷ others) = Some (new_end c (new_client profile challenge qport dup) server)
client_of profile server other = None

-- a datagram is made, and sent to the server; it asks for whole snapshots exactly while a recording waits
abbrev pub send : ClientEnd → ℕ → ℕ → LineDone ClientEnd
send end c number =
    let emission = emit_at (asking end.client end.recording) in
    record {
      end = record end { client = emission.client };
      answer = Some (SentOut c (Ok emission.answer) number);
      sends = parcel_to (Some end.server) emission.piece;
      acts = [];
      memory = false;
    }

-- a line of the client's own: memory is wanted where a recording would begin, also where it is refused
abbrev pub own_done : ClientEnd → Event → Option ClientDone → LineDone ClientEnd
own_done end event line =
    record {
      end = record end { client = client_after end.client line; recording = recording_after end.recording line };
      answer = answer_in line;
      sends = None;
      acts = acts_in line;
      memory = is_some (fresh_of event);
    }

-- the recording has its end with the node's own, where one goes on
abbrev pub finish : ClientEnd → LineDone ClientEnd
finish end =
    let stopped = stop_at end.recording in
    record { end = record end { recording = stopped.recording }; answer = None; sends = None; acts = stopped.acts; memory = false }

-- a line of a client's script; one that isn't the client's own does nothing
abbrev pub line_done : ClientEnd → Event → ℕ → LineDone ClientEnd
line_done end (events.Client c challenge qport dup address) number = answers end (Some (Given (handed.Client c (Ok tt))))
line_done end (events.Send c) number = send end c number
line_done end (events.End ms) number = finish end
line_done end event number = own_done end event (client_line end.client end.recording event)

abbrev pub is_address : Address → Address → Bool
is_address one other = (one.host == other.host) && (one.port == other.port)

-- an arrival from the server is taken, and recorded, where a recording goes on; one from anywhere else isn't, and changes nothing
abbrev pub took : ClientEnd → List ℕ → Arrived ClientEnd
took end bytes =
    let taken = take_at end.client bytes in
    let noted = note_taken end.recording end.client taken in
    record { end = record end { client = taken.client; recording = noted.recording }; answer = taken_by_client Arrive end.c taken noted.ended; acts = noted.acts }

abbrev pub arrived : ClientEnd → Parcel → Arrived ClientEnd
arrived end parcel =
    if is_address parcel.address end.server then took end parcel.bytes
    else record { end = end; answer = Untaken Arrive (Stranger end.c); acts = [] }

abbrev pub client_rules : Rules ClientEnd
client_rules = record { line = line_done; arrives = arrived }
