-- A client's end. Each call gives the client after it, and its answer.
use Rattle.std.specs.Prelude.{ℕ, if◌then◌else◌, Bool, true, false, List, [], Option, Some, None, Result, Ok, Err}
use Rattle.q3_bits.specs.Bits.{bits_of}
use Rattle.q3_bits.specs.ResultBind.{◌>>=◌, fault_as}
use Rattle.q3_text.specs.declared.text.Command.{Command}
use Rattle.q3_window.specs.declared.outgoing.BadAck.{BadAck}
use Rattle.q3_window.specs.declared.outgoing.WindowFull.{WindowFull}
use Rattle.q3_window.specs.Outgoing.{OutgoingState, new_outgoing, issue_at, acknowledge_at, text_at}
use Rattle.q3_profile.specs.declared.profile.Profile.{Profile}
use Rattle.q3_chan.specs.Checks.{check_for}
use Rattle.q3_chan.specs.Datagrams.{server_form, client_form}
use Rattle.q3_chan.specs.declared.gatherer.Gathered.{Gathered}
use Rattle.q3_chan.specs.declared.gatherer.Gathered.TheVariants as gathered
use Rattle.q3_chan.specs.Gathering.{Gathering, Took, new_gathering, gathered as gathered_of}
use Rattle.q3_chan.specs.Sending.{Sending, new_sending}
use Rattle.q3_chan.specs.Keys.{server_key, server_scrambled}
use Rattle.q3_svmsg.specs.declared.error.Illegible as cause
use Rattle.q3_svmsg.specs.declared.error.Illegible.TheVariants as causes
use Rattle.q3_svmsg.specs.Values.{Message}
use Rattle.q3_svmsg.specs.Reading.{ack_at}
use Rattle.q3_entity_ring.specs.Snapshot.{Snapshot}
use Rattle.q3_clstate.specs.declared.applied.SnapOutcome.{SnapOutcome}
use Rattle.q3_clstate.specs.declared.applied.SnapOutcome.TheVariants as outcomes
use Rattle.q3_clstate.specs.State.{AppliedState, Application, new_state, apply_at, apply_message}
use Rattle.q3_client.specs.declared.client.ClientTook.{ClientTook}
use Rattle.q3_client.specs.declared.client.ClientTook.TheVariants.{Dropped, Runt, Connectionless, Old, OutOfOrder, BadCheck, BadFragment, Partial, Illegible, Applied}
use Rattle.q3_client.specs.declared.moves.Issued.{Issued}

-- a client: what the messages that were applied left, and the bytes of the last of them, cleared, none before the first; how it
-- joined, of how many messages before it a message repeats the moves, the newest number taken and what was gathered, whether the
-- newest message's snapshot was accepted, whether it asks for whole snapshots, why it was dropped, if it was, what is being sent, the
-- commands that it issued, the newest 32 moves issued, and the time of the last, 0 before the first
pub record ClientState : Type 0 where
  pub state : AppliedState
  pub message : List ℕ
  pub challenge : ℕ
  pub qport : ℕ
  pub dup : ℕ
  pub gathering : Gathering
  pub delta : Bool
  pub asks_whole : Bool
  pub dropped : Option cause.Illegible
  pub sending : Sending
  pub issued : OutgoingState
  pub moves : List Issued
  pub last_time : ℕ

-- a client that just joined
abbrev pub new_client : Profile → ℕ → ℕ → ℕ → ClientState
new_client profile challenge qport dup =
    record {
      state = new_state profile;
      message = [];
      challenge = challenge;
      qport = qport;
      dup = dup;
      gathering = new_gathering (server_form (check_for profile.protocol challenge));
      delta = false;
      asks_whole = false;
      dropped = None;
      sending = new_sending (client_form (check_for profile.protocol challenge)) qport;
      issued = new_outgoing;
      moves = [];
      last_time = 0;
    }

-- a client issues a command: the messages that are begun next carry it
pub record Typed : Type 0 where
  pub client : ClientState
  pub answer : Result ℕ WindowFull

abbrev pub type_at : ClientState → List ℕ → Typed
type_at client text =
    let issuing = issue_at client.issued text in
    record { client = record client { issued = issuing.window }; answer = issuing.answer }

-- what a take gives: the client after it, its answer, the snapshot that it accepted, if it did, and the commands that it executed
pub record Taken : Type 0 where
  pub client : ClientState
  pub answer : ClientTook
  pub accepted : Option Snapshot
  pub heard : List Command

-- a client that accepted and executed nothing
abbrev pub answers : ClientState → ClientTook → Taken
answers client answer = record { client = client; answer = answer; accepted = None; heard = [] }

-- whether a snapshot was accepted
abbrev pub is_accepted : SnapOutcome → Bool
is_accepted (outcomes.Accepted base) = true
is_accepted other = false

-- the moves that a client keeps after a message: a gamestate wipes them
abbrev pub moves_after : Bool → List Issued → List Issued
moves_after game moves = if game then [] else moves

-- what a message is to a client: its bytes, cleared, its commands once the acknowledgement is taken, and what applying the message
-- gives
pub record Reception : Type 0 where
  pub message : List ℕ
  pub issued : OutgoingState
  pub application : Application

-- what the whole value of a message of a number is to it, whose bytes are these before they are scrambled, if they are
abbrev pub receive_message : ClientState → ℕ → Message → List ℕ → Reception
receive_message client number message plain = record {
  message = plain;
  issued = (acknowledge_at client.issued message.ack).window;
  application = apply_message client.state number message;
}

-- an acknowledgement that the window takes, or the cause for which the message isn't legible
abbrev pub ack_taken : ℕ → Result (Unit {0}) BadAck → Result (Unit {0}) cause.Illegible
ack_taken ack (Ok x) = Ok x
ack_taken ack (Err e) = Err (causes.Ack ack)

-- a message of a number cleared, by the text of the command that it acknowledges, or as it is, by protocol 71
abbrev pub cleared : ℕ → ℕ → ℕ → List ℕ → List ℕ → List ℕ
cleared protocol challenge number text bytes = server_scrambled (server_key protocol challenge number text) bytes

-- what bytes are as a message of a number, by what was applied, the commands that were issued, and the challenge: the leading long
-- counts as it is read before the message is cleared
abbrev pub receive_by : AppliedState → OutgoingState → ℕ → ℕ → List ℕ → Result Reception cause.Illegible
receive_by state issued challenge number bytes = do
  ack ← fault_as causes.Bits (ack_at state.profile.code (bits_of bytes))
  taken ← ack_taken ack.0 (acknowledge_at issued ack.0).answer
  let plain = cleared state.profile.protocol challenge number (text_at issued ack.0) bytes in do
    application ← apply_at state number plain
    Ok (record { message = plain; issued = (acknowledge_at issued ack.0).window; application = application })

-- and to a client
abbrev pub receive_bytes : ClientState → ℕ → List ℕ → Result Reception cause.Illegible
receive_bytes client number bytes = receive_by client.state client.issued client.challenge number bytes

-- a client after a message that it received
abbrev pub applies : ClientState → Reception → Taken
applies client received =
    let applied = received.application in
    record {
      client = record client {
        state = applied.state;
        message = received.message;
        issued = received.issued;
        delta = is_accepted applied.answer.snap;
        moves = moves_after applied.answer.game client.moves;
      };
      answer = Applied applied.answer;
      accepted = applied.accepted;
      heard = applied.heard;
    }

-- a client after bytes that it received, if they are legible; by what isn't it is dropped, and nothing else changes
abbrev pub applies_read : ClientState → Result Reception cause.Illegible → Taken
applies_read client (Ok received) = applies client received
applies_read client (Err e) = answers (record client { dropped = Some e }) (Illegible e)

-- a message that came whole is received under its number, and every other answer is handed on
abbrev pub take_answer : ClientState → Gathered → (ℕ → Result Reception cause.Illegible) → Taken
take_answer client (gathered.Whole number count) receive = applies_read client (receive number)
take_answer client gathered.Partial receive = answers client Partial
take_answer client gathered.Old receive = answers client Old
take_answer client gathered.OutOfOrder receive = answers client OutOfOrder
take_answer client gathered.BadFragment receive = answers client BadFragment
take_answer client gathered.BadCheck receive = answers client BadCheck
take_answer client gathered.Runt receive = answers client Runt
take_answer client gathered.Connectionless receive = answers client Connectionless

-- a client with what was gathered, and what it does with a message that came whole
abbrev pub take_gathered : ClientState → Took → (ℕ → Result Reception cause.Illegible) → Taken
take_gathered client took receive = take_answer (record client { gathering = took.gathering }) took.answer receive

-- a client that was dropped takes nothing more
abbrev pub take_unless : ClientState → List ℕ → Option cause.Illegible → Taken
take_unless client datagram None =
    take_gathered client (gathered_of client.gathering datagram)
    (λ number. receive_bytes client number (gathered_of client.gathering datagram).message)
take_unless client datagram (Some cause) = answers client (Dropped cause)

-- a client takes a datagram, by its bytes
unfoldable pub take_at : ClientState → List ℕ → Taken
take_at client datagram = take_unless client datagram client.dropped
