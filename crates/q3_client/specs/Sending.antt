-- What a client sends. Each emission gives the client after it, its answer, and what it hands out.
use Rattle.std.specs.Prelude.{ℕ, ◌+◌, ◌^◌, ◌<◌, if◌then◌else◌, ◌≡◌, Bool, false, not, ◌&&◌, List, [], ◌∷◌, length, nat_le, nat_lt, Option, Some, None}
use Rattle.q3_bits.specs.Bits.{message_bytes, message_length}
use Rattle.q3_bits.specs.Words.{row_bits}
use Rattle.q3_text.specs.declared.text.Command.{Command}
use Rattle.q3_window.specs.Outgoing.{issued_of, carried as waiting_of}
use Rattle.q3_chan.specs.Datagrams.{sequence_end, longest_message}
use Rattle.q3_chan.specs.Sending.{UnderWay, Piece, started, next_of}
use Rattle.q3_chan.specs.declared.side.Side.TheVariants.{Client}
use Rattle.q3_chan.specs.Keys.{Key, client_key, client_scrambled}
use Rattle.q3_chan.specs.Keys as chan
use Rattle.q3_clmsg.specs.declared.moves.Move.{Move}
use Rattle.q3_clmsg.specs.Moves.{message_key}
use Rattle.q3_clmsg.specs.Texts.{client_message_bits}
use Rattle.q3_clmsg.specs.Values.{Message}
use Rattle.q3_clmsg.specs.Laws.{IsMessage}
use Rattle.q3_text.specs.Texts.{IsText}
use Rattle.q3_profile.specs.declared.profile.Profile.{Profile}
use Rattle.q3_svmsg.specs.declared.error.Illegible.{Illegible}
use Rattle.q3_client.specs.declared.client.Sent.{Sent}
use Rattle.q3_client.specs.declared.client.Sent.TheVariants as sent
use Rattle.q3_client.specs.Client.{ClientState}
use Rattle.q3_client.specs.Moves.{carried, asks_delta}

-- a message that was begun, the number of the last command issued by then, the checksum feed by which its moves are written, and by
-- what it is scrambled by protocol 68: its text is that of the last server command executed, by which its moves are written, too
pub record Said : Type 0 where
  pub message : Message
  pub last : ℕ
  pub feed : ℕ
  pub key : Key

-- a message of a map with these commands and moves, which acknowledges a server message and a server command
abbrev pub message_with : ℕ → ℕ → ℕ → List Command → Bool → List Move → Message
message_with id acknowledged command commands delta moves =
    record { id = id; acknowledged = acknowledged; command = command; commands = commands; delta = asks_delta delta moves; moves = moves }

-- whether the next message may ask for a delta: the newest message's snapshot was accepted, and no whole ones are asked for
abbrev pub wants_delta : ClientState → Bool
wants_delta client = client.delta && not client.asks_whole

-- the message that goes to the server next: it carries all commands that aren't acknowledged
abbrev pub next_message : ClientState → Message
next_message client =
    message_with client.state.id client.gathering.taken client.state.executed.executed (waiting_of client.issued) (wants_delta client)
    (carried (client.sending.number + 1) client.dup client.moves)

-- and with it what it is scrambled by, by protocol 68
abbrev pub next_said : ClientState → Said
next_said client = record {
  message = next_message client;
  last = issued_of client.issued;
  feed = client.state.feed;
  key = client_key client.state.profile.protocol client.challenge client.state.id client.gathering.taken client.state.executed.last;
}

-- the bits of a message
abbrev pub said_bits : Profile → Said → List Bool
said_bits profile said = client_message_bits profile.code (message_key said.feed said.message.acknowledged said.key.text) said.message

-- and its bytes, scrambled after the three leading longs by protocol 68
abbrev pub said_bytes : Profile → Said → List ℕ
said_bytes profile said = client_scrambled said.key (message_bytes (said_bits profile said))

-- whether the leading longs of a message take more bits than stay clear by protocol 68, so that scrambling would hide a part of them:
-- never by protocol 71, which scrambles nothing
abbrev pub is_unclear : Profile → Message → Bool
is_unclear profile message =
    chan.is_unclear profile.protocol Client (length (row_bits profile.code ((message.id, 32) ∷ (message.acknowledged, 32) ∷ (message.command, 32) ∷ [])))

-- a message as a client begins it that joined with a challenge
pub record IsSaid (profile : Profile) (challenge : ℕ) (said : Said) : Type 0 where
  pub message : IsMessage said.message
  pub feed : said.feed < 2 ^ 32
  pub key : said.key ≡ client_key profile.protocol challenge said.message.id said.message.acknowledged said.key.text
  pub text : IsText said.key.text
  pub clear : is_unclear profile said.message ≡ false

-- what an emit gives: the client after it, the answer, the message that it began, and the datagram that it hands out
pub record Emission : Type 0 where
  pub client : ClientState
  pub answer : Sent
  pub began : Option Said
  pub piece : Option Piece

-- no message was begun, and nothing is handed out
abbrev pub nothing : ClientState → Sent → Emission
nothing client answer = record { client = client; answer = answer; began = None; piece = None }

-- the piece at an index of the message under way is handed out
abbrev pub hand_out : ClientState → ℕ → Sent → Option Said → Emission
hand_out client index answer began = record {
  client = record client { sending = (next_of client.sending).sending };
  answer = answer;
  began = began;
  piece = Some (record { number = client.sending.number; index = index; bytes = (next_of client.sending).datagram });
}

-- a message of these bits is begun, unless it is too long, and its first piece is handed out
abbrev pub emit_bits : ClientState → Said → List Bool → Emission
emit_bits client said bits =
    if nat_lt longest_message (message_length (length bits)) then nothing client sent.Overlong
    else hand_out (record client { sending = started client.sending (client_scrambled said.key (message_bytes bits)) }) 0
    (sent.Message (client.sending.number + 1) (message_length (length bits))) (Some said)

-- the next message, unless message numbers have ended, or its leading longs would be hidden
abbrev pub emit_new : ClientState → Emission
emit_new client =
    if nat_le sequence_end (client.sending.number + 1) then nothing client sent.SequenceEnd
    else if is_unclear client.state.profile (next_message client) then nothing client sent.Unclear
    else emit_bits client (next_said client) (said_bits client.state.profile (next_said client))

-- what is left of a message goes before another is begun
abbrev pub emit_left : ClientState → Option UnderWay → Emission
emit_left client None = emit_new client
emit_left client (Some left) = hand_out client left.next (sent.Fragment client.sending.number) None

-- a client that was dropped sends nothing more
abbrev pub emit_unless : ClientState → Option Illegible → Emission
emit_unless client None = emit_left client client.sending.under_way
emit_unless client (Some cause) = nothing client (sent.Dropped cause)

-- a client makes a datagram for the server
unfoldable pub emit_at : ClientState → Emission
emit_at client = emit_unless client client.dropped
