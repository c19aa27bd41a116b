-- What a message that the server builds is in the buffer in which it is written.
use Rattle.std.specs.Prelude.{◌≡◌, ◌↔◌, ℕ, ◌<◌, Bool, List, length, take, Result, IfOk, IsErr}
use Rattle.q3_bits.specs.Bits.{message_bytes, message_length}
use Rattle.q3_bits.specs.declared.writer.Overflow.{Overflow}
use Rattle.q3_chan.specs.Datagrams.{longest_message}
use Rattle.q3_chan.specs.Keys.{Key, server_scrambled}
use Rattle.q3_window.specs.Outgoing.{carried, issued_of}
use Rattle.q3_profile.specs.declared.profile.Profile.{Profile}
use Rattle.q3_map.specs.Map.{MapState}
use Rattle.q3_gamestate.specs.Values.{Gamestate}
use Rattle.q3_svmsg.specs.Values.{Message, Snap, Game}
use Rattle.q3_built.specs.Built.{Built, built_bits, number_of}
use Rattle.q3_built.specs.declared.parts.TellingParts.{TellingParts}
use Rattle.q3_built.specs.declared.parts.SnapshotParts.{SnapshotParts}
use Rattle.q3_built.specs.declared.parts.Written.{Written}

-- the message of lent parts
abbrev pub snapshot_in : TellingParts → SnapshotParts → Message
snapshot_in telling snapshot = record {
  ack = telling.executed.now.executed;
  commands = carried telling.issued.now;
  section = Snap snapshot.base snapshot.head.now snapshot.entities.now;
}

-- the gamestate of a map for the client in a slot
abbrev pub game_in : TellingParts → MapState → ℕ → Gamestate
game_in telling map c = record {
  command = issued_of telling.issued.now;
  strings = map.strings;
  baselines = map.baselines;
  slot = c;
  feed = map.feed;
}

-- and the message with it
abbrev pub game_message_in : TellingParts → MapState → ℕ → Message
game_message_in telling map c = record {
  ack = telling.executed.now.executed;
  commands = carried telling.issued.now;
  section = Game (game_in telling map c);
}

-- a message of these bits stands in the first bytes of a buffer, as many as are answered; it is refused exactly where it is too long
pub record HoldsMessage (bits : List Bool) (new : List ℕ) (answer : Result ℕ Overflow) : Type 0 where
  pub refused : IsErr answer ↔ (longest_message < message_length (length bits))
  pub count : IfOk answer (λ count. count ≡ message_length (length bits))
  pub bytes : IfOk answer (λ count. take count new ≡ message_bytes bits)
  pub long : length new ≡ longest_message

-- the same where by protocol 68 it is scrambled after its leading long, with the number of the base that it names
pub record HoldsScrambled (base : ℕ) (key : Key) (bits : List Bool) (new : List ℕ) (answer : Result Written Overflow) : Type 0 where
  pub named : IfOk answer (λ written. written.base ≡ base)
  pub refused : IsErr answer ↔ (longest_message < message_length (length bits))
  pub count : IfOk answer (λ written. written.bytes ≡ message_length (length bits))
  pub bytes : IfOk answer (λ written. take written.bytes new ≡ server_scrambled key (message_bytes bits))
  pub long : length new ≡ longest_message

-- and where it was built
abbrev pub HoldsBuilt : Profile → Built → List ℕ → Result Written Overflow → Type 0
HoldsBuilt profile built new answer = HoldsScrambled (number_of built.base) built.key (built_bits profile built) new answer
