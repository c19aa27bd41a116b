-- Laws of a client's end.
use Rattle.std.specs.Prelude.{◌≡◌, ◌⊎◌, ℕ, ◌^◌, ◌<◌, ◌≤◌, Bool, false, List, length, IfSome, Ok}
use Rattle.q3_text.specs.Texts.{IsText}
use Rattle.q3_window.specs.Outgoing.{IsOutgoing, issued_of}
use Rattle.q3_chan.specs.Datagrams.{longest_message}
use Rattle.q3_clstate.specs.declared.applied.Applied.{Applied}
use Rattle.q3_clstate.specs.State.{Application, apply_at}
use Rattle.q3_clstate.specs.Standing.{IsApplied}
use Rattle.q3_profile.specs.declared.profile.Profile.{Profile}
use Rattle.q3_profile.specs.Profile.{IsCodec}
use Rattle.q3_clmsg.specs.declared.moves.Move.{Move}
use Rattle.q3_clmsg.specs.Moves.{IsMove}
use Rattle.q3_client.specs.declared.client.ClientTook.TheVariants as took
use Rattle.q3_client.specs.Moves.{add_move_at}
use Rattle.q3_client.specs.Client.{ClientState, Taken, Reception, new_client, type_at, take_at, receive_bytes}
use Rattle.q3_client.specs.Sending.{IsSaid, next_message, next_said, is_unclear, emit_at}
use Rattle.q3_client.specs.Standing.{IsClient}

-- a client's next message is one that it may begin, whatever it keeps, where its leading longs aren't hidden; and so is what it begins
pub record BeginsSaid : Type 0 where
  pub next : (client : ClientState) → IsClient client → is_unclear client.state.profile (next_message client) ≡ false
      → IsSaid client.state.profile client.challenge (next_said client)
  pub began : (client : ClientState) → IsClient client → IfSome (emit_at client).began (IsSaid client.state.profile client.challenge)

-- a client is well formed once it joined, and stays so, whatever move or command is issued, whatever it asks for and emits, and whatever
-- bytes it takes; what the messages left stays so too, where a message is received from its bytes
pub record ClientStays : Type 0 where
  pub joins : (profile : Profile) (challenge qport dup : ℕ) → IsCodec profile → 512 ≤ profile.parse_ring → IsClient (new_client profile challenge qport dup)
  pub moves : (client : ClientState) (one : Move) → IsMove one → IsClient client → IsClient (add_move_at client one).client
  pub types : (client : ClientState) (text : List ℕ) → IsText text → IsClient client → IsClient (type_at client text).client
  pub asks : (client : ClientState) (on : Bool) → IsClient client → IsClient (record client { asks_whole = on })
  pub emits : (client : ClientState) → IsClient client → IsClient (emit_at client).client
  pub takes : (client : ClientState) (datagram : List ℕ) → IsClient client → IsClient (take_at client datagram).client
  pub receives : (client : ClientState) (number : ℕ) (bytes : List ℕ) (received : Reception) → number < 2 ^ 32 → IsApplied client.state → IsOutgoing client.issued
      → receive_bytes client number bytes ≡ Ok received → IsApplied received.application.state

-- what a client made of a message that it applied: it keeps its bytes, cleared, and they do under its number what was answered, accepted and
-- executed. The number is newer than all before, and from then on the newest; no command was issued
pub record WasApplied (client : ClientState) (taken : Taken) (applied : Applied) : Type 0 where
  pub application : Application
  pub does : apply_at client.state applied.number taken.client.message ≡ Ok application
  pub state : application.state ≡ taken.client.state
  pub answer : application.answer ≡ applied
  pub accepted : application.accepted ≡ taken.accepted
  pub heard : application.heard ≡ taken.heard
  pub newer : client.gathering.taken < applied.number
  pub newest : taken.client.gathering.taken ≡ applied.number
  pub fits : applied.number < 2 ^ 31
  pub short : length taken.client.message ≤ longest_message
  pub issued : issued_of taken.client.issued ≡ issued_of client.issued

-- where none was applied, what the messages before left stays, and so do the last one's bytes and the window; the number of the newest
-- doesn't fall
pub record WasLeft (client : ClientState) (taken : Taken) : Type 0 where
  pub none : (applied : Applied) → taken.answer ≡ took.Applied applied → ⊥
  pub state : taken.client.state ≡ client.state
  pub message : taken.client.message ≡ client.message
  pub issued : taken.client.issued ≡ client.issued
  pub rises : client.gathering.taken ≤ taken.client.gathering.taken
  pub fits : client.gathering.taken < 2 ^ 31 → taken.client.gathering.taken < 2 ^ 31

-- a datagram brings a message that is applied, or leaves what messages left
pub record TakesMessages : Type 0 where
  pub applies : (client : ClientState) (datagram : List ℕ) (applied : Applied)
      → (take_at client datagram).answer ≡ took.Applied applied → WasApplied client (take_at client datagram) applied
  pub leaves : (client : ClientState) (datagram : List ℕ)
      → ((applied : Applied) × ((take_at client datagram).answer ≡ took.Applied applied)) ⊎ WasLeft client (take_at client datagram)
