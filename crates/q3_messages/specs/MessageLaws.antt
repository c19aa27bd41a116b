-- Laws of the messages that the ends begin.
use Rattle.std.specs.Prelude.{ℕ, ◌≡◌, ◌+◌, ◌^◌, ◌<◌, ◌≤◌, false, List, [], ◌∷◌, length, map, Some, None, IfSome, Ok}
use Rattle.std.specs.List.{range_with_len}
use Rattle.q3_bits.specs.Bits.{message_length}
use Rattle.q3_profile.specs.declared.profile.Profile.{Profile}
use Rattle.q3_profile.specs.Profile.{IsCodec}
use Rattle.q3_io.specs.declared.address.Address.{Address}
use Rattle.q3_chan.specs.Checks.{check_for}
use Rattle.q3_chan.specs.Datagrams.{Header, server_header, client_header, sequence_end, longest_message, last_index, datagram}
use Rattle.q3_chan.specs.Gathering.{Gathering}
use Rattle.q3_chan.specs.Laws.{IsSendable}
use Rattle.q3_svmsg.specs.Values as told
use Rattle.q3_clmsg.specs.Values as client_told
use Rattle.q3_map.specs.Map.{MapState, is_other}
use Rattle.q3_entity_ring.specs.Snapshot.{Snapshot}
use Rattle.q3_rings.specs.Rings.{HeldSnapshots, view_at}
use Rattle.q3_window.specs.Outgoing.{acknowledge_at, text_at}
use Rattle.q3_slot.specs.declared.taking.ServerTook.TheVariants.{Partial as SlotPartial}
use Rattle.q3_built.specs.Built.{Built, IsBuilt, built_bits, built_bytes, plain_bytes}
use Rattle.q3_slot.specs.Slot.{SlotState}
use Rattle.q3_slot.specs.Taking.{came_as, run_read, said_by}
use Rattle.q3_slot.specs.Taking as by_slot
use Rattle.q3_server.specs.Server.{ServerState, slot_at, emit_at}
use Rattle.q3_server.specs.Taking.{sender_of, taken_at}
use Rattle.q3_server.specs.Taking as hears
use Rattle.q3_server.specs.Standing.{BeginsBuilt, IsServerState}
use Rattle.q3_clstate.specs.Standing.{IsApplied}
use Rattle.q3_client.specs.declared.client.ClientTook.TheVariants.{Partial}
use Rattle.q3_client.specs.Client.{ClientState, Taken, answers, receive_message, receive_bytes, applies, take_at}
use Rattle.q3_client.specs.Sending.{said_bits, said_bytes, Said, IsSaid}
use Rattle.q3_client.specs.Sending as says
use Rattle.q3_client.specs.Standing.{IsClient}

-- what is held under the number of a base is that base
abbrev pub HoldsThis : HeldSnapshots → Snapshot → Type 0
HoldsThis held base = (snapshot : Snapshot) → view_at held base.head.number ≡ Some snapshot → snapshot ≡ base

-- a message that was built is received from its bytes as its value: where the client joined with the challenge for which it was
-- built, what the messages left is well formed, as at every client, its window takes the acknowledgement and has the text by which the
-- message is scrambled by protocol 68, and, where the client plays, has the baselines of its map, and what is held lends no other
-- snapshot under the number of its base. It is whole, or as skipped where its base isn't held
abbrev pub BuiltIsRead : Type 0
BuiltIsRead = (profile : Profile) → IsCodec profile → (client : ClientState) (number : ℕ) (built : Built) → IsBuilt profile client.challenge number built
    → client.state.profile ≡ profile → IsApplied client.state → IfSome built.under (λ game. client.state.baselines ≡ built.baselines)
    → (acknowledge_at client.issued built.message.ack).answer ≡ Ok tt → text_at client.issued built.message.ack ≡ built.key.text
    → IfSome built.base (HoldsThis client.state.held)
    → receive_bytes client number (built_bytes profile built) ≡ Ok (receive_message client number built.message (plain_bytes profile built))

-- a message that a client began is read back by the server as what it is to the map, where its slot's window takes the acknowledgement
-- and has the text by which its moves are hidden, and the message is scrambled by protocol 68, and, where it is of the map, by the
-- map's feed
abbrev pub SaidIsRead : Type 0
SaidIsRead = (profile : Profile) → IsCodec profile → (map : MapState) (slot : SlotState) (said : Said) → IsSaid profile slot.challenge said
    → (acknowledge_at slot.issued said.message.command).answer ≡ Ok tt → text_at slot.issued said.message.command ≡ said.key.text
    → (is_other map said.message.id ≡ false → said.feed ≡ map.feed)
    → said_by profile map slot (said_bytes profile said) ≡ Ok (came_as map said.message)

-- ---- a message survives the network

-- so many first datagrams of a message, in order
abbrev pub first_datagrams : Header → ℕ → List ℕ → ℕ → List (List ℕ)
first_datagrams header number message count = map (datagram header number message) (range_with_len 0 count)

-- a message may be sent under a number: the number is below 2^30, and it has 1 to 16,384 bytes
pub record MayBeSent (number : ℕ) (message : List ℕ) : Type 0 where
  pub fits : number < sequence_end
  pub sendable : IsSendable message

-- a message as an end begins it has bytes that may be sent, where it isn't too long; so what either end begins may be sent, where it is such
-- a message, as the `emit` of each end says of what it begins
pub record BegunMayBeSent : Type 0 where
  pub of_built : (profile : Profile) (challenge n : ℕ) (built : Built) → IsBuilt profile challenge n built
      → message_length (length (built_bits profile built)) ≤ longest_message → IsSendable (built_bytes profile built)
  pub of_said : (profile : Profile) (challenge : ℕ) (said : Said) → IsSaid profile challenge said
      → message_length (length (said_bits profile said)) ≤ longest_message → IsSendable (said_bytes profile said)
  pub built : (server : ServerState) (c : ℕ) → BeginsBuilt server c
      → IfSome (slot_at server c) (λ slot. IfSome (emit_at server c).began (λ built. MayBeSent (slot.sending.number + 1) (built_bytes server.profile built)))
  pub said : (client : ClientState) → IfSome (says.emit_at client).began (IsSaid client.state.profile client.challenge)
      → IfSome (says.emit_at client).began (λ said. MayBeSent (client.sending.number + 1) (said_bytes client.state.profile said))

-- a message may come to an end that gathers: its number is above every number taken, nothing was gathered under it, and it may be
-- sent
pub record MayCome (number : ℕ) (message : List ℕ) (g : Gathering) : Type 0 where
  pub newer : g.taken < number
  pub none : g.number ≡ number → g.bytes ≡ []
  pub sent : MayBeSent number message

-- a client after these datagrams, one after the other
unfoldable pub client_after : ClientState → List (List ℕ) → ClientState
client_after client [] = client
client_after client (datagram ∷ others) = client_after (take_at client datagram).client others

-- it took a piece that isn't the last: but for what it gathered it is as it was
abbrev pub GathersMore : ClientState → Taken → Type 0
GathersMore client taken = (g : Gathering) × (taken ≡ answers (record client { gathering = g }) Partial)

-- it took the last, and applies the message: but for what it gathered all is as by the message's value, whose number is the newest
-- taken
abbrev pub AppliesIt : ClientState → ℕ → told.Message → List ℕ → Taken → Type 0
AppliesIt client number message plain taken =
    (g : Gathering) × (g.taken ≡ number) × (taken ≡ applies (record client { gathering = g }) (receive_message client number message plain))

-- a message that was built survives the network: where its datagrams come to a client, one after the other, each but the last is
-- partial, and with the last the client answers, accepts, executes and becomes what the message's value makes of it. The client is as
-- every client and wasn't dropped, the message may come to it, and it is received from its bytes as in BuiltIsRead
abbrev pub BuiltSurvives : Type 0
BuiltSurvives = (profile : Profile) → IsCodec profile → (client : ClientState) (number : ℕ) (built : Built) → IsClient client → client.dropped ≡ None
    → MayCome number (built_bytes profile built) client.gathering → IsBuilt profile client.challenge number built
    → client.state.profile ≡ profile → IfSome built.under (λ game. client.state.baselines ≡ built.baselines)
    → (acknowledge_at client.issued built.message.ack).answer ≡ Ok tt → text_at client.issued built.message.ack ≡ built.key.text
    → IfSome built.base (HoldsThis client.state.held)
    → ((index : ℕ) → index < last_index (built_bytes profile built)
    → GathersMore client (take_at (client_after client (first_datagrams (server_header (check_for profile.protocol client.challenge)) number (built_bytes profile built) index)) (datagram (server_header (check_for profile.protocol client.challenge)) number (built_bytes profile built) index)))
    × AppliesIt client number built.message (plain_bytes profile built)
    (take_at (client_after client (first_datagrams (server_header (check_for profile.protocol client.challenge)) number (built_bytes profile built) (last_index (built_bytes profile built))))
    (datagram (server_header (check_for profile.protocol client.challenge)) number (built_bytes profile built) (last_index (built_bytes profile built))))

-- a server after these datagrams from an address, one after the other
unfoldable pub server_after : ServerState → Address → List (List ℕ) → ServerState
server_after server from [] = server
server_after server from (datagram ∷ others) = server_after (hears.take_at server from datagram).server from others

-- the slot at a place took a piece that isn't the last: but for what it gathered, and the address, which it takes over, it is as it
-- was, and so is the rest of the server
abbrev pub SlotGathersMore : ServerState → ℕ → SlotState → Address → hears.Taken → Type 0
SlotGathersMore server c slot from taken =
    (g : Gathering) × (taken ≡ taken_at server c (by_slot.answers (record slot { address = from; gathering = g }) (SlotPartial c)))

-- it took the last, and the message's value is run
abbrev pub RunsIt : ServerState → ℕ → SlotState → Address → ℕ → client_told.Message → hears.Taken → Type 0
RunsIt server c slot from number message taken =
    (g : Gathering) × (g.taken ≡ number) × (taken ≡ taken_at server c (run_read server.map (record slot { address = from; gathering = g }) c number (Ok (came_as server.map message))))

-- a message that a client began survives the network: where its datagrams come to the server from the client's host, one after the
-- other, each but the last is partial, and with the last the server runs the message's value. The server is as every server, the slot is
-- the one that it finds by host and qport, the message may come to it, and it is read as in SaidIsRead
abbrev pub SaidSurvives : Type 0
SaidSurvives = (profile : Profile) → IsCodec profile → (server : ServerState) (from : Address) (qport c : ℕ) (slot : SlotState) (number : ℕ) (said : Said)
    → IsServerState server → server.profile ≡ profile → qport < 2 ^ 16 → sender_of server from.host qport ≡ Some c → slot_at server c ≡ Some slot
    → MayCome number (said_bytes profile said) slot.gathering → IsSaid profile slot.challenge said
    → (acknowledge_at slot.issued said.message.command).answer ≡ Ok tt → text_at slot.issued said.message.command ≡ said.key.text
    → (is_other server.map said.message.id ≡ false → said.feed ≡ server.map.feed)
    → ((index : ℕ) → index < last_index (said_bytes profile said)
    → SlotGathersMore server c slot from
    (hears.take_at (server_after server from (first_datagrams (client_header (check_for profile.protocol slot.challenge) qport) number (said_bytes profile said) index)) from (datagram (client_header (check_for profile.protocol slot.challenge) qport) number (said_bytes profile said) index)))
    × RunsIt server c slot from number said.message
    (hears.take_at (server_after server from (first_datagrams (client_header (check_for profile.protocol slot.challenge) qport) number (said_bytes profile said) (last_index (said_bytes profile said)))) from
    (datagram (client_header (check_for profile.protocol slot.challenge) qport) number (said_bytes profile said) (last_index (said_bytes profile said))))
