-- What the server does with a datagram: the slot of its client takes it.
use Rattle.std.specs.Prelude.{ℕ, false, List, position, Option, Some, None, Result, Ok, Err}
use Rattle.q3_io.specs.declared.address.Address.{Address}
use Rattle.q3_chan.specs.declared.qport.NoQport.{NoQport}
use Rattle.q3_chan.specs.declared.qport.NoQport.TheVariants as no
use Rattle.q3_chan.specs.Checks.{is_checked}
use Rattle.q3_chan.specs.Senders.{qport_of}
use Rattle.q3_slot.specs.declared.taking.Heard.{Heard}
use Rattle.q3_slot.specs.declared.taking.ServerTook.{ServerTook}
use Rattle.q3_slot.specs.declared.taking.ServerTook.TheVariants.{Runt, Connectionless, Stranger}
use Rattle.q3_slot.specs.Slot.{SlotState, is_of}
use Rattle.q3_slot.specs.Taking.{SlotTaken, nothing_heard, take_slot}
use Rattle.q3_server.specs.Server.{ServerState, slot_at, with_slot}

-- the slot of the client at a host by its qport; the port doesn't count
abbrev pub sender_of : ServerState → ℕ → ℕ → Option ℕ
sender_of server host qport = position (is_of host qport) server.slots

-- what a take gives: the server after it, its answer, and what was run
pub record Taken : Type 0 where
  pub server : ServerState
  pub answer : ServerTook
  pub heard : Heard

-- a server that runs nothing
abbrev pub unmoved : ServerState → ServerTook → Taken
unmoved server answer = record { server = server; answer = answer; heard = nothing_heard false }

-- what a slot took, at its place
abbrev pub taken_at : ServerState → ℕ → SlotTaken → Taken
taken_at server c taken = record { server = with_slot server c taken.slot; answer = taken.answer; heard = taken.heard }

-- a datagram for the client in a slot
abbrev pub take_by : ServerState → ℕ → Address → List ℕ → Option SlotState → Taken
take_by server c from datagram None = unmoved server Stranger
take_by server c from datagram (Some slot) = taken_at server c (take_slot server.profile server.map c from datagram slot)

-- a datagram from a client of the server, or from a stranger
abbrev pub take_from : ServerState → Address → List ℕ → Option ℕ → Taken
take_from server from datagram None = unmoved server Stranger
take_from server from datagram (Some c) = take_by server c from datagram (slot_at server c)

-- a datagram of a qport, or one that has none
abbrev pub take_headed : ServerState → Address → List ℕ → Result ℕ NoQport → Taken
take_headed server from datagram (Ok qport) = take_from server from datagram (sender_of server from.host qport)
take_headed server from datagram (Err no.Runt) = unmoved server Runt
take_headed server from datagram (Err no.Connectionless) = unmoved server Connectionless

-- the server takes a datagram from an address, any bytes
unfoldable pub take_at : ServerState → Address → List ℕ → Taken
take_at server from datagram = take_headed server from datagram (qport_of (is_checked server.profile.protocol) datagram)
