-- A client's slot answers to what is for it, whatever the others hold.
use Rattle.std.specs.Prelude.{◌≡◌, ◌≢◌, ℕ, List, map, Option, Some, option_map}
use Rattle.q3_io.specs.declared.address.Address.{Address}
use Rattle.q3_slot.specs.Slot.{SlotState}
use Rattle.q3_server.specs.Server.{ServerState, slot_at}
use Rattle.q3_server.specs.Taking.{Taken, take_at}
use Rattle.q3_server.specs.Apart.{taker_of}

-- the host and the qport of a slot's client, if it has one
abbrev pub sender : Option SlotState → Option (ℕ × ℕ)
sender = option_map (λ (slot : SlotState). (slot.address.host, slot.qport))

-- two servers of one profile agree in the map and in a slot, and their clients have the same hosts and qports
pub record Agree (d : ℕ) (one other : ServerState) : Type 0 where
  pub profile : one.profile ≡ other.profile
  pub maps : one.map ≡ other.map
  pub slot : slot_at one d ≡ slot_at other d
  pub senders : map sender one.slots ≡ map sender other.slots

-- two takes answer alike, run the same, and leave the same in the map and in a slot
pub record TakeAlike (d : ℕ) (one other : Taken) : Type 0 where
  pub answer : one.answer ≡ other.answer
  pub heard : one.heard ≡ other.heard
  pub maps : one.server.map ≡ other.server.map
  pub slot : slot_at one.server d ≡ slot_at other.server d

-- a datagram finds the same slot at both, and where it is this one, both answer alike; any datagram leaves the map and the frames of every slot,
-- and one that finds another slot, or none, leaves this one
pub record SlotsIsolated : Type 0 where
  pub found : (one other : ServerState) (d : ℕ) (from : Address) (bytes : List ℕ) → Agree d one other → taker_of one from bytes ≡ taker_of other from bytes
  pub alike : (one other : ServerState) (d : ℕ) (from : Address) (bytes : List ℕ) → Agree d one other → taker_of one from bytes ≡ Some d
      → TakeAlike d (take_at one from bytes) (take_at other from bytes)
  pub maps : (server : ServerState) (from : Address) (bytes : List ℕ) → (take_at server from bytes).server.map ≡ server.map
  pub frames : (server : ServerState) (from : Address) (bytes : List ℕ) → (take_at server from bytes).server.frames ≡ server.frames
  pub slots : (server : ServerState) (d : ℕ) (from : Address) (bytes : List ℕ) → taker_of server from bytes ≢ Some d
      → slot_at (take_at server from bytes).server d ≡ slot_at server d
