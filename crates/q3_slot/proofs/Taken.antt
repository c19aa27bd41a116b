-- What a slot does with a message that came whole.
use Rattle.std.proofs.Common.{◌≡◌, ℕ, List, Result, ap}
use Rattle.q3_io.specs.declared.address.Address.{Address}
use Rattle.q3_chan.specs.declared.gatherer.Gathered.{Gathered}
use Rattle.q3_chan.specs.declared.gatherer.Gathered.TheVariants as gathered
use Rattle.q3_chan.specs.Gathering.{Gathering, Took, gathered as gathered_of}
use Rattle.q3_chan.specs.Sending.{Sending}
use Rattle.q3_clmsg.specs.declared.error.ClientIllegible.{ClientIllegible}
use Rattle.q3_map.specs.Map.{MapState}
use Rattle.q3_profile.specs.declared.profile.Profile.{Profile}
use Rattle.q3_window.specs.Outgoing.{OutgoingState}
use Rattle.q3_slot.specs.declared.joined.Joined.{Joined}
use Rattle.q3_slot.specs.Slot.{SlotState}
use Rattle.q3_slot.specs.Slots.{slot_of, slot_with}
use Rattle.q3_slot.specs.Taking.{Came, run_read, said_by, take_answer, take_gathered, take_slot}

-- what came whole is read under its number
whole_runs : (map : MapState) (slot : SlotState) (c number count : ℕ) (took : Took) (read : ℕ → Result Came ClientIllegible)
    → took.answer ≡ gathered.Whole number count
    → take_gathered map slot c took read ≡ run_read map (record slot { gathering = took.gathering }) c number (read number)
whole_runs map slot c number count took read e = ap (λ (answer : Gathered). take_answer map (record slot { gathering = took.gathering }) c answer read) e

-- by the parts of a slot: the client that took over the address, what was gathered, the bytes of the message, and what was read
pub whole_is_taken : (profile : Profile) (map : MapState) (c : ℕ) (from : Address) (datagram : List ℕ) (sending : Sending) (gathering after : Gathering)
    (issued : OutgoingState) (client moved : Joined) (number count : ℕ) (bytes : List ℕ) (read : Result Came ClientIllegible)
    → moved ≡ record client { address = from }
    → after ≡ (gathered_of gathering datagram).gathering
    → (gathered_of gathering datagram).answer ≡ gathered.Whole number count
    → bytes ≡ (gathered_of gathering datagram).message
    → read ≡ said_by profile map (slot_with issued moved) bytes
    → take_slot profile map c from datagram (slot_of sending gathering issued client) ≡ run_read map (slot_of sending after issued moved) c number read
whole_is_taken profile map c from datagram sending gathering after issued client moved number count bytes read moved_is rest_is whole bytes_are read_is =
    let slot = slot_of sending gathering issued client in
    rw (read_is, bytes_are, moved_is, rest_is)
    (whole_runs map (record slot { address = from }) c number count (gathered_of gathering datagram)
    (λ number. said_by profile map slot (gathered_of gathering datagram).message) whole)
