-- Which client a datagram came from.
use Rattle.std.specs.Prelude.{◌≡◌, ℕ, ◌^◌, ◌<◌, nat_lt, if◌then◌else◌, Bool, is_some, List, length, drop, Result, Ok, Err}
use Rattle.byteorder.specs.Endian.{little_number}
use Rattle.q3_chan.specs.declared.qport.NoQport.{NoQport}
use Rattle.q3_chan.specs.declared.qport.NoQport.TheVariants.{Runt, Connectionless}
use Rattle.q3_chan.specs.declared.side.Side.TheVariants.{Client}
use Rattle.q3_chan.specs.Datagrams.{Header, sequence_end, piece_count, is_fragment, header_length, datagram}
use Rattle.q3_chan.specs.Gathering.{is_connectionless}
use Rattle.q3_chan.specs.Laws.{IsSendable}

-- the qport after the number of a client's message
abbrev pub qport_in : List ℕ → ℕ
qport_in bytes = little_number 2 (drop 4 bytes)

-- the qport of a client's datagram, which has a check or none, or why it has no qport
unfoldable pub qport_of : Bool → List ℕ → Result ℕ NoQport
qport_of checked bytes =
    if nat_lt (length bytes) 4 then Err Runt else
    if is_connectionless bytes then Err Connectionless else
    if nat_lt (length bytes) (header_length Client checked (is_fragment bytes)) then Err Runt else Ok (qport_in bytes)

-- a client's datagram tells its qport
abbrev pub QportIsTold : Type 0
QportIsTold = (header : Header) (number index : ℕ) (message : List ℕ) → header.form.side ≡ Client → header.qport < 2 ^ 16 → number < sequence_end → IsSendable message
    → index < piece_count (length message) → qport_of (is_some header.form.check) (datagram header number message index) ≡ Ok header.qport
