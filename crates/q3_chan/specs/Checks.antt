-- The check of protocol 71, this project's own after ioquake3's: the challenge and the number of the message, mixed. That of message 1
-- is 0.
use Rattle.std.specs.Prelude.{ℕ, ◌*◌, ◌%◌, ◌^◌, ◌==◌, if◌then◌else◌, Bool, Option, Some, None}
use Rattle.std.specs.Int.Bits.{bit_xor}

-- whether each datagram has a check by a protocol, and nothing is scrambled: so by protocol 71
abbrev pub is_checked : ℕ → Bool
is_checked protocol = protocol == 71

-- by what the datagrams between a server and the client that joined with a challenge are checked: the challenge, or nothing
abbrev pub check_for : ℕ → ℕ → Option ℕ
check_for protocol challenge = if is_checked protocol then Some challenge else None

-- the check of a message's number, in 32 bits
abbrev pub check_of : ℕ → ℕ → ℕ
check_of challenge number = bit_xor challenge (number * challenge) % 2 ^ 32
