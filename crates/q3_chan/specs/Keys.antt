-- By what the messages of either end are scrambled, and which of their bytes are.
use Rattle.std.specs.Prelude.{ℕ, ◌*◌, ◌%◌, ◌&&◌, not, nat_lt, if◌then◌else◌, Bool, List, Option, Some, None}
use Rattle.std.specs.Int.Bits.{bit_xor}
use Rattle.q3_chan.specs.declared.side.Side.{Side}
use Rattle.q3_chan.specs.declared.side.Side.TheVariants.{Server, Client}
use Rattle.q3_chan.specs.Checks.{is_checked}
use Rattle.q3_chan.specs.Scrambling.{scrambled}

-- by what a message is scrambled: the number from which its keys start, or none where it isn't scrambled, and the text by which they go on
pub record Key : Type 0 where
  pub start : Option ℕ
  pub text : List ℕ

-- from which number the keys of a server's message under a number start, to the client that joined with a challenge: its low 8 bits
-- count
abbrev pub server_start : ℕ → ℕ → ℕ
server_start challenge number = bit_xor challenge number % 256

-- and those of a client's message with a server id and the number of the newest message that it acknowledges
abbrev pub client_start : ℕ → ℕ → ℕ → ℕ
client_start challenge id acknowledged = bit_xor (bit_xor challenge id) acknowledged % 256

-- keys start there by a protocol that scrambles
abbrev pub start_by : ℕ → ℕ → Option ℕ
start_by protocol start = if is_checked protocol then None else Some start

-- the key of a server's message by a protocol, by the text of a client command
abbrev pub server_key : ℕ → ℕ → ℕ → List ℕ → Key
server_key protocol challenge number text = record { start = start_by protocol (server_start challenge number); text = text }

-- the key of a client's message, by the text of a server command
abbrev pub client_key : ℕ → ℕ → ℕ → ℕ → List ℕ → Key
client_key protocol challenge id acknowledged text = record { start = start_by protocol (client_start challenge id acknowledged); text = text }

-- ---- what stays clear

-- how many bytes of an end's message stay clear: those of its leading longs
abbrev pub clear_bytes : Side → ℕ
clear_bytes Server = 4
clear_bytes Client = 12

-- whether so many bits of leading longs are more than stay clear, by a protocol that scrambles
abbrev pub is_unclear : ℕ → Side → ℕ → Bool
is_unclear protocol side bits = not (is_checked protocol) && nat_lt (8 * clear_bytes side) bits

-- a message scrambled from a place on, if keys start from a number
abbrev pub scrambled_by : ℕ → Option ℕ → List ℕ → List ℕ → List ℕ
scrambled_by from None text bytes = bytes
scrambled_by from (Some start) text bytes = scrambled from start text bytes

-- a message of an end, scrambled after its leading longs
abbrev pub side_scrambled : Side → Key → List ℕ → List ℕ
side_scrambled side key bytes = scrambled_by (clear_bytes side) key.start key.text bytes

-- a server's
abbrev pub server_scrambled : Key → List ℕ → List ℕ
server_scrambled key bytes = side_scrambled Server key bytes

-- and a client's
abbrev pub client_scrambled : Key → List ℕ → List ℕ
client_scrambled key bytes = side_scrambled Client key bytes
