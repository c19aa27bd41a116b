-- What a message is in the buffer in which it is written.
use Rattle.std.specs.Prelude.{◌≡◌, ◌↔◌, ℕ, ◌<◌, Bool, List, take, length, Result, IsErr, IfOk}
use Rattle.q3_bits.specs.Bits.{message_bytes, message_length}
use Rattle.q3_bits.specs.declared.writer.Overflow.{Overflow}
use Rattle.q3_chan.specs.Datagrams.{longest_message}
use Rattle.q3_chan.specs.Keys.{Key, client_scrambled}

-- a message's bytes stand at the front of a buffer, by protocol 68 scrambled after the three leading longs; it is refused exactly
-- where it is too long
pub record FillsScrambled (key : Key) (bits : List Bool) (new : List ℕ) (result : Result ℕ Overflow) : Type 0 where
  pub refused : IsErr result ↔ (longest_message < message_length (length bits))
  pub ok : IfOk result (λ count. (count ≡ message_length (length bits)) × (take count new ≡ client_scrambled key (message_bytes bits)))
  pub room : length new ≡ longest_message
