-- How the ends keep in a buffer what the definitions say of them.
use Rattle.std.specs.Prelude.{◌≡◌, ◌*◌, ◌<◌, ◌≤◌, length, take, MatchOption, ⊤}
use Rattle.std.specs.Option.{option_map}
use Rattle.q3_chan.specs.declared.sender.Sender.TheInside.{Inside as SenderInside}
use Rattle.q3_chan.specs.declared.gatherer.Gatherer.TheInside.{Inside as GathererInside}
use Rattle.q3_chan.specs.Datagrams.{fragment_size, longest_message, sequence_end}
use Rattle.q3_chan.specs.Sending.{Sending}
use Rattle.q3_chan.specs.Gathering.{Gathering}

-- the message is the front of the buffer
abbrev pub sending_of : SenderInside → Sending
sending_of s = record {
  header = s.header;
  number = s.number;
  under_way = option_map (λ index. record { message = take s.count s.buffer.items; next = index }) s.index;
}

-- the buffer has room for the longest message, and the next piece starts within the message
pub record IsSending (s : SenderInside) : Type 0 where
  pub room : length s.buffer.items ≡ longest_message
  pub most : s.count ≤ longest_message
  pub number : s.number < sequence_end
  pub within : MatchOption s.index ⊤ (λ index. fragment_size * index ≤ s.count)

-- what was gathered is the front of the buffer
abbrev pub gathering_in : GathererInside → Gathering
gathering_in g = record { form = g.form; taken = g.taken; number = g.number; bytes = take g.count g.buffer.items }

-- the buffer has room for the longest message
pub record IsGathering (g : GathererInside) : Type 0 where
  pub room : length g.buffer.items ≡ longest_message
  pub most : g.count ≤ longest_message
