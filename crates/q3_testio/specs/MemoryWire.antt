-- A wire in memory: what each call answers, and what stands after it.
use Rattle.std.specs.Prelude.{ℕ, ◌-◌, Bool, not, ◌&&◌, nat_le, nat_lt, if◌then◌else◌, List, [], ◌∷◌, ◌++◌, length, Option, None}
use Rattle.q3_io.specs.declared.address.Address.{Address}
use Rattle.q3_io.specs.Traffic.{Parcel, Traffic, after_bind as bound_to, after_send as sent_to, after_receive as received}
use Rattle.q3_testio.specs.MemoryCalls.{MadeCalls, one_more, next_fails, after_call}

-- what is told, how many more arrivals and sendings there may be, for how many bytes more there is room, the calls, and the count of
-- faults
pub record WireState : Type 0 where
  pub traffic : Traffic
  pub arrivals : ℕ
  pub sends : ℕ
  pub room : ℕ
  pub calls : MadeCalls
  pub faults : ℕ

-- nothing is bound, nothing will arrive, and nothing was sent
abbrev pub no_traffic : ℕ → ℕ → ℕ → List ℕ → WireState
no_traffic arrivals sends room fails = record {
  traffic = record { at = None; arrivals = []; sent = [] };
  arrivals = arrivals;
  sends = sends;
  room = room;
  calls = record { made = 0; fails = fails };
  faults = 0;
}

-- after a fault nothing else has changed
abbrev pub after_fault : WireState → WireState
after_fault wire = record wire { calls = after_call wire.calls; faults = one_more wire.faults }

-- whether the next call isn't one of those that fail
abbrev pub goes : WireState → Bool
goes wire = not (next_fails wire.calls)

abbrev pub after_bind : WireState → Address → WireState
after_bind wire at = if goes wire then record wire { traffic = bound_to wire.traffic at; calls = after_call wire.calls } else after_fault wire

-- a datagram is sent exactly where there is room for it, too
abbrev pub sends : WireState → List ℕ → Bool
sends wire bytes = goes wire && (nat_lt 0 wire.sends && nat_le (length bytes) wire.room)

abbrev pub after_send : WireState → Address → List ℕ → WireState
after_send wire to bytes =
    if sends wire bytes
    then record wire {
      traffic = sent_to wire.traffic to bytes;
      sends = wire.sends - 1;
      room = wire.room - length bytes;
      calls = after_call wire.calls;
    }
    else after_fault wire

abbrev pub after_receive : WireState → WireState
after_receive wire = if goes wire then record wire { traffic = received wire.traffic; calls = after_call wire.calls } else after_fault wire

-- one further `receive` will find this, after those that are told already, exactly where there is room for it
abbrev pub can_tell : WireState → List ℕ → Bool
can_tell wire bytes = nat_lt 0 wire.arrivals && nat_le (length bytes) wire.room

abbrev pub after_telling : WireState → Option Parcel → List ℕ → WireState
after_telling wire found bytes =
    if can_tell wire bytes
    then record wire {
      traffic = record wire.traffic { arrivals = wire.traffic.arrivals ++ found ∷ [] };
      arrivals = wire.arrivals - 1;
      room = wire.room - length bytes;
    }
    else wire
