-- A sink in memory.
use Rattle.std.specs.Prelude.{ℕ, ◌+◌, Bool, not, ◌&&◌, nat_le, if◌then◌else◌, List, ◌++◌, length}
use Rattle.q3_testio.specs.MemoryCalls.{MadeCalls, one_more, next_fails, after_call}

-- the bytes, how many there may be, the calls, and the count of faults
pub record SinkState : Type 0 where
  pub written : List ℕ
  pub room : ℕ
  pub calls : MadeCalls
  pub faults : ℕ

-- the next write is Ok exactly where it isn't one of the calls that fail, and its bytes fit
abbrev pub takes : SinkState → List ℕ → Bool
takes sink bytes = not (next_fails sink.calls) && nat_le (length sink.written + length bytes) sink.room

-- all of the bytes are there, or none, and a fault was counted
abbrev pub after_write : SinkState → List ℕ → SinkState
after_write sink bytes =
    if takes sink bytes
    then record sink { written = sink.written ++ bytes; calls = after_call sink.calls }
    else record sink { calls = after_call sink.calls; faults = one_more sink.faults }
