-- A line buffer in front of a sink.
use Rattle.std.specs.Prelude.{ℕ, ◌&&◌, nat_le, if◌then◌else◌, List, [], ◌++◌, length, Option, Some, None, Result, is_ok}
use Rattle.q3_io.specs.Written.{Written}

-- the sink, and the bytes that wait to be handed on to it
pub record LineState (S : Type 0) : Type 0 where
  pub sink : S
  pub held : List ℕ

-- so many bytes are held at most
abbrev pub most_held : ℕ
most_held = 1024

-- what is held after bytes that didn't fit beside others: they alone, or nothing where they are too many or a write failed
abbrev pub held_alone : {T E : Type 0} → List ℕ → Result T E → List ℕ
held_alone bytes result = if is_ok result && nat_le (length bytes) most_held then bytes else []

-- what is told where bytes are held after those of a sink
abbrev pub with_held : Option Written → List ℕ → Option Written
with_held None held = None
with_held (Some written) held = Some (record written { waits = written.waits ++ held })
