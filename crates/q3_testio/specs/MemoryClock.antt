-- A clock in memory.
use Rattle.std.specs.Prelude.{ℕ, List}
use Rattle.q3_io.specs.Readings.{reading_of, readings_after}

-- the reading that was given last, 0 before the first, and those still to come
pub record ClockState : Type 0 where
  pub last : ℕ
  pub readings : List ℕ

abbrev pub after_reading : ClockState → ClockState
after_reading clock = record { last = reading_of clock.readings; readings = readings_after clock.readings }
