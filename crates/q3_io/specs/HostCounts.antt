-- What is told of files and of a socket of the system: counts alone.
use Rattle.std.specs.Prelude.{ℕ, Bool}

-- how many numbers were given, and the counts of faults
pub record HostCounts : Type 0 where
  pub given : ℕ
  pub faults : ℕ
  pub write_faults : ℕ

-- a file beyond so many is a fault
abbrev pub most_files : ℕ
most_files = 32

-- of a socket: whether an address is bound, and the count of faults
pub record WireCounts : Type 0 where
  pub bound : Bool
  pub faults : ℕ
