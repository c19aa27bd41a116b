-- How a list of commands keeps its places.
use Rattle.std.specs.Prelude.{◌≡◌, ℕ, ◌≤◌, List, length}
use Rattle.q3_text.specs.declared.text.Command.{Command}

-- the most commands of a list
abbrev pub most_commands : ℕ
most_commands = 64

-- there are as many places as may be used, of which so many are
pub record HasPlaces (places : List Command) (count : ℕ) : Type 0 where
  pub all : length places ≡ most_commands
  pub used : count ≤ most_commands
