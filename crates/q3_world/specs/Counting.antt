-- What a replay's world is to those who step it.
use Rattle.std.specs.Prelude.{ℕ, List}
use Rattle.q3_counts.specs.declared.counts.Counts.{Counts}
use Rattle.q3_world.specs.Kept.{Kept}

-- what the program's world keeps, what it counted, and the number of the file of each client's recording
pub record Counting : Type 0 where
  pub kept : Kept
  pub counts : Counts
  pub numbers : List ℕ
