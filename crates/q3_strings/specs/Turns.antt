-- Operations that are read one after the other: each takes a bit at least, so there are at most as many as bits.
use Rattle.std.specs.Prelude.{◌≡◌, ℕ, suc, ◌+◌, ◌≤◌, Bool, List, length}
use Rattle.q3_bits.specs.Streams.{Reading}

-- so many operations were read: as many turns are left as bits or more, and they answer what all did at the start
pub record HasTurned {A : Type 0} (start now : Reading) (answer : ℕ → List Bool → A) (whole : A) : Type 0 where
  pub words : now.words ≡ start.words
  pub place : now.place + length now.left ≡ start.place + length start.left
  pub turns : ℕ
  pub enough : length now.left ≤ turns
  pub reads : answer turns now.left ≡ whole

-- where an operation was read, a turn is taken of those that are left
pub record HasTurn (turns : ℕ) (rest : List Bool) : Type 0 where
  pub left : ℕ
  pub is : turns ≡ suc left
  pub enough : length rest ≤ left
