-- The calls of an object in memory, and those of them that are made to fail.
use Rattle.std.specs.Prelude.{ℕ, ◌+◌, ◌==◌, min, Bool, List}
use Rattle.std.specs.List.{list_any}
use Rattle.q3_io.specs.Faults.{last_count}

-- how many calls were made, and the numbers of those that fail, counted from 1
pub record MadeCalls : Type 0 where
  pub made : ℕ
  pub fails : List ℕ

-- a count that rises by one, and stands still at its last value
abbrev pub one_more : ℕ → ℕ
one_more count = min (count + 1) last_count

-- whether the next call is one of those that fail
abbrev pub next_fails : MadeCalls → Bool
next_fails calls = list_any (λ call. call == one_more calls.made) calls.fails

abbrev pub after_call : MadeCalls → MadeCalls
after_call calls = record calls { made = one_more calls.made }
