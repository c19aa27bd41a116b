-- A list read round its end, and one filled up to its room.
use Rattle.std.specs.Prelude.{ℕ, ◌-◌, List, ◌++◌, length, take, drop, replicate}

-- a list from a place on, and after its end from its front
abbrev pub turned : {X : Type 0} → ℕ → List X → List X
turned place cells = drop place cells ++ take place cells

-- a list with the same after it, up to so many in all
abbrev pub filled : {X : Type 0} → X → ℕ → List X → List X
filled empty room cells = cells ++ replicate (room - length cells) empty
