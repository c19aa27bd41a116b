-- What is told of a clock, and what a reading changes.
use Rattle.std.specs.Prelude.{◌≡◌, ℕ, ◌≤◌, List, [], ◌∷◌, Option, Some, None}

-- the next of the readings that are still to come, and those after it: the last is given again and again
abbrev pub reading_of : List ℕ → ℕ
reading_of [] = 0
reading_of (next ∷ others) = next

abbrev pub readings_after : List ℕ → List ℕ
readings_after (next ∷ other ∷ others) = other ∷ others
readings_after others = others

-- a reading is taken
abbrev pub Reads : Option (List ℕ) → Option (List ℕ) → ℕ → Type 0
Reads None now reading = now ≡ None
Reads (Some readings) now reading = (reading ≡ reading_of readings) × (now ≡ Some (readings_after readings))

-- readings that don't fall, from one that was given before
abbrev pub DontFall : ℕ → List ℕ → Type 0
DontFall last [] = Unit {0}
DontFall last (next ∷ others) = (last ≤ next) × DontFall next others
