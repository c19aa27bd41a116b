-- Places for what is kept of snapshots: each has the place of its number modulo 32.
use Rattle.std.specs.Prelude.{ℕ, ◌%◌, List, replicate, Option, Some, None, slice_index_or, slice_set}

abbrev pub most_places : ℕ
most_places = 32

-- the place of a number
abbrev pub place_of : ℕ → ℕ
place_of number = number % most_places

-- nothing is kept
abbrev pub no_places : {X : Type 0} → List (Option X)
no_places = replicate most_places None

-- what stands in the place of a number, whatever number it has itself
abbrev pub at_number : {X : Type 0} → List (Option X) → ℕ → Option X
at_number places number = slice_index_or places (place_of number) None

-- another stands in the place of a number
abbrev pub put_at_number : {X : Type 0} → List (Option X) → ℕ → X → List (Option X)
put_at_number places number x = slice_set places (place_of number) (Some x)
