-- How strings are kept: each somewhere in one piece of memory, with the place where it lies.
use Rattle.std.specs.Prelude.{ℕ, ◌+◌, ◌≤◌, List, length, map, take, drop, All}
use Rattle.q3_config.specs.declared.table.Place.{Place}

-- how many bytes there is room for
abbrev pub room : ℕ
room = 32768

-- the string at a place
abbrev pub text_in : List ℕ → Place → List ℕ
text_in bytes place = take place.length (drop place.start bytes)

-- the string at each place
abbrev pub texts_in : List ℕ → List Place → List (List ℕ)
texts_in bytes places = map (λ place. text_in bytes place) places

-- each place lies within the bytes
abbrev pub LieWithin : List ℕ → List Place → Type 0
LieWithin bytes places = All (λ place. place.start + place.length ≤ length bytes) places
