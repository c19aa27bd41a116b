-- Numbers in decimal.
use Rattle.std.specs.Prelude.{ℕ, ◌+◌, ◌-◌, ◌*◌, ◌^◌, ◌&&◌, ◌||◌, Bool, if◌then◌else◌, List, length, fold, nat_lt, nat_le, slice_index, Option, Some, None}
use Rattle.std.specs.List.{list_all}

abbrev pub is_digit : ℕ → Bool
is_digit byte = nat_le 48 byte && nat_le byte 57

-- the number that digits spell
abbrev pub value_of : List ℕ → ℕ
value_of digits = fold (λ value digit. 10 * value + (digit - 48)) 0 digits

-- digits alone, at least one, and no 0 before others
abbrev pub is_decimal : List ℕ → Bool
is_decimal word = nat_lt 0 (length word) && list_all is_digit word && (nat_le (length word) 1 || nat_lt 48 (slice_index word 0))

-- the number that a word spells, if it is one from low to high
unfoldable pub number_at : ℕ → ℕ → List ℕ → Option ℕ
number_at low high word =
    if is_decimal word && nat_le low (value_of word) && nat_le (value_of word) high then Some (value_of word) else None

-- a number in an info string: below 2 ^ 31
abbrev pub info_number : List ℕ → Option ℕ
info_number word = number_at 0 (2 ^ 31 - 1) word
