-- Small floats: the patterns of the whole numbers from -4096 to 4095.
use Rattle.std.specs.Prelude.{ℕ, zero, suc, ◌+◌, ◌-◌, ◌*◌, ◌^◌, ◌==◌, nat_le, if◌then◌else◌, List, map, find, ℤ, pos, negsuc, ◌-ℤ◌, Option, Some}
use Rattle.std.specs.List.{range_with_len}

-- the greatest exponent up to this one whose power of two is at most m
unfoldable pub exponent_up_to : ℕ → ℕ → ℕ
exponent_up_to zero m = 0
exponent_up_to (suc e) m = if nat_le (2 ^ (e + 1)) m then e + 1 else exponent_up_to e m

-- exponent and fraction of m, which is 1 to 4096: with 2 ^ e the greatest power of two that is at most m
unfoldable pub magnitude : ℕ → ℕ
magnitude m = with_exponent (exponent_up_to 12 m)
  where
    with_exponent : ℕ → ℕ
    with_exponent e = (127 + e) * 2 ^ 23 + (m - 2 ^ e) * 2 ^ (23 - e)

-- the pattern of a whole number: sign, exponent and fraction
unfoldable pub pattern : ℤ → ℕ
pattern (pos zero) = 0
pattern (pos (suc k)) = magnitude (k + 1)
pattern (negsuc k) = 2 ^ 31 + magnitude (k + 1)

-- the whole numbers whose patterns are small floats
unfoldable pub small_numbers : List ℤ
small_numbers = map (λ n. pos n -ℤ pos 4096) (range_with_len 0 8192)

-- the number whose pattern a small float is; a negative zero is 0
unfoldable pub small_float : ℕ → Option ℤ
small_float word = if word == 2 ^ 31 then Some (pos 0) else find (λ k. pattern k == word) small_numbers
