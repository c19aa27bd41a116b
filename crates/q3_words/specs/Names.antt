-- The name of a file in a line: a word of its own.
use Rattle.std.specs.Prelude.{ℕ, ◌≤◌, ◌&&◌, Bool, if◌then◌else◌, List, length, nat_le, All, Option, Some, None}
use Rattle.std.specs.List.{list_all}

-- the most bytes of a name
abbrev pub longest_name : ℕ
longest_name = 200

-- bytes that are a name: 1 to 200, each of which prints and is no space
abbrev pub IsName : List ℕ → Type 0
IsName name = (1 ≤ length name) × (length name ≤ longest_name) × All (λ byte. (33 ≤ byte) × (byte ≤ 126)) name

-- the same as a test
abbrev pub is_name_byte : ℕ → Bool
is_name_byte byte = nat_le 33 byte && nat_le byte 126

unfoldable pub is_name : List ℕ → Bool
is_name word = nat_le 1 (length word) && nat_le (length word) longest_name && list_all is_name_byte word

-- the name that a word is
unfoldable pub name_at : List ℕ → Option (List ℕ)
name_at word = if is_name word then Some word else None
