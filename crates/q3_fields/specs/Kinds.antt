-- Kinds of fields, tables of them, and the normal form of a field's word.
use Rattle.std.specs.Prelude.{◌≡◌, ◌⊎◌, ℕ, ◌+◌, ◌-◌, ◌^◌, ◌%◌, ◌≤◌, ◌==◌, ◌&&◌, ◌||◌, nat_lt, nat_le, if◌then◌else◌, List, [], ◌∷◌, length, All, ℤ, pos, negsuc, Option, Some, None, Result, Ok, Err}
use Rattle.std.specs.Option.{ok_or}
use Rattle.q3_bits.specs.ResultBind.{◌>>=◌}
use Rattle.q3_fields.specs.declared.kind.Kind.{Kind}
use Rattle.q3_fields.specs.declared.kind.Kind.TheVariants.{Float, Unsigned, Signed}
use Rattle.q3_fields.specs.declared.table.TableError.{TableError}
use Rattle.q3_fields.specs.declared.table.TableError.TheVariants.{Fields, Width}

-- a signed field has 8, 16 or 24 bits
abbrev pub signed_of : ℕ → Option Kind
signed_of bits = if bits == 8 || bits == 16 || bits == 24 then Some (Signed bits) else None

-- the kind that a width says: 0 a float, 1 to 32 an unsigned field of as many bits, -8, -16 and -24 a signed one
abbrev pub kind_of : ℤ → Option Kind
kind_of (pos width) = if width == 0 then Some Float else (if nat_le width 32 then Some (Unsigned width) else None)
kind_of (negsuc below) = signed_of (below + 1)

-- a kind that some width says
abbrev pub IsKind : Kind → Type 0
IsKind Float = Unit {0}
IsKind (Unsigned width) = (1 ≤ width) × (width ≤ 32)
IsKind (Signed width) = (width ≡ 8) ⊎ ((width ≡ 16) ⊎ (width ≡ 24))

-- the kinds of these widths, counted from i, or the first width that isn't allowed
unfoldable pub kinds_from : ℕ → List ℤ → Result (List Kind) TableError
kinds_from i [] = Ok []
kinds_from i (width ∷ widths) = do
  kind ← ok_or (kind_of width) (Width i)
  kinds ← kinds_from (i + 1) widths
  Ok (kind ∷ kinds)

-- how many bits a number of an entity has: at least, as in the engine, and at most
abbrev pub least_number_bits : ℕ
least_number_bits = 10

abbrev pub most_number_bits : ℕ
most_number_bits = 12

-- so many bits are in that range
abbrev pub HasNumberBits : ℕ → Type 0
HasNumberBits bits = (least_number_bits ≤ bits) × (bits ≤ most_number_bits)

-- a table: the kinds of its fields, and how many bits a number of an entity has
pub record Layout : Type 0 where
  pub kinds : List Kind
  pub number_bits : ℕ

-- the table of 1 to 64 widths, in which the number of an entity has so many bits
unfoldable pub numbered_table : List ℤ → ℕ → Result Layout TableError
numbered_table widths bits = do
  kinds ← if nat_le 1 (length widths) && nat_le (length widths) 64 then kinds_from 0 widths else Err Fields
  Ok (record { kinds = kinds; number_bits = bits })

-- that in which it has the least number of bits
abbrev pub table_of : List ℤ → Result Layout TableError
table_of widths = numbered_table widths least_number_bits

-- 1 to 64 fields of allowed kinds
pub record AreKinds (kinds : List Kind) : Type 0 where
  pub some : 1 ≤ length kinds
  pub few : length kinds ≤ 64
  pub each : All IsKind kinds

-- a table has such fields, and numbers of 1 to 16 bits
pub record IsTable (table : Layout) : Type 0 where
  pub kinds : AreKinds table.kinds
  pub number_bits : (1 ≤ table.number_bits) × (table.number_bits ≤ 16)

-- the end mark of the entity numbers: all bits 1
abbrev pub end_mark : Layout → ℕ
end_mark table = 2 ^ table.number_bits - 1

-- the least and the most that it may be
abbrev pub least_end : ℕ
least_end = 2 ^ least_number_bits - 1

abbrev pub most_end : ℕ
most_end = 2 ^ most_number_bits - 1

-- a word cut to so many bits, with the last of them as its sign
abbrev pub sign_extended : ℕ → ℕ → ℕ
sign_extended width word =
    if nat_lt (word % 2 ^ width) (2 ^ (width - 1)) then word % 2 ^ width else word % 2 ^ width + 2 ^ 32 - 2 ^ width

-- the normal form of a field's word: a negative zero becomes 0 and other floats stay, an unsigned word is cut to its
-- bits, and a signed one is cut and its sign extended
unfoldable pub norm : Kind → ℕ → ℕ
norm Float word = if word == 2 ^ 31 then 0 else word
norm (Unsigned width) word = word % 2 ^ width
norm (Signed width) word = sign_extended width word
