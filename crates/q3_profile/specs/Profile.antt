-- The profile that a file's bytes spell, or the first rule that they break.
use Rattle.std.specs.Prelude.{◌≤◌, ◌≡◌, ℕ, ◌==◌, ◌&&◌, ◌||◌, if◌then◌else◌, Bool, true, List, length, map, nat_lt, nat_le, ℤ, pos, negsuc, Result, Ok, Err}
use Rattle.std.specs.Int.{is_power_of_two}
use Rattle.std.specs.Option.{ok_or, option_map_or, is_some}
use Rattle.std.specs.Result.{result_map_both}
use Rattle.toml.specs.Data.{Members, get_member, as_integer, as_str}
use Rattle.q3_bits.specs.CodeWords.{bits_of_text, code_fault}
use Rattle.q3_fields.specs.declared.table.TableError.{TableError}
use Rattle.q3_fields.specs.declared.table.TableError.TheVariants as table
use Rattle.q3_fields.specs.Kinds.{Layout, HasNumberBits, IsTable, numbered_table, least_number_bits, most_number_bits}
use Rattle.q3_bits.specs.ResultBind.{◌>>=◌}
use Rattle.q3_bits.specs.Words.{IsCode}
use Rattle.q3_profile.specs.declared.error.Key.{Key}
use Rattle.q3_profile.specs.declared.error.Key.TheVariants.{File, Protocol, ServerRing, ParseRing, EntityBits, Entity, Player, Code}
use Rattle.q3_profile.specs.declared.error.ProfileError.{ProfileError}
use Rattle.q3_profile.specs.declared.error.ProfileError.TheVariants as errors
use Rattle.q3_profile.specs.declared.profile.Profile.{Profile}
use Rattle.q3_profile.specs.Document.{document_of, key_name, integer_at, array_at}
use Rattle.q3_profile.specs.Mark.{mark_of}

-- the longest file
abbrev pub longest_profile : ℕ
longest_profile = 1048576

-- 68, or 71
abbrev pub is_protocol : ℕ → Bool
is_protocol n = n == 68 || n == 71

-- 256 to 262,144 places
abbrev pub is_server_ring : ℕ → Bool
is_server_ring n = nat_le 256 n && nat_le n 262144

-- a power of two from 512 to 65,536
abbrev pub is_parse_ring : ℕ → Bool
is_parse_ring n = nat_le 512 n && nat_le n 65536 && is_power_of_two n

-- as many bits as the number of an entity may have: 10 to 12
abbrev pub is_entity_bits : ℕ → Bool
is_entity_bits n = nat_le least_number_bits n && nat_le n most_number_bits

-- a number that meets the rule of its key
abbrev pub ruled : Key → (ℕ → Bool) → ℤ → Result ℕ ProfileError
ruled key rule (pos n) = if rule n then Ok n else Err (errors.Limit key)
ruled key rule (negsuc n) = Err (errors.Limit key)

-- the number under a key
abbrev pub number_at : Key → (ℕ → Bool) → Members → Result ℕ ProfileError
number_at key rule document = do
  number ← integer_at key document
  ruled key rule number

-- the number under a key that may be missing, and is this one then
abbrev pub number_or : ℕ → Key → (ℕ → Bool) → Members → Result ℕ ProfileError
number_or missing key rule document = if is_some (get_member (key_name key) document) then number_at key rule document else Ok missing

abbrev pub table_error : Key → TableError → ProfileError
table_error key table.Fields = errors.Fields key
table_error key (table.Width i) = errors.Width key i

-- the table of the widths under a key, in which the number of an entity has so many bits
abbrev pub table_at : Key → ℕ → Members → Result Layout ProfileError
table_at key bits document = do
  widths ← array_at as_integer key document
  result_map_both (λ table. table) (table_error key) (numbered_table widths bits)

-- the code of these texts
abbrev pub code_of : List (List ℕ) → Result (List (List Bool)) ProfileError
code_of texts = option_map_or (λ e. Err (errors.Code e)) (code_fault texts) (Ok (map bits_of_text texts))

-- the keys in their order, each with its rule
unfoldable pub profile_at : ℕ → Members → Result Profile ProfileError
profile_at mark document = do
  protocol ← number_at Protocol is_protocol document
  server_ring ← number_at ServerRing is_server_ring document
  parse_ring ← number_at ParseRing is_parse_ring document
  entity_bits ← number_or least_number_bits EntityBits is_entity_bits document
  entity ← table_at Entity entity_bits document
  player ← table_at Player least_number_bits document
  texts ← array_at as_str Code document
  code ← code_of texts
  Ok (record { code = code; entity = entity; player = player; server_ring = server_ring; parse_ring = parse_ring; protocol = protocol; mark = mark })

-- the profile of a file's bytes, or the first rule that fails: the length, the document, and then the keys
unfoldable pub checked : List ℕ → Result Profile ProfileError
checked bytes = do
  document ← if nat_lt longest_profile (length bytes) then Err (errors.Limit File) else ok_or (document_of bytes) errors.NotToml
  profile_at (mark_of bytes) document

-- what every profile of the program's type is, as its code and its tables tell: a code, and tables; the numbers of
-- entities have as many bits as are allowed
pub record IsCodec (profile : Profile) : Type 0 where
  pub code : IsCode profile.code
  pub entity : IsTable profile.entity
  pub player : IsTable profile.player
  pub numbers : HasNumberBits profile.entity.number_bits

-- a profile whose rings and protocol passed their checks
pub record IsProfile (profile : Profile) : Type 0 where
  pub server_ring : is_server_ring profile.server_ring ≡ true
  pub parse_ring : is_parse_ring profile.parse_ring ≡ true
  pub protocol : is_protocol profile.protocol ≡ true
