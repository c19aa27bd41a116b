-- The profile's file as a document: what stands under a key.
use Rattle.std.specs.Prelude.{ℕ, if◌then◌else◌, List, [], codes, ℤ, Option, None, Result}
use Rattle.std.specs.Option.{ok_or}
use Rattle.std.specs.Str.{is_utf8}
use Rattle.toml.specs.Data.{Data, Members, get_member, as_integer, as_array}
use Rattle.toml.specs.Parse.{parse_document}
use Rattle.q3_bits.specs.ResultBind.{◌>>=◌}
use Rattle.q3_profile.specs.declared.error.Key.{Key}
use Rattle.q3_profile.specs.declared.error.Key.TheVariants as keys
use Rattle.q3_profile.specs.declared.error.ProfileError.{ProfileError}
use Rattle.q3_profile.specs.declared.error.ProfileError.TheVariants.{Missing, Kind}
use Rattle.q3_profile.specs.Items.{items_as}

-- the document that the bytes are: TOML in UTF-8
unfoldable pub document_of : List ℕ → Option Members
document_of bytes = if is_utf8 bytes then parse_document bytes else None

-- a key as the file spells it; the file itself has none
abbrev pub key_name : Key → List ℕ
key_name keys.File = []
key_name keys.Protocol = codes "protocol"
key_name keys.ServerRing = codes "server_ring"
key_name keys.ParseRing = codes "parse_ring"
key_name keys.EntityBits = codes "entity_bits"
key_name keys.Entity = codes "entity"
key_name keys.Player = codes "player"
key_name keys.Code = codes "code"

-- what stands under a key
abbrev pub value_at : Key → Members → Result Data ProfileError
value_at key document = ok_or (get_member (key_name key) document) (Missing key)

-- the integer under a key
unfoldable pub integer_at : Key → Members → Result ℤ ProfileError
integer_at key document = do
  value ← value_at key document
  ok_or (as_integer value) (Kind key)

-- the array under a key, whose items are all integers, or all texts
unfoldable pub array_at : {A : Type 0} → (Data → Option A) → Key → Members → Result (List A) ProfileError
array_at type key document = do
  value ← value_at key document
  items ← ok_or (as_array value) (Kind key)
  ok_or (items_as type items) (Kind key)
