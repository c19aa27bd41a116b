-- The snapshots that a client holds as bytes: their ages, and not the places of their entities.
use Rattle.std.specs.Prelude.{ℕ, zero, suc, ◌-◌, ◌*◌, ◌^◌, ◌==◌, ◌&&◌, ◌||◌, nat_le, nat_lt, if◌then◌else◌, Bool, true, List, [], ◌∷◌, length, min, map, ℤ, Ok}
use Rattle.std.specs.Int.{w16, cast_unsigned, cast_signed}
use Rattle.std.specs.List.{flat_map, concat}
use Rattle.std.specs.Option.{is_none}
use Rattle.byteorder.specs.Endian.{little_bytes, little_number}
use Rattle.q3_bits.specs.ResultBind.{◌>>=◌}
use Rattle.q3_entity.specs.Entities.{most_entities}
use Rattle.q3_player.specs.declared.state.PlayerState.{PlayerState}
use Rattle.q3_player.specs.declared.head.SnapHead.{SnapHead}
use Rattle.q3_profile.specs.declared.profile.Profile.{Profile}
use Rattle.q3_entity_ring.specs.Places.{most_places, at_number}
use Rattle.q3_rings.specs.Rings.{HeldSnapshot, HeldSnapshots, no_snapshots, is_young, put_back_at}
use Rattle.q3_rings.specs.ByNumber.{by_number}
use Rattle.q3_savestate.specs.Cursor.{Cursor, Field, field_at, number_at}
use Rattle.q3_savestate.specs.Entities.{counted, words_bytes, state_words_at, entity_bytes, entities_at}

-- the numbers of messages are up to this one
abbrev pub last_number : ℕ
last_number = 2147483647

-- ---- what is written

-- signed values of two bytes, and words of four
abbrev pub shorts_bytes : List ℤ → List ℕ
shorts_bytes values = flat_map (λ value. little_bytes 2 (cast_unsigned w16 value)) values

abbrev pub player_bytes : Profile → PlayerState → List ℕ
player_bytes profile player =
    concat (words_bytes profile.player.kinds player.words ∷ shorts_bytes player.stats ∷ shorts_bytes player.persistant ∷ shorts_bytes player.ammo
    ∷ flat_map (little_bytes 4) player.powerups ∷ [])

-- a head, but for its number
abbrev pub head_bytes : Profile → SnapHead → List ℕ
head_bytes profile head =
    concat (little_bytes 4 head.time ∷ little_bytes 1 head.flags ∷ little_bytes 1 (length head.area.items) ∷ head.area.items ∷ player_bytes profile head.player ∷ [])

-- a snapshot: its number, its age, its head, and its entities as far as they are there
abbrev pub snapshot_bytes : Profile → HeldSnapshot → List ℕ
snapshot_bytes profile held =
    concat (little_bytes 4 held.snapshot.head.number ∷ little_bytes 4 held.age ∷ head_bytes profile held.snapshot.head
    ∷ counted (entity_bytes profile.entity) held.snapshot.entities ∷ [])

-- the newest number, how many are held, and these by rising number
abbrev pub snapshots_bytes : Profile → HeldSnapshots → List ℕ
snapshots_bytes profile snapshots =
    concat (little_bytes 4 snapshots.newest ∷ little_bytes 1 (length (by_number snapshots)) ∷ flat_map (snapshot_bytes profile) (by_number snapshots) ∷ [])

-- ---- what is read

-- so many numbers of so many bytes
unfoldable pub numbers_at : ℕ → ℕ → Cursor → Field (List ℕ)
numbers_at bytes zero cursor = Ok ([], cursor)
numbers_at bytes (suc count) cursor = do
  number ← number_at bytes 0 (2 ^ (8 * bytes) - 1) cursor
  others ← numbers_at bytes count number.1
  Ok (number.0 ∷ others.0, others.1)

abbrev pub shorts_at : Cursor → Field (List ℤ)
shorts_at cursor = do
  numbers ← numbers_at 2 16 cursor
  Ok (map (cast_signed w16) numbers.0, numbers.1)

unfoldable pub player_at : Profile → Cursor → Field PlayerState
player_at profile cursor = do
  words ← state_words_at profile.player.kinds cursor
  stats ← shorts_at words.1
  persistant ← shorts_at stats.1
  ammo ← shorts_at persistant.1
  powerups ← numbers_at 4 16 ammo.1
  Ok (record { words = words.0; stats = stats.0; persistant = persistant.0; ammo = ammo.0; powerups = powerups.0 }, powerups.1)

-- a head under a number
unfoldable pub head_at : Profile → ℕ → Cursor → Field SnapHead
head_at profile number cursor = do
  time ← number_at 4 0 4294967295 cursor
  flags ← number_at 1 0 255 time.1
  length ← number_at 1 0 32 flags.1
  area ← field_at length.0 (λ bytes. bytes) (λ bytes. true) length.1
  player ← player_at profile area.1
  Ok (record { number = number; time = time.0; flags = flags.0; area = record { items = area.0 }; player = player.0 }, player.1)

-- the number of a snapshot before so many others: above that of the one before, modulo 32 another than any before, and that of the last is
-- the newest
abbrev pub is_slot : HeldSnapshots → ℕ → ℕ → ℕ → Bool
is_slot held newest left number =
    nat_lt held.newest number && nat_le number last_number && is_none (at_number held.places number) && (nat_lt 0 left || (number == newest))

abbrev pub slot_at : HeldSnapshots → ℕ → ℕ → Cursor → Field ℕ
slot_at held newest left = field_at 4 (little_number 4) (is_slot held newest left)

-- how many entities a snapshot of an age may have: none where they are gone
abbrev pub most_of : ℕ → ℕ → ℕ
most_of ring age = if is_young ring age then min most_entities age else 0

-- one of them, of at most this age
unfoldable pub snapshot_at : Profile → HeldSnapshots → ℕ → ℕ → ℕ → Cursor → Field HeldSnapshot
snapshot_at profile held newest left most cursor = do
  number ← slot_at held newest left cursor
  age ← number_at 4 0 most number.1
  head ← head_at profile number.0 age.1
  count ← number_at 2 0 (most_of held.ring age.0) head.1
  entities ← entities_at profile.entity count.0 0 count.1
  Ok (record { snapshot = record { head = head.0; entities = entities.0 }; age = age.0 }, entities.1)

-- so many after others, each older than the next by its own entities
unfoldable pub snapshots_after : Profile → ℕ → ℕ → ℕ → HeldSnapshots → Cursor → Field HeldSnapshots
snapshots_after profile newest zero most held cursor = Ok (held, cursor)
snapshots_after profile newest (suc left) most held cursor = do
  one ← snapshot_at profile held newest left most cursor
  snapshots_after profile newest left (one.0.age - length one.0.snapshot.entities) (put_back_at held one.0) one.1

unfoldable pub snapshots_at : Profile → Cursor → Field HeldSnapshots
snapshots_at profile cursor = do
  newest ← number_at 4 0 last_number cursor
  count ← number_at 1 (if newest.0 == 0 then 0 else 1) most_places newest.1
  snapshots_after profile newest.0 count.0 4294967295 (no_snapshots profile.parse_ring) count.1
