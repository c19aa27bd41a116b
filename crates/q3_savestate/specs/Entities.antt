-- Words of states, entities and baselines as bytes.
use Rattle.std.specs.Prelude.{ℕ, zero, suc, ◌+◌, ◌-◌, ◌==◌, List, [], ◌∷◌, ◌++◌, length, take, replicate, Ok}
use Rattle.std.specs.List.{flat_map, fold}
use Rattle.byteorder.specs.Endian.{little_bytes, little_number}
use Rattle.q3_bits.specs.ResultBind.{◌>>=◌}
use Rattle.q3_fields.specs.declared.kind.Kind.{Kind}
use Rattle.q3_fields.specs.Kinds.{Layout, end_mark, norm}
use Rattle.q3_entity.specs.declared.state.EntityState.{EntityState}
use Rattle.q3_entity.specs.Baselines.{Baselines, no_baselines, with_baseline, set_baselines}
use Rattle.q3_savestate.specs.Cursor.{Cursor, Field, field_at, number_at}

-- items after their number, which has two bytes
abbrev pub counted : {X : Type 0} → (X → List ℕ) → List X → List ℕ
counted item items = little_bytes 2 (length items) ++ flat_map item items

-- ---- words

-- the words of a table's fields, of four bytes each
abbrev pub words_bytes : List Kind → List ℕ → List ℕ
words_bytes kinds words = flat_map (little_bytes 4) (take (length kinds) words)

-- a word in the normal form of its field
abbrev pub word_at : Kind → Cursor → Field ℕ
word_at kind = field_at 4 (little_number 4) (λ word. norm kind word == word)

unfoldable pub words_at : List Kind → Cursor → Field (List ℕ)
words_at [] cursor = Ok ([], cursor)
words_at (kind ∷ kinds) cursor = do
  word ← word_at kind cursor
  others ← words_at kinds word.1
  Ok (word.0 ∷ others.0, others.1)

-- a state's words: 0 after those of the table
unfoldable pub state_words_at : List Kind → Cursor → Field (List ℕ)
state_words_at kinds cursor = do
  words ← words_at kinds cursor
  Ok (words.0 ++ replicate (64 - length words.0) 0, words.1)

-- ---- entities

-- an entity: its number and its words
abbrev pub entity_bytes : Layout → EntityState → List ℕ
entity_bytes table entity = little_bytes 2 entity.number ++ words_bytes table.kinds entity.words

-- one whose number is at least this, and below the end mark
unfoldable pub entity_at : Layout → ℕ → Cursor → Field EntityState
entity_at table least cursor = do
  number ← number_at 2 least (end_mark table - 1) cursor
  words ← state_words_at table.kinds number.1
  Ok (record { number = number.0; words = words.0 }, words.1)

-- so many, by rising number
unfoldable pub entities_at : Layout → ℕ → ℕ → Cursor → Field (List EntityState)
entities_at table zero least cursor = Ok ([], cursor)
entities_at table (suc count) least cursor = do
  entity ← entity_at table least cursor
  others ← entities_at table count (entity.0.number + 1) entity.1
  Ok (entity.0 ∷ others.0, others.1)

-- ---- baselines

abbrev pub baselines_bytes : Layout → Baselines → List ℕ
baselines_bytes table baselines = counted (entity_bytes table) (set_baselines baselines)

-- these states are set, and no others
abbrev pub baselines_of : List EntityState → Baselines
baselines_of entities = fold with_baseline no_baselines entities

unfoldable pub baselines_at : Layout → Cursor → Field Baselines
baselines_at table cursor = do
  count ← number_at 2 0 (end_mark table) cursor
  entities ← entities_at table count.0 0 count.1
  Ok (baselines_of entities.0, entities.1)
