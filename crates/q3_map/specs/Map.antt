-- What the game hands in for all clients of a server: its map with the map's baselines and config strings, the time, and the
-- entities.
use Rattle.std.specs.Prelude.{ℕ, ◌==◌, ◌||◌, if◌then◌else◌, not, Bool, true, false, List, [], ◌∷◌, ◌++◌, codes, decimal, nat_le, nat_lt, Result, Ok, Err}
use Rattle.std.specs.List.{filter}
use Rattle.q3_fields.specs.Kinds.{Layout, end_mark}
use Rattle.q3_config.specs.Strings.{Strings, no_strings, with_string}
use Rattle.q3_entity.specs.declared.state.EntityState.{EntityState}
use Rattle.q3_entity.specs.Baselines.{Baselines, no_baselines, with_baseline}
use Rattle.q3_entity.specs.Entities.{RiseFrom, AreStates, AreNormal, normal_entity}
use Rattle.q3_map.specs.declared.map.NotLater.{NotLater}
use Rattle.q3_map.specs.declared.map.Late.{Late}

-- what the game handed in for all clients: the map's id, 0 before the first, and its checksum feed; the count bit, which changes
-- with each map; whether a gamestate of the map was begun, its baselines in normal form, and its config strings; the time, and the
-- entities in normal form, by rising number
pub record MapState : Type 0 where
  pub id : ℕ
  pub feed : ℕ
  pub count : Bool
  pub begun : Bool
  pub baselines : Baselines
  pub strings : Strings
  pub time : ℕ
  pub entities : List EntityState

-- before the first map
abbrev pub no_map : MapState
no_map = record {
  id = 0;
  feed = 0;
  count = false;
  begun = false;
  baselines = no_baselines;
  strings = no_strings;
  time = 0;
  entities = [];
}

-- ---- maps

-- the info string that tells a map's id
abbrev pub id_text : ℕ → List ℕ
id_text id = codes "\\sv_serverid\\" ++ decimal id

-- a new map: nothing of the last one stays but the time, and the count bit changes
abbrev pub after_new_map : MapState → ℕ → ℕ → MapState
after_new_map map id feed = record {
  id = id;
  feed = feed;
  count = not map.count;
  begun = false;
  baselines = no_baselines;
  strings = with_string no_strings 1 (id_text id);
  time = map.time;
  entities = [];
}

-- the map after something was handed in, and the answer
pub record Handed (E : Type 0) : Type 0 where
  pub map : MapState
  pub answer : Result (Unit {0}) E

-- ids rise
abbrev pub new_map_at : MapState → ℕ → ℕ → Handed NotLater
new_map_at map id feed =
    if nat_le id map.id then record { map = map; answer = Err (record { last = map.id }) }
    else record { map = after_new_map map id feed; answer = Ok tt }

-- whether an id is another than the map's; before the first map each is
abbrev pub is_other : MapState → ℕ → Bool
is_other map id = map.id == 0 || not (id == map.id)

-- a baseline, in the normal form of a table: baselines don't change once a gamestate of the map was begun
abbrev pub set_baseline_at : Layout → MapState → EntityState → Handed Late
set_baseline_at table map state =
    if map.begun then record { map = map; answer = Err (record {}) }
    else record { map = record map { baselines = with_baseline map.baselines (normal_entity table state) }; answer = Ok tt }

-- a config string
abbrev pub with_config : MapState → ℕ → List ℕ → MapState
with_config map index text = record map { strings = with_string map.strings index text }

-- a gamestate of the map is begun
abbrev pub begins_game : MapState → MapState
begins_game map = record map { begun = true }

-- ---- time and entities

-- the time, in milliseconds
abbrev pub set_time_at : MapState → ℕ → MapState
set_time_at map time = record map { time = time }

-- the entity put at its place, where its number rises, for the one that has its number
unfoldable pub with_entity : EntityState → List EntityState → List EntityState
with_entity entity [] = entity ∷ []
with_entity entity (first ∷ others) =
    if nat_lt first.number entity.number then first ∷ with_entity entity others
    else (if first.number == entity.number then entity ∷ others else entity ∷ first ∷ others)

-- the entities but that of a number
abbrev pub without_entity : ℕ → List EntityState → List EntityState
without_entity number entities = filter (λ entity. not (entity.number == number)) entities

-- the whole state of an entity, in the normal form of a table
abbrev pub set_entity_at : Layout → MapState → EntityState → MapState
set_entity_at table map state = record map { entities = with_entity (normal_entity table state) map.entities }

-- an entity is there no more; where there was none, nothing changes
abbrev pub remove_entity_at : MapState → ℕ → MapState
remove_entity_at map number = record map { entities = without_entity number map.entities }

-- ---- lists of entities

-- entities as a server holds them: states of the program's type in normal form, by rising number
pub record AreHeld (table : Layout) (entities : List EntityState) : Type 0 where
  pub rise : RiseFrom (end_mark table) 0 entities
  pub states : AreStates entities
  pub normal : AreNormal table entities
