-- Laws of maps.
use Rattle.std.specs.Prelude.{◌≡◌, ℕ, ◌^◌, ◌<◌, ◌≤◌, List, length, take, All, Some, None}
use Rattle.q3_fields.specs.Kinds.{Layout, end_mark}
use Rattle.q3_fields.specs.States.{AreWords}
use Rattle.q3_entity.specs.declared.state.EntityState.{EntityState}
use Rattle.q3_entity.specs.Entities.{IsNormal, most_entities}
use Rattle.q3_config.specs.Strings.{no_strings, with_string, set_fault, server_id}
use Rattle.q3_map.specs.Map.{AreHeld, with_entity, without_entity, id_text}

-- entities as a server holds them stay so: where one in normal form is put in, where one is taken away, and those of the lowest
-- numbers, of which there are at most 256
pub record ListsStayHeld : Type 0 where
  pub put : (table : Layout) (entity : EntityState) (entities : List EntityState) → entity.number < end_mark table → AreWords 64 entity.words → IsNormal table entity
      → AreHeld table entities → AreHeld table (with_entity entity entities)
  pub without : (table : Layout) (number : ℕ) (entities : List EntityState) → AreHeld table entities → AreHeld table (without_entity number entities)
  pub lowest : (table : Layout) (entities : List EntityState) → AreHeld table entities → AreHeld table (take most_entities entities)
  pub few : (entities : List EntityState) → length (take most_entities entities) ≤ most_entities

-- the strings of a new map tell its id, and the text that does so may be set
pub record NewMapsTell : Type 0 where
  pub bytes : (id : ℕ) → All (λ (byte : ℕ). 0 < byte) (id_text id)
  pub fits : (id : ℕ) → id < 2 ^ 31 → set_fault no_strings 1 (id_text id) ≡ None
  pub told : (id : ℕ) → id < 2 ^ 31 → server_id (with_string no_strings 1 (id_text id)) ≡ Some id
