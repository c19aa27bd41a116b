-- Entities as a server holds them.
use Rattle.std.proofs.Common.{ℕ, ◌<◌, eqb, List, take, arith}
use Rattle.std.specs.Prelude.{not}
use Rattle.std.proofs.lemmas.List.Elements.{All-take, All-filter}
use Rattle.q3_fields.specs.States.{AreWords}
use Rattle.q3_fields.specs.Kinds.{Layout, end_mark}
use Rattle.q3_entity.specs.declared.state.EntityState.{EntityState}
use Rattle.q3_entity.specs.Entities.{IsNormal, most_entities}
use Rattle.q3_map.specs.Map.{AreHeld, with_entity, without_entity}
use Rattle.q3_map.specs.Laws.{ListsStayHeld}
use Rattle.q3_map.proofs.Rising.{few_taken, rise_take, put_rises, put_all, without_rises}

abbrev IsWords : EntityState → Type 0
IsWords entity = AreWords 64 entity.words

-- the lowest of them
AreHeld-lowest : (table : Layout) (entities : List EntityState) → AreHeld table entities → AreHeld table (take most_entities entities)
AreHeld-lowest table entities held =
    record {
      rise = rise_take (end_mark table) 0 most_entities entities held.rise;
      states = All-take IsWords most_entities entities held.states;
      normal = All-take (IsNormal table) most_entities entities held.normal;
    }

-- one more, in normal form
AreHeld-put : (table : Layout) (entity : EntityState) (entities : List EntityState) → entity.number < end_mark table → IsWords entity → IsNormal table entity
    → AreHeld table entities → AreHeld table (with_entity entity entities)
AreHeld-put table entity entities lt words normal held =
    record {
      rise = put_rises (end_mark table) 0 entity entities (omega arith) lt held.rise;
      states = put_all IsWords entity entities words held.states;
      normal = put_all (IsNormal table) entity entities normal held.normal;
    }

-- one less
AreHeld-without : (table : Layout) (number : ℕ) (entities : List EntityState) → AreHeld table entities → AreHeld table (without_entity number entities)
AreHeld-without table number entities held =
    record {
      rise = without_rises (end_mark table) 0 number entities held.rise;
      states = All-filter (λ (entity : EntityState). not (eqb entity.number number)) IsWords entities held.states;
      normal = All-filter (λ (entity : EntityState). not (eqb entity.number number)) (IsNormal table) entities held.normal;
    }

pub lists_stay_held : ListsStayHeld
lists_stay_held = record {
  put = AreHeld-put;
  without = AreHeld-without;
  lowest = AreHeld-lowest;
  few = λ entities. few_taken most_entities entities;
}
