-- Entities that were written are read.
use Rattle.std.proofs.Common.{◌≡◌, ℕ, ◌+◌, ◌-◌, ◌^◌, ◌<◌, ◌≤◌, List, [], ◌∷◌, ◌++◌, length, Ok, ap, arith}
use Rattle.std.specs.List.{flat_map}
use Rattle.std.proofs.Math.Nat.{pow-le-pow_right}
use Rattle.std.proofs.lemmas.List.{append_assoc, length-append}
use Rattle.std.proofs.lemmas.List.Elements.{All-head, All-tail}
use Rattle.q3_fields.specs.Kinds.{Layout, IsTable, end_mark}
use Rattle.q3_fields.specs.States.{AreWords, normal_words}
use Rattle.q3_entity.specs.declared.state.EntityState.{EntityState}
use Rattle.q3_entity.specs.Entities.{IsNormal, RiseFrom, AreStates, AreNormal}
use Rattle.q3_savestate.specs.Entities.{words_bytes, entity_bytes, entity_at, entities_at}
use Rattle.q3_savestate.proofs.Fields.{number_back}
use Rattle.q3_savestate.proofs.Words.{words_back}

-- an end mark is a number of two bytes, and not 0
pub ends_within : (table : Layout) → IsTable table → (1 ≤ end_mark table) × (end_mark table < 256 ^ 2)
ends_within table is =
    let least : 2 ^ 1 ≤ 2 ^ table.number_bits = pow-le-pow_right {n = 2} (omega arith) {i = 1} {j = table.number_bits} is.number_bits.0 in
    let most : 2 ^ table.number_bits ≤ 2 ^ 16 = pow-le-pow_right {n = 2} (omega arith) {i = table.number_bits} {j = 16} is.number_bits.1 in
    (omega arith, omega arith)

-- an entity
entity_back : (table : Layout) (least : ℕ) (entity : EntityState) (at : ℕ) (rest : List ℕ) → IsTable table → least ≤ entity.number → entity.number < end_mark table → AreWords 64 entity.words
    → IsNormal table entity → entity_at table least (record { at = at; bytes = entity_bytes table entity ++ rest }) ≡ Ok (entity, record { at = at + length (entity_bytes table entity); bytes = rest })
unfolding entity_at
entity_back table least entity at rest is above below are normal =
    let within = ends_within table is in
    let kept : normal_words table.kinds entity.words ≡ entity.words = ap (λ (entity : EntityState). entity.words) normal in
    let number = number_back 2 least (end_mark table - 1) entity.number at (words_bytes table.kinds entity.words ++ rest) (omega arith) above (omega arith) in
    let words = words_back table.kinds entity.words (at + 2) rest is.kinds.few are kept in
    rw (number, words) (ap (λ place. Ok (entity, record { at = place; bytes = rest })) (omega arith))

-- entities
pub entities_back : (table : Layout) (least : ℕ) (entities : List EntityState) (at : ℕ) (rest : List ℕ) → IsTable table → RiseFrom (end_mark table) least entities → AreStates entities
    → AreNormal table entities → entities_at table (length entities) least (record { at = at; bytes = flat_map (entity_bytes table) entities ++ rest })
    ≡ Ok (entities, record { at = at + length (flat_map (entity_bytes table) entities); bytes = rest })
unfolding entities_at
entities_back table least [] at rest is rise are normal = ap (λ place. Ok ([], record { at = place; bytes = rest })) (omega arith)
entities_back table least (entity ∷ others) at rest is rise are normal =
    let after : List ℕ = flat_map (entity_bytes table) others in
    let one = entity_back table least entity at (after ++ rest) is rise.0 rise.1 (All-head (λ entity. AreWords 64 entity.words) entity others are) (All-head (IsNormal table) entity others normal) in
    let more = entities_back table (entity.number + 1) others (at + length (entity_bytes table entity)) rest is rise.2 (All-tail (λ entity. AreWords 64 entity.words) entity others are)
    (All-tail (IsNormal table) entity others normal) in
    let place : at + length (entity_bytes table entity) + length after ≡ at + length (entity_bytes table entity ++ after) = omega (arith, length-append (entity_bytes table entity) after) in
    rw (append_assoc (entity_bytes table entity) after rest, one, more) (ap (λ place. Ok (entity ∷ others, record { at = place; bytes = rest })) place)
