-- Entities that are read stood there, rising by number, as states in normal form.
use Rattle.std.proofs.Common.{◌≡◌, ℕ, zero, suc, ◌+◌, ◌-◌, ◌<◌, ◌≤◌, List, [], ◌∷◌, ◌++◌, length, Ok, refl, ap, arith}
use Rattle.std.specs.Prelude.{All}
use Rattle.std.specs.List.{flat_map}
use Rattle.std.proofs.lemmas.List.Elements.{All-cons, All-nil}
use Rattle.byteorder.specs.Endian.{little_bytes}
use Rattle.q3_bits.specs.ResultBind.{◌>>=◌}
use Rattle.q3_bits.proofs.Binds.{bind_ok}
use Rattle.q3_fields.specs.Kinds.{Layout, IsTable, end_mark}
use Rattle.q3_fields.specs.States.{AreWords}
use Rattle.q3_entity.specs.declared.state.EntityState.{EntityState}
use Rattle.q3_entity.specs.Entities.{IsNormal, RiseFrom, AreStates, AreNormal}
use Rattle.q3_savestate.specs.Cursor.{Cursor, number_at}
use Rattle.q3_savestate.specs.Entities.{words_bytes, state_words_at, entity_bytes, entity_at, entities_at}
use Rattle.q3_savestate.proofs.Fields.{Took, took_none, took_both, carried, numbered}
use Rattle.q3_savestate.proofs.Words.{reads_words}
use Rattle.q3_savestate.proofs.EntitiesBack.{ends_within}

-- an entity that is read
record ReadsEntity (table : Layout) (least : ℕ) (cursor : Cursor) (entity : EntityState) (rest : Cursor) : Type 0 where
  took : Took cursor (entity_bytes table entity) rest
  above : least ≤ entity.number
  below : entity.number < end_mark table
  are : AreWords 64 entity.words
  normal : IsNormal table entity

-- by its number and its words
numbered_words : (table : Layout) (least : ℕ) (cursor next rest : Cursor) (number : ℕ) (words : List ℕ) → IsTable table → All (λ byte. byte < 256) cursor.bytes
    → number_at 2 least (end_mark table - 1) cursor ≡ Ok (number, next) → state_words_at table.kinds next ≡ Ok (words, rest)
    → ReadsEntity table least cursor (record { number = number; words = words }) rest
numbered_words table least cursor next rest number words is fit e f =
    let one = numbered 2 least (end_mark table - 1) cursor number next fit e in
    let more = reads_words table.kinds next words rest is.kinds.few one.took.fit f in
    let within = ends_within table is in
    record {
      took = took_both cursor next rest (little_bytes 2 number) (words_bytes table.kinds words) one.took more.took;
      above = one.above;
      below = omega (arith, one.below, within.0);
      are = more.are;
      normal = ap (λ words. record { number = number; words = words }) more.normal;
    }

-- it stood there
entity_was : (table : Layout) (least : ℕ) (cursor : Cursor) (entity : EntityState) (rest : Cursor) → IsTable table → All (λ byte. byte < 256) cursor.bytes
    → entity_at table least cursor ≡ Ok (entity, rest) → ReadsEntity table least cursor entity rest
unfolding entity_at
entity_was table least cursor entity rest is fit e =
    let number = bind_ok (number_at 2 least (end_mark table - 1) cursor) (λ number. state_words_at table.kinds number.1 >>= λ words. Ok (record { number = number.0; words = words.0 }, words.1))
    (entity, rest) e in
    let words = bind_ok (state_words_at table.kinds number.0.1) (λ words. Ok (record { number = number.0.0; words = words.0 }, words.1)) (entity, rest) number.2 in
    carried (ReadsEntity table least cursor) (record { number = number.0.0; words = words.0.0 }) entity words.0.1 rest words.2
    (numbered_words table least cursor number.0.1 words.0.1 number.0.0 words.0.0 is fit number.1 words.1)

-- entities that are read
pub record ReadsEntities (table : Layout) (count least : ℕ) (cursor : Cursor) (entities : List EntityState) (rest : Cursor) : Type 0 where
  pub took : Took cursor (flat_map (entity_bytes table) entities) rest
  pub long : length entities ≡ count
  pub rise : RiseFrom (end_mark table) least entities
  pub are : AreStates entities
  pub normal : AreNormal table entities

-- one before others
one_before : (table : Layout) (count least : ℕ) (cursor next rest : Cursor) (entity : EntityState) (others : List EntityState) → ReadsEntity table least cursor entity next
    → ReadsEntities table count (entity.number + 1) next others rest → ReadsEntities table (suc count) least cursor (entity ∷ others) rest
one_before table count least cursor next rest entity others one more = record {
  took = took_both cursor next rest (entity_bytes table entity) (flat_map (entity_bytes table) others) one.took more.took;
  long = ap suc more.long;
  rise = (one.above, one.below, more.rise);
  are = All-cons (λ entity. AreWords 64 entity.words) entity others one.are more.are;
  normal = All-cons (IsNormal table) entity others one.normal more.normal;
}

-- they stood there
pub reads_entities : (table : Layout) (count least : ℕ) (cursor : Cursor) (entities : List EntityState) (rest : Cursor) → IsTable table → All (λ byte. byte < 256) cursor.bytes
    → entities_at table count least cursor ≡ Ok (entities, rest) → ReadsEntities table count least cursor entities rest
unfolding entities_at
reads_entities table zero least cursor entities rest is fit e =
    carried (ReadsEntities table zero least cursor) [] entities cursor rest e
    (record { took = took_none cursor fit; long = refl; rise = tt; are = All-nil (λ entity. AreWords 64 entity.words); normal = All-nil (IsNormal table) })
reads_entities table (suc count) least cursor entities rest is fit e =
    let one = bind_ok (entity_at table least cursor) (λ entity. entities_at table count (entity.0.number + 1) entity.1 >>= λ others. Ok (entity.0 ∷ others.0, others.1)) (entities, rest) e in
    let more = bind_ok (entities_at table count (one.0.0.number + 1) one.0.1) (λ others. Ok (one.0.0 ∷ others.0, others.1)) (entities, rest) one.2 in
    let was = entity_was table least cursor one.0.0 one.0.1 is fit one.1 in
    carried (ReadsEntities table (suc count) least cursor) (one.0.0 ∷ more.0.0) entities more.0.1 rest more.2
    (one_before table count least cursor one.0.1 more.0.1 one.0.0 more.0.0 was (reads_entities table count (one.0.0.number + 1) one.0.1 more.0.0 more.0.1 is was.took.fit more.1))

-- their parts
pub entities_were : (table : Layout) (count least : ℕ) (cursor : Cursor) (entities : List EntityState) (rest : Cursor) → IsTable table → All (λ byte. byte < 256) cursor.bytes
    → entities_at table count least cursor ≡ Ok (entities, rest)
    → (length entities ≡ count) × RiseFrom (end_mark table) least entities × AreStates entities × AreNormal table entities × (cursor.bytes ≡ flat_map (entity_bytes table) entities ++ rest.bytes)
    × (rest.at ≡ cursor.at + length (flat_map (entity_bytes table) entities)) × All (λ byte. byte < 256) rest.bytes
entities_were table count least cursor entities rest is fit e =
    let was = reads_entities table count least cursor entities rest is fit e in
    (was.long, was.rise, was.are, was.normal, was.took.stood, was.took.place, was.took.fit)
