-- Baselines: what was written is read, and what is read stood there.
use Rattle.std.proofs.Common.{◌≡◌, ℕ, zero, suc, ◌+◌, ◌-◌, ◌<◌, ◌≤◌, List, [], ◌∷◌, ◌++◌, length, replicate, Option, None, Some, IfSome, Ok, refl, sym, ap, subst, ◌∙◌, arith}
use Rattle.std.specs.Prelude.{All}
use Rattle.std.specs.List.{flat_map, fold}
use Rattle.std.proofs.lemmas.List.{append-nil, append_assoc, length-append, length-replicate, set_at}
use Rattle.std.proofs.lemmas.List.Elements.{All-cons, All-head, All-nil, All-tail, filter_map-append}
use Rattle.std.proofs.lemmas.Option.{IfSome_then}
use Rattle.byteorder.specs.Endian.{little_bytes}
use Rattle.q3_bits.specs.ResultBind.{◌>>=◌}
use Rattle.q3_bits.proofs.Binds.{bind_ok}
use Rattle.q3_fields.specs.Kinds.{Layout, IsTable, end_mark}
use Rattle.q3_fields.specs.States.{AreWords}
use Rattle.q3_entity.specs.declared.state.EntityState.{EntityState}
use Rattle.q3_entity.specs.Entities.{IsNormal, RiseFrom, AreStates, AreNormal}
use Rattle.q3_entity.specs.Baselines.{Baselines, AreBaselines, most_baselines, no_baselines, set_at as baseline_at, with_baseline, set_baselines}
use Rattle.q3_savestate.specs.Cursor.{Cursor, number_at}
use Rattle.q3_savestate.specs.Entities.{entity_bytes, entities_at, baselines_bytes, baselines_of, baselines_at}
use Rattle.q3_savestate.proofs.Fields.{Took, carried, number_back, numbered, took_counted}
use Rattle.q3_savestate.proofs.Gaps.{set_in_gap}
use Rattle.q3_savestate.proofs.EntitiesBack.{ends_within, entities_back}
use Rattle.q3_savestate.proofs.EntitiesWere.{ReadsEntities, reads_entities}
use Rattle.q3_entity.specs.Laws.{NoneAreBaselines, BaselineIsAdded}

-- ---- baselines that stand under their numbers

-- each state that is set has the number of its place, counted from a number on
abbrev StandFrom : ℕ → Baselines → Type 0
StandFrom number [] = Unit {0}
StandFrom number (None ∷ baselines) = StandFrom (number + 1) baselines
StandFrom number (Some state ∷ baselines) = (state.number ≡ number) × StandFrom (number + 1) baselines

-- they do, where each has the number of its place
stand_from : (number : ℕ) (baselines : Baselines) → ((place : ℕ) → IfSome (baseline_at baselines place) (λ state. state.number ≡ number + place)) → StandFrom number baselines
stand_from number [] each = tt
stand_from number (None ∷ baselines) each = stand_from (number + 1) baselines (λ place. IfSome_then (baseline_at baselines place) (each (suc place)) (λ state is. omega (arith, is)))
stand_from number (Some state ∷ baselines) each =
    (omega (arith, each zero), stand_from (number + 1) baselines (λ place. IfSome_then (baseline_at baselines place) (each (suc place)) (λ state is. omega (arith, is))))

-- what is true of each that is set is true of all of them
each_set : (P : EntityState → Type 0) (baselines : Baselines) → ((place : ℕ) → IfSome (baseline_at baselines place) P) → All P (set_baselines baselines)
each_set P [] each = All-nil P
each_set P (None ∷ baselines) each = each_set P baselines (λ place. each (suc place))
each_set P (Some state ∷ baselines) each = All-cons P state (set_baselines baselines) (each zero) (each_set P baselines (λ place. each (suc place)))

-- they rise, from any number on that isn't above the first place's
set_rise : (limit least number : ℕ) (baselines : Baselines) → least ≤ number → StandFrom number baselines → All (λ state. state.number < limit) (set_baselines baselines)
    → RiseFrom limit least (set_baselines baselines)
set_rise limit least number [] from stand below = tt
set_rise limit least number (None ∷ baselines) from stand below = set_rise limit least (number + 1) baselines (omega arith) stand below
set_rise limit least number (Some state ∷ baselines) from stand below = (
  omega (arith, stand.0),
  All-head (λ state. state.number < limit) state (set_baselines baselines) below,
  set_rise limit (state.number + 1) (number + 1) baselines (omega (arith, stand.0)) stand.1 (All-tail (λ state. state.number < limit) state (set_baselines baselines) below),
)

-- so they are no more than their limit
rise_few : (limit least : ℕ) (entities : List EntityState) → RiseFrom limit least entities → least ≤ limit → least + length entities ≤ limit
rise_few limit least [] rise within = omega arith
rise_few limit least (entity ∷ others) rise within =
    let more = rise_few limit (entity.number + 1) others rise.2 (omega (arith, rise.1)) in
    omega (arith, more, rise.0)

-- set one after another they are the baselines
set_again : (front baselines : Baselines) (count : ℕ) → count ≡ length baselines → StandFrom (length front) baselines → fold with_baseline (front ++ replicate count None) (set_baselines baselines) ≡ front ++ baselines
set_again front [] zero long stand = refl
set_again front [] (suc count) long stand = absurd (omega arith)
set_again front (baseline ∷ baselines) zero long stand = absurd (omega arith)
set_again front (None ∷ baselines) (suc count) long stand =
    let next : length (front ++ None ∷ []) ≡ length front + 1 = length-append front (None ∷ []) in
    ap (λ baselines'. fold with_baseline baselines' (set_baselines baselines)) (sym (append_assoc front (None ∷ []) (replicate count None)))
    ∙ set_again (front ++ None ∷ []) baselines count (omega arith) (subst (λ n. StandFrom n baselines) (sym next) stand)
    ∙ append_assoc front (None ∷ []) baselines
set_again front (Some state ∷ baselines) (suc count) long stand =
    let next : length (front ++ Some state ∷ []) ≡ length front + 1 = length-append front (Some state ∷ []) in
    let here : with_baseline (front ++ None ∷ replicate count None) state ≡ front ++ Some state ∷ replicate count None = set_at front None (replicate count None) (Some state) state.number (sym stand.0) in
    ap (λ baselines'. fold with_baseline baselines' (set_baselines baselines)) (here ∙ sym (append_assoc front (Some state ∷ []) (replicate count None)))
    ∙ set_again (front ++ Some state ∷ []) baselines count (omega arith) (subst (λ n. StandFrom n baselines) (sym next) stand.1)
    ∙ append_assoc front (Some state ∷ []) baselines

-- ---- what was written is read

-- the baselines
pub baselines_back : (table : Layout) (baselines : Baselines) (at : ℕ) (rest : List ℕ) → IsTable table → AreBaselines table baselines
    → baselines_at table (record { at = at; bytes = baselines_bytes table baselines ++ rest }) ≡ Ok (baselines, record { at = at + length (baselines_bytes table baselines); bytes = rest })
unfolding baselines_at
baselines_back table baselines at rest is are =
    let set : List EntityState = set_baselines baselines in
    let stand : StandFrom 0 baselines = stand_from 0 baselines (λ number. IfSome_then (baseline_at baselines number) (are.numbers number) (λ state e. omega (arith, e))) in
    let rise : RiseFrom (end_mark table) 0 set = set_rise (end_mark table) 0 0 baselines (omega arith) stand (each_set (λ state. state.number < end_mark table) baselines are.below) in
    let most : length set ≤ end_mark table = omega (arith, rise_few (end_mark table) 0 set rise (omega arith)) in
    let within = ends_within table is in
    let count = number_back 2 0 (end_mark table) (length set) at (flat_map (entity_bytes table) set ++ rest) (omega arith) (omega arith) most in
    let entities = entities_back table 0 set (at + 2) rest is rise (each_set (λ state. AreWords 64 state.words) baselines are.states) (each_set (IsNormal table) baselines are.normal) in
    let again : baselines_of set ≡ baselines = set_again [] baselines most_baselines (sym are.places) stand in
    rw (count, entities, again) (ap (λ place. Ok (baselines, record { at = place; bytes = rest })) (omega arith))

-- ---- what is read stood there

-- where none is set
none_set : (count : ℕ) → set_baselines (replicate count None) ≡ []
none_set zero = refl
none_set (suc count) = none_set count

-- after others none is
front_set : (front : Baselines) (count : ℕ) → set_baselines (front ++ replicate count None) ≡ set_baselines front
front_set front count = filter_map-append (λ baseline. baseline) front (replicate count None) ∙ ap (λ states. set_baselines front ++ states) (none_set count) ∙ append-nil (set_baselines front)

-- what rises is set, one after the other
set_after : (limit : ℕ) (front : Baselines) (count least : ℕ) (entities : List EntityState) → length front ≡ least → RiseFrom limit least entities → limit ≤ least + count
    → set_baselines (fold with_baseline (front ++ replicate count None) entities) ≡ set_baselines front ++ entities
set_after limit front count least [] long rise wide = front_set front count ∙ sym (append-nil (set_baselines front))
set_after limit front count least (entity ∷ others) long rise wide =
    let before : ℕ = entity.number - least in
    let behind : ℕ = least + count - (entity.number + 1) in
    let head : Baselines = front ++ replicate before None in
    let next : Baselines = head ++ Some entity ∷ [] in
    let here : with_baseline (front ++ replicate count None) entity ≡ next ++ replicate behind None = set_in_gap front None (Some entity) before behind count entity.number (omega (arith, rise.0, rise.1)) (omega (arith, rise.0)) in
    let after : length next ≡ entity.number + 1 = omega (arith, length-append head (Some entity ∷ []), length-append front (replicate before None), length-replicate {A = Option EntityState} before None, rise.0) in
    ap (λ baselines. set_baselines (fold with_baseline baselines others)) here
    ∙ set_after limit next behind (entity.number + 1) others after rise.2 (omega (arith, rise.0, rise.1))
    ∙ ap (λ states. states ++ others) (filter_map-append (λ baseline. baseline) head (Some entity ∷ []) ∙ ap (λ states. states ++ entity ∷ []) (front_set front before))
    ∙ append_assoc (set_baselines front) (entity ∷ []) others

-- states that rise make baselines
are_baselines : (adds : BaselineIsAdded) (table : Layout) (baselines : Baselines) (least : ℕ) (entities : List EntityState) → AreBaselines table baselines → RiseFrom (end_mark table) least entities → AreStates entities → AreNormal table entities
    → AreBaselines table (fold with_baseline baselines entities)
are_baselines adds table baselines least [] are rise states normal = are
are_baselines adds table baselines least (entity ∷ others) are rise states normal =
    are_baselines adds table (with_baseline baselines entity) (entity.number + 1) others
    (adds table baselines entity are rise.1 (All-head (λ entity. AreWords 64 entity.words) entity others states) (All-head (IsNormal table) entity others normal)) rise.2
    (All-tail (λ entity. AreWords 64 entity.words) entity others states) (All-tail (IsNormal table) entity others normal)

-- baselines that are read
pub record ReadsLines (table : Layout) (cursor : Cursor) (baselines : Baselines) (rest : Cursor) : Type 0 where
  pub took : Took cursor (baselines_bytes table baselines) rest
  pub are : AreBaselines table baselines

-- by their number and the states
counted_lines : (adds : BaselineIsAdded) (bare : NoneAreBaselines) (table : Layout) (count : ℕ) (cursor next rest : Cursor) (entities : List EntityState) → end_mark table ≤ most_baselines → Took cursor (little_bytes 2 count) next
    → ReadsEntities table count 0 next entities rest → ReadsLines table cursor (baselines_of entities) rest
counted_lines adds bare table count cursor next rest entities few one more =
    let same : set_baselines (baselines_of entities) ≡ entities = set_after (end_mark table) [] most_baselines 0 entities refl more.rise few in
    record {
      took = rw same (took_counted (entity_bytes table) count cursor next rest entities one more.took more.long);
      are = are_baselines adds table no_baselines 0 entities (bare table) more.rise more.are more.normal;
    }

-- they stood there
pub reads_baselines : (adds : BaselineIsAdded) (bare : NoneAreBaselines) (table : Layout) (cursor : Cursor) (baselines : Baselines) (rest : Cursor) → IsTable table → end_mark table ≤ most_baselines → All (λ byte. byte < 256) cursor.bytes
    → baselines_at table cursor ≡ Ok (baselines, rest) → ReadsLines table cursor baselines rest
unfolding baselines_at
reads_baselines adds bare table cursor baselines rest is few fit e =
    let count = bind_ok (number_at 2 0 (end_mark table) cursor) (λ count. entities_at table count.0 0 count.1 >>= λ entities. Ok (baselines_of entities.0, entities.1)) (baselines, rest) e in
    let entities = bind_ok (entities_at table count.0.0 0 count.0.1) (λ entities. Ok (baselines_of entities.0, entities.1)) (baselines, rest) count.2 in
    let number = numbered 2 0 (end_mark table) cursor count.0.0 count.0.1 fit count.1 in
    let were = reads_entities table count.0.0 0 count.0.1 entities.0.0 entities.0.1 is number.took.fit entities.1 in
    carried (ReadsLines table cursor) (baselines_of entities.0.0) baselines entities.0.1 rest entities.2 (counted_lines adds bare table count.0.0 cursor count.0.1 entities.0.1 entities.0.0 few number.took were)
