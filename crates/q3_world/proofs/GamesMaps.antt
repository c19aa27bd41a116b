-- The maps of a server at both ends of a client, where the game hands in something for the map, or a new one.
use Rattle.std.proofs.Common.{List, None, Ok, Option, Some, ap, arith, false, inl, refl, sym, true, ℕ, ◌<◌, ◌∙◌, ◌≡◌}
use Rattle.std.specs.Prelude.{Err}
use Rattle.std.proofs.lemmas.Bool.{both_ways, cond_both}
use Rattle.q3_client.specs.Sending.{Said}
use Rattle.q3_clstate.specs.State.{AppliedState}
use Rattle.q3_config.specs.Strings.{Strings}
use Rattle.q3_entity.specs.Baselines.{Baselines, with_baseline}
use Rattle.q3_entity.specs.Entities.{normal_entity}
use Rattle.q3_entity.specs.declared.state.EntityState.{EntityState}
use Rattle.q3_fields.specs.Kinds.{Layout}
use Rattle.q3_gamestate.specs.Values.{Gamestate}
use Rattle.q3_map.specs.Map.{Handed, MapState, set_baseline_at, after_new_map, begins_game}
use Rattle.q3_map.specs.declared.map.Late.{Late}
use Rattle.q3_entity_ring.specs.Snapshot.{Snapshot}
use Rattle.q3_built.specs.Built.{Built}
use Rattle.q3_world.specs.Games.{AreMapped, Carries, HasLast, Standing, Tells}
use Rattle.q3_world.specs.World.{Played}
use Rattle.q3_world.proofs.GamesParts.{untrue}

-- of a map with the same id the last gamestate is the same
last_of : (map new : MapState) (built : List Built) (game : Option ℕ) → new.id ≡ map.id → HasLast map built game → HasLast new built game
last_of map new built None id is = λ n game carries tells. is n game carries (tells ∙ ap Some id)
last_of map new built (Some last) id is = ((is.0.0, is.0.1, is.0.2 ∙ ap Some (sym id)), is.1)

module _ (map : MapState) (slot : Standing) (state : AppliedState) (taken last_time : ℕ) (built : List Built) (games : List Played) (began : List Said)
    (accepted : List Snapshot) (executed : List (List ℕ)) where
  -- a new map: its id is above that of the last, and its clients are connected
  pub AreMapped-map : (id feed : ℕ) → map.id < id → AreMapped map slot state taken last_time built games began accepted executed
      → AreMapped (after_new_map map id feed) (record slot { plays = false; game = None; owed = false; delta = 0 }) state taken last_time built games began accepted executed
  AreMapped-map id feed above are =
      let before : (n : ℕ) (game : Gamestate) → Carries built n game → Tells game id → ⊥ =
      λ n game is tells. let most = (are.of_maps.ids n id game is tells).1 in omega (arith, most, above) in
      record {
        of_maps = record {
          ids = λ n i game is tells. let was = are.of_maps.ids n i game is tells in let most = was.1 in (was.0, omega (arith, most, above));
          rise = are.of_maps.rise;
          same = λ n game is tells. absurd (before n game is tells);
        };
        stands = record {
          last = before;
          earlier = are.stands.earlier;
          active = λ e. absurd (untrue e);
          owed = λ e. absurd (untrue e);
          other = λ k d within apart. tt;
          older = λ e. tt;
        };
        has = are.has;
        said = are.said;
        under = are.under;
        delta = inl refl;
        ran = are.ran;
        acks = are.acks;
      }

  -- the map changed in what no gamestate of it tells, or none was begun
  pub AreMapped-changed : (new : MapState) → new.id ≡ map.id
      → (map.begun ≡ true → (new.begun ≡ true) × (new.baselines ≡ map.baselines) × (new.feed ≡ map.feed))
      → AreMapped map slot state taken last_time built games began accepted executed → AreMapped new slot state taken last_time built games began accepted executed
  AreMapped-changed new id keeps are =
      let stands = are.stands in
      let of : (n : ℕ) (game : Gamestate) → Tells game new.id → Tells game map.id = λ n game tells. tells ∙ ap Some id in
      record {
        of_maps = record {
          ids = λ n i game is tells. let was = are.of_maps.ids n i game is tells in let most = was.1 in (was.0, omega (arith, most, id));
          rise = are.of_maps.rise;
          same = λ n game is tells.
              let was = are.of_maps.same n game is (of n game tells) in
              let kept = keeps was.0 in
              (kept.0, was.1 ∙ sym kept.1, was.2 ∙ sym kept.2);
        };
        stands = record {
          last = last_of map new built slot.game id stands.last;
          earlier = stands.earlier;
          active = stands.active;
          owed = λ e. let was = stands.owed e in (was.0, λ zero. was.1 (sym id ∙ zero), was.2);
          other = λ k d within apart. stands.other k d within (λ e. apart (e ∙ sym id));
          older = stands.older;
        };
        has = are.has;
        said = are.said;
        under = are.under;
        delta = are.delta;
        ran = are.ran;
        acks = are.acks;
      }

  -- a baseline, which is refused once a gamestate was begun
  pub AreMapped-baseline : (table : Layout) (entity : EntityState) → AreMapped map slot state taken last_time built games began accepted executed
      → AreMapped (set_baseline_at table map entity).map slot state taken last_time built games began accepted executed
  AreMapped-baseline table entity are =
      cond_both map.begun (record { map = map; answer = Err (record {}) })
      (record { map = record map { baselines = with_baseline map.baselines (normal_entity table entity) }; answer = Ok tt })
      (λ (handed : Handed Late). AreMapped handed.map slot state taken last_time built games began accepted executed)
      (λ e. are)
      (λ is. AreMapped-changed (record map { baselines = with_baseline map.baselines (normal_entity table entity) }) refl (λ e. absurd (both_ways map.begun is e)) are)

-- ---- for every client

module _ (map : MapState) where
  -- the time and the entities change
  pub AreMapped-given : (time : ℕ) (entities : List EntityState) (slot : Standing) (state : AppliedState) (taken last_time : ℕ) (built : List Built) (games : List Played) (began : List Said)
      (accepted : List Snapshot) (executed : List (List ℕ)) → AreMapped map slot state taken last_time built games began accepted executed
      → AreMapped (record map { time = time; entities = entities }) slot state taken last_time built games began accepted executed
  AreMapped-given time entities slot state taken last_time built games began accepted executed are =
      AreMapped-changed map slot state taken last_time built games began accepted executed (record map { time = time; entities = entities }) refl (λ e. (e, refl, refl)) are

  -- config strings change
  pub AreMapped-configured : (strings : Strings) (slot : Standing) (state : AppliedState) (taken last_time : ℕ) (built : List Built) (games : List Played) (began : List Said)
      (accepted : List Snapshot) (executed : List (List ℕ)) → AreMapped map slot state taken last_time built games began accepted executed
      → AreMapped (record map { strings = strings }) slot state taken last_time built games began accepted executed
  AreMapped-configured strings slot state taken last_time built games began accepted executed are =
      AreMapped-changed map slot state taken last_time built games began accepted executed (record map { strings = strings }) refl (λ e. (e, refl, refl)) are

  -- baselines change before a gamestate was begun
  pub AreMapped-baselined : (baselines : Baselines) → map.begun ≡ false → (slot : Standing) (state : AppliedState) (taken last_time : ℕ) (built : List Built) (games : List Played) (began : List Said)
      (accepted : List Snapshot) (executed : List (List ℕ)) → AreMapped map slot state taken last_time built games began accepted executed
      → AreMapped (record map { baselines = baselines }) slot state taken last_time built games began accepted executed
  AreMapped-baselined baselines before slot state taken last_time built games began accepted executed are =
      AreMapped-changed map slot state taken last_time built games began accepted executed (record map { baselines = baselines }) refl (λ e. absurd (both_ways map.begun before e)) are

  -- and a gamestate was begun for another client
  pub AreMapped-begun : (slot : Standing) (state : AppliedState) (taken last_time : ℕ) (built : List Built) (games : List Played) (began : List Said)
      (accepted : List Snapshot) (executed : List (List ℕ)) → AreMapped map slot state taken last_time built games began accepted executed
      → AreMapped (begins_game map) slot state taken last_time built games began accepted executed
  AreMapped-begun slot state taken last_time built games began accepted executed are =
      AreMapped-changed map slot state taken last_time built games began accepted executed (begins_game map) refl (λ e. (refl, refl, refl)) are
