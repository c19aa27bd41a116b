-- What a server keeps stays so, call by call.
use Rattle.std.proofs.Common.{◌≡◌, ℕ, ◌^◌, ◌<◌, List, Option, None, Result, Ok, Err, refl, sym, ap, subst, inl, inr, option_map}
use Rattle.std.specs.Prelude.{nat_le, replicate, map as map_list}
use Rattle.std.proofs.lemmas.Bool.{cases_Bool, cond_both}
use Rattle.q3_profile.specs.declared.profile.Profile.{Profile}
use Rattle.q3_profile.specs.Profile.{IsCodec}
use Rattle.q3_fields.specs.Kinds.{end_mark}
use Rattle.q3_fields.specs.States.{AreWords}
use Rattle.q3_entity.specs.declared.state.EntityState.{EntityState}
use Rattle.q3_entity.specs.Baselines.{with_baseline}
use Rattle.q3_entity.specs.Entities.{normal_entity}
use Rattle.q3_config.specs.Strings.{admit_fault}
use Rattle.q3_config.specs.Laws.{piece_texts}
use Rattle.q3_map.specs.declared.map.Late.{Late}
use Rattle.q3_map.specs.declared.map.NotLater.{NotLater}
use Rattle.q3_map.specs.Map.{MapState, Handed, no_map, after_new_map, new_map_at, set_time_at, set_entity_at, remove_entity_at, set_baseline_at, with_config}
use Rattle.q3_frames.specs.Frames.{FramesState, no_frames}
use Rattle.q3_slot.specs.Slot.{SlotState, on_new_map}
use Rattle.q3_slot.specs.Slots.{tells}
use Rattle.q3_server.specs.Standing.{IsMap, IsServer, Below}
use Rattle.q3_server.proofs.KeepsMap.{map_none, map_timed, map_entered, map_removed, map_new, map_baselined, map_configured}
use Rattle.q3_server.proofs.KeepsFrames.{snapshots_none}
use Rattle.q3_server.proofs.KeepsClients.{nobody, server_mapped, server_on_map, server_told}

-- with no client, before the first map
pub server_new : Below → (profile copy : Profile) (count ring : ℕ) (map : MapState) (slots : List (Option SlotState)) (frames : FramesState) → copy ≡ profile → IsCodec profile → map ≡ no_map
    → slots ≡ replicate count None → frames ≡ no_frames count ring → IsServer copy map slots frames
server_new below profile copy count ring map slots frames same codec is_map are frames_are =
    subst (λ (m : MapState). IsServer copy m slots frames) (sym is_map)
    (subst (λ (s : List (Option SlotState)). IsServer copy no_map s frames) (sym are)
    (subst (IsServer copy no_map (replicate count None)) (sym frames_are)
    (record { codec = subst IsCodec (sym same) codec; is_map = map_none below copy; clients = nobody copy no_map.id count; snapshots = snapshots_none below copy count ring })))

module _ (profile : Profile) (map next : MapState) (slots : List (Option SlotState)) (frames : FramesState) where
  pub server_timed : (time : ℕ) → time < 2 ^ 32 → next ≡ set_time_at map time → IsServer profile map slots frames → IsServer profile next slots frames
  server_timed time short after is =
      subst (λ (m : MapState). IsServer profile m slots frames) (sym after) (server_mapped profile map (set_time_at map time) slots frames refl (map_timed profile map time short is.is_map) is)

  pub server_entered : Below → (state : EntityState) → state.number < end_mark profile.entity → AreWords 64 state.words → next ≡ set_entity_at profile.entity map state → IsServer profile map slots frames
      → IsServer profile next slots frames
  server_entered below state number words after is =
      subst (λ (m : MapState). IsServer profile m slots frames) (sym after)
      (server_mapped profile map (set_entity_at profile.entity map state) slots frames refl (map_entered below profile map state is.codec number words is.is_map) is)

  pub server_removed : Below → (number : ℕ) → next ≡ remove_entity_at map number → IsServer profile map slots frames → IsServer profile next slots frames
  server_removed below number after is =
      subst (λ (m : MapState). IsServer profile m slots frames) (sym after)
      (server_mapped profile map (remove_entity_at map number) slots frames refl (map_removed below profile map number is.is_map) is)

  pub server_baselined : Below → (state : EntityState) (answer : Result (Unit {0}) Late) → state.number < end_mark profile.entity → AreWords 64 state.words
      → set_baseline_at profile.entity map state ≡ record { map = next; answer = answer } → IsServer profile map slots frames → IsServer profile next slots frames
  server_baselined below state answer number words after is =
      let made = (set_baseline_at profile.entity map state).map in
      let baseline = normal_entity profile.entity state in
      let same : made.id ≡ map.id =
      cond_both map.begun (record { map = map; answer = Err (record {}) }) (record { map = record map { baselines = with_baseline map.baselines baseline }; answer = Ok tt })
      (λ (h : Handed Late). h.map.id ≡ map.id) (λ begun. refl) (λ open_. refl) in
      subst (λ (m : MapState). IsServer profile m slots frames) (ap (λ (h : Handed Late). h.map) after)
      (server_mapped profile map made slots frames same (map_baselined below profile map state is.codec number words is.is_map) is)

  -- a new map, where its id is above the last one's
  pub server_begun : Below → (id feed : ℕ) (now : List (Option SlotState)) → id < 2 ^ 31 → feed < 2 ^ 32 → new_map_at map id feed ≡ record { map = next; answer = Ok tt }
      → now ≡ map_list (option_map on_new_map) slots → IsServer profile map slots frames → IsServer profile next now frames
  server_begun below id feed now least short after slots_are is =
      elim (cases_Bool (nat_le id map.id)) [
        | inl early ↦ let e : Handed_err ≡ Handed_ok = rw early at (ap (λ (h : Handed NotLater). h.answer) after) in absurd cc
        | inr later ↦
            let e : after_new_map map id feed ≡ next = rw later at (ap (λ (h : Handed NotLater). h.map) after) in
            server_on_map below profile map next slots now frames (subst (IsMap profile) e (map_new below profile map id feed least short is.is_map)) slots_are is
      ]
    where
      Handed_err : Result (Unit {0}) NotLater
      Handed_err = Err (record { last = map.id })

      Handed_ok : Result (Unit {0}) NotLater
      Handed_ok = Ok tt

  -- a config string
  pub server_configured : Below → (index : ℕ) (text : List ℕ) (now : List (Option SlotState)) → (index ≡ 1 → ⊥) → admit_fault map.strings index text ≡ None → next ≡ with_config map index text
      → now ≡ map_list (option_map (tells (piece_texts index text))) slots → IsServer profile map slots frames → IsServer profile next now frames
  server_configured below index text now other admitted after slots_are is =
      subst (λ (m : MapState). IsServer profile m now frames) (sym after)
      (server_told profile map (with_config map index text) slots now frames (piece_texts index text) refl (map_configured below profile map index text other admitted is.is_map) slots_are is)
