-- By which texts the two ends scramble and clear what is on its way.
use Rattle.std.proofs.Common.{◌≡◌, ℕ, ◌<◌, ◌≤◌, length, Some, sym, ap, subst, ◌∙◌}
use Rattle.q3_slot.specs.Slot.{SlotState}
use Rattle.q3_server.specs.Server.{slot_at}
use Rattle.q3_window.specs.Outgoing.{text_at}
use Rattle.q3_client.specs.Client.{ClientState}
use Rattle.q3_world.specs.Ends.{Ends}
use Rattle.q3_world.specs.World.{built_at, history_at, said_at}
use Rattle.q3_world.specs.StandsFor.{AreCommanded}
use Rattle.q3_world.specs.Layers.{Layers}
use Rattle.q3_world.specs.ByTags.{kept_then, whole_then, BytesFollowTags}
use Rattle.q3_schedules.specs.Schedules.{KeysAgree}
use Rattle.q3_world.proofs.Commanded.{client_hears, slot_hears}
use Rattle.q3_schedules.proofs.Stood.{Stood, of_there, stood}

pub keys_agree : BytesFollowTags → Layers → KeysAgree
keys_agree law below profile all c slot client is are within slot_is client_is =
    let stands : Stood profile (kept_then profile all) (whole_then profile all) = stood law profile all is are in
    let whole = whole_then profile all in
    let history = history_at whole.histories c in
    let slot_found : slot_at whole.ends.server c ≡ Some slot = ap (λ (e : Ends). slot_at e.server c) (sym stands.ends) ∙ slot_is in
    let says : ClientState → Type 0 = λ client.
    ((n : ℕ) → client.gathering.taken < n → n ≤ length history.built → text_at client.issued (built_at history.built n).message.ack ≡ (built_at history.built n).key.text)
    × ((n : ℕ) → slot.gathering.taken < n → n ≤ length history.said → text_at slot.issued (said_at history.said n).message.command ≡ (said_at history.said n).key.text) in
    of_there profile (kept_then profile all) whole c client says within client_is stands
    (λ of_slot place had.
    let commanded = subst (λ (s : SlotState). AreCommanded s place.client history) (one_slot (sym had.slot_is ∙ slot_found)) had.joined.commanded in (
      λ n newer begun. (client_hears below.windows.flow slot place.client history n newer begun commanded).text,
      λ n newer begun. (slot_hears below.windows.flow slot place.client history n newer begun commanded).text,
    ))
  where
    one_slot : {some other : SlotState} → Some some ≡ Some other → some ≡ other
    one_slot same = cc
