-- A client's datagrams come from another port: what holds stays.
use Rattle.std.proofs.Common.{None, Option, Some, refl, ◌∙◌, ◌<◌, ◌≡◌, ℕ}
use Rattle.q3_profile.specs.declared.profile.Profile.{Profile}
use Rattle.q3_io.specs.declared.address.Address.{Address}
use Rattle.q3_map.specs.Map.{MapState}
use Rattle.q3_slot.specs.Slot.{SlotState}
use Rattle.q3_server.specs.Server.{places}
use Rattle.q3_world.specs.declared.places.Place.{Place}
use Rattle.q3_world.specs.Ends.{place_at, set_port_of, set_port}
use Rattle.q3_world.specs.World.{History, Whole}
use Rattle.q3_world.specs.StandsFor.{IsClient, IsJoined}
use Rattle.q3_world.proofs.Holding.{Holds}
use Rattle.q3_world.proofs.Recorded.{Alike, holds_placed}

-- a client is there with another address of the same host
with_address : (profile : Profile) (place : Place) (new : Address) → new.host ≡ place.address.host → Alike profile place (record place { address = new })
with_address profile place new same = record { is = ported_is; joined = ported_joined }
  where
    ported_is : (slot : Option SlotState) (history : History) → IsClient profile slot (Some place) history → IsClient profile slot (Some (record place { address = new })) history
    ported_is None history is = absurd is
    ported_is (Some slot) history is = record { of_slot = is.of_slot; of_client = is.of_client; challenge = is.challenge; joined = is.joined; host = same ∙ is.host }

    ported_joined : (map : MapState) (slot : Option SlotState) (history : History) → IsJoined profile map slot (Some place) history
        → IsJoined profile map slot (Some (record place { address = new })) history
    ported_joined map None history joined = tt
    ported_joined map (Some slot) history joined = joined

holds_there : (profile : Profile) (whole : Whole) (c port : ℕ) (found : Option Place) → c < places → place_at whole.ends c ≡ found → Holds profile whole
    → Holds profile (record whole { ends = (set_port_of whole.ends c port found).ends })
holds_there profile whole c port None lt at holds = holds
holds_there profile whole c port (Some place) lt at holds =
    let new : Address = record place.address { port = port } in
    holds_placed profile whole c place (record place { address = new }) (with_address profile place new refl) lt at holds

pub holds_port : (profile : Profile) (whole : Whole) (c port : ℕ) → c < places → Holds profile whole
    → Holds profile (record whole { ends = (set_port whole.ends c port).ends })
holds_port profile whole c port lt holds = holds_there profile whole c port (place_at whole.ends c) lt refl holds
