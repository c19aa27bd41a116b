-- A step by bytes is a step by tags: what that rests on, and where nothing changes.
use Rattle.std.proofs.Common.{◌≡◌, ℕ, ◌≤◌, List, map, Option, Some, None, Ok, refl, sym, subst, inl, inr, false}
use Rattle.std.specs.Prelude.{◌⊎◌, IfSome}
use Rattle.q3_profile.specs.declared.profile.Profile.{Profile}
use Rattle.q3_player.specs.State.{zero_player, normal_player, IsState}
use Rattle.q3_player.specs.declared.state.PlayerState.{PlayerState}
use Rattle.q3_fields.specs.States.{AreWords}
use Rattle.q3_entity.specs.declared.state.EntityState.{EntityState}
use Rattle.q3_entity.specs.Entities.{normal_entity, IsNormal}
use Rattle.q3_profile.specs.Profile.{IsCodec}
use Rattle.q3_clstate.specs.State.{new_state}
use Rattle.q3_clstate.specs.Standing.{IsApplied}
use Rattle.q3_map.specs.Map.{MapState, is_other}
use Rattle.q3_window.specs.Outgoing.{acknowledge_at, text_at}
use Rattle.q3_client.specs.Client.{ClientState, receive_message, receive_bytes}
use Rattle.q3_client.specs.Sending.{said_bytes, Said, IsSaid}
use Rattle.q3_slot.specs.Slot.{SlotState}
use Rattle.q3_built.specs.Built.{Built, IsHeld, IsBuilt, built_bytes, plain_bytes}
use Rattle.q3_slot.specs.Taking.{came_as, said_by}
use Rattle.q3_messages.specs.MessageLaws.{HoldsThis}
use Rattle.q3_world.specs.Layers.{Layers}
use Rattle.q3_world.specs.declared.places.Place.{Place}
use Rattle.q3_world.specs.Ends.{place_at}
use Rattle.q3_world.specs.Kept.{Kept, KeptStep}
use Rattle.q3_world.specs.World.{Tag, Step, Whole, History, history_at, with_history, bytes_of}
use Rattle.q3_world.proofs.Growth.{noted_same}
use Rattle.q3_world.proofs.Holding.{Holds, with_client_of, same_clients}

-- ---- what is cited of the layers below

-- a message that was built is received from its bytes as its value
abbrev pub ReadsBack : Profile → Type 0
ReadsBack profile = (client : ClientState) (number : ℕ) (built : Built) → IsBuilt profile client.challenge number built → client.state.profile ≡ profile → IsApplied client.state → IfSome built.under (λ game. client.state.baselines ≡ built.baselines)
    → (acknowledge_at client.issued built.message.ack).answer ≡ Ok tt → text_at client.issued built.message.ack ≡ built.key.text
    → IfSome built.base (HoldsThis client.state.held)
    → receive_bytes client number (built_bytes profile built) ≡ Ok (receive_message client number built.message (plain_bytes profile built))

-- and one that a client said is read back
abbrev pub HearsBack : Profile → Type 0
HearsBack profile = (map : MapState) (slot : SlotState) (said : Said) → IsSaid profile slot.challenge said
    → (acknowledge_at slot.issued said.message.command).answer ≡ Ok tt → text_at slot.issued said.message.command ≡ said.key.text
    → (is_other map said.message.id ≡ false → said.feed ≡ map.feed)
    → said_by profile map slot (said_bytes profile said) ≡ Ok (came_as map said.message)

-- that the codec is one and a client's ring has room, the laws of the layers below, and what they say of this profile: what is read back,
-- what a client is at first, and which players and entities are in normal form
pub record Cited (profile : Profile) : Type 0 where
  pub codec : IsCodec profile
  pub ring : 512 ≤ profile.parse_ring
  pub below : Layers
  pub reads : ReadsBack profile
  pub hears : HearsBack profile
  pub first : IsApplied (new_state profile)
  pub zero : IsHeld profile zero_player
  pub normal : (player : PlayerState) → IsState player → IsHeld profile (normal_player profile.player.kinds player)
  pub normal_entity : (entity : EntityState) → AreWords 64 entity.words
      → AreWords 64 (normal_entity profile.entity entity).words × IsNormal profile.entity (normal_entity profile.entity entity)

-- ---- what is kept of a whole world

abbrev pub kept_of : Profile → Whole → Kept
kept_of profile whole = record { profile = profile; ends = whole.ends; datagrams = map bytes_of whole.sent }

abbrev pub seen : Profile → Step → KeptStep
seen profile s = record { kept = kept_of profile s.whole; answer = s.answer }

-- a step by bytes is a step by tags, and what holds stays
pub record Agree (profile : Profile) (kept : KeptStep) (whole : Step) : Type 0 where
  pub same : kept ≡ seen profile whole
  pub holds : Holds profile whole.whole

-- ---- where nothing changes

-- nothing, or something
pub found_or : {X : Type 0} (o : Option X) → (o ≡ None) ⊎ ((x : X) × (o ≡ Some x))
found_or None = inl refl
found_or (Some x) = inr (x, refl)

-- nothing new is noted of a client
pub unnoted : (profile : Profile) (whole : Whole) (c : ℕ) → Holds profile whole
    → Holds profile (record whole { histories = with_history whole.histories c (history_at whole.histories c) })
unnoted profile whole c holds = subst (λ (histories : List History). Holds profile (record whole { histories = histories })) (sym (noted_same whole.histories c)) holds

-- a client left as it was, of which nothing new is noted
pub left_alone : (profile : Profile) (whole : Whole) (c : ℕ) (place : Place) (sent : List Tag) → place_at whole.ends c ≡ Some place → sent ≡ whole.sent → Holds profile whole
    → Holds profile (with_client_of whole c place place.client (history_at whole.histories c) sent)
left_alone profile whole c place sent found same holds =
    subst (λ (clients : List (Option Place)). Holds profile (record {
      ends = record whole.ends { clients = clients };
      histories = with_history whole.histories c (history_at whole.histories c);
      sent = sent;
      foreign = whole.foreign;
    })) (sym (same_clients whole.ends c place found))
    (subst (λ (tags : List Tag). Holds profile (record whole { histories = with_history whole.histories c (history_at whole.histories c); sent = tags })) (sym same) (unnoted profile whole c holds))
