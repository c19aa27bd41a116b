-- A client that is at its place has its slot at the server.
use Rattle.std.specs.Prelude.{◌≡◌, ℕ, true, Option, None, Ok, IfSome, MatchOption}
use Rattle.std.specs.Option.{is_some}
use Rattle.q3_io.specs.declared.address.Address.{Address}
use Rattle.q3_profile.specs.declared.profile.Profile.{Profile}
use Rattle.q3_script.specs.declared.event.Event.{Event}
use Rattle.q3_slot.specs.Slot.{SlotState}
use Rattle.q3_server.specs.Server.{ServerState, add_client_at, slot_at}
use Rattle.q3_world.specs.declared.places.Place.{Place}
use Rattle.q3_world.specs.Ends.{Ends, new_ends, place_at}
use Rattle.q3_world.specs.Kept.{Kept, kept_step}

-- each client that is at its place has its slot
abbrev pub HaveSlots : Ends → Type 0
HaveSlots ends = (c : ℕ) → is_some (place_at ends c) ≡ true → is_some (slot_at ends.server c) ≡ true

-- the slot of the same client, and the place of the same: each with the challenge and the qport with which it joined
abbrev pub IsSameSlot : SlotState → SlotState → Type 0
IsSameSlot slot now = (now.challenge ≡ slot.challenge) × (now.qport ≡ slot.qport)

abbrev pub IsSamePlace : Place → Place → Type 0
IsSamePlace place now = (now.client.challenge ≡ place.client.challenge) × (now.client.qport ≡ place.client.qport)

-- what is there remains, the same
abbrev pub Remains : {A : Type 0} → (A → A → Type 0) → Option A → Option A → Type 0
Remains Same old new = IfSome old (λ one. MatchOption new ⊥ (Same one))

-- in the beginning nobody is anywhere, and a client joins only where none was. No event, whatever bytes arrive, takes a client its slot or
-- gives that to another; and where each client that is at its place has its slot, it is so after it, and each keeps its place
pub record SlotsAreKept : Type 0 where
  pub opening : (profile : Profile) (c : ℕ) → place_at (new_ends profile) c ≡ None
  pub free : (server : ServerState) (c challenge qport : ℕ) (address : Address) → (add_client_at server c challenge qport address).answer ≡ Ok tt → slot_at server c ≡ None
  pub slots : (kept : Kept) (event : Event) (c : ℕ) → Remains IsSameSlot (slot_at kept.ends.server c) (slot_at (kept_step kept event).kept.ends.server c)
  pub places : (kept : Kept) (event : Event) → HaveSlots kept.ends → (c : ℕ) → Remains IsSamePlace (place_at kept.ends c) (place_at (kept_step kept event).kept.ends c)
  pub step : (kept : Kept) (event : Event) → HaveSlots kept.ends → HaveSlots (kept_step kept event).kept.ends
