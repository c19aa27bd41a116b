-- What stands after a schedule in which each end gets only what the other made.
use Rattle.std.proofs.Common.{Bool, List, None, Option, Some, [], ap, false, refl, subst, sym, ◌-◌, ◌<◌, ◌∙◌, ◌∷◌, ◌≡◌, ◌++◌, ℕ}
use Rattle.std.specs.Prelude.{map, slice_get}
use Rattle.std.specs.Option.{option_map}
use Rattle.std.specs.List.{AllByRecursion}
use Rattle.q3_profile.specs.declared.profile.Profile.{Profile}
use Rattle.q3_script.specs.declared.event.Event.{Event}
use Rattle.q3_script.specs.declared.event.Event.TheVariants as events
use Rattle.q3_script.specs.Grammar.{IsReplayEvent}
use Rattle.q3_slot.specs.Slot.{SlotState}
use Rattle.q3_server.specs.Server.{places, slot_at}
use Rattle.q3_client.specs.Client.{ClientState}
use Rattle.q3_ends.specs.AtServer.{server_line}
use Rattle.q3_world.specs.declared.places.Place.{Place}
use Rattle.q3_world.specs.Ends.{Ends, client_at, client_of, line_of, place_at}
use Rattle.q3_world.specs.Kept.{Kept, kept_step}
use Rattle.q3_world.specs.World.{History, Whole, after, deliver, deliver_as, history_at, no_history, opening, step, bytes_of}
use Rattle.q3_world.specs.StandsFor.{AllJoined, Facts, IsChecked, IsClient, IsJoined, StandsFor}
use Rattle.q3_world.proofs.StaysForeign.{sends_so, delivers_so}
use Rattle.q3_world.specs.ByTags.{BytesFollowTags, IsOwn, kept_then, whole_then}
use Rattle.q3_schedules.specs.Schedules.{IsScheduled}
use Rattle.q3_world.proofs.StepsByTags.{Cited, kept_of, seen}
use Rattle.q3_world.proofs.EachStep.{kept_so}
use Rattle.q3_world.proofs.Arriving.{delivers_agree}
use Rattle.q3_world.proofs.Holding.{Has, Holds, has_client}
use Rattle.q3_world.proofs.OnePlace.{OfClient}

-- what is kept stands for a whole world to which no line handed other bytes, and all holds
pub record Stood (profile : Profile) (kept : Kept) (whole : Whole) : Type 0 where
  pub by : kept.profile ≡ profile
  pub ends : kept.ends ≡ whole.ends
  pub datagrams : kept.datagrams ≡ map bytes_of whole.sent
  pub facts : Facts profile whole
  pub joined : AllJoined profile whole
  pub own : whole.foreign ≡ false

pub stood_of : (profile : Profile) (kept : Kept) (whole : Whole) → whole.foreign ≡ false → StandsFor profile kept whole → Stood profile kept whole
stood_of profile kept whole own stands = record {
  by = stands.by;
  ends = stands.ends;
  datagrams = stands.datagrams;
  facts = stands.facts own;
  joined = stands.joined own;
  own = own;
}

-- ---- whether a line handed other bytes to an end

-- no event changes that but one that hands bytes to an end
pub foreign_is : (profile : Profile) (whole : Whole) (event : Event) → IsOwn event → (step profile whole event).whole.foreign ≡ whole.foreign
unfolding step line_of server_line
foreign_is profile whole (events.Toclient c bytes) own = absurd own
foreign_is profile whole (events.Toserver c bytes) own = absurd own
foreign_is profile whole (events.Send c) own = sends_so whole c (place_at whole.ends c)
foreign_is profile whole (events.Deliver number) own = delivers_so whole.foreign profile whole number (slice_get whole.sent (number - 1))
foreign_is profile whole event own = refl

-- a datagram arrives by its tag as long as no line handed other bytes to an end
pub step_own : (profile : Profile) (whole : Whole) (number : ℕ) → whole.foreign ≡ false → step profile whole (events.Deliver number) ≡ deliver profile whole number (slice_get whole.sent (number - 1))
unfolding step line_of
step_own profile whole number own = ap (λ (b : Bool). deliver_as b profile whole number (slice_get whole.sent (number - 1))) own

-- ---- every schedule

-- its events are a replay's
pub are_replayed : (all : List Event) → AllByRecursion IsScheduled all → AllByRecursion IsReplayEvent all
are_replayed [] are = tt
are_replayed (event ∷ events) are = (are.0.0, are_replayed events are.1)

-- after it no line has handed other bytes to an end
pub own_after : (profile : Profile) (whole : Whole) (all : List Event) → whole.foreign ≡ false → AllByRecursion IsScheduled all → (after profile whole all).foreign ≡ false
unfolding after
own_after profile whole [] own are = own
own_after profile whole (event ∷ events) own are =
    own_after profile (step profile whole event).whole events (foreign_is profile whole event are.0.1 ∙ own) are.1

-- events after others
pub after_both : (profile : Profile) (whole : Whole) (some others : List Event) → after profile whole (some ++ others) ≡ after profile (after profile whole some) others
unfolding after
after_both profile whole [] others = refl
after_both profile whole (event ∷ some) others = after_both profile (step profile whole event).whole some others

pub after_one : (profile : Profile) (whole : Whole) (event : Event) → after profile whole (event ∷ []) ≡ (step profile whole event).whole
unfolding after
after_one profile whole event = refl

pub own_at_first : (profile : Profile) → (opening profile).foreign ≡ false
unfolding opening
own_at_first profile = refl

-- and all holds
abbrev pub Then : Profile → List Event → Type 0
Then profile all = Stood profile (kept_then profile all) (whole_then profile all)

pub stood : BytesFollowTags → (profile : Profile) (all : List Event) → IsChecked profile → AllByRecursion IsScheduled all → Then profile all
stood law profile all checked are =
    stood_of profile (kept_then profile all) (whole_then profile all) (own_after profile (opening profile) all (own_at_first profile) are) (law profile all checked (are_replayed all are)).0

-- of the whole world
pub holds_of : (profile : Profile) (kept : Kept) (whole : Whole) → Stood profile kept whole → Holds profile whole
holds_of profile kept whole stands = record { facts = stands.facts; joined = stands.joined; own = stands.own }

-- what is kept is what is kept of the whole
pub kept_is : (profile : Profile) (kept : Kept) (whole : Whole) → Stood profile kept whole → kept ≡ kept_of profile whole
kept_is profile kept whole stands = kept_so profile kept whole stands.by stands.ends stands.datagrams

-- a datagram that arrives by its bytes does what it does by its tag
pub delivers_same : (profile : Profile) (kept : Kept) (whole : Whole) (number : ℕ) → Cited profile → Stood profile kept whole
    → kept_step kept (events.Deliver number) ≡ seen profile (step profile whole (events.Deliver number))
unfolding kept_step step line_of
delivers_same profile kept whole number cited stands =
    ap (λ (k : Kept). kept_step k (events.Deliver number)) (kept_is profile kept whole stands) ∙ (delivers_agree profile whole number cited (holds_of profile kept whole stands)).same

-- ---- a client that is there

-- it has a place
pub place_of : (found : Option Place) (client : ClientState) → option_map client_of found ≡ Some client → (place : Place) × (found ≡ Some place) × (place.client ≡ client)
place_of None client e = absurd cc
place_of (Some place) client e = (place, refl, cc)

-- what is said of a client that never joined, and of each that is there, is said of any
pub of_each : (profile : Profile) (kept : Kept) (whole : Whole) (c : ℕ) (Says : OfClient) → c < places → Stood profile kept whole → Says None None no_history
    → ((slot : SlotState) (place : Place) → Has profile whole c slot place → Says (Some slot) (Some place) (history_at whole.histories c))
    → Says (slot_at whole.ends.server c) (place_at whole.ends c) (history_at whole.histories c)
of_each profile kept whole c Says lt stands none each = go (slot_at whole.ends.server c) (place_at whole.ends c) refl refl (stands.facts.each c lt) (stands.joined c lt)
  where
    go : (slot : Option SlotState) (found : Option Place) → slot_at whole.ends.server c ≡ slot → place_at whole.ends c ≡ found → IsClient profile slot found (history_at whole.histories c)
        → IsJoined profile whole.ends.server.map slot found (history_at whole.histories c) → Says slot found (history_at whole.histories c)
    go None None at there is joined = subst (λ (h : History). Says None None h) (sym is) none
    go None (Some place) at there is joined = absurd is
    go (Some slot) None at there is joined = absurd is
    go (Some slot) (Some place) at there is joined = each slot place (record { slot_is = at; place_is = there; keeps = is; joined = joined })

-- what is said of the client at its place, whose slot is there too, is said of it
pub of_place : (profile : Profile) (whole : Whole) (c : ℕ) (client : ClientState) (Says : ClientState → Type 0) → c < places → client_at whole.ends c ≡ Some client → Holds profile whole
    → ((slot : SlotState) (place : Place) → Has profile whole c slot place → Says place.client) → Says client
of_place profile whole c client Says lt found holds each =
    let at = place_of (place_at whole.ends c) client found in
    let had = has_client profile whole c at.0 lt at.1 holds in
    subst Says at.2 (each had.0 at.0 had.1)

-- also of what is kept
pub of_there : (profile : Profile) (kept : Kept) (whole : Whole) (c : ℕ) (client : ClientState) (Says : ClientState → Type 0) → c < places → client_at kept.ends c ≡ Some client
    → Stood profile kept whole → ((slot : SlotState) (place : Place) → Has profile whole c slot place → Says place.client) → Says client
of_there profile kept whole c client Says lt found stands each =
    of_place profile whole c client Says lt (ap (λ (e : Ends). client_at e c) (sym stands.ends) ∙ found) (holds_of profile kept whole stands) each
