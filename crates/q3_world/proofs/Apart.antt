-- An event of one client leaves what the others have.
use Rattle.std.proofs.Common.{None, Option, Some, refl, subst, sym, ◌≡◌, ◌-◌, ℕ, List}
use Rattle.std.specs.Prelude.{Err, IfSome, Ok, Result, slice_get, ◌≢◌}
use Rattle.std.proofs.lemmas.List.{get_or-set_other}
use Rattle.q3_script.specs.declared.event.Event.{Event}
use Rattle.q3_script.specs.declared.event.Event.TheVariants as events
use Rattle.q3_client.specs.Client.{new_client, take_at}
use Rattle.q3_client.specs.Sending as speaks
use Rattle.q3_server.specs.declared.server.SlotError.{SlotError}
use Rattle.q3_server.specs.Server.{ServerState, add_client_at, remove_entity_at, say_at, set_area_at, set_baseline_at, set_entity_at, set_player_at, set_time_at, slot_at}
use Rattle.q3_server.specs.Apart.{SlotStays, taker_of}
use Rattle.q3_server.specs.Apart as calls
use Rattle.q3_server.specs.Taking as hears
use Rattle.q3_report.specs.declared.answer.Front.{Front}
use Rattle.q3_report.specs.declared.answer.Front.TheVariants as fronts
use Rattle.q3_report.specs.declared.answer.HandedIn.{HandedIn}
use Rattle.q3_report.specs.declared.answer.HandedIn.TheVariants as handed
use Rattle.q3_ends.specs.ClientLine.{client_line, client_after, recording_after}
use Rattle.q3_ends.specs.Recording.{asking, note_taken}
use Rattle.q3_ends.specs.AtServer as at_server
use Rattle.q3_ends.specs.AtServer.{ServerStep, in_range, server_line}
use Rattle.q3_report.specs.declared.answer.BaselineRefused.TheVariants as unset
use Rattle.q3_world.proofs.OnePlace.{show_stays}
use Rattle.q3_world.proofs.Ranged.{in_range_or}
use Rattle.q3_world.specs.declared.made.Direction.{Direction}
use Rattle.q3_world.specs.declared.made.Direction.TheVariants.{ToClient, ToServer}
use Rattle.q3_world.specs.declared.places.Place.{Place}
use Rattle.q3_world.specs.Apart.{IsOfOther, IsOfOthers, SlotsApart}
use Rattle.q3_world.specs.Ends.{Ends, client_takes, hand_server_of, joined, line_of, place_at, client_step_of, set_port_of, with_place}
use Rattle.q3_world.specs.Kept.{Kept, SentBytes, arrive_at, deliver_at, kept_send, kept_step}

-- ---- both ends

-- a client has the same slot, and the same at its place, and all frames are as they were
record Stays (d : ℕ) (old new : Ends) : Type 0 where
  pub slot : slot_at new.server d ≡ slot_at old.server d
  pub frames : new.server.frames ≡ old.server.frames
  pub place : place_at new d ≡ place_at old d

-- only the server changes
of_server : (d : ℕ) (ends : Ends) (server : ServerState) → SlotStays d ends.server server → Stays d ends (record ends { server = server })
of_server d ends server left = record { slot = left.slot; frames = left.frames; place = refl }

-- or only another place
of_place : (c d : ℕ) (ends : Ends) (place : Place) → d ≢ c → Stays d ends (with_place ends c place)
of_place c d ends place ne = record { slot = refl; frames = refl; place = get_or-set_other ends.clients c d (Some place) None ne }

nothing : (d : ℕ) (ends : Ends) → Stays d ends ends
nothing d ends = record { slot = refl; frames = refl; place = refl }

joins : (c d : ℕ) (ends : Ends) (server : ServerState) (place : Place) (answer : Result (Unit {0}) SlotError) → d ≢ c → SlotStays d ends.server server
    → Stays d ends (joined (record ends { server = server }) c place answer).ends
joins c d ends server place (Ok x) ne left = record { slot = left.slot; frames = left.frames; place = get_or-set_other ends.clients c d (Some place) None ne }
joins c d ends server place (Err e) ne left = of_server d ends server left

ports : (c d port : ℕ) (ends : Ends) (found : Option Place) → d ≢ c → Stays d ends (set_port_of ends c port found).ends
ports c d port ends None ne = nothing d ends
ports c d port ends (Some place) ne = of_place c d ends (record place { address = record place.address { port = port } }) ne

-- a line of a client's own
lines_of : (c d : ℕ) (event : Event) (ends : Ends) (found : Option Place) → d ≢ c → Stays d ends (client_step_of ends c event found).ends
lines_of c d event ends None ne = nothing d ends
lines_of c d event ends (Some place) ne =
    let line = client_line place.client place.recording event in
    of_place c d ends (record place { client = client_after place.client line; recording = recording_after place.recording line }) ne

sends : (kept : Kept) (c d : ℕ) (found : Option Place) → d ≢ c → Stays d kept.ends (kept_send kept c found).kept.ends
sends kept c d None ne = nothing d kept.ends
sends kept c d (Some place) ne = of_place c d kept.ends (record place { client = (speaks.emit_at (asking place.client place.recording)).client }) ne

takes : (ends : Ends) (c d : ℕ) (front : Front) (bytes : List ℕ) (found : Option Place) → d ≢ c → Stays d ends (client_takes ends c front bytes found).ends
takes ends c d front bytes None ne = nothing d ends
takes ends c d front bytes (Some place) ne =
    let taken = take_at place.client bytes in
    of_place c d ends (record place { client = taken.client; recording = (note_taken place.recording place.client taken).recording }) ne

comes_to : calls.SlotsApart → (ends : Ends) (number d : ℕ) (sent : SentBytes) (direction : Direction) → IsOfOther ends d sent direction → Stays d ends (arrive_at ends number sent direction).ends
comes_to laws ends number d sent ToClient other = takes ends sent.client d (fronts.Deliver number) sent.bytes (place_at ends sent.client) other
comes_to laws ends number d sent (ToServer from) other = of_server d ends (hears.take_at ends.server from sent.bytes).server (laws.takes ends.server d from sent.bytes other)

delivers : calls.SlotsApart → (ends : Ends) (number d : ℕ) (found : Option SentBytes) → IsOfOthers ends d found → Stays d ends (deliver_at ends number found).ends
delivers laws ends number d None others = nothing d ends
delivers laws ends number d (Some sent) others = comes_to laws ends number d sent sent.direction others

hands_server : calls.SlotsApart → (ends : Ends) (c d : ℕ) (bytes : List ℕ) (found : Option Place) → IfSome found (λ place. taker_of ends.server place.address bytes ≢ Some d)
    → Stays d ends (hand_server_of ends c bytes found).ends
hands_server laws ends c d bytes None other = nothing d ends
hands_server laws ends c d bytes (Some place) other =
    of_server d ends (hears.take_at ends.server place.address bytes).server (laws.takes ends.server d place.address bytes other)

-- a line about an entity
in_range_left : (ends : Ends) (d number : ℕ) (refusal : HandedIn) (step : ServerStep) → Stays d ends (record ends { server = step.server })
    → Stays d ends (record ends { server = (in_range ends.server number refusal step).server })
in_range_left ends d number refusal step left =
    in_range_or (λ (done : ServerStep). Stays d ends (record ends { server = done.server })) ends.server number refusal step (λ lt. left) (nothing d ends)

-- ---- every event

pub slots_apart : calls.SlotsApart → SlotsApart
unfolding kept_step line_of server_line
slots_apart laws kept (events.Client c challenge qport dup address) d ne =
    let added = add_client_at kept.ends.server c challenge qport address in
    let left =
    joins c d kept.ends added.server (record { client = new_client kept.profile challenge qport dup; address = address; recording = None }) added.answer ne
    (laws.joins kept.ends.server c challenge qport d address ne) in
    record { slot = left.slot; frames = left.frames; place = left.place }
slots_apart laws kept (events.Port c port) d ne =
    let left = ports c d port kept.ends (place_at kept.ends c) ne in
    record { slot = left.slot; frames = left.frames; place = left.place }
slots_apart laws kept (events.Map id feed) d ne = absurd ne
slots_apart laws kept (events.Config index text) d ne = absurd ne
slots_apart laws kept (events.Baseline state) d ne =
    let left =
    in_range_left kept.ends d state.number (handed.Baseline state.number (Err unset.OutOfRange)) (at_server.set_baseline kept.ends.server state)
    (of_server d kept.ends (set_baseline_at kept.ends.server state).server (laws.baseline kept.ends.server state d)) in
    record { slot = left.slot; frames = left.frames; place = left.place }
slots_apart laws kept (events.Entity state) d ne =
    let left =
    in_range_left kept.ends d state.number (handed.Entity state.number (Err (record {}))) (at_server.set_entity kept.ends.server state)
    (of_server d kept.ends (set_entity_at kept.ends.server state) (laws.entity kept.ends.server state d)) in
    record { slot = left.slot; frames = left.frames; place = left.place }
slots_apart laws kept (events.Remove number) d ne =
    let left =
    in_range_left kept.ends d number (handed.Remove number (Err (record {}))) (at_server.remove_entity kept.ends.server number)
    (of_server d kept.ends (remove_entity_at kept.ends.server number) (laws.remove kept.ends.server number d)) in
    record { slot = left.slot; frames = left.frames; place = left.place }
slots_apart laws kept (events.Time time) d ne =
    let left = of_server d kept.ends (set_time_at kept.ends.server time) (laws.time kept.ends.server time d) in
    record { slot = left.slot; frames = left.frames; place = left.place }
slots_apart laws kept (events.Player c player) d ne =
    let left = of_server d kept.ends (set_player_at kept.ends.server c player).server (laws.player kept.ends.server c d player ne) in
    record { slot = left.slot; frames = left.frames; place = left.place }
slots_apart laws kept (events.Area c area) d ne =
    let left = of_server d kept.ends (set_area_at kept.ends.server c area.items).server (laws.area kept.ends.server c d area.items ne) in
    record { slot = left.slot; frames = left.frames; place = left.place }
slots_apart laws kept (events.Say c text) d ne =
    let left = of_server d kept.ends (say_at kept.ends.server c text).server (laws.says kept.ends.server c d text ne) in
    record { slot = left.slot; frames = left.frames; place = left.place }
slots_apart laws kept (events.TypeText c text) d ne =
    let left = lines_of c d (events.TypeText c text) kept.ends (place_at kept.ends c) ne in
    record { slot = left.slot; frames = left.frames; place = left.place }
slots_apart laws kept (events.Move c one) d ne =
    let left = lines_of c d (events.Move c one) kept.ends (place_at kept.ends c) ne in
    record { slot = left.slot; frames = left.frames; place = left.place }
slots_apart laws kept (events.Serve c) d ne =
    let left = laws.emits kept.ends.server c d ne in
    record { slot = left.slot; frames = left.frames; place = refl }
slots_apart laws kept (events.Send c) d ne =
    let left = sends kept c d (place_at kept.ends c) ne in
    record { slot = left.slot; frames = left.frames; place = left.place }
slots_apart laws kept (events.Deliver number) d others =
    let left = delivers laws kept.ends number d (slice_get kept.datagrams (number - 1)) others in
    record { slot = left.slot; frames = left.frames; place = left.place }
slots_apart laws kept (events.RecordTo c name) d ne =
    let left = lines_of c d (events.RecordTo c name) kept.ends (place_at kept.ends c) ne in
    record { slot = left.slot; frames = left.frames; place = left.place }
slots_apart laws kept (events.Stop c) d ne =
    let left = lines_of c d (events.Stop c) kept.ends (place_at kept.ends c) ne in
    record { slot = left.slot; frames = left.frames; place = left.place }
slots_apart laws kept (events.Show c) d ne =
    let left = subst (λ (ends : Ends). Stays d kept.ends ends) (sym (show_stays kept.ends c (place_at kept.ends c) refl)) (nothing d kept.ends) in
    record { slot = left.slot; frames = left.frames; place = left.place }
slots_apart laws kept (events.Toclient c bytes) d ne =
    let left = takes kept.ends c d (fronts.Toclient c) bytes (place_at kept.ends c) ne in
    record { slot = left.slot; frames = left.frames; place = left.place }
slots_apart laws kept (events.Toserver c bytes) d other =
    let left = hands_server laws kept.ends c d bytes (place_at kept.ends c) other in
    record { slot = left.slot; frames = left.frames; place = left.place }
slots_apart laws kept event d ne =
    let left = nothing d kept.ends in
    record { slot = left.slot; frames = left.frames; place = left.place }
