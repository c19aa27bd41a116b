-- No end ever gets what it can't read.
use Rattle.std.proofs.Common.{◌≡◌, ℕ, ◌+◌, ◌-◌, List, [], ◌∷◌, length, Option, Some, None, Result, Ok, Err, refl, sym, subst, inl, inr, arith, false, Bool, ◌∙◌}
use Rattle.std.specs.Prelude.{◌⊎◌, nat_le, nat_lt, slice_get}
use Rattle.std.specs.List.{AllByRecursion}
use Rattle.std.proofs.lemmas.Bool.{cases_Bool}
use Rattle.q3_bits.specs.Bits.{message_length}
use Rattle.q3_profile.specs.declared.profile.Profile.{Profile}
use Rattle.q3_io.specs.declared.address.Address.{Address}
use Rattle.q3_script.specs.declared.event.Event.{Event}
use Rattle.q3_script.specs.declared.event.Event.TheVariants as events
use Rattle.q3_schedules.specs.Schedules.{IsScheduled}
use Rattle.q3_schedules.proofs.Stood.{foreign_is, own_at_first}
use Rattle.q3_window.specs.Incoming.{gap_in}
use Rattle.q3_clmsg.specs.Values.{Message}
use Rattle.q3_svmsg.specs.declared.error.Illegible.{Illegible}
use Rattle.q3_clstate.specs.State.{apply_message}
use Rattle.q3_clstate.specs.declared.applied.Applied.{Applied}
use Rattle.q3_chan.specs.declared.gatherer.Gathered.{Gathered}
use Rattle.q3_chan.specs.declared.gatherer.Gathered.TheVariants as gathered
use Rattle.q3_chan.specs.declared.gatherer.Gathered.TheVariants.{Whole as CameWhole}
use Rattle.q3_chan.specs.Datagrams.{sequence_end, longest_message}
use Rattle.q3_chan.specs.Sending.{UnderWay}
use Rattle.q3_chan.specs.Tags.{tagged, IsQuiet}
use Rattle.q3_server.specs.declared.server.SlotError.{SlotError}
use Rattle.q3_built.specs.Built.{Built, built_bytes, plain_bytes}
use Rattle.q3_slot.specs.Slot.{SlotState}
use Rattle.q3_server.specs.Server.{slot_at, add_client_at}
use Rattle.q3_entity_ring.specs.Snapshot.{Snapshot}
use Rattle.q3_rings.specs.Rings.{is_young}
use Rattle.q3_rings.specs.Accepted.{age_of}
use Rattle.q3_slot.specs.Taking as by_slot
use Rattle.q3_svmsg.specs.Values as told
use Rattle.q3_client.specs.Client.{ClientState, new_client, receive_message, take_answer}
use Rattle.q3_client.specs.Sending as speaks
use Rattle.q3_client.specs.Sending.{said_bits, said_bytes, next_message, next_said, is_unclear}
use Rattle.q3_ends.specs.AtServer.{server_line}
use Rattle.q3_world.specs.declared.made.Direction.{Direction}
use Rattle.q3_world.specs.declared.made.Direction.TheVariants.{ToClient, ToServer}
use Rattle.q3_report.specs.Answers.{Answered, SentOut}
use Rattle.q3_world.specs.declared.places.Place.{Place}
use Rattle.q3_ends.specs.Recording.{asking}
use Rattle.q3_world.specs.Ends.{Ends, client_step_of, joined, line_of, place_at, set_port_of, told_as}
use Rattle.q3_ends.specs.ClientLine.{answer_in, client_line, unjoined}
use Rattle.q3_world.specs.Kept.{Kept, opening_kept, kept_step, kept_answers}
use Rattle.q3_world.specs.World.{Tag, Whole, history_at, opening, step, send, named, to_client, said_under, to_server, arrive, deliver, deliver_as}
use Rattle.q3_world.specs.StandsFor.{IsSent, StandsFor}
use Rattle.q3_world.specs.Layers.{Layers}
use Rattle.q3_world.specs.ByTags.{StepFollows}
use Rattle.q3_world.specs.Answering.{outcome_of, outcome_in}
use Rattle.q3_schedules.specs.Schedules.{MayBecome, IsLegible, IsReadByClient, IsReadByServer, AlwaysLegible}
use Rattle.q3_world.proofs.Holding.{Holds, has_slot, has_client}
use Rattle.q3_world.proofs.StepsByTags.{Cited}
use Rattle.q3_world.proofs.Arriving.{IsFor, IsOf, names, is_sent, is_for, is_of_client, slot_of_tag, said_hears}
use Rattle.q3_schedules.proofs.EverySchedule.{outcome}
use Rattle.q3_world.proofs.ByTags.{cited_of, stands_opening}
use Rattle.q3_svmsg.specs.Values.{Told}
use Rattle.q3_world.specs.Games.{accepted_since}
use Rattle.q3_map.specs.Map.{MapState, is_other}
use Rattle.q3_slot.specs.Taking.{came_as}
use Rattle.q3_schedules.proofs.RunIssued.{slot_does}

-- ---- what the game hands in

legible_joined : (ends : Ends) (c : ℕ) (place : Place) (added : Result (Unit {0}) SlotError) → IsLegible (joined ends c place added).answer
legible_joined ends c place (Ok x) = tt
legible_joined ends c place (Err e) = tt

legible_port : (ends : Ends) (c port : ℕ) (found : Option Place) → IsLegible (set_port_of ends c port found).answer
legible_port ends c port None = tt
legible_port ends c port (Some place) = tt

-- a line of a client's own is answered with no bytes taken
legible_line : (ends : Ends) (c : ℕ) (event : Event) (found : Option Place) → ((place : Place) → IsLegible (told_as (answer_in (client_line place.client place.recording event))))
    → IsLegible (told_as (unjoined event)) → IsLegible (client_step_of ends c event found).answer
legible_line ends c event None there nobody = nobody
legible_line ends c event (Some place) there nobody = there place

-- ---- what a client sends

legible_left : (c n : ℕ) (client : ClientState) (left : Option UnderWay) → IsLegible (SentOut c (Ok (speaks.emit_left client left).answer) n)
legible_left c n client (Some left) = tt
legible_left c n client None =
    let next = next_said client in
    let bits = said_bits client.state.profile next in
    elim (cases_Bool (nat_le sequence_end (client.sending.number + 1))) [
      | inl ended ↦ rw ended tt
      | inr goes ↦ elim (cases_Bool (is_unclear client.state.profile (next_message client))) [
        | inl hidden ↦ rw (goes, hidden) tt
        | inr clear ↦ rw (goes, clear) (elim (cases_Bool (nat_lt longest_message (message_length (length bits)))) [
          | inl long ↦ rw long tt
          | inr short ↦ rw short tt
        ])
      ]
    ]

legible_send : (whole : Whole) (c : ℕ) (found : Option Place) → ((place : Place) → found ≡ Some place → place.client.dropped ≡ None) → IsLegible (send whole c found).answer
unfolding speaks.emit_at
legible_send whole c None legible = tt
legible_send whole c (Some place) legible =
    let client = asking place.client place.recording in
    subst (λ (dropped : Option Illegible). IsLegible (SentOut c (Ok (speaks.emit_unless client dropped).answer) (length whole.sent + 1))) (sym (legible place refl))
    (legible_left c (length whole.sent + 1) client client.sending.under_way)

-- ---- what a client takes

-- a snapshot that was built is accepted, or skipped for the entities of its base
may_become : (ring : ℕ) (accepted : List Snapshot) (base : Option Snapshot) → MayBecome (outcome_of ring accepted base)
may_become ring accepted None = tt
may_become ring accepted (Some base) =
    elim (cases_Bool (is_young ring (age_of accepted base.head.number))) [
      | inl young ↦ rw young tt
      | inr old ↦ rw old tt
    ]

-- and a gamestate has none
may_become_in : (ring : ℕ) (accepted : List Snapshot) (base : Option Snapshot) (section : Told) → MayBecome (outcome_in ring accepted base section)
may_become_in ring accepted base (told.Snap number head entities) = may_become ring accepted base
may_become_in ring accepted base section = tt

-- what a client makes of a piece: nothing came whole, or its message did, and was applied
legible_took : (profile : Profile) (n : ℕ) (client now : ClientState) (answer : Gathered) (built : Built)
    → IsQuiet answer ⊎ ((count : ℕ) × (answer ≡ CameWhole n count) × MayBecome (apply_message client.state n built.message).answer.snap)
    → IsReadByClient (take_answer now answer (λ k. Ok (receive_message client k built.message (plain_bytes profile built)))).answer
legible_took profile n client now answer built (inl quiet) = waits answer quiet
  where
    waits : (answer : Gathered) → IsQuiet answer → IsReadByClient (take_answer now answer (λ k. Ok (receive_message client k built.message (plain_bytes profile built)))).answer
    waits (CameWhole number count) is = absurd is
    waits gathered.Partial is = tt
    waits gathered.Old is = tt
    waits gathered.OutOfOrder is = tt
    waits gathered.BadFragment is = absurd is
    waits gathered.BadCheck is = absurd is
    waits gathered.Runt is = absurd is
    waits gathered.Connectionless is = absurd is
legible_took profile n client now answer built (inr came) = rw came.1 came.2

legible_to_client : (profile : Profile) (whole : Whole) (number : ℕ) (tag : Tag) (found : Option Place) → Cited profile → IsFor profile whole tag
    → place_at whole.ends tag.client ≡ found → Holds profile whole → IsLegible (to_client profile whole number tag found).answer
legible_to_client profile whole number tag None cited is at holds = tt
legible_to_client profile whole number tag (Some place) cited is at holds =
    let client = place.client in
    let built = named whole.histories tag in
    let took = tagged client.gathering tag.number (built_bytes profile built) tag.index in
    let does = cited.below.does client.gathering tag.number (built_bytes profile built) tag.index in
    let had = has_client profile whole tag.client place is.0 at holds in
    legible_took profile tag.number client (record client { gathering = took.gathering }) took.answer built
    (elim does.either [
      | inl waits ↦ inl waits.quiet
      | inr came ↦
          let out = outcome profile whole tag.client tag.number had.0 place built cited had.1 came.newer (names profile whole tag had.0 place cited is had.1) in
          inr (
            length (built_bytes profile built),
            came.answer,
            subst (λ (a : Applied). MayBecome a.snap) (sym out.answer)
                (may_become_in profile.parse_ring (accepted_since (history_at whole.histories tag.client).games (history_at whole.histories tag.client).accepted) built.base built.message.section),
          )
    ])

-- ---- what the server takes

-- what a slot makes of a piece: nothing came whole, or its message did, and was run, or is of another map
legible_heard : (map : MapState) (c n : ℕ) (slot : SlotState) (answer : Gathered) (message : Message)
    → IsQuiet answer ⊎ ((count : ℕ) × (answer ≡ CameWhole n count) × (gap_in slot.executed.executed message.commands ≡ None))
    → IsReadByServer (by_slot.take_answer map slot c answer (λ k. Ok (came_as map message))).answer
legible_heard map c n slot answer message (inl quiet) = waits answer quiet
  where
    waits : (answer : Gathered) → IsQuiet answer → IsReadByServer (by_slot.take_answer map slot c answer (λ k. Ok (came_as map message))).answer
    waits (CameWhole number count) is = absurd is
    waits gathered.Partial is = tt
    waits gathered.Old is = tt
    waits gathered.OutOfOrder is = tt
    waits gathered.BadFragment is = absurd is
    waits gathered.BadCheck is = absurd is
    waits gathered.Runt is = absurd is
    waits gathered.Connectionless is = absurd is
legible_heard map c n slot answer message (inr came) =
    let doing = slot_does map slot c n came.0 message answer came.1 came.2 in
    elim (cases_Bool (is_other map message.id)) [
      | inl other ↦ subst (λ (t : by_slot.SlotTaken). IsReadByServer t.answer) (sym (doing.of_other other)) tt
      | inr same ↦ subst (λ (t : by_slot.SlotTaken). IsReadByServer t.answer) (sym (doing.of_map same)) tt
    ]

legible_to_server : (profile : Profile) (whole : Whole) (number : ℕ) (tag : Tag) (from : Address) → Cited profile → IsOf profile whole tag from → Holds profile whole
    → IsLegible (to_server profile whole number tag from (slot_at whole.ends.server tag.client)).answer
legible_to_server profile whole number tag from cited is holds =
    let found = slot_of_tag profile whole tag from is holds in
    let slot = found.0 in
    let had = has_slot profile whole tag.client slot is.0 found.1 holds in
    let said = said_under whole.histories tag in
    let bytes = said_bytes profile said in
    let took = tagged slot.gathering tag.number bytes tag.index in
    let does = cited.below.does slot.gathering tag.number bytes tag.index in
    let next = record slot { address = from; gathering = took.gathering } in
    rw found.1 (legible_heard whole.ends.server.map tag.client tag.number next took.answer said.message
    (elim does.either [
      | inl waits ↦ inl waits.quiet
      | inr came ↦ inr (length bytes, came.answer, (said_hears profile whole tag from slot had.0 cited is had.1 came.newer).gap)
    ]))

-- ---- every event

legible_arrive : (profile : Profile) (whole : Whole) (number : ℕ) (tag : Tag) (direction : Direction) → Cited profile → tag.direction ≡ direction → IsSent profile whole.histories tag
    → Holds profile whole → IsLegible (arrive profile whole number tag direction).answer
legible_arrive profile whole number tag ToClient cited way is holds =
    legible_to_client profile whole number tag (place_at whole.ends tag.client) cited (is_for profile whole tag way is) refl holds
legible_arrive profile whole number tag (ToServer from) cited way is holds =
    legible_to_server profile whole number tag from cited (is_of_client profile whole tag from way is) holds

legible_deliver : (profile : Profile) (whole : Whole) (number : ℕ) (found : Option Tag) → Cited profile → slice_get whole.sent (number - 1) ≡ found → Holds profile whole
    → IsLegible (deliver profile whole number found).answer
legible_deliver profile whole number None cited at holds = tt
legible_deliver profile whole number (Some tag) cited at holds =
    legible_arrive profile whole number tag tag.direction cited refl (is_sent profile whole (number - 1) tag at holds) holds

-- each step by tags answers legibly
legible_step : (profile : Profile) (whole : Whole) (event : Event) → Cited profile → IsScheduled event → Holds profile whole → IsLegible (step profile whole event).answer
unfolding step line_of server_line
legible_step profile whole (events.Client c challenge qport dup address) cited is holds =
    let added = add_client_at whole.ends.server c challenge qport address in
    legible_joined (record whole.ends { server = added.server }) c (record { client = new_client profile challenge qport dup; address = address; recording = None }) added.answer
legible_step profile whole (events.Port c port) cited is holds = legible_port whole.ends c port (place_at whole.ends c)
legible_step profile whole (events.TypeText c text) cited is holds = legible_line whole.ends c (events.TypeText c text) (place_at whole.ends c) (λ place. tt) tt
legible_step profile whole (events.Move c one) cited is holds = legible_line whole.ends c (events.Move c one) (place_at whole.ends c) (λ place. tt) tt
legible_step profile whole (events.Send c) cited is holds =
    legible_send whole c (place_at whole.ends c) (λ place found. (has_client profile whole c place (omega (arith, is.0)) found holds).1.joined.of_client.legible)
legible_step profile whole (events.Deliver number) cited is holds =
    subst (λ (b : Bool). IsLegible (deliver_as b profile whole number (slice_get whole.sent (number - 1))).answer) (sym holds.own) (legible_deliver profile whole number (slice_get whole.sent (number - 1)) cited refl holds)
legible_step profile whole (events.RecordTo c name) cited is holds = legible_line whole.ends c (events.RecordTo c name) (place_at whole.ends c) (λ place. tt) tt
legible_step profile whole (events.Stop c) cited is holds = legible_line whole.ends c (events.Stop c) (place_at whole.ends c) (λ place. tt) tt
legible_step profile whole (events.Show c) cited is holds = legible_line whole.ends c (events.Show c) (place_at whole.ends c) (λ place. tt) tt
legible_step profile whole (events.Toclient c bytes) cited is holds = absurd is.1
legible_step profile whole (events.Toserver c bytes) cited is holds = absurd is.1
legible_step profile whole event cited is holds = tt

abbrev AreLegible : List Answered → Type 0
AreLegible all = AllByRecursion IsLegible all

-- and so does what is kept, on every list of events
legible_answers : StepFollows → (profile : Profile) (all : List Event) (kept : Kept) (whole : Whole) → Cited profile → whole.foreign ≡ false → AllByRecursion IsScheduled all → StandsFor profile kept whole
    → AreLegible (kept_answers kept all)
unfolding kept_answers
legible_answers law profile [] kept whole cited own are stands = tt
legible_answers law profile (event ∷ events) kept whole cited own are stands =
    let next = law profile kept whole event are.0.0 stands in
    let here = legible_step profile whole event cited are.0 (record { facts = stands.facts own; joined = stands.joined own; own = own }) in (
      subst IsLegible (sym next.1) here,
      legible_answers law profile events (kept_step kept event).kept (step profile whole event).whole cited (foreign_is profile whole event are.0.1 ∙ own) are.1 next.0,
    )

pub always_legible : StepFollows → Layers → AlwaysLegible
always_legible law below profile all is are = legible_answers law profile all (opening_kept profile) (opening profile) (cited_of below profile is) (own_at_first profile) are (stands_opening below profile is)
