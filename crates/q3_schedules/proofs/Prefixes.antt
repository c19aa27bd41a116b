-- What the ends executed of each other's commands.
use Rattle.std.proofs.Common.{◌≡◌, ℕ, ◌+◌, ◌-◌, List, [], ◌∷◌, ◌++◌, length, take, Option, Some, None, Ok, refl, sym, ap, subst, ◌∙◌, inl, inr}
use Rattle.std.specs.Prelude.{slice_get}
use Rattle.q3_profile.specs.declared.profile.Profile.{Profile}
use Rattle.q3_io.specs.declared.address.Address.{Address}
use Rattle.q3_script.specs.declared.event.Event.{Event}
use Rattle.q3_script.specs.declared.event.Event.TheVariants as events
use Rattle.q3_text.specs.declared.text.Command.{Command}
use Rattle.q3_text.specs.Commands.{numbered}
use Rattle.q3_chan.specs.declared.gatherer.Gathered.{Gathered}
use Rattle.q3_chan.specs.Tags.{tagged}
use Rattle.q3_built.specs.Built.{built_bytes, plain_bytes}
use Rattle.q3_slot.specs.declared.taking.Heard.{Heard}
use Rattle.q3_slot.specs.Slot.{SlotState}
use Rattle.q3_slot.specs.Taking as by_slot
use Rattle.q3_server.specs.Taking as hears
use Rattle.q3_server.specs.Server.{slot_at}
use Rattle.q3_client.specs.Client.{ClientState, take_answer, take_gathered, receive_message}
use Rattle.q3_client.specs.Sending.{said_bytes}
use Rattle.q3_entity_ring.specs.Snapshot.{Snapshot}
use Rattle.q3_world.specs.declared.made.Direction.{Direction}
use Rattle.q3_world.specs.declared.made.Direction.TheVariants.{ToClient, ToServer}
use Rattle.q3_report.specs.Answers.{ran_in}
use Rattle.q3_world.specs.declared.places.Place.{Place}
use Rattle.q3_world.specs.Ends.{Ends}
use Rattle.q3_world.specs.Kept.{KeptStep, kept_step}
use Rattle.q3_world.specs.World.{Tag, Step, Whole, History, no_history, history_at, texts_of, with_heard, with_run, named, said_under, arrive, opening, step, with_game, with_taken, game_in}
use Rattle.q3_world.specs.StandsFor.{IsSent, AreCommanded}
use Rattle.q3_world.specs.Layers.{Layers}
use Rattle.q3_world.specs.ByTags.{kept_then, whole_then, BytesFollowTags}
use Rattle.q3_schedules.specs.Schedules.{GoesOn, CommandsArePrefixes, ExecutedGoesOn}
use Rattle.q3_world.proofs.Holding.{Holds, Has, has_client, has_slot}
use Rattle.q3_world.proofs.StepsByTags.{Cited}
use Rattle.q3_world.proofs.Arriving.{IsFor, IsOf, quiet_client, quiet_slot, client_of_tag, slot_of_tag, names, said_hears, is_sent, is_for, is_of_client}
use Rattle.q3_world.proofs.ByTags.{cited_of}
use Rattle.q3_world.proofs.OnePlace.{set_there}
use Rattle.std.proofs.lemmas.Bool.{cases_Bool}
use Rattle.q3_map.specs.Map.{is_other}
use Rattle.q3_slot.specs.Taking.{came_as}
use Rattle.q3_gamestate.specs.Values.{Gamestate}
use Rattle.q3_schedules.proofs.RunIssued.{slot_takes, slot_does}
use Rattle.q3_schedules.proofs.Stood.{Stood, after_both, after_one, delivers_same, holds_of, of_there, step_own, stood}

-- ---- fronts

pub commands_are_prefixes : BytesFollowTags → CommandsArePrefixes
commands_are_prefixes law profile all c slot client is are within slot_is client_is =
    let stands : Stood profile (kept_then profile all) (whole_then profile all) = stood law profile all is are in
    let whole = whole_then profile all in
    let history = history_at whole.histories c in
    let slot_found : slot_at whole.ends.server c ≡ Some slot = ap (λ (e : Ends). slot_at e.server c) (sym stands.ends) ∙ slot_is in
    let says : ClientState → Type 0 = λ client.
    (history.client_executed ≡ take client.state.executed.executed history.server_commands)
    × (history.server_executed ≡ take slot.executed.executed history.client_commands)
    × (client.state.executed.executed ≡ length history.client_executed)
    × (slot.executed.executed ≡ length history.server_executed) in
    of_there profile (kept_then profile all) whole c client says within client_is stands
    (λ of_slot place had.
    let commanded = subst (λ (s : SlotState). AreCommanded s place.client history) (one_slot (sym had.slot_is ∙ slot_found)) had.joined.commanded in
    let by_client = commanded.to_client.runs.executed in
    let by_slot = commanded.to_server.runs.executed in (
      commanded.to_client.front ∙ ap (λ (k : ℕ). take k history.server_commands) (sym by_client),
      commanded.to_server.front ∙ ap (λ (k : ℕ). take k history.client_commands) (sym by_slot),
      by_client,
      by_slot,
    ))
  where
    one_slot : {some other : SlotState} → Some some ≡ Some other → some ≡ other
    one_slot same = cc

-- ---- what a delivery executes

-- it goes on after a count
abbrev GoOn : ℕ → List Command → Type 0
GoOn count commands = commands ≡ numbered (count + 1) (texts_of commands)

none_go_on : (count : ℕ) → GoOn count []
unfolding numbered
none_go_on count = refl

-- at a client
client_goes_on : (profile : Profile) (whole : Whole) (tag : Tag) (slot : SlotState) (place : Place) → Cited profile → IsFor profile whole tag → Has profile whole tag.client slot place
    → GoOn (length (history_at whole.histories tag.client).client_executed)
    (take_gathered place.client (tagged place.client.gathering tag.number (built_bytes profile (named whole.histories tag)) tag.index) (λ n. Ok (receive_message place.client n (named whole.histories tag).message (plain_bytes profile (named whole.histories tag))))).heard
client_goes_on profile whole tag slot place cited is had =
    let client = place.client in
    let built = named whole.histories tag in
    let count = length (history_at whole.histories tag.client).client_executed in
    let took = tagged client.gathering tag.number (built_bytes profile built) tag.index in
    let does = cited.below.does client.gathering tag.number (built_bytes profile built) tag.index in
    let now = record client { gathering = took.gathering } in
    elim does.either [
      | inl waits ↦ subst (GoOn count) (sym (quiet_client now took.answer (λ n. Ok (receive_message client n built.message (plain_bytes profile built))) waits.quiet).heard) (none_go_on count)
      | inr came ↦
          let came_so = ap (λ (a : Gathered). (take_answer now a (λ n. Ok (receive_message client n built.message (plain_bytes profile built)))).heard) came.answer in
          subst (GoOn count) (sym came_so) ((names profile whole tag slot place cited is had).hears came.newer).numbers
    ]

-- and at the server
slot_goes_on : (profile : Profile) (whole : Whole) (tag : Tag) (from : Address) (slot : SlotState) (place : Place) → Cited profile → IsOf profile whole tag from
    → Has profile whole tag.client slot place
    → GoOn (length (history_at whole.histories tag.client).server_executed) (slot_takes profile whole tag from slot).heard.commands
slot_goes_on profile whole tag from slot place cited is had =
    let c = tag.client in
    let map = whole.ends.server.map in
    let said = said_under whole.histories tag in
    let message = said.message in
    let count = length (history_at whole.histories c).server_executed in
    let took = tagged slot.gathering tag.number (said_bytes profile said) tag.index in
    let does = cited.below.does slot.gathering tag.number (said_bytes profile said) tag.index in
    let now = record slot { address = from; gathering = took.gathering } in
    elim does.either [
      | inl waits ↦ subst (GoOn count) (sym (ap (λ (h : Heard). h.commands) (quiet_slot map now c took.answer (λ n. Ok (came_as map message)) waits.quiet).heard)) (none_go_on count)
      | inr came ↦
          let heard = said_hears profile whole tag from slot place cited is had came.newer in
          let doing = slot_does map now c tag.number (length (said_bytes profile said)) message took.answer came.answer heard.gap in
          elim (cases_Bool (is_other map message.id)) [
            | inl other ↦ subst (GoOn count) (sym (ap (λ (t : by_slot.SlotTaken). t.heard.commands) (doing.of_other other))) (none_go_on count)
            | inr same ↦ subst (GoOn count) (sym (ap (λ (t : by_slot.SlotTaken). t.heard.commands) (doing.of_map same))) heard.numbers
          ]
    ]

-- ---- and is noted

heard_noted : (history : History) (accepted : Option Snapshot) (commands : List Command) → GoOn (length history.client_executed) commands
    → GoesOn commands history (with_heard history accepted commands) ToClient
heard_noted history None commands goes = (goes, refl, refl)
heard_noted history (Some snapshot) commands goes = (goes, refl, refl)

-- and after that a gamestate
game_noted : (before noted : History) (commands : List Command) (number time : ℕ) (game : Option Gamestate) → GoesOn commands before noted ToClient
    → GoesOn commands before (with_game noted number time game) ToClient
game_noted before noted commands number time None goes = goes
game_noted before noted commands number time (Some game) goes = goes

-- by its tag
arrived_goes_on : (profile : Profile) (whole : Whole) (number : ℕ) (tag : Tag) (direction : Direction) → Cited profile → tag.direction ≡ direction → IsSent profile whole.histories tag → Holds profile whole
    → GoesOn (ran_in (arrive profile whole number tag direction).answer).commands (history_at whole.histories tag.client)
    (history_at (arrive profile whole number tag direction).whole.histories tag.client) direction
arrived_goes_on profile whole number tag ToClient cited way is holds =
    let c = tag.client in
    let history = history_at whole.histories c in
    let sent = is_for profile whole tag way is in
    let found = client_of_tag profile whole tag sent holds in
    let place = found.0 in
    let client = place.client in
    let had = has_client profile whole c place sent.0 found.1 holds in
    let taken = take_gathered client (tagged client.gathering tag.number (built_bytes profile (named whole.histories tag)) tag.index) (λ n. Ok (receive_message client n (named whole.histories tag).message (plain_bytes profile (named whole.histories tag)))) in
    let section = (named whole.histories tag).message.section in
    let noted = with_taken history tag.number section taken in
    let there = set_there whole.histories c no_history noted holds.facts.histories sent.0 in
    rw found.1 (subst (λ (h : History). GoesOn taken.heard history h ToClient) (sym there)
    (game_noted history (with_heard history taken.accepted taken.heard) taken.heard tag.number taken.client.last_time (game_in taken.answer section)
    (heard_noted history taken.accepted taken.heard (client_goes_on profile whole tag had.0 place cited sent had.1))))
arrived_goes_on profile whole number tag (ToServer from) cited way is holds =
    let c = tag.client in
    let history = history_at whole.histories c in
    let sent = is_of_client profile whole tag from way is in
    let found = slot_of_tag profile whole tag from sent holds in
    let slot = found.0 in
    let had = has_slot profile whole c slot sent.0 found.1 holds in
    let taken = slot_takes profile whole tag from slot in
    let noted = with_run history (hears.taken_at whole.ends.server c taken).heard in
    let there = set_there whole.histories c no_history noted holds.facts.histories sent.0 in
    rw found.1 (subst (λ (h : History). GoesOn taken.heard.commands history h (ToServer from)) (sym there)
    (slot_goes_on profile whole tag from slot had.0 cited sent had.1, refl, refl))

abbrev StepGoesOn : Whole → Tag → Step → Type 0
StepGoesOn whole tag next = GoesOn (ran_in next.answer).commands (history_at whole.histories tag.client) (history_at next.whole.histories tag.client) tag.direction

delivered_goes_on : (profile : Profile) (whole : Whole) (number : ℕ) (tag : Tag) → Cited profile → slice_get whole.sent (number - 1) ≡ Some tag → Holds profile whole
    → StepGoesOn whole tag (step profile whole (events.Deliver number))
delivered_goes_on profile whole number tag cited at holds =
    subst (StepGoesOn whole tag) (sym (step_own profile whole number holds.own))
    (rw at (arrived_goes_on profile whole number tag tag.direction cited refl (is_sent profile whole (number - 1) tag at holds) holds))

-- and by bytes
pub executed_goes_on : BytesFollowTags → Layers → ExecutedGoesOn
executed_goes_on law below profile all number tag is are is_event at =
    let stands : Stood profile (kept_then profile all) (whole_then profile all) = stood law profile all is are in
    let kept = kept_then profile all in
    let whole = whole_then profile all in
    let event : Event = events.Deliver number in
    let cited = cited_of below profile is in
    let holds = holds_of profile kept whole stands in
    let history = history_at whole.histories tag.client in
    let by_tag = delivered_goes_on profile whole number tag cited at holds in
    let answers : (ran_in (kept_step kept event).answer).commands ≡ (ran_in (step profile whole event).answer).commands =
    ap (λ (s : KeptStep). (ran_in s.answer).commands) (delivers_same profile kept whole number cited stands) in
    let then_is : whole_then profile (all ++ event ∷ []) ≡ (step profile whole event).whole =
    after_both profile (opening profile) all (event ∷ []) ∙ after_one profile whole event in
    subst (λ (commands : List Command). GoesOn commands history (history_at (whole_then profile (all ++ event ∷ [])).histories tag.client) tag.direction) (sym answers)
    (subst (λ (w : Whole). GoesOn (ran_in (step profile whole event).answer).commands history (history_at w.histories tag.client) tag.direction) (sym then_is) by_tag)
