-- Where each end gets only what the other made, a recording begins with config strings that tell the map's id.
use Rattle.std.proofs.Common.{◌≡◌, ℕ, ◌<◌, true, List, [], ◌∷◌, ◌++◌, Option, Some, None, Ok, refl, sym, ap, subst, ◌∙◌, inl, inr, arith}
use Rattle.std.specs.Prelude.{IsSome}
use Rattle.std.specs.List.{AllByRecursion}
use Rattle.std.proofs.lemmas.Bool.{cond_both}
use Rattle.q3_schedules.specs.Slots.{HaveSlots, SlotsAreKept}
use Rattle.q3_config.specs.Strings.{server_id}
use Rattle.q3_profile.specs.declared.profile.Profile.{Profile}
use Rattle.q3_svmsg.specs.Values.{Told, Nothing, Game, Snap, Skipped}
use Rattle.q3_rings.specs.Rings.{held_snapshot}
use Rattle.q3_clstate.specs.declared.applied.SnapOutcome.TheVariants.{Skipped as SkippedFor, Stale}
use Rattle.q3_clstate.specs.State.{AppliedState, Application, passes, accepts, is_stale, skipped_for, apply_section, hearing}
use Rattle.q3_script.specs.declared.event.Event.{Event}
use Rattle.q3_script.specs.declared.event.Event.TheVariants as events
use Rattle.q3_client.specs.Client.{ClientState, Taken, take_at}
use Rattle.q3_client.specs.declared.client.ClientTook.{ClientTook}
use Rattle.q3_client.specs.declared.client.ClientTook.TheVariants as took
use Rattle.q3_server.specs.Server.{places}
use Rattle.q3_report.specs.declared.answer.HandedIn.TheVariants as handed
use Rattle.q3_report.specs.Answers.{Given}
use Rattle.q3_demo.specs.declared.recorder.Stage.{Stage}
use Rattle.q3_demo.specs.declared.recorder.Stage.TheVariants.{Waits, Runs, Ended}
use Rattle.q3_demo.specs.Recording.{Noted, note_of}
use Rattle.q3_world.specs.declared.places.Place.{Place}
use Rattle.q3_world.specs.Ends.{client_at, client_of, line_of, place_at}
use Rattle.q3_world.specs.Kept.{Kept, kept_step, opening_kept}
use Rattle.q3_world.specs.ByTags.{kept_then}
use Rattle.q3_world.specs.StandsFor.{IsChecked}
use Rattle.q3_schedules.specs.Recorded.{applied_until, bytes_for, is_stop, noted_at, noted_of}
use Rattle.q3_schedules.specs.Schedules.{AppliedWasServed, IsScheduled, NothingPends, SaysNoChange, StringsTellId}
use Rattle.q3_recordings.specs.Plays.{recorded_with, recorded_from, BeginsTold, BeginsWhole}
use Rattle.q3_recordings.specs.Replays.{ReplayIsNoted, ReplayPlays, OwnReplayTells, OwnReplayPlays, OwnReplayBeginsWhole, kept_recording, noted_after}
use Rattle.q3_recordings.proofs.PlaysAs.{has_read}
use Rattle.q3_recordings.proofs.Recorded.{recorded_none}
use Rattle.q3_recordings.proofs.Sound.{IsSound, taken_notes}
use Rattle.q3_recordings.proofs.AtPlace.{Becomes, goes_on_at}
use Rattle.q3_recordings.proofs.Noting.{Laws, client_laws, becomes_sound}
use Rattle.q3_recordings.proofs.HalfNoted.{all_front, all_next, Along, along_on, half_noted}
use Rattle.q3_recordings.proofs.Replayed.{after_stands, opening_stands, records_at}

-- ---- a client keeps its gamestate

section_keeps : (state : AppliedState) (number : ℕ) (told : Told) → state.has_game ≡ true → (apply_section state number told).state.has_game ≡ true
section_keeps state number Nothing has = has
section_keeps state number (Game game) has = refl
section_keeps state number (Snap base head entities) has =
    cond_both (is_stale state.held number) (passes state number Stale) (accepts state number base (record { head = head; entities = entities }))
    (λ (applied : Application). applied.state.has_game ≡ true) (λ e. has) (λ e. has)
section_keeps state number (Skipped base) has =
    cond_both (is_stale state.held number) (passes state number Stale) (passes state number (SkippedFor base (skipped_for (held_snapshot state.held base))))
    (λ (applied : Application). applied.state.has_game ≡ true) (λ e. has) (λ e. has)

-- and a number, once it has applied something
record Plays (profile : Profile) (client : ClientState) : Type 0 where
  sound : IsSound profile client
  begun : 0 < client.state.number
  has : client.state.has_game ≡ true

plays_on : Laws → (profile : Profile) (client new : ClientState) (bytes : Option (List ℕ)) → Becomes profile client bytes new → Plays profile client → Plays profile new
plays_on laws profile client new None keeps plays =
    let same = keeps.state in
    let number : new.state.number ≡ client.state.number = ap (λ (s : AppliedState). s.number) same in
    let begun = plays.begun in
    record { sound = keeps.sound plays.sound; begun = omega (arith, number, begun); has = ap (λ (s : AppliedState). s.has_game) same ∙ plays.has }
plays_on laws profile client new (Some bytes) is plays =
    let taken = take_at client bytes in
    let there : new.state ≡ taken.client.state = ap (λ (client : ClientState). client.state) is in
    let number : new.state.number ≡ taken.client.state.number = ap (λ (s : AppliedState). s.number) there in
    let sound = becomes_sound laws profile client new (Some bytes) is plays.sound in
    elim (taken_notes laws.read laws.stays laws.contexts laws.takes profile client bytes plays.sound) [
      | inl one ↦
          let some = one.1.begun in
          let noted = one.1.is plays.begun in
          let has = has_read laws.read laws.contexts one.0 noted in
          let had : one.0.before.has_game ≡ true = ap (λ (s : AppliedState). s.has_game) one.1.before ∙ plays.has in
          let now : one.0.applied.state.has_game ≡ true =
          ap (λ (applied : Application). applied.state.has_game) has.does ∙ section_keeps (hearing one.0.before has.read.commands) one.0.applied.answer.number has.read.section had in
          record { sound = sound; begun = omega (arith, number, some); has = ap (λ (s : AppliedState). s.has_game) (there ∙ one.1.after) ∙ now }
      | inr none ↦
          let same : taken.client.state.number ≡ client.state.number = ap (λ (s : AppliedState). s.number) none.same in
          let begun = plays.begun in
          record { sound = sound; begun = omega (arith, number, same, begun); has = ap (λ (s : AppliedState). s.has_game) (there ∙ none.same) ∙ plays.has }
    ]

-- ---- what is said of a client's state before each of its messages

abbrev AllBefore : (AppliedState → Type 0) → List Noted → Type 0
AllBefore P messages = AllByRecursion (λ (noted : Noted). P noted.before) messages

answer_said : (P : AppliedState → Type 0) (client : ClientState) (taken : Taken) (answer : ClientTook) → P client.state → AllBefore P (noted_of client taken answer)
answer_said P client taken (took.Applied applied) is = (is, tt)
answer_said P client taken other is = tt

event_said : (P : AppliedState → Type 0) (place : Place) (bytes : Option (List ℕ)) → P place.client.state → AllBefore P (noted_at (Some place) bytes)
event_said P place None is = tt
event_said P place (Some bytes) is = answer_said P place.client (take_at place.client bytes) (take_at place.client bytes).answer is

both_said : (P : AppliedState → Type 0) (some others : List Noted) → AllBefore P some → AllBefore P others → AllBefore P (some ++ others)
both_said P [] others first rest = rest
both_said P (noted ∷ some) others first rest = (first.0, both_said P some others first.1 rest)

-- what holds of every client that has a gamestate, after any events
abbrev OfClients : (Event → Type 0) → Profile → (AppliedState → Type 0) → Type 0
OfClients Is profile P = (done : List Event) (c : ℕ) (client : ClientState) → AllByRecursion Is done → c < places → client_at (kept_then profile done).ends c ≡ Some client
    → client.state.has_game ≡ true → P client.state

client_said : (Is : Event → Type 0) (profile : Profile) (P : AppliedState → Type 0) → OfClients Is profile P → (kept : Kept) (events : List Event) → Along Is profile kept events
    → (c : ℕ) (place : Place) → c < places → place_at kept.ends c ≡ Some place → place.client.state.has_game ≡ true → P place.client.state
client_said Is profile P of kept events along c place lt at has =
    let there : client_at (kept_then profile along.done).ends c ≡ Some place.client =
    ap (λ (k : Kept). client_at k.ends c) (sym along.is) ∙ ap (λ (found : Option Place). found_client found) at in
    of along.done c place.client (all_front Is along.done events along.are) lt there has
  where
    found_client : Option Place → Option ClientState
    found_client None = None
    found_client (Some place) = Some (client_of place)

all_said : (slots : SlotsAreKept) (Is : Event → Type 0) (P : AppliedState → Type 0) → Laws → (profile : Profile) → IsChecked profile → OfClients Is profile P → (kept : Kept) (events : List Event)
    → HaveSlots kept.ends → Along Is profile kept events → (c : ℕ) (place : Place) → c < places → place_at kept.ends c ≡ Some place → Plays profile place.client
    → AllBefore P (applied_until kept events c)
unfolding applied_until
all_said slots Is P laws profile checked of kept [] have along c place lt at plays = tt
all_said slots Is P laws profile checked of kept (event ∷ events) have along c place lt at plays =
    let next = (kept_step kept event).kept in
    let goes = goes_on_at slots profile (client_laws laws profile checked) kept have event c place at in
    let bytes = bytes_for kept event c in
    let now = plays_on laws profile place.client goes.place.client bytes goes.becomes plays in
    let rest = all_said slots Is P laws profile checked of next events (slots.step kept event have) (along_on Is profile kept event events along) c goes.place lt goes.at now in
    let is = client_said Is profile P of kept (event ∷ events) along c place lt at plays.has in
    let all = both_said P (noted_at (Some place) bytes) (applied_until next events c) (event_said P place bytes is) rest in
    let there = subst (λ (found : Option Place). AllBefore P (noted_at found bytes ++ applied_until next events c)) (sym at) all in
    cond_both (is_stop c event) [] (noted_at (place_at kept.ends c) bytes ++ applied_until next events c) (λ (notes : List Noted). AllBefore P notes) (λ e. tt) (λ e. there)

-- after a `record` line
after_said : (slots : SlotsAreKept) (Is : Event → Type 0) (P : AppliedState → Type 0) → Laws → (profile : Profile) → IsChecked profile → OfClients Is profile P → (first rest : List Event) (c : ℕ) (name : List ℕ)
    → AllByRecursion Is (first ++ events.RecordTo c name ∷ rest) → c < places
    → (kept_step (kept_then profile first) (events.RecordTo c name)).answer ≡ Given (handed.Record c (Ok tt)) → AllBefore P (noted_after profile first c name rest)
unfolding kept_step line_of
after_said slots Is P laws profile checked of first rest c name are lt answer =
    let kept = kept_then profile first in
    let line = events.RecordTo c name in
    let stands = after_stands slots laws profile checked (opening_kept profile) first (opening_stands slots profile) in
    let records = records_at kept.ends c name (place_at kept.ends c) refl answer in
    let sound = stands.sound c records.place records.at in
    let goes = goes_on_at slots profile (client_laws laws profile checked) kept stands.have line c records.place records.at in
    let now = plays_on laws profile records.place.client goes.place.client None goes.becomes (record { sound = sound; begun = sound.begun records.game; has = records.game }) in
    let along = along_on Is profile kept line rest (record { done = first; is = refl; are = are }) in
    all_said slots Is P laws profile checked of (kept_recording profile first c name) rest (slots.step kept line stands.have) along c goes.place lt goes.at now

-- ---- the first that is recorded

abbrev Tells : AppliedState → Type 0
Tells state = IsSome (server_id state.strings)

told_by : (found : Option ℕ) (id : ℕ) → found ≡ Some id → IsSome found
told_by None id e = absurd cc
told_by (Some other) id e = refl

first_told : (stage : Stage) (noted : Noted) (others : List Noted) → Tells noted.before → BeginsTold (recorded_from Waits others) → BeginsTold (recorded_with stage noted (recorded_from stage others))
first_told (Runs first) noted others tells rest = tells
first_told Waits noted others tells rest = rest
first_told Ended noted others tells rest = subst BeginsTold (sym (recorded_none others)) tt

begins_told : (messages : List Noted) → AllBefore Tells messages → BeginsTold (recorded_from Waits messages)
unfolding recorded_from
begins_told [] tell = tt
begins_told (noted ∷ others) tell = first_told (note_of Waits noted).stage noted others tell.0 (begins_told others tell.1)

-- ---- all of it

within : (c : ℕ) (name : List ℕ) → IsScheduled (events.RecordTo c name) → c < places
within c name is = let most = is.0.0 in omega (arith, most)

pub own_replay_tells : (slots : SlotsAreKept) → StringsTellId → Laws → OwnReplayTells
own_replay_tells slots law laws profile first rest c name checked are answer =
    let lt = within c name (all_next first (events.RecordTo c name) rest are) in
    let tell = after_said slots IsScheduled Tells laws profile checked
    (λ done c client are lt at has. told_by (server_id client.state.strings) client.state.id (law profile done c client checked are lt at has)) first rest c name are lt answer in
    begins_told (noted_after profile first c name rest) tell

pub own_replay_plays : OwnReplayTells → AppliedWasServed → ReplayIsNoted → ReplayPlays → OwnReplayPlays
own_replay_plays tells served noted plays profile first rest c name checked are answer few =
    let count = half_noted served profile first rest c name checked are (noted profile first rest c name checked answer) in
    plays profile first rest c name checked answer (tells profile first rest c name checked are answer) (inr (omega (arith, count, few))) (omega (arith, count, few))

-- ---- it begins within no long string

abbrev IsStill : AppliedState → Type 0
IsStill state = state.strings.pending ≡ None

first_whole : (stage : Stage) (noted : Noted) (others : List Noted) → IsStill noted.before → BeginsWhole (recorded_from Waits others) → BeginsWhole (recorded_with stage noted (recorded_from stage others))
first_whole (Runs first) noted others still rest = still
first_whole Waits noted others still rest = rest
first_whole Ended noted others still rest = subst BeginsWhole (sym (recorded_none others)) tt

begins_whole : (messages : List Noted) → AllBefore IsStill messages → BeginsWhole (recorded_from Waits messages)
unfolding recorded_from
begins_whole [] still = tt
begins_whole (noted ∷ others) still = first_whole (note_of Waits noted).stage noted others still.0 (begins_whole others still.1)

abbrev IsBoth : Event → Type 0
IsBoth event = IsScheduled event × SaysNoChange event

both_are : (events : List Event) → AllByRecursion IsScheduled events → AllByRecursion SaysNoChange events → AllByRecursion IsBoth events
both_are [] are say = tt
both_are (event ∷ events) are say = ((are.0, say.0), both_are events are.1 say.1)

scheduled_are : (events : List Event) → AllByRecursion IsBoth events → AllByRecursion IsScheduled events
scheduled_are [] both = tt
scheduled_are (event ∷ events) both = (both.0.0, scheduled_are events both.1)

say_none : (events : List Event) → AllByRecursion IsBoth events → AllByRecursion SaysNoChange events
say_none [] both = tt
say_none (event ∷ events) both = (both.0.1, say_none events both.1)

pub own_replay_begins_whole : (slots : SlotsAreKept) → NothingPends → Laws → OwnReplayBeginsWhole
own_replay_begins_whole slots law laws profile first rest c name checked are say answer =
    let lt = within c name (all_next first (events.RecordTo c name) rest are) in
    let both = both_are (first ++ events.RecordTo c name ∷ rest) are say in
    let still = after_said slots IsBoth IsStill laws profile checked
    (λ done c client both lt at has. law profile done c client checked (scheduled_are done both) (say_none done both) lt at has) first rest c name both lt answer in
    begins_whole (noted_after profile first c name rest) still
