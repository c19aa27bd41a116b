-- What a replay's client applies after its `record` line may be noted.
use Rattle.std.proofs.Common.{◌≡◌, ℕ, ◌<◌, Bool, true, false, List, [], ◌∷◌, ◌++◌, Option, Some, None, Result, Ok, Err, refl, sym, ap, subst, ◌∙◌, arith}
use Rattle.std.specs.Prelude.{if◌then◌else◌}
use Rattle.std.specs.Option.{is_some}
use Rattle.q3_schedules.specs.Slots.{HaveSlots, SlotsAreKept}
use Rattle.q3_profile.specs.declared.profile.Profile.{Profile}
use Rattle.q3_svmsg.specs.Laws.{ReadIsSpelled}
use Rattle.q3_clstate.specs.State.{AppliedState}
use Rattle.q3_clstate.specs.Laws.{ApplyStays, AppliedIsContext}
use Rattle.q3_script.specs.declared.event.Event.{Event}
use Rattle.q3_script.specs.declared.event.Event.TheVariants as events
use Rattle.q3_client.specs.Laws.{TakesMessages}
use Rattle.q3_report.specs.declared.answer.HandedIn.TheVariants as handed
use Rattle.q3_report.specs.declared.answer.RecordRefused.{RecordRefused}
use Rattle.q3_report.specs.declared.answer.RecordRefused.TheVariants as unrecorded
use Rattle.q3_report.specs.declared.answer.RecordRefused.TheVariants.{NoGame}
use Rattle.q3_report.specs.Answers.{Answered, Given}
use Rattle.q3_demo.specs.Recording.{Noted}
use Rattle.q3_ends.specs.Recording.{new_recording}
use Rattle.q3_world.specs.declared.places.Place.{Place}
use Rattle.q3_world.specs.Ends.{Ends, client_step_of, line_of, place_at}
use Rattle.q3_world.specs.Kept.{Kept, kept_after, kept_step, opening_kept}
use Rattle.q3_world.specs.ByTags.{kept_then}
use Rattle.q3_world.specs.StandsFor.{IsChecked}
use Rattle.q3_schedules.specs.Recorded.{applied_until, bytes_for, is_stop, noted_at}
use Rattle.q3_recordings.specs.Plays.{AreNoted, AreBy, RecordingPlays}
use Rattle.q3_recordings.specs.Replays.{ReplayPlays, ReplayIsNoted, noted_after}
use Rattle.q3_recordings.proofs.Sound.{IsSound}
use Rattle.q3_recordings.proofs.AtPlace.{GoesOnAt, goes_on_at, AllSound, all_sound, profile_kept}
use Rattle.q3_recordings.proofs.Noting.{Laws, client_laws, AreNotedFrom, none_noted, becomes_noted, are_by, refuses, begins_with_game}

-- what follows, by any client that is there then
abbrev Onward : Profile → Ends → ℕ → List Noted → Type 0
Onward profile ends c others = (place : Place) → place_at ends c ≡ Some place → IsSound profile place.client → 0 < place.client.state.number → AreNotedFrom place.client.state others

-- by the bytes that it takes with an event
taking : Laws → (profile : Profile) (ends : Ends) (c : ℕ) (place : Place) (bytes : Option (List ℕ)) (others : List Noted) → GoesOnAt profile ends c place bytes → IsSound profile place.client
    → 0 < place.client.state.number → Onward profile ends c others → AreNotedFrom place.client.state (noted_at (Some place) bytes ++ others)
taking laws profile ends c place None others goes sound begun onward =
    becomes_noted laws profile place.client goes.place.client None others goes.becomes sound begun (onward goes.place goes.at)
taking laws profile ends c place (Some bytes) others goes sound begun onward =
    becomes_noted laws profile place.client goes.place.client (Some bytes) others goes.becomes sound begun (onward goes.place goes.at)

are_noted : (slots : SlotsAreKept) → Laws → (profile : Profile) → IsChecked profile → (kept : Kept) (events : List Event) → HaveSlots kept.ends → (c : ℕ) → Onward profile kept.ends c (applied_until kept events c)
unfolding applied_until
are_noted slots laws profile checked kept [] have c place at sound begun = none_noted place.client.state
are_noted slots laws profile checked kept (event ∷ events) have c place at sound begun =
    let next = (kept_step kept event).kept in
    let goes = goes_on_at slots profile (client_laws laws profile checked) kept have event c place at in
    let rest = taking laws profile next.ends c place (bytes_for kept event c) (applied_until next events c) goes sound begun
    (are_noted slots laws profile checked next events (slots.step kept event have) c) in
    let found : AreNotedFrom place.client.state (noted_at (place_at kept.ends c) (bytes_for kept event c) ++ applied_until next events c) =
    subst (λ (found : Option Place). AreNotedFrom place.client.state (noted_at found (bytes_for kept event c) ++ applied_until next events c)) (sym at) rest in
    either (is_stop c event) found
  where
    either : (stops : Bool) → AreNotedFrom place.client.state (noted_at (place_at kept.ends c) (bytes_for kept event c) ++ applied_until (kept_step kept event).kept events c)
        → AreNotedFrom place.client.state (if stops then [] else noted_at (place_at kept.ends c) (bytes_for kept event c) ++ applied_until (kept_step kept event).kept events c)
    either true found = none_noted place.client.state
    either false found = found

-- ---- up to the `record` line

pub record StandsSo (profile : Profile) (kept : Kept) : Type 0 where
  pub by : kept.profile ≡ profile
  pub have : HaveSlots kept.ends
  pub sound : AllSound profile kept.ends

nobody : (found : Option Place) → found ≡ None → is_some found ≡ true → ⊥
nobody None at is = absurd cc
nobody (Some place) at is = absurd cc

no_place : (found : Option Place) (place : Place) → found ≡ None → found ≡ Some place → ⊥
no_place None place none some = absurd cc
no_place (Some other) place none some = absurd cc

pub opening_stands : (slots : SlotsAreKept) (profile : Profile) → StandsSo profile (opening_kept profile)
opening_stands slots profile = record {
  by = refl;
  have = λ d is. absurd (nobody (place_at (opening_kept profile).ends d) (slots.opening profile d) is);
  sound = λ d place at. absurd (no_place (place_at (opening_kept profile).ends d) place (slots.opening profile d) at);
}

pub after_stands : (slots : SlotsAreKept) → Laws → (profile : Profile) → IsChecked profile → (kept : Kept) (events : List Event) → StandsSo profile kept → StandsSo profile (kept_after kept events)
unfolding kept_after
after_stands slots laws profile checked kept [] stands = stands
after_stands slots laws profile checked kept (event ∷ events) stands =
    after_stands slots laws profile checked (kept_step kept event).kept events
    (record {
      by = profile_kept kept event ∙ stands.by;
      have = slots.step kept event stands.have;
      sound = all_sound slots profile (client_laws laws profile checked) kept stands.by stands.have event stands.sound;
    })

-- ---- the `record` line

abbrev result_of : Answered → Result (Unit {0}) RecordRefused
result_of (Given (handed.Record c result)) = result
result_of other = Err NoGame

pub record Records (ends : Ends) (c : ℕ) : Type 0 where
  pub place : Place
  pub at : place_at ends c ≡ Some place
  pub game : place.client.state.has_game ≡ true

pub records_at : (ends : Ends) (c : ℕ) (name : List ℕ) (found : Option Place) → place_at ends c ≡ found → (client_step_of ends c (events.RecordTo c name) found).answer ≡ Given (handed.Record c (Ok tt)) → Records ends c
records_at ends c name None at is = absurd (refuses (Err unrecorded.NoClient) unrecorded.NoClient refl (ap result_of is))
records_at ends c name (Some place) at is = record { place = place; at = at; game = begins_with_game place.client place.recording (new_recording name) (ap result_of is) }

-- ---- all of it

-- the messages after the line
record NotedSo (profile : Profile) (messages : List Noted) : Type 0 where
  are : AreNoted messages
  by : AreBy profile messages

noted_so : (slots : SlotsAreKept) → Laws → (profile : Profile) (first rest : List Event) (c : ℕ) (name : List ℕ) → IsChecked profile
    → (kept_step (kept_then profile first) (events.RecordTo c name)).answer ≡ Given (handed.Record c (Ok tt)) → NotedSo profile (noted_after profile first c name rest)
unfolding kept_step line_of
noted_so slots laws profile first rest c name checked answer =
    let kept = kept_then profile first in
    let stands = after_stands slots laws profile checked (opening_kept profile) first (opening_stands slots profile) in
    let line = events.RecordTo c name in
    let records = records_at kept.ends c name (place_at kept.ends c) refl answer in
    let sound = stands.sound c records.place records.at in
    let begun = sound.begun records.game in
    let goes = goes_on_at slots profile (client_laws laws profile checked) kept stands.have line c records.place records.at in
    let keeps = goes.becomes in
    let number : goes.place.client.state.number ≡ records.place.client.state.number = ap (λ (s : AppliedState). s.number) keeps.state in
    let now = keeps.sound sound in
    let from = are_noted slots laws profile checked (kept_step kept line).kept rest (slots.step kept line stands.have) c goes.place goes.at now (omega (arith, number, begun)) in
    record { are = from.are; by = are_by profile goes.place.client.state (applied_until (kept_step kept line).kept rest c) now.by from.after }

pub replay_is_noted : (slots : SlotsAreKept) → ReadIsSpelled → ApplyStays → AppliedIsContext → TakesMessages → ReplayIsNoted
replay_is_noted slots read stays contexts takes profile first rest c name checked answer =
    (noted_so slots (record { read = read; stays = stays; contexts = contexts; takes = takes }) profile first rest c name checked answer).are

plays_so : (slots : SlotsAreKept) → Laws → RecordingPlays → ReplayPlays
plays_so slots laws plays profile first rest c name checked answer told short few =
    let so = noted_so slots laws profile first rest c name checked answer in
    plays profile (noted_after profile first c name rest) true so.are so.by told short few

pub replay_plays : (slots : SlotsAreKept) → RecordingPlays → ReadIsSpelled → ApplyStays → AppliedIsContext → TakesMessages → ReplayPlays
replay_plays slots plays read stays contexts takes = plays_so slots (record { read = read; stays = stays; contexts = contexts; takes = takes }) plays
