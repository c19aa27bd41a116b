-- What a recording of a replay plays to.
use Rattle.std.specs.Prelude.{◌≡◌, ℕ, ◌<◌, ◌≤◌, List, ◌∷◌, ◌++◌, length, Ok}
use Rattle.std.specs.List.{AllByRecursion}
use Rattle.q3_profile.specs.declared.profile.Profile.{Profile}
use Rattle.q3_script.specs.declared.event.Event.{Event}
use Rattle.q3_script.specs.declared.event.Event.TheVariants as events
use Rattle.q3_script.specs.Script.{most_events}
use Rattle.q3_report.specs.declared.answer.HandedIn.TheVariants as handed
use Rattle.q3_report.specs.Answers.{Given}
use Rattle.q3_demo.specs.declared.recorder.Stage.TheVariants.{Waits}
use Rattle.q3_demo.specs.Recording.{Noted, recording}
use Rattle.q3_demo.specs.Playing.{most_records}
use Rattle.q3_world.specs.Kept.{Kept, kept_step}
use Rattle.q3_world.specs.ByTags.{kept_then}
use Rattle.q3_world.specs.StandsFor.{IsChecked}
use Rattle.q3_schedules.specs.Recorded.{applied_until}
use Rattle.q3_schedules.specs.Schedules.{IsScheduled, SaysNoChange}
use Rattle.q3_recordings.specs.Plays.{AreNoted, recorded_from, BeginsTold, BeginsWhole, IsShort, PlaysTo}

-- what is kept after a `record` line
abbrev pub kept_recording : Profile → List Event → ℕ → List ℕ → Kept
kept_recording profile first c name = (kept_step (kept_then profile first) (events.RecordTo c name)).kept

-- the messages that a client applies after its `record` line, up to the first `stop` of it
abbrev pub noted_after : Profile → List Event → ℕ → List ℕ → List Event → List Noted
noted_after profile first c name rest = applied_until (kept_recording profile first c name) rest c

-- after a `record` line that was answered `ok` these are messages that a client applied one after the other, whatever bytes arrive
abbrev pub ReplayIsNoted : Type 0
ReplayIsNoted = (profile : Profile) (first rest : List Event) (c : ℕ) (name : List ℕ) → IsChecked profile
    → (kept_step (kept_then profile first) (events.RecordTo c name)).answer ≡ Given (handed.Record c (Ok tt))
    → AreNoted (noted_after profile first c name rest)

-- the recording of a replay's client, from a `record` line that was answered `ok`, plays so, whatever bytes arrive
abbrev pub ReplayPlays : Type 0
ReplayPlays = (profile : Profile) (first rest : List Event) (c : ℕ) (name : List ℕ) → IsChecked profile
    → (kept_step (kept_then profile first) (events.RecordTo c name)).answer ≡ Given (handed.Record c (Ok tt))
    → BeginsTold (recorded_from Waits (noted_after profile first c name rest))
    → IsShort (recording (noted_after profile first c name rest)) (length (noted_after profile first c name rest)) → length (noted_after profile first c name rest) < most_records
    → PlaysTo profile (recording (noted_after profile first c name rest)) (recorded_from Waits (noted_after profile first c name rest))

-- where each end gets only what the other made, the recording begins with config strings that tell the map's id, however long the replay is
abbrev pub OwnReplayTells : Type 0
OwnReplayTells = (profile : Profile) (first rest : List Event) (c : ℕ) (name : List ℕ) → IsChecked profile → AllByRecursion IsScheduled (first ++ events.RecordTo c name ∷ rest)
    → (kept_step (kept_then profile first) (events.RecordTo c name)).answer ≡ Given (handed.Record c (Ok tt))
    → BeginsTold (recorded_from Waits (noted_after profile first c name rest))

-- and so of as many events as a script may have, nothing is asked of the config strings, nor of how long the recording is
abbrev pub OwnReplayPlays : Type 0
OwnReplayPlays = (profile : Profile) (first rest : List Event) (c : ℕ) (name : List ℕ) → IsChecked profile → AllByRecursion IsScheduled (first ++ events.RecordTo c name ∷ rest)
    → (kept_step (kept_then profile first) (events.RecordTo c name)).answer ≡ Given (handed.Record c (Ok tt))
    → length (first ++ events.RecordTo c name ∷ rest) ≤ most_events
    → PlaysTo profile (recording (noted_after profile first c name rest)) (recorded_from Waits (noted_after profile first c name rest))

-- and where, moreover, the game says no text of a config change, no long string is being put together where it begins: so the config strings
-- in the end are the client's
abbrev pub OwnReplayBeginsWhole : Type 0
OwnReplayBeginsWhole = (profile : Profile) (first rest : List Event) (c : ℕ) (name : List ℕ) → IsChecked profile → AllByRecursion IsScheduled (first ++ events.RecordTo c name ∷ rest)
    → AllByRecursion SaysNoChange (first ++ events.RecordTo c name ∷ rest) → (kept_step (kept_then profile first) (events.RecordTo c name)).answer ≡ Given (handed.Record c (Ok tt))
    → BeginsWhole (recorded_from Waits (noted_after profile first c name rest))
