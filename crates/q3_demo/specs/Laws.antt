-- A recording goes on message by message, and a demo is played record by record.
use Rattle.std.specs.Prelude.{◌≡◌, ◌⊎◌, ℕ, ◌+◌, ◌^◌, ◌<◌, ◌≤◌, ⊤, List, [], ◌∷◌, ◌++◌, length, map, take, drop, Result, Ok, Err}
use Rattle.q3_profile.specs.declared.profile.Profile.{Profile}
use Rattle.q3_clstate.specs.State.{AppliedState, Application, apply_at}
use Rattle.q3_clstate.specs.Standing.{IsApplied}
use Rattle.q3_demo.specs.declared.error.DemoError.{DemoError}
use Rattle.q3_demo.specs.declared.error.DemoError.TheVariants.{ReadFault, Truncated, NoMemory, WriteFault}
use Rattle.q3_demo.specs.declared.recorder.Stage.{Stage}
use Rattle.q3_demo.specs.Records.{head_bytes, length_of}
use Rattle.q3_demo.specs.Report.{state_text}
use Rattle.q3_demo.specs.Playing.{Played, Stepped, unplayed, step, most_records, play_of, records_of, last_of, last_played, play_state}
use Rattle.q3_demo.specs.Recorder.{MayNote}
use Rattle.q3_demo.specs.Recording.{Noted, note_of, noted_from}

-- after messages, and after one more: its bytes follow theirs
pub record RecordingGoesOn : Type 0 where
  pub stage : (stage : Stage) (messages : List Noted) (noted : Noted)
      → (noted_from stage (messages ++ noted ∷ [])).stage ≡ (note_of (noted_from stage messages).stage noted).stage
  pub bytes : (stage : Stage) (messages : List Noted) (noted : Noted)
      → (noted_from stage (messages ++ noted ∷ [])).bytes ≡ (noted_from stage messages).bytes ++ (note_of (noted_from stage messages).stage noted).bytes

-- a message that was applied may be noted, however far the recording is
abbrev pub AppliedMayBeNoted : Type 0
AppliedMayBeNoted = (state : AppliedState) (number : ℕ) (message : List ℕ) (applied : Application) (stage : Stage) → IsApplied state → number < 2 ^ 32
    → apply_at state number message ≡ Ok applied → MayNote stage applied.state applied.answer message

-- ---- playing

-- what a demo is refused for: what it holds, and nothing from outside
abbrev pub IsRefusal : DemoError → Type 0
IsRefusal ReadFault = ⊥
IsRefusal NoMemory = ⊥
IsRefusal WriteFault = ⊥
IsRefusal other = ⊤

-- whatever was played of it before
abbrev pub RefusedForItsBytes : Type 0
RefusedForItsBytes = (demo : List ℕ) (played : Played) (e : DemoError) → step demo played ≡ Err e → IsRefusal e

-- how the play of a front of a demo ends, where these records more are played of the whole, and of the front these bytes are left after its
-- last record, which ends at this place: with no refusal, where they end before a head or within one; refused as cut, where they end after
-- a head and within its message; or, where none more is played, as the play of the whole
abbrev pub EndsBefore : List Stepped → List ℕ → ℕ → Result (Unit {0}) DemoError → Result (Unit {0}) DemoError → Type 0
EndsBefore more left at ending whole =
    ((ending ≡ Ok tt) × (length left < head_bytes))
    ⊎ (((ending ≡ Err (Truncated at)) × (head_bytes ≤ length left) × (length left < head_bytes + length_of left)) ⊎ ((more ≡ []) × (ending ≡ whole)))

-- of a front of a demo the first of its records are played
abbrev pub APrefixPlaysAPrefix : Type 0
APrefixPlaysAPrefix = (profile : Profile) (front rest : List ℕ) → (more : List Stepped) × (records_of profile (front ++ rest) ≡ records_of profile front ++ more)
    × (let at = (last_played profile front).at in EndsBefore more (drop at front) at (play_of profile front).ending (play_of profile (front ++ rest)).ending)

-- what is told after the records: what they left, exactly where the demo ends
abbrev pub end_texts : Played → Result (Unit {0}) DemoError → List (List ℕ)
end_texts last (Ok x) = state_text last.state last.records ∷ []
end_texts last (Err e) = []

-- each record that is played is told, and then what they left; and they are counted
pub record PlayingTellsRecords : Type 0 where
  pub texts : (profile : Profile) (demo : List ℕ) → (play_of profile demo).texts
      ≡ map (λ (stepped : Stepped). stepped.text) (records_of profile demo) ++ end_texts (last_played profile demo) (play_of profile demo).ending
  pub count : (profile : Profile) (demo : List ℕ) → (last_played profile demo).records ≡ length (records_of profile demo)

-- why no more records are played: what refused the next one, or that the demo ends before it
abbrev pub no_more : Played → Result (Unit {0}) DemoError → DemoError
no_more last (Ok x) = Truncated last.at
no_more last (Err e) = e

-- the first so many records leave what the last of them left; where fewer are played, it is told why
pub record FirstRecordsLeave : Type 0 where
  pub first : (profile : Profile) (demo : List ℕ) (count : ℕ) → count ≤ length (records_of profile demo)
      → play_state profile demo count ≡ Ok (last_of (unplayed profile) (take count (records_of profile demo)))
  pub beyond : (profile : Profile) (demo : List ℕ) (count : ℕ) → length (records_of profile demo) < count → count ≤ most_records
      → play_state profile demo count ≡ Err (no_more (last_played profile demo) (play_of profile demo).ending)
