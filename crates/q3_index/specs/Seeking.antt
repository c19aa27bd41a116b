-- Seeking: a checkpoint's state is restored, and the records after it are played.
use Rattle.std.specs.Prelude.{ℕ, ◌+◌, ◌*◌, ◌-◌, ◌/◌, nat_lt, if◌then◌else◌, List, take, drop, slice_get, Option, Some, None, Result, Ok, Err}
use Rattle.q3_bits.specs.ResultBind.{◌>>=◌, fault_as}
use Rattle.q3_profile.specs.declared.profile.Profile.{Profile}
use Rattle.q3_savestate.specs.State.{state_at}
use Rattle.q3_savestate.specs.Applied.{applied_by}
use Rattle.q3_demo.specs.Playing.{Played, unplayed, records_of, last_of, play_first}
use Rattle.q3_index.specs.declared.index.Checkpoint.{Checkpoint}
use Rattle.q3_index.specs.declared.error.SeekError.{SeekError}
use Rattle.q3_index.specs.declared.error.SeekError.TheVariants.{NotIndex, PastEnd, Demo}
use Rattle.q3_index.specs.Text.{spacing}

-- how far a demo was played at a checkpoint after so many records, by the state that the index's bytes spell there
abbrev pub restored : Profile → List ℕ → ℕ → Checkpoint → Result Played SeekError
restored profile index records checkpoint = do
  saved ← fault_as (λ place. NotIndex (checkpoint.state + place)) (state_at profile (take checkpoint.length (drop checkpoint.state index)))
  Ok (record { state = applied_by profile saved; records = records; last = saved.number; at = checkpoint.place })

abbrev pub restored_if : Profile → List ℕ → ℕ → Option Checkpoint → Result Played SeekError
restored_if profile index records None = Ok (unplayed profile)
restored_if profile index records (Some checkpoint) = restored profile index records checkpoint

-- the greatest checkpoint at or below so many records, or the beginning
abbrev pub greatest : List Checkpoint → ℕ → Option Checkpoint
greatest checkpoints number = if nat_lt number spacing then None else slice_get checkpoints (number / spacing - 1)

-- how far a demo was played where the greatest checkpoint leaves it
abbrev pub start_at : Profile → List ℕ → List Checkpoint → ℕ → Result Played SeekError
start_at profile index checkpoints number = restored_if profile index (spacing * (number / spacing)) (greatest checkpoints number)

-- what so many records leave: those from there on are played
unfoldable pub seek_at : Profile → List ℕ → List ℕ → ℕ → List Checkpoint → ℕ → Result Played SeekError
seek_at profile demo index records checkpoints number =
    if nat_lt records number then Err (PastEnd records) else (do
      start ← start_at profile index checkpoints number
      fault_as Demo (play_first (number - start.records) demo start))

-- how far a demo is played after so many of its records
abbrev pub played_after : Profile → List ℕ → ℕ → Played
played_after profile demo count = last_of (unplayed profile) (take count (records_of profile demo))

-- how many bytes its records have, one after the other: those after the first so many, up to so many
abbrev pub bytes_between : Profile → List ℕ → ℕ → ℕ → ℕ
bytes_between profile demo first count = (played_after profile demo count).at - (played_after profile demo first).at
