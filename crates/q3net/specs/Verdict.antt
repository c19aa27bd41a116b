-- What the input of a run decides, by its command.
use Rattle.std.specs.Prelude.{◌≡◌, ℕ, List, [], ◌∷◌, ◌++◌, map, Option, Some, None, Result, Ok, Err}
use Rattle.q3_profile.specs.declared.profile.Profile.{Profile as ProfileValue}
use Rattle.q3_bits.specs.ResultBind.{◌>>=◌}
use Rattle.q3_script.specs.declared.event.Event.{Event}
use Rattle.q3_script.specs.declared.cause.ScriptKind.TheVariants as kinds
use Rattle.q3_io.specs.Acts.{FileAct}
use Rattle.q3_io.specs.Told.{Told}
use Rattle.q3_make.specs.Printed.{script_text}
use Rattle.q3_make.specs.Generated.{generated}
use Rattle.q3_world.specs.World.{opening, answers}
use Rattle.q3_world.specs.Kept.{opening_kept}
use Rattle.q3_world.specs.Files.{acts_from}
use Rattle.q3_world.specs.Report.{report}
use Rattle.q3_counts.specs.Counts.{counts_of}
use Rattle.q3_command.specs.declared.command.Draws.{Draws}
use Rattle.q3_command.specs.Command.{Command, Help, Version, Replay, Make, Trial, Serve, Join, Play, Index, Seek}
use Rattle.q3_runs.specs.Input.{Holds, looked_up, created}
use Rattle.q3_runs.specs.Verdict.{Stops, Verdict, stops_nowhere, memory_first, reads_first, all_first, writes_by, printing, settled, profile_in, events_in, names_by, Outside, outside, IsPlayVerdict, IsIndexVerdict, IsSeekVerdict, IsServeVerdict, IsJoinVerdict}
use Rattle.q3net.specs.Lines.{help_text, version_text}
use Rattle.q3net.specs.Summary.{summary_text}
use Rattle.q3_runs.specs.declared.fault.Fault.{Fault}
use Rattle.q3_runs.specs.declared.fault.Fault.TheVariants.{Usage}

-- where a command may be stopped that reads all before its first line and then writes files, if it does something to them
abbrev pub goes_on_writing : List FileAct → Stops
goes_on_writing acts = record reads_first { writes = writes_by acts }

-- a replay: by which profile, and of which events
pub record Schedule : Type 0 where
  pub by : ProfileValue
  pub events : List Event

-- that of the script in one file by the profile in another
abbrev pub replayed : Option (List ℕ) → Option (List ℕ) → Result Schedule Fault
replayed profile script = do
  by ← profile_in profile
  events ← events_in kinds.Replay script
  Ok (record { by = by; events = events })

-- what its events do to files, with the ends of the recordings that go on after the last one
abbrev pub recorded : Schedule → List FileAct
recorded replay = acts_from (opening_kept replay.by) replay.events

-- what it prints is its report, and it records; of none, by a cause
abbrev pub replay_done : List (List ℕ) → Result Schedule Fault → Verdict
replay_done names (Ok replay) =
    record (printing (goes_on_writing (recorded replay)) names (report replay.by replay.events) (Ok tt)) {
      named = map looked_up names ++ created (recorded replay);
      acts = recorded replay;
    }
replay_done names (Err cause) = printing reads_first names [] (Err cause)

-- what the report of a replay of these events counts
unfoldable pub summary : ProfileValue → List Event → List ℕ
summary by events = summary_text (counts_of (answers by (opening by) events))

-- a trial by the profile in a file
abbrev pub tried : Option (List ℕ) → Draws → Result (List ℕ) Fault
tried profile draws = do
  by ← profile_in profile
  Ok (summary by (generated draws.number draws.seed))

-- where the files alone matter
abbrev pub of_files : Option Told → Outside
of_files files = outside files None None

-- the rule that the verdict of a replay meets, by what the files hold that it names
abbrev pub IsReplayVerdict : Option Told → (profile script : List ℕ) → Verdict → Type 0
IsReplayVerdict told profile script verdict =
    (of_profile : Option (List ℕ)) × (of_script : Option (List ℕ)) × Holds told profile of_profile × Holds told script of_script
    × (verdict ≡ replay_done (names_by (profile_in of_profile) profile script) (replayed of_profile of_script))

-- of a script that is made
abbrev pub IsMakeVerdict : Draws → Verdict → Type 0
IsMakeVerdict draws verdict = verdict ≡ settled memory_first [] (Ok (script_text (generated draws.number draws.seed)))

-- and of a trial
abbrev pub IsTrialVerdict : Option Told → (profile : List ℕ) → Draws → Verdict → Type 0
IsTrialVerdict told profile draws verdict =
    (of_profile : Option (List ℕ)) × Holds told profile of_profile × (verdict ≡ settled all_first (profile ∷ []) (tried of_profile draws))

-- the verdict of a command, by what the files hold that it names, and by what is to come over the wire and of the clock
abbrev pub IsVerdict : Outside → Option Command → Verdict → Type 0
IsVerdict told None verdict = verdict ≡ settled stops_nowhere [] (Err Usage)
IsVerdict told (Some Help) verdict = verdict ≡ settled stops_nowhere [] (Ok help_text)
IsVerdict told (Some Version) verdict = verdict ≡ settled stops_nowhere [] (Ok version_text)
IsVerdict told (Some (Replay profile script)) verdict = IsReplayVerdict told.files profile script verdict
IsVerdict told (Some (Make draws)) verdict = IsMakeVerdict draws verdict
IsVerdict told (Some (Trial profile draws)) verdict = IsTrialVerdict told.files profile draws verdict
IsVerdict told (Some (Serve profile script at)) verdict = IsServeVerdict told profile script at verdict
IsVerdict told (Some (Join profile script at server)) verdict = IsJoinVerdict told profile script at server verdict
IsVerdict told (Some (Play profile demo)) verdict = IsPlayVerdict told.files profile demo verdict
IsVerdict told (Some (Index profile demo index)) verdict = IsIndexVerdict told.files profile demo index verdict
IsVerdict told (Some (Seek profile demo index records)) verdict = IsSeekVerdict told.files profile demo index records verdict
