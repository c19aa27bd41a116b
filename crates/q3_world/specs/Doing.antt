-- What an event does to the program's world, and to its ends.
use Rattle.std.specs.Prelude.{◌≡◌, ℕ, ◌+◌, ◌≤◌, length, Option, Result, OnOk, IsErrOf}
use Rattle.q3_io.specs.Written.{Written, NothingWaits}
use Rattle.q3_client.specs.Client.{Taken}
use Rattle.q3_report.specs.declared.answer.Front.{Front}
use Rattle.q3_report.specs.Answers.{Answered}
use Rattle.q3_report.specs.AnswerLines.{lines_of}
use Rattle.q3_counts.specs.declared.counts.Counts.{Counts}
use Rattle.q3_world.specs.declared.told.StepError.{StepError}
use Rattle.q3_world.specs.declared.told.StepError.TheVariants.{NoMemory, FileFault}
use Rattle.q3_ends.specs.AtClient.{taken_by_client}
use Rattle.q3_ends.specs.ClientLine.{ClientDone, client_after, recording_after, answer_in}
use Rattle.q3_ends.specs.Recording.{note_taken}
use Rattle.q3_world.specs.declared.places.Place.{Place}
use Rattle.q3_world.specs.Counting.{Counting}
use Rattle.q3_counts.specs.Counts.{counted}
use Rattle.q3_world.specs.Ends.{Ends, EndsStep, place_at, recording_at, told_as}
use Rattle.q3_world.specs.Kept.{KeptStep}
use Rattle.q3_world.specs.Outcome.{Prints, HasStepCause}

-- an answer is counted, and its lines are printed, or a front of them
pub record Tells (old new : Counts) (before after : Option Written) (were are : ℕ) (answer : Answered) (result : Result (Unit {0}) StepError) : Type 0 where
  pub counts : new ≡ counted old answer
  pub printed : Prints before after (lines_of answer) result
  pub flushed : OnOk result (NothingWaits after)
  pub cause : HasStepCause were are result
  pub memory : IsErrOf result NoMemory → ⊥
  pub files : IsErrOf result FileFault → ⊥

-- a client took bytes, and its recording went on by what it applied; that is told, unless a file can't be written
pub record TakesAt (old : Place) (taken : Taken) (new : Place) (front : Front) (c : ℕ) (counts_old counts : Counts) (before after : Option Written) (were are : ℕ) (result : Result (Unit {0}) StepError) : Type 0 where
  pub kept : new ≡ record old { client = taken.client; recording = new.recording }
  pub recording : OnOk result (new.recording ≡ (note_taken old.recording old.client taken).recording)
  pub told : OnOk result (counts ≡ counted counts_old (taken_by_client front c taken (note_taken old.recording old.client taken).ended))
  pub printed : Prints before after (lines_of (taken_by_client front c taken (note_taken old.recording old.client taken).ended)) result
  pub flushed : OnOk result (NothingWaits after)
  pub cause : HasStepCause were are result
  pub memory : IsErrOf result NoMemory → ⊥

-- a client did a line of its own; that is told, unless a file can't be made or written
pub record LineAt (old : Place) (line : Option ClientDone) (new : Place) (counts_old counts : Counts) (before after : Option Written) (were are : ℕ) (result : Result (Unit {0}) StepError) : Type 0 where
  pub kept : new ≡ record old { client = client_after old.client line; recording = new.recording }
  pub recording : OnOk result (new.recording ≡ recording_after old.recording line)
  pub told : OnOk result (counts ≡ counted counts_old (told_as (answer_in line)))
  pub printed : Prints before after (lines_of (told_as (answer_in line))) result
  pub flushed : OnOk result (NothingWaits after)
  pub cause : HasStepCause were are result
  pub memory : IsErrOf result NoMemory → ⊥

-- the ends are those of a step, and its answer is told; at want of memory all stays as it was
pub record EndsDo (old new : Ends) (counts_old counts : Counts) (before after : Option Written) (were are : ℕ) (step : EndsStep) (result : Result (Unit {0}) StepError) : Type 0 where
  pub ends : OnOk result (new ≡ step.ends)
  pub told : OnOk result (counts ≡ counted counts_old step.answer)
  pub printed : Prints before after (lines_of step.answer) result
  pub flushed : OnOk result (NothingWaits after)
  pub cause : HasStepCause were are result
  pub no_memory : IsErrOf result NoMemory → (new ≡ old) × (counts ≡ counts_old) × (after ≡ before)

-- what a step gives is kept, its answer is counted, and its lines are printed, or a front of them; at want of memory all stays as it was
pub record Does (old new : Counting) (before after : Option Written) (were are : ℕ) (step : KeptStep) (result : Result (Unit {0}) StepError) : Type 0 where
  pub kept : OnOk result (new.kept ≡ step.kept)
  pub counts : OnOk result (new.counts ≡ counted old.counts step.answer)
  pub printed : Prints before after (lines_of step.answer) result
  pub flushed : OnOk result (NothingWaits after)
  pub cause : HasStepCause were are result
  pub no_memory : IsErrOf result NoMemory → (new ≡ old) × (after ≡ before)
  pub few : length new.kept.datagrams ≤ length old.kept.datagrams + 1

-- recordings stay as they are, with the numbers of their files, and no file fails
pub record LeavesRecordings (old new : Counting) (result : Result (Unit {0}) StepError) : Type 0 where
  pub numbers : new.numbers ≡ old.numbers
  pub recordings : (c : ℕ) → recording_at (place_at new.kept.ends c) ≡ recording_at (place_at old.kept.ends c)
  pub files : IsErrOf result FileFault → ⊥
