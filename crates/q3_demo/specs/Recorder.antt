-- A recording into a file.
use Rattle.std.specs.Prelude.{◌≡◌, ℕ, Bool, true, false, List, [], ◌∷◌, Option, None, IsOk, IsSome, Result, Ok, Err}
use Rattle.q3_io.specs.declared.sink.Failed.{Failed}
use Rattle.q3_io.specs.Told.{Told, Appends}
use Rattle.q3_rings.specs.Rings.{view_at}
use Rattle.q3_clstate.specs.State.{AppliedState}
use Rattle.q3_clstate.specs.declared.applied.Applied.{Applied}
use Rattle.q3_demo.specs.declared.recorder.Stage.{Stage}
use Rattle.q3_demo.specs.declared.recorder.Stage.TheVariants.{Waits, Runs, Ended}
use Rattle.q3_demo.specs.declared.recorder.Noted.{Noted}
use Rattle.q3_demo.specs.declared.recorder.Noted.TheVariants as noted
use Rattle.q3_demo.specs.Recording.{front_at, is_before}

-- at most so much is added at once: the gamestate and the first message
abbrev pub most_added : ℕ
most_added = 32784

-- how far it is, and the gamestate that it begins with, if one was kept that isn't too long
pub record RecorderState : Type 0 where
  pub stage : Stage
  pub game : Option (List ℕ)

abbrev pub new_recorder : RecorderState
new_recorder = record { stage = Waits; game = None }

abbrev pub is_waiting : Stage → Bool
is_waiting Waits = true
is_waiting other = false

-- what is answered after a message, by how far its recording has come
abbrev pub noted_as : Stage → Noted
noted_as Waits = noted.Waits
noted_as (Runs first) = noted.Wrote
noted_as Ended = noted.Ended

-- a message whose snapshot was accepted last: what it says before its section was read, and the snapshot is held
pub record IsAcceptedLast (state : AppliedState) (applied : Applied) (message : List ℕ) : Type 0 where
  pub number : state.number ≡ applied.number
  pub front : IsOk (front_at state.profile.code message)
  pub held : IsSome (view_at state.held state.number)

-- a message that may be noted: where it has to be composed anew, it was the last
abbrev pub MayNote : Stage → AppliedState → Applied → List ℕ → Type 0
MayNote (Runs first) state applied message = is_before first applied.snap ≡ true → IsAcceptedLast state applied message
MayNote other state applied message = Unit {0}

-- an answer without its value
abbrev pub done : {A : Type 0} → Result A Failed → Result (Unit {0}) Failed
done (Ok x) = Ok tt
done (Err e) = Err e

-- bytes were added to a file; none leave all as it was, and never fail
abbrev pub AppendsBytes : Option Told → Option Told → ℕ → List ℕ → Result (Unit {0}) Failed → Type 0
AppendsBytes told now file [] result = (now ≡ told) × (result ≡ Ok tt)
AppendsBytes told now file (byte ∷ bytes) result = Appends told now file (byte ∷ bytes) result
