-- Which fault of a run an error of a replay's step is, and why there are no words.
use Rattle.std.specs.Prelude.{◌≡◌, ◌⊎◌}
use Rattle.std.specs.declared.io.ErrorKind.{ErrorKind}
use Rattle.std.specs.declared.io.ErrorKind.TheVariants.{OutOfMemory}
use Rattle.q3_world.specs.declared.told.StepError.{StepError}
use Rattle.q3_world.specs.declared.told.StepError.TheVariants as step
use Rattle.q3_runs.specs.declared.fault.Fault.{Fault}
use Rattle.q3_runs.specs.declared.fault.Fault.TheVariants.{NoMemory, Usage, Write, FileWrite}

abbrev pub step_fault : StepError → Fault
step_fault step.NoMemory = NoMemory
step_fault step.WriteFault = Write
step_fault step.FileFault = FileWrite

-- why there are no words: memory ran out, or one of them is no text
abbrev pub words_fault : ErrorKind → Fault
words_fault OutOfMemory = NoMemory
words_fault _ = Usage

-- such a fault
abbrev pub IsWordsFault : Fault → Type 0
IsWordsFault fault = (fault ≡ NoMemory) ⊎ (fault ≡ Usage)
