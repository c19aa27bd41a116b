-- When a step of the world fails.
use Rattle.std.specs.Prelude.{◌≡◌, ℕ, ◌≤◌, List, Option, Result, Ok, Err}
use Rattle.q3_script.specs.declared.event.Event.{Event}
use Rattle.q3_script.specs.declared.event.Event.TheVariants.{Client, Serve, Send, RecordTo}
use Rattle.q3_world.specs.declared.told.StepError.{StepError}
use Rattle.q3_world.specs.declared.told.StepError.TheVariants.{NoMemory, WriteFault, FileFault}
use Rattle.q3_io.specs.Faults.{Rose}
use Rattle.q3_io.specs.Written.{Written, Adds}

-- an event that takes memory: a client's, a datagram's, or a recording's
abbrev pub TakesMemory : Event → Type 0
TakesMemory (Client c challenge qport dup address) = Unit {0}
TakesMemory (Serve c) = Unit {0}
TakesMemory (Send c) = Unit {0}
TakesMemory (RecordTo c name) = Unit {0}
TakesMemory other = ⊥

-- what a step printed: its lines, or a front of them where the sink failed, and nothing where memory ran out or a file can't be written
abbrev pub Prints : Option Written → Option Written → List ℕ → Result (Unit {0}) StepError → Type 0
Prints old new lines (Ok x) = Adds {T = Unit {0}} {E = StepError} old new lines (Ok x)
Prints old new lines (Err NoMemory) = new ≡ old
Prints old new lines (Err FileFault) = new ≡ old
Prints old new lines (Err WriteFault) = Adds {T = Unit {0}} {E = StepError} old new lines (Err WriteFault)

-- a fault of the sink comes only where its count rose, and no fault is passed over
abbrev pub HasStepCause : ℕ → ℕ → Result (Unit {0}) StepError → Type 0
HasStepCause before now (Ok x) = now ≡ before
HasStepCause before now (Err NoMemory) = now ≡ before
HasStepCause before now (Err FileFault) = now ≡ before
HasStepCause before now (Err WriteFault) = (before ≤ now) × Rose before now
