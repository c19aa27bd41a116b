-- Which fault of a run an error of a part is, and when each comes.
use Rattle.std.specs.Prelude.{◌≡◌, ◌⊎◌, ℕ, ◌≤◌, Result, Ok, Err}
use Rattle.q3_profile.specs.declared.error.ProfileError.{ProfileError}
use Rattle.q3_profile.specs.declared.error.ProfileError.TheVariants as profile
use Rattle.q3_script.specs.declared.cause.ScriptError.{ScriptError}
use Rattle.q3_script.specs.declared.cause.ScriptError.TheVariants as script
use Rattle.q3_node.specs.declared.error.NodeError.{NodeError}
use Rattle.q3_node.specs.declared.error.NodeError.TheVariants as node
use Rattle.q3_demo.specs.declared.error.DemoError.{DemoError}
use Rattle.q3_demo.specs.declared.error.DemoError.TheVariants as demo
use Rattle.q3_index.specs.declared.error.IndexError.{IndexError}
use Rattle.q3_index.specs.declared.error.IndexError.TheVariants as opening
use Rattle.q3_index.specs.declared.error.SeekError.{SeekError}
use Rattle.q3_index.specs.declared.error.SeekError.TheVariants as seeking
use Rattle.q3_io.specs.Faults.{Rose}
use Rattle.q3_runs.specs.declared.fault.Fault.{Fault}
use Rattle.q3_runs.specs.declared.fault.Fault.TheVariants.{NoMemory, Read, Write, FileWrite, Profile, Script, Wire, Turns, Demo, Index, PastEnd}

abbrev pub profile_fault : ProfileError → Fault
profile_fault profile.NoMemory = NoMemory
profile_fault e = Profile e

abbrev pub script_fault : ScriptError → Fault
script_fault script.NoMemory = NoMemory
script_fault (script.Line line cause) = Script line cause

abbrev pub node_fault : NodeError → Fault
node_fault node.NoMemory = NoMemory
node_fault node.WireFault = Wire
node_fault node.WriteFault = Write
node_fault node.FileFault = FileWrite
node_fault node.Turns = Turns

abbrev pub demo_fault : DemoError → Fault
demo_fault demo.NoMemory = NoMemory
demo_fault demo.ReadFault = Read
demo_fault demo.WriteFault = Write
demo_fault e = Demo e

abbrev pub index_fault : IndexError → Fault
index_fault opening.NoMemory = NoMemory
index_fault opening.ReadFault = Read
index_fault e = Index e

-- an index is made: what can't be written is its file
abbrev pub build_fault : DemoError → Fault
build_fault demo.WriteFault = FileWrite
build_fault e = demo_fault e

abbrev pub seek_fault : SeekError → Fault
seek_fault seeking.NoMemory = NoMemory
seek_fault seeking.ReadFault = Read
seek_fault (seeking.NotIndex place) = Index (opening.NotIndex place)
seek_fault (seeking.PastEnd records) = PastEnd records
seek_fault (seeking.Demo e) = Demo e

-- a part of a run answers what its input says, unless memory runs out or a read fails
abbrev pub Gets : {A : Type 0} → Result A Fault → Result A Fault → Type 0
Gets said got = (got ≡ said) ⊎ ((got ≡ Err NoMemory) ⊎ (got ≡ Err Read))

-- what comes from outside: want of memory, a read that fails, a write that does, and a wire that does
abbrev pub IsOutside : Fault → Type 0
IsOutside NoMemory = Unit {0}
IsOutside Read = Unit {0}
IsOutside Write = Unit {0}
IsOutside FileWrite = Unit {0}
IsOutside Wire = Unit {0}
IsOutside other = ⊥

-- something from outside ended a part early
abbrev pub IsEarly : {A : Type 0} → Result A Fault → Type 0
IsEarly (Ok x) = ⊥
IsEarly (Err e) = IsOutside e

-- a fault of reading comes only where the files' count rose, one of writing only where the sink's did, one of a file's write only where
-- the files' count of these did, one of the wire only where the wire's did, and no fault is passed over
abbrev pub ReadCause : {T : Type 0} → ℕ → ℕ → Result T Fault → Type 0
ReadCause before now (Err Read) = (before ≤ now) × Rose before now
ReadCause before now other = now ≡ before

abbrev pub WriteCause : ℕ → ℕ → Result (Unit {0}) Fault → Type 0
WriteCause before now (Err Write) = (before ≤ now) × Rose before now
WriteCause before now other = now ≡ before

abbrev pub FileCause : ℕ → ℕ → Result (Unit {0}) Fault → Type 0
FileCause before now (Err FileWrite) = (before ≤ now) × Rose before now
FileCause before now other = now ≡ before

abbrev pub WireCause : ℕ → ℕ → Result (Unit {0}) Fault → Type 0
WireCause before now (Err Wire) = (before ≤ now) × Rose before now
WireCause before now other = now ≡ before
