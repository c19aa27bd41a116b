-- How a demo is read and played step by step.
use Rattle.std.specs.Prelude.{◌≡◌, ℕ, ◌<◌, ◌≤◌, min, Bool, true, false, List, [], length, take, Option, Some, None, Result, Ok, Err}
use Rattle.q3_io.specs.Written.{Written, Wrote}
use Rattle.q3_demo.specs.declared.error.DemoError.{DemoError}
use Rattle.q3_demo.specs.declared.error.DemoError.TheVariants.{ReadFault, Truncated, WriteFault, NoMemory}
use Rattle.q3_demo.specs.declared.record.Head.{Head}
use Rattle.q3_demo.specs.Records.{head_bytes, number_of, length_of}
use Rattle.q3_demo.specs.Report.{state_text}
use Rattle.q3_demo.specs.Playing.{Played, Stepped}

-- ---- reading

-- as many bytes came as there are, up to the buffer's room, and the buffer begins with them
abbrev pub Fills : List ℕ → List ℕ → Result ℕ DemoError → Type 0
Fills bytes buffer (Ok count) = (count ≡ min (length buffer) (length bytes)) × (take count buffer ≡ take count bytes)
Fills bytes buffer (Err e) = e ≡ ReadFault

-- what a record begins with, or that the bytes end within it
abbrev pub FindsHead : List ℕ → Result (Option Head) DemoError → Type 0
FindsHead bytes (Ok None) = length bytes < head_bytes
FindsHead bytes (Ok (Some head)) = (head_bytes ≤ length bytes) × (head.number ≡ number_of bytes) × (head.length ≡ length_of bytes)
FindsHead bytes (Err e) = e ≡ ReadFault

-- ---- playing

-- what a step tells: the lines of a record, or at the demo's end what all of them left
abbrev pub step_text : Played → Result (Option Stepped) DemoError → List ℕ
step_text played (Ok None) = state_text played.state played.records
step_text played (Ok (Some stepped)) = stepped.text
step_text played (Err e) = []

-- what is played after a step
abbrev pub Leads : Result (Option Stepped) DemoError → Played → Type 0
Leads (Ok (Some stepped)) now = stepped.played ≡ now
Leads other now = ⊥

-- a step was refused, or something from outside ended it early
abbrev pub Fails : Result (Option Stepped) DemoError → Played → Option Written → Option Written → DemoError → Type 0
Fails step was before after NoMemory = ⊥
Fails step was before after ReadFault = after ≡ before
Fails step was before after WriteFault = Wrote before after (step_text was step) false
Fails step was before after e = (step ≡ Err e) × (after ≡ before)

-- a step was taken: the demo ended, or one record more was played
abbrev pub TakesStep : Result (Option Stepped) DemoError → Played → Played → Option Written → Option Written → Result Bool DemoError → Type 0
TakesStep step was now before after (Ok true) = (step ≡ Ok None) × Wrote before after (step_text was step) true
TakesStep step was now before after (Ok false) = Leads step now × Wrote before after (step_text was step) true
TakesStep step was now before after (Err e) = Fails step was before after e

-- what a refusal counts as after the last record that may be played: a read fault stays one
abbrev pub after_limit : ℕ → DemoError → DemoError
after_limit at ReadFault = ReadFault
after_limit at other = Truncated at
