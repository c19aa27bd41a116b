-- What a reader answers and the grammar are one.
use Rattle.std.specs.Prelude.{◌≡◌, ℕ, ◌↔◌, List, Ok, Err}
use Rattle.q3_script.specs.declared.event.Event.{Event}
use Rattle.q3_script.specs.declared.cause.ScriptKind.{ScriptKind}
use Rattle.q3_script.specs.Script.{BadLine, script_at}
use Rattle.q3_script.specs.Grammar.{IsInRange, IsEventOf, SpellsScript}

-- a script is read as the events that it spells, and as no others
abbrev pub ReadIsSpelled : Type 0
ReadIsSpelled = (kind : ScriptKind) (bytes : List ℕ) (events : List Event) → (script_at kind bytes ≡ Ok events) ↔ SpellsScript kind bytes events

-- where a line is bad, the bytes spell nothing
abbrev pub BadIsNotSpelled : Type 0
BadIsNotSpelled = (kind : ScriptKind) (bytes : List ℕ) (bad : BadLine) (events : List Event) → script_at kind bytes ≡ Err bad → SpellsScript kind bytes events → ⊥

-- an event that a script of a kind may have is within its ranges
abbrev pub EventsAreInRange : Type 0
EventsAreInRange = (kind : ScriptKind) (event : Event) → IsEventOf kind event → IsInRange event
