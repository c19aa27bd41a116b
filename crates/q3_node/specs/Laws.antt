-- A node ends, where its clock gives it time to; and a server does nothing to files, and wants no memory.
use Rattle.std.specs.Prelude.{◌≡◌, ℕ, ◌+◌, ◌-◌, ◌≤◌, not, true, false, List, [], ◌∷◌, take, length, Option}
use Rattle.std.specs.List.{count_by}
use Rattle.q3_io.specs.Readings.{reading_of, DontFall}
use Rattle.q3_io.specs.Traffic.{Parcel}
use Rattle.q3_script.specs.declared.event.Event.{Event}
use Rattle.q3_script.specs.declared.event.Event.TheVariants.{End}
use Rattle.q3_script.specs.Grammar.{TimesRise, EndsLast}
use Rattle.q3_node.specs.Node.{Rules, Node, Turn, start_at, turns_of, did_end, acts_of, want_memory}
use Rattle.q3_node.specs.Running.{readings_left}

-- the time of `end`, which is the last line
unfoldable pub end_time : List Event → ℕ
end_time [] = 0
end_time (End ms ∷ events) = ms
end_time (event ∷ events) = end_time events

-- the reading after so many others, in milliseconds since the node's first
abbrev pub clock_at : {S : Type 0} → Node S → List ℕ → ℕ → ℕ
clock_at node readings count = reading_of (readings_left count readings) - start_at node.start (reading_of readings)

-- how many of these turns did a line
abbrev pub lines_done : List Turn → ℕ
lines_done turns = count_by (λ (turn : Turn). not turn.received) turns

-- where the clock never goes back, and reaches the time of `end` after some turns while a turn is left for each line that is left then,
-- `end` is done in one of the turns
pub record EndIsDone {S : Type 0} (rules : Rules S) : Type 0 where
  pub done : (count : ℕ) (node : Node S) (readings : List ℕ) (arrivals : List (Option Parcel)) (after : ℕ) → TimesRise node.time node.left → EndsLast node.left
      → DontFall (start_at node.start (reading_of readings)) readings → end_time node.left ≤ clock_at node readings after
      → length node.left ≤ (count - after) + lines_done (take after (turns_of count rules node readings arrivals))
      → did_end (turns_of count rules node readings arrivals) ≡ true

-- none of its turns does anything to files, or wants memory
pub record IsFrugal {S : Type 0} (rules : Rules S) : Type 0 where
  pub acts : (count : ℕ) (node : Node S) (readings : List ℕ) (arrivals : List (Option Parcel)) → acts_of (turns_of count rules node readings arrivals) ≡ []
  pub memory : (count : ℕ) (node : Node S) (readings : List ℕ) (arrivals : List (Option Parcel)) → want_memory (turns_of count rules node readings arrivals) ≡ false
