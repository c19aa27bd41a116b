-- A node: one end of a connection over a wire, which does the lines of its script turn by turn, each when it is due.
use Rattle.std.specs.Prelude.{ℕ, zero, suc, ◌+◌, ◌-◌, ◌||◌, nat_le, if◌then◌else◌, Bool, true, false, List, [], ◌∷◌, drop, take, Option, Some, None, option_map, is_some}
use Rattle.std.specs.List.{flat_map, list_any}
use Rattle.std.specs.Option.{option_to_list}
use Rattle.q3_io.specs.declared.address.Address.{Address}
use Rattle.q3_io.specs.Readings.{reading_of, readings_after}
use Rattle.q3_io.specs.Traffic.{Parcel, next_of}
use Rattle.q3_chan.specs.Sending.{Piece}
use Rattle.q3_script.specs.declared.event.Event.{Event}
use Rattle.q3_script.specs.declared.event.Event.TheVariants.{At, End}
use Rattle.q3_report.specs.Answers.{Answered}
use Rattle.q3_report.specs.AnswerLines.{lines_of}
use Rattle.q3_io.specs.Acts.{FileAct}

-- what an end does at a line: the end after it, its answer, if it gives one, the datagram that it sends, if it makes one, and what it does
-- to files; and whether it wants memory
pub record LineDone (S : Type 0) : Type 0 where
  pub end : S
  pub answer : Option Answered
  pub sends : Option Parcel
  pub acts : List FileAct
  pub memory : Bool

-- and what it makes of an arrival
pub record Arrived (S : Type 0) : Type 0 where
  pub end : S
  pub answer : Answered
  pub acts : List FileAct

-- an end's rules: what it does at a line, where a datagram that it makes has this number, and at an arrival
pub record Rules (S : Type 0) : Type 0 where
  pub line : S → Event → ℕ → LineDone S
  pub arrives : S → Parcel → Arrived S

-- a line that makes no datagram, does nothing to files and wants no memory
abbrev pub answers : {S : Type 0} → S → Option Answered → LineDone S
answers end answer = record { end = end; answer = answer; sends = None; acts = []; memory = false }

-- an end; the lines that are still to come, and the time that those before them said; the first reading of the clock, if one was taken;
-- and how many datagrams were made
pub record Node (S : Type 0) : Type 0 where
  pub end : S
  pub left : List Event
  pub time : ℕ
  pub start : Option ℕ
  pub made : ℕ

-- before the first turn
abbrev pub new_node : {S : Type 0} → S → List Event → Node S
new_node end events = record { end = end; left = events; time = 0; start = None; made = 0 }

-- a turn: its answer, if it gives one, what it sends, if anything, and what it does to files; whether it wants memory, received, and did `end`
pub record Turn : Type 0 where
  pub answer : Option Answered
  pub sends : Option Parcel
  pub acts : List FileAct
  pub memory : Bool
  pub received : Bool
  pub ended : Bool

-- it uses the wire where it receives or sends
abbrev pub uses_wire : Turn → Bool
uses_wire turn = turn.received || is_some turn.sends

-- with the node after it
pub record Turned (S : Type 0) : Type 0 where
  pub node : Node S
  pub turn : Turn

-- ---- when a line is due

-- `end` at its own time, every other line at the time of those before it; in milliseconds since the first reading
abbrev pub due_at : ℕ → Event → ℕ
due_at time (End ms) = ms
due_at time other = time

-- the time after a line
abbrev pub time_after : ℕ → Event → ℕ
time_after time (At ms) = ms
time_after time other = time

abbrev pub is_end : Event → Bool
is_end (End ms) = true
is_end other = false

-- the first reading, where this is one
abbrev pub start_at : Option ℕ → ℕ → ℕ
start_at None reading = reading
start_at (Some first) reading = first

-- ---- one turn

-- the datagram of what is handed out, if anything is, to an address, if there is one
abbrev pub parcel_to : Option Address → Option Piece → Option Parcel
parcel_to None piece = None
parcel_to (Some address) piece = option_map (λ (piece : Piece). record { address = address; bytes = piece.bytes }) piece

-- a receive takes so many bytes; a longer arrival is cut to them
abbrev pub receive_room : ℕ
receive_room = 16400

abbrev pub cut_to_room : Parcel → Parcel
cut_to_room parcel = record parcel { bytes = take receive_room parcel.bytes }

-- the datagrams that were made, with this one
abbrev pub made_with : ℕ → Option Parcel → ℕ
made_with made None = made
made_with made (Some parcel) = made + 1

-- a line is done
abbrev pub line_turn : {S : Type 0} → Rules S → Node S → Event → Turned S
line_turn rules node event =
    let done = rules.line node.end event (node.made + 1) in
    record {
      node = record node { end = done.end; left = drop 1 node.left; time = time_after node.time event; made = made_with node.made done.sends };
      turn = record { answer = done.answer; sends = done.sends; acts = done.acts; memory = done.memory; received = false; ended = is_end event };
    }

-- a receive finds this, and an arrival is taken
abbrev pub receive_turn : {S : Type 0} → Rules S → Node S → Option Parcel → Turned S
receive_turn rules node None = record { node = node; turn = record { answer = None; sends = None; acts = []; memory = false; received = true; ended = false } }
receive_turn rules node (Some parcel) =
    let arrived = rules.arrives node.end (cut_to_room parcel) in
    record {
      node = record node { end = arrived.end };
      turn = record { answer = Some arrived.answer; sends = None; acts = arrived.acts; memory = false; received = true; ended = false };
    }

-- the next line, if it is due at this time
abbrev pub due : ℕ → ℕ → List Event → Option Event
due time ms [] = None
due time ms (event ∷ left) = if nat_le (due_at time event) ms then Some event else None

-- that is done, and else there is one receive
abbrev pub turn_of : {S : Type 0} → Rules S → Node S → Option Event → Option Parcel → Turned S
turn_of rules node (Some event) found = line_turn rules node event
turn_of rules node None found = receive_turn rules node found

-- the turn at a reading of the clock, where a receive, if there is one, finds this
abbrev pub turn_at : {S : Type 0} → Rules S → Node S → ℕ → Option Parcel → Turned S
turn_at rules node reading found =
    let start = start_at node.start reading in
    turn_of rules (record node { start = Some start }) (due node.time (reading - start) node.left) found

-- ---- all turns

-- how many turns a node has
abbrev pub most_turns : ℕ
most_turns = 10000000

-- what is still to arrive after a turn
abbrev pub arrivals_after : Turn → List (Option Parcel) → List (Option Parcel)
arrivals_after turn arrivals = if turn.received then drop 1 arrivals else arrivals

-- the turns, up to the one that does `end`, and so many of them at most, where these readings and arrivals are still to come
unfoldable pub turns_of : {S : Type 0} → ℕ → Rules S → Node S → List ℕ → List (Option Parcel) → List Turn
turns_of zero rules node readings arrivals = []
turns_of (suc count) rules node readings arrivals =
    let now = turn_at rules node (reading_of readings) (next_of arrivals) in
    now.turn ∷ (if now.turn.ended then [] else turns_of count rules now.node (readings_after readings) (arrivals_after now.turn arrivals))

-- whether one of them did `end`
abbrev pub did_end : List Turn → Bool
did_end turns = list_any (λ (turn : Turn). turn.ended) turns

-- what a turn prints
abbrev pub answer_text : Option Answered → List ℕ
answer_text None = []
answer_text (Some answer) = lines_of answer

-- what they print
abbrev pub text_of : List Turn → List ℕ
text_of turns = flat_map (λ (turn : Turn). answer_text turn.answer) turns

-- and what they send, in this order
abbrev pub parcels_of : List Turn → List Parcel
parcels_of turns = flat_map (λ (turn : Turn). option_to_list turn.sends) turns

-- and what they do to files
abbrev pub acts_of : List Turn → List FileAct
acts_of turns = flat_map (λ (turn : Turn). turn.acts) turns

-- whether one of them wants memory
abbrev pub want_memory : List Turn → Bool
want_memory turns = list_any (λ (turn : Turn). turn.memory) turns
