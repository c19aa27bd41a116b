-- How a node runs: by its turns, over a wire, a clock, a sink and files.
use Rattle.std.specs.Prelude.{◌≢◌, ◌≡◌, ℕ, zero, suc, ◌+◌, ◌<◌, ◌≤◌, Bool, true, false, List, [], ◌∷◌, ◌++◌, length, drop, Option, Some, None, option_map, is_some, Result, Ok, Err, OnOk, IsErrOf}
use Rattle.std.specs.List.{count_by}
use Rattle.q3_io.specs.declared.address.Address.{Address}
use Rattle.q3_io.specs.Faults.{Rose}
use Rattle.q3_io.specs.Traffic.{Parcel, Traffic, next_of, after_bind, after_send}
use Rattle.q3_io.specs.Readings.{Reads, readings_after}
use Rattle.q3_io.specs.Written.{Written, Wrote, NothingWaits}
use Rattle.q3_io.specs.declared.sink.Failed.{Failed}
use Rattle.q3_io.specs.Acts.{FileAct, ActsOn}
use Rattle.q3_io.specs.Told.{Told}
use Rattle.q3_script.specs.declared.event.Event.{Event}
use Rattle.q3_report.specs.Answers.{Answered}
use Rattle.q3_node.specs.declared.turns.Course.{Course}
use Rattle.q3_node.specs.declared.error.NodeError.{NodeError}
use Rattle.q3_node.specs.declared.error.NodeError.TheVariants.{NoMemory, WireFault, WriteFault, FileFault, Turns}
use Rattle.q3_node.specs.Node.{LineDone, Arrived, Rules, Node, Turn, uses_wire, Turned, turn_at, most_turns, turns_of, did_end, answer_text, text_of, parcels_of, acts_of}

-- ---- what is still to come

-- where it is told what is still to arrive, that; else anything
abbrev pub ToArrive : Option Traffic → List (Option Parcel) → Type 0
ToArrive None arrivals = Unit {0}
ToArrive (Some traffic) arrivals = arrivals ≡ traffic.arrivals

-- and the readings of the clock, which are never at an end
abbrev pub ToRead : Option (List ℕ) → List ℕ → Type 0
ToRead None readings = 0 < length readings
ToRead (Some told) readings = readings ≡ told

-- ---- what turns leave

-- what is told of all that a node acts on: its sink, its wire, and its files
pub record Effects : Type 0 where
  pub written : Option Written
  pub wire : Option Traffic
  pub files : Option Told

abbrev pub effects : Option Written → Option Traffic → Option Told → Effects
effects written wire files = record { written = written; wire = wire; files = files }

-- what is told of a wire after turns
abbrev pub traffic_after : Traffic → List Turn → Traffic
traffic_after traffic turns = record traffic {
  arrivals = drop (count_by (λ (turn : Turn). turn.received) turns) traffic.arrivals;
  sent = traffic.sent ++ parcels_of turns;
}

abbrev pub wire_after : Option Traffic → List Turn → Option Traffic
wire_after told turns = option_map (λ traffic. traffic_after traffic turns) told

-- acts that failed, or that were all done
abbrev pub failed_act : Result (Unit {0}) Failed
failed_act = Err (record {})

abbrev pub all_acts : Result (Unit {0}) Failed
all_acts = Ok tt

-- the text of turns was printed, or a front of it; what they send was sent, and what they do to files was done
pub record Leaves (turns : List Turn) (all : Bool) (before after : Effects) : Type 0 where
  pub printed : Wrote before.written after.written (text_of turns) all
  pub wire : after.wire ≡ wire_after before.wire turns
  pub files : ActsOn before.files after.files (acts_of turns) all_acts

-- readings of which so many were taken
unfoldable pub readings_left : ℕ → List ℕ → List ℕ
readings_left zero readings = readings
readings_left (suc count) readings = readings_left count (readings_after readings)

-- what is told of a clock then
abbrev pub clock_after : Option (List ℕ) → ℕ → Option (List ℕ)
clock_after told count = option_map (λ readings. readings_left count readings) told

-- all of these turns passed: each took one reading
pub record Passes (turns : List Turn) (clock now : Option (List ℕ)) (before after : Effects) : Type 0 where
  pub leaves : Leaves turns true before after
  pub read : now ≡ clock_after clock (length turns)

-- what a turn left in which a node ended early: memory ran out in one that wants some, or the wire failed in one that uses it, and it did
-- nothing; or the sink took a front of its lines, and the rest was done; or one of its acts failed, those before it were done, and nothing was
-- printed
abbrev pub StopsBy : NodeError → Turn → Effects → Effects → Type 0
StopsBy NoMemory turn before after = (turn.memory ≡ true) × (after ≡ before)
StopsBy WireFault turn before after = (uses_wire turn ≡ true) × (after ≡ before)
StopsBy WriteFault turn before after = Leaves (turn ∷ []) false before after
StopsBy FileFault turn before after =
    (turn.acts ≢ []) × (after.written ≡ before.written) × (after.wire ≡ wire_after before.wire (turn ∷ [])) × ActsOn before.files after.files turn.acts failed_act
StopsBy Turns turn before after = ⊥

-- the first of these turns passed, their lines were handed on, and in the one after them the node ended early
pub record EndsIn (turns : List Turn) (e : NodeError) (clock now : Option (List ℕ)) (before after : Effects) : Type 0 where
  pub first : List Turn
  pub last : Turn
  pub rest : List Turn
  pub whole : turns ≡ first ++ last ∷ rest
  pub mid : Effects
  pub passed : Leaves first true before mid
  pub flushed : NothingWaits before.written → NothingWaits mid.written
  pub stops : StopsBy e last mid after
  pub read : now ≡ clock_after clock (length first + 1)

-- a node with these turns did `end` in the last of them; or had as many as may be, and in none did `end`; or the outside ended it after
-- the first of them
abbrev pub Ran : List Turn → Option (List ℕ) → Option (List ℕ) → Effects → Effects → Result (Unit {0}) NodeError → Type 0
Ran turns clock now before after (Ok x) = (did_end turns ≡ true) × Passes turns clock now before after
Ran turns clock now before after (Err Turns) = (did_end turns ≡ false) × Passes turns clock now before after
Ran turns clock now before after (Err e) = EndsIn turns e clock now before after

-- a node ran by the readings and arrivals that were still to come
abbrev pub RanNode : {S : Type 0} → Rules S → Node S → Option (List ℕ) → Option (List ℕ) → Effects → Effects → Result (Unit {0}) NodeError → Type 0
RanNode rules node clock now before after result =
    (readings : List ℕ) × ToRead clock readings × (arrivals : List (Option Parcel)) × ToArrive before.wire arrivals
    × Ran (turns_of most_turns rules node readings arrivals) clock now before after result

-- memory ran out, or the wire failed, before the node ran
abbrev pub IsBefore : Result (Unit {0}) NodeError → Type 0
IsBefore (Err NoMemory) = Unit {0}
IsBefore (Err WireFault) = Unit {0}
IsBefore other = ⊥

-- what is told of a wire once an address is bound
abbrev pub at_bound : Option Traffic → Address → Option Traffic
at_bound told at = option_map (λ traffic. after_bind traffic at) told

-- an address is bound, unless that failed
abbrev pub BindsAt : Option Traffic → Option Traffic → Address → Result (Unit {0}) NodeError → Type 0
BindsAt told now at (Ok x) = now ≡ at_bound told at
BindsAt told now at (Err e) = now ≡ told

-- where an address is bound, the node ran from there; where none is, nothing was printed, sent, read or done to files
abbrev pub RanBound : {S : Type 0} → Bool → Rules S → Node S → Address → Option (List ℕ) → Option (List ℕ) → Effects → Effects → Result (Unit {0}) NodeError → Type 0
RanBound true rules node at clock now before after result = RanNode rules node clock now (record before { wire = at_bound before.wire at }) after result
RanBound false rules node at clock now before after result = IsBefore result × (now ≡ clock) × (after ≡ before)

-- nothing waits in a sink in which nothing waited, unless it failed
abbrev pub StaysFlushed : {T : Type 0} → Option Written → Option Written → Result T NodeError → Type 0
StaysFlushed before after (Err WriteFault) = Unit {0}
StaysFlushed before after other = NothingWaits before → NothingWaits after

-- ---- parts of a turn

-- a datagram is sent, if there is one
abbrev pub sent_on : Option Traffic → Option Parcel → Option Traffic
sent_on told None = told
sent_on told (Some parcel) = option_map (λ traffic. after_send traffic parcel.address parcel.bytes) told

-- it was sent, and whether there was one is answered; or the wire failed
abbrev pub SendsParcel : Option Parcel → Option Traffic → Option Traffic → Result Bool NodeError → Type 0
SendsParcel parcel were are (Ok sent) = (sent ≡ is_some parcel) × (are ≡ sent_on were parcel)
SendsParcel parcel were are (Err WireFault) = (is_some parcel ≡ true) × (are ≡ were)
SendsParcel parcel were are (Err other) = ⊥

-- the lines of an answer were printed, if there is one; or the sink took a front of them; or memory ran out or a file failed before
abbrev pub PrintsAnswer : {T : Type 0} → Option Answered → Option Written → Option Written → Result T NodeError → Type 0
PrintsAnswer answer before after (Ok x) = Wrote before after (answer_text answer) true
PrintsAnswer answer before after (Err WriteFault) = Wrote before after (answer_text answer) false
PrintsAnswer answer before after (Err NoMemory) = after ≡ before
PrintsAnswer answer before after (Err FileFault) = after ≡ before
PrintsAnswer answer before after (Err other) = ⊥

-- a datagram was sent, if there is one, and then an answer told
abbrev pub Tells : Option Answered → Option Parcel → Option Written → Option Written → Option Traffic → Option Traffic → Result Bool NodeError → Type 0
Tells answer sends before after were are (Ok sent) = (sent ≡ is_some sends) × Wrote before after (answer_text answer) true × (are ≡ sent_on were sends)
Tells answer sends before after were are (Err WriteFault) = Wrote before after (answer_text answer) false × (are ≡ sent_on were sends)
Tells answer sends before after were are (Err WireFault) = (is_some sends ≡ true) × (after ≡ before) × (are ≡ were)
Tells answer sends before after were are (Err NoMemory) = (after ≡ before) × (are ≡ were)
Tells answer sends before after were are (Err FileFault) = (after ≡ before) × (are ≡ sent_on were sends)
Tells answer sends before after were are (Err Turns) = ⊥

-- acts were done; or one of them failed; where memory ran out or the wire failed, none was
abbrev pub DoesActs : {T : Type 0} → Option Told → Option Told → List FileAct → Result T NodeError → Type 0
DoesActs told now acts (Ok x) = ActsOn told now acts all_acts
DoesActs told now acts (Err WriteFault) = ActsOn told now acts all_acts
DoesActs told now acts (Err FileFault) = (acts ≢ []) × ActsOn told now acts failed_act
DoesActs told now acts (Err other) = now ≡ told

-- a line was done
pub record DoesLine {S : Type 0} (done : LineDone S) (new : S) (before after : Effects) (result : Result Bool NodeError) : Type 0 where
  pub end : OnOk result (new ≡ done.end)
  pub told : Tells done.answer done.sends before.written after.written before.wire after.wire result
  pub files : DoesActs before.files after.files done.acts result
  pub memory : IsErrOf result NoMemory → done.memory ≡ true

-- an arrival was taken, for which no memory is wanted
pub record DoesArrival {S : Type 0} (arrived : Arrived S) (new : S) (before after : Option Written) (told now : Option Told) (result : Result (Unit {0}) NodeError) : Type 0 where
  pub end : OnOk result (new ≡ arrived.end)
  pub printed : PrintsAnswer (Some arrived.answer) before after result
  pub files : DoesActs told now arrived.acts result
  pub memory : IsErrOf result NoMemory → ⊥

-- where a turn receives, it finds what is told to come next
abbrev pub Finds : Turn → Option Traffic → Option Parcel → Type 0
Finds turn None found = Unit {0}
Finds turn (Some traffic) found = turn.received ≡ true → next_of traffic.arrivals ≡ found

-- a turn was done, and whether it did `end` is answered; or the node ended early in it
abbrev pub DoesTurn : {S : Type 0} → Turned S → Option Parcel → Node S → Effects → Effects → Result Bool NodeError → Type 0
DoesTurn now found node before after (Ok ended) = (ended ≡ now.turn.ended) × (node ≡ now.node) × Finds now.turn before.wire found × Leaves (now.turn ∷ []) true before after
DoesTurn now found node before after (Err e) = Finds now.turn before.wire found × StopsBy e now.turn before after

-- by one reading of the clock, and what a receive finds, if there is one
pub record TakesTurn {S : Type 0} (rules : Rules S) (old new : Node S) (clock clock' : Option (List ℕ)) (before after : Effects) (result : Result Bool NodeError) : Type 0 where
  pub reading : ℕ
  pub found : Option Parcel
  pub read : Reads clock clock' reading
  pub done : DoesTurn (turn_at rules old reading found) found new before after result

-- the node of an end on its course through its lines
abbrev pub node_of : {S : Type 0} → S → List Event → Course → Node S
node_of end events course = record { end = end; left = drop course.next events; time = course.time; start = course.start; made = course.made }

-- the next line is one of the lines, or past the last; and no line made more than one datagram
pub record IsOn (events : List Event) (course : Course) : Type 0 where
  pub next : course.next ≤ length events
  pub made : course.made ≤ course.next

-- ---- causes

-- a wire's fault comes only where the wire's count rose, one of writing only where the sink's did, one of files only where their count of
-- writes did, and no fault is passed over
abbrev pub WireCause : {T : Type 0} → ℕ → ℕ → Result T NodeError → Type 0
WireCause before now (Err WireFault) = (before ≤ now) × Rose before now
WireCause before now other = now ≡ before

abbrev pub WriteCause : {T : Type 0} → ℕ → ℕ → Result T NodeError → Type 0
WriteCause before now (Err WriteFault) = (before ≤ now) × Rose before now
WriteCause before now other = now ≡ before

abbrev pub FileCause : {T : Type 0} → ℕ → ℕ → Result T NodeError → Type 0
FileCause before now (Err FileFault) = (before ≤ now) × Rose before now
FileCause before now other = now ≡ before
