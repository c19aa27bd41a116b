-- The events that a script spells, or its first bad line.
use Rattle.std.specs.Prelude.{◌≡◌, ℕ, ◌+◌, ◌==◌, ◌||◌, if◌then◌else◌, Bool, true, false, List, [], ◌∷◌, Option, Some, None, length, codes, eqb, nat_lt, nat_le, slice_index, Result, Ok, Err}
use Rattle.std.specs.Result.{result_map_both}
use Rattle.std.specs.List.{slice_split, ends_with}
use Rattle.std.specs.Global.{Vec}
use Rattle.q3_script.specs.declared.event.Event.{Event}
use Rattle.q3_script.specs.declared.event.Event.TheVariants as events
use Rattle.q3_words.specs.declared.cause.LineCause.{LineCause}
use Rattle.q3_words.specs.declared.cause.LineCause.TheVariants.{Large, Many, Order}
use Rattle.q3_script.specs.declared.cause.ScriptKind.{ScriptKind}
use Rattle.q3_script.specs.declared.cause.ScriptKind.TheVariants.{Replay, Serve, Join}
use Rattle.q3_script.specs.declared.cause.ScriptError.{ScriptError}
use Rattle.q3_script.specs.declared.cause.ScriptError.TheVariants as errors
use Rattle.q3_words.specs.Words.{words_of}
use Rattle.q3_script.specs.Lines.{line_at}
use Rattle.q3_bits.specs.ResultBind.{◌>>=◌}

-- the longest script in bytes, and how many events it may have
abbrev pub longest_script : ℕ
longest_script = 67108864

abbrev pub most_events : ℕ
most_events = 65536

-- the lines of a script, each up to a newline
abbrev pub lines_of : List ℕ → List (List ℕ)
lines_of bytes = slice_split (λ byte. byte == 10) bytes

-- an empty line, and one that begins with `#`
abbrev pub is_passed_over : List ℕ → Bool
is_passed_over line = (length line == 0) || (slice_index line 0 == 35)

-- a bad line: its number, and the first cause for which it is refused
pub record BadLine : Type 0 where
  pub line : ℕ
  pub cause : LineCause

-- the event of a line after so many others
abbrev pub event_at : ScriptKind → ℕ → List ℕ → Result Event LineCause
event_at kind before line = if nat_le most_events before then Err Many else line_at kind (words_of line)

-- what the lines so far say of the next: the least time that it may have, whether `end` stood among them, and the client that they are of
pub record Course : Type 0 where
  pub time : ℕ
  pub ended : Bool
  pub client : Option ℕ

-- before the first line
abbrev pub no_course : Course
no_course = record { time = 0; ended = false; client = None }

-- the course after a time
abbrev pub timed : Course → ℕ → Result Course LineCause
timed course ms = if nat_lt ms course.time then Err Order else Ok (record course { time = ms })

-- after a line of a node
abbrev pub node_after : Course → Event → Result Course LineCause
node_after course (events.At ms) = timed course ms
node_after course (events.End ms) = timed (record course { ended = true }) ms
node_after course other = Ok course

-- whether a line after `client` is of that client
abbrev pub is_of : ℕ → Event → Bool
is_of c (events.Client d challenge qport dup address) = false
is_of c (events.TypeText d text) = d == c
is_of c (events.Move d one) = d == c
is_of c (events.Send d) = d == c
is_of c (events.RecordTo d name) = d == c
is_of c (events.Stop d) = d == c
is_of c (events.Show d) = d == c
is_of c other = true

-- after the first line of a client's script, and after a later one
abbrev pub first_after : Course → Event → Result Course LineCause
first_after course (events.Client c challenge qport dup address) = Ok (record course { client = Some c })
first_after course other = Err Order

abbrev pub client_course_after : Course → Option ℕ → Event → Result Course LineCause
client_course_after course None event = first_after course event
client_course_after course (Some c) event = if is_of c event then node_after course event else Err Order

-- after a line of a script of a kind, if it may stand there; nothing follows `end`
abbrev pub course_after : ScriptKind → Course → Event → Result Course LineCause
course_after Replay course event = Ok course
course_after Serve course event = if course.ended then Err Order else node_after course event
course_after Join course event = if course.ended then Err Order else client_course_after course course.client event

-- whether a script may end there
abbrev pub is_complete : ScriptKind → Course → Bool
is_complete Replay course = true
is_complete Serve course = course.ended
is_complete Join course = course.ended

-- the number after that of the last line: what follows the last newline is a line unless it is empty
abbrev pub line_after : List ℕ → ℕ
line_after bytes = if (length bytes == 0) || ends_with eqb bytes (codes "\n") then length (lines_of bytes) else length (lines_of bytes) + 1

-- an answer, where a cause is that of this line
abbrev pub in_line : {A : Type 0} → ℕ → Result A LineCause → Result A BadLine
in_line line answer = result_map_both (λ x. x) (λ cause. record { line = line; cause = cause }) answer

-- the events of the lines from this number on, where so many events stood before them, on this course, and the number after the last line
-- is `past`
unfoldable pub events_from : ScriptKind → ℕ → ℕ → ℕ → Course → List (List ℕ) → Result (List Event) BadLine
events_from kind past number before course [] = if is_complete kind course then Ok [] else Err (record { line = past; cause = Order })
events_from kind past number before course (line ∷ lines) =
    if is_passed_over line then events_from kind past (number + 1) before course lines
    else (do
      event ← in_line number (event_at kind before line)
      course ← in_line number (course_after kind course event)
      events ← events_from kind past (number + 1) (before + 1) course lines
      Ok (event ∷ events))

-- the events of a script of a kind, or its first bad line
unfoldable pub script_at : ScriptKind → List ℕ → Result (List Event) BadLine
script_at kind bytes =
    if nat_lt longest_script (length bytes) then Err (record { line = 0; cause = Large })
    else events_from kind (line_after bytes) 1 0 no_course (lines_of bytes)

-- an answer with the events of its vector
abbrev pub with_items : Result (Vec Event) ScriptError → Result (List Event) ScriptError
with_items answer = result_map_both (λ events. events.items) (λ e. e) answer

-- what a reader answered is what the script says, unless memory ran out
abbrev pub Reads : Result (List Event) ScriptError → Result (List Event) BadLine → Type 0
Reads (Ok events) script = script ≡ Ok events
Reads (Err errors.NoMemory) script = Unit {0}
Reads (Err (errors.Line line cause)) script = script ≡ Err (record { line = line; cause = cause })
