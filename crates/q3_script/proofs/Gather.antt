-- The events of lines, gathered one after the other.
use Rattle.std.proofs.Common.{◌≡◌, ℕ, ◌+◌, ◌<◌, true, false, List, [], ◌∷◌, ◌++◌, length, get_or, drop, Result, Ok, Err, refl, sym, ap, ◌∙◌, append_assoc, arith}
use Rattle.std.specs.Result.{result_map_both}
use Rattle.std.proofs.lemmas.List.{append-nil, drop_more, drop_all, length_push}
use Rattle.q3_script.specs.declared.event.Event.{Event}
use Rattle.q3_words.specs.declared.cause.LineCause.{LineCause}
use Rattle.q3_bits.specs.ResultBind.{◌>>=◌}
use Rattle.q3_words.specs.declared.cause.LineCause.TheVariants.{Order}
use Rattle.q3_script.specs.declared.cause.ScriptKind.{ScriptKind}
use Rattle.q3_script.specs.Script.{BadLine, Course, is_passed_over, event_at, course_after, is_complete, events_from}

-- the events before, and those of the lines that are left
abbrev pub with_front : List Event → Result (List Event) BadLine → Result (List Event) BadLine
with_front front (Ok events) = Ok (front ++ events)
with_front front (Err bad) = Err bad

-- an event, and a cause, as the answer for a line
abbrev done : Event → Result Event LineCause
done event = Ok event

abbrev refuse : LineCause → Result Event LineCause
refuse cause = Err cause

-- a course, and a cause, as the answer for an event
abbrev gone : Course → Result Course LineCause
gone course = Ok course

abbrev stopped : LineCause → Result Course LineCause
stopped cause = Err cause

-- what a course answered, with where it stands then
pub went : {T : Type 0} {course : Course} {answer : Result T LineCause} {told : Result Course LineCause} {x : T} → result_map_both (λ _. course) (λ cause. cause) answer ≡ told → answer ≡ Ok x → gone course ≡ told
went {T} {course} {answer} {told} {x} e is = sym (ap (λ (r : Result T LineCause). result_map_both (λ _. course) (λ cause. cause) r) is) ∙ e

pub held : {T : Type 0} {answer : Result T LineCause} {told : Result Course LineCause} {cause : LineCause} (course : Course) → result_map_both (λ _. course) (λ cause. cause) answer ≡ told → answer ≡ Err cause → stopped cause ≡ told
held {T} {answer} {told} {cause} course e is = sym (ap (λ (r : Result T LineCause). result_map_both (λ _. course) (λ cause. cause) r) is) ∙ e

-- where a loop over the lines stands: the lines after n of them are still to be read, on this course
pub record Reached (kind : ScriptKind) (past : ℕ) (lines : List (List ℕ)) (n : ℕ) (front : List Event) (course : Course) (total : Result (List Event) BadLine) : Type 0 where
  pub told : with_front front (events_from kind past (n + 1) (length front) course (drop n lines)) ≡ total

-- and this is the next line
pub record Next (lines : List (List ℕ)) (n : ℕ) (line : List ℕ) : Type 0 where
  pub inside : n < length lines
  pub is : line ≡ get_or lines n line

-- the lines that are left begin with the next
rest_of : {lines : List (List ℕ)} {n : ℕ} {line : List ℕ} → Next lines n line → drop n lines ≡ line ∷ drop (n + 1) lines
rest_of {lines} {n} {line} next = drop_more lines n line next.inside ∙ ap (λ (x : List ℕ). x ∷ drop (n + 1) lines) (sym next.is)

-- a line that is passed over
pub passes : {kind : ScriptKind} {past : ℕ} {lines : List (List ℕ)} {n : ℕ} {front : List Event} {course : Course} {total : Result (List Event) BadLine} {line : List ℕ} → Reached kind past lines n front course total → Next lines n line → is_passed_over line ≡ true → Reached kind past lines (n + 1) front course total
unfolding events_from
passes {kind} {past} {lines} {n} {front} {course} {total} {line} reached next over =
    let one : events_from kind past (n + 1) (length front) course (drop n lines) ≡ events_from kind past (n + 1 + 1) (length front) course (drop (n + 1) lines) = rw (rest_of next, over) refl in
    record { told = ap (with_front front) (sym one) ∙ reached.told }

-- an event goes over from the lines that are left to those before
regroup : (front : List Event) (event : Event) (rest : Result (List Event) BadLine) → with_front front (rest >>= λ events. Ok (event ∷ events)) ≡ with_front (front ++ event ∷ []) rest
regroup front event (Ok events) = ap (λ (x : List Event). Ok x) (simp append_assoc)
regroup front event (Err bad) = refl

-- a line that spells an event which may stand there
pub adds : {kind : ScriptKind} {past : ℕ} {lines : List (List ℕ)} {n : ℕ} {front : List Event} {course after : Course} {total : Result (List Event) BadLine} {line : List ℕ} {event : Event} → Reached kind past lines n front course total → Next lines n line → is_passed_over line ≡ false → done event ≡ event_at kind (length front) line → gone after ≡ course_after kind course event
    → Reached kind past lines (n + 1) (front ++ event ∷ []) after total
unfolding events_from
adds {kind} {past} {lines} {n} {front} {course} {after} {total} {line} {event} reached next over spells goes =
    let one : events_from kind past (n + 1) (length front) course (drop n lines) ≡ (events_from kind past (n + 1 + 1) (length front + 1) after (drop (n + 1) lines) >>= λ events. Ok (event ∷ events)) = rw (rest_of next, over, ← spells, ← goes) refl in
    let more : with_front (front ++ event ∷ []) (events_from kind past (n + 1 + 1) (length front + 1) after (drop (n + 1) lines)) ≡ total = sym (regroup front event (events_from kind past (n + 1 + 1) (length front + 1) after (drop (n + 1) lines))) ∙ ap (with_front front) (sym one) ∙ reached.told in
    record { told = rw length_push more }

-- a line that is refused
pub refuses : {kind : ScriptKind} {past : ℕ} {lines : List (List ℕ)} {n : ℕ} {front : List Event} {course : Course} {total : Result (List Event) BadLine} {line : List ℕ} {cause : LineCause} → Reached kind past lines n front course total → Next lines n line → is_passed_over line ≡ false → refuse cause ≡ event_at kind (length front) line → total ≡ Err (record { line = n + 1; cause = cause })
unfolding events_from
refuses {kind} {past} {lines} {n} {front} {course} {total} {line} {cause} reached next over refused =
    let one : events_from kind past (n + 1) (length front) course (drop n lines) ≡ Err (record { line = n + 1; cause = cause }) = rw (rest_of next, over, ← refused) refl in
    sym reached.told ∙ ap (with_front front) one

-- a line that can't stand there
pub stops : {kind : ScriptKind} {past : ℕ} {lines : List (List ℕ)} {n : ℕ} {front : List Event} {course : Course} {total : Result (List Event) BadLine} {line : List ℕ} {event : Event} {cause : LineCause} → Reached kind past lines n front course total → Next lines n line → is_passed_over line ≡ false → done event ≡ event_at kind (length front) line → stopped cause ≡ course_after kind course event
    → total ≡ Err (record { line = n + 1; cause = cause })
unfolding events_from
stops {kind} {past} {lines} {n} {front} {course} {total} {line} {event} {cause} reached next over spells stands =
    let one : events_from kind past (n + 1) (length front) course (drop n lines) ≡ Err (record { line = n + 1; cause = cause }) = rw (rest_of next, over, ← spells, ← stands) refl in
    sym reached.told ∙ ap (with_front front) one

-- the last line, where the script may end
pub ends : {kind : ScriptKind} {past : ℕ} {lines : List (List ℕ)} {n : ℕ} {front : List Event} {course : Course} {total : Result (List Event) BadLine} → Reached kind past lines n front course total → n ≡ length lines → is_complete kind course ≡ true → total ≡ Ok front
unfolding events_from
ends {kind} {past} {lines} {n} {front} {course} {total} reached last complete =
    let none : drop n lines ≡ [] = drop_all n lines (omega arith) in
    let one : events_from kind past (n + 1) (length front) course (drop n lines) ≡ Ok [] = rw (none, complete) refl in
    sym reached.told ∙ ap (with_front front) one ∙ ap (λ (x : List Event). Ok x) (append-nil front)

-- and where it lacks its end
pub lacks_end : {kind : ScriptKind} {past : ℕ} {lines : List (List ℕ)} {n : ℕ} {front : List Event} {course : Course} {total : Result (List Event) BadLine} → Reached kind past lines n front course total → n ≡ length lines → is_complete kind course ≡ false → total ≡ Err (record { line = past; cause = Order })
unfolding events_from
lacks_end {kind} {past} {lines} {n} {front} {course} {total} reached last lacks =
    let none : drop n lines ≡ [] = drop_all n lines (omega arith) in
    let one : events_from kind past (n + 1) (length front) course (drop n lines) ≡ Err (record { line = past; cause = Order }) = rw (none, lacks) refl in
    sym reached.told ∙ ap (with_front front) one
