-- Whole scripts against their grammar: what is read was spelled so, and what is spelled so is read.
use Rattle.std.proofs.Common.{◌≡◌, ℕ, ◌+◌, ◌≤◌, true, false, leb, ltb, List, [], ◌∷◌, length, Result, Ok, Err, inl, inr, refl, sym, ap, subst, ◌∙◌, arith}
use Rattle.std.specs.Global.{Vec}
use Rattle.std.specs.Prelude.{IfOk, All}
use Rattle.std.specs.List.{AllByRecursion}
use Rattle.std.proofs.lemmas.Bool.{cases_Bool, leb-false, ltb-false, lt-leb, le-ltb}
use Rattle.std.proofs.lemmas.List.Elements.{All-from_recursion}
use Rattle.q3_script.specs.declared.event.Event.{Event}
use Rattle.q3_words.specs.declared.cause.LineCause.{LineCause}
use Rattle.q3_words.specs.declared.cause.LineCause.TheVariants.{Large, Many, Order}
use Rattle.q3_script.specs.declared.cause.ScriptKind.{ScriptKind}
use Rattle.q3_script.specs.declared.cause.ScriptError.{ScriptError}
use Rattle.q3_bits.specs.ResultBind.{◌>>=◌}
use Rattle.q3_bits.proofs.Binds.{bind_ok}
use Rattle.q3_words.specs.Words.{words_of}
use Rattle.q3_script.specs.Lines.{line_at}
use Rattle.q3_script.specs.Script.{longest_script, most_events, lines_of, line_after, is_passed_over, BadLine, Course, no_course, event_at, course_after, is_complete, in_line, events_from, script_at, with_items, Reads}
use Rattle.q3_script.specs.Grammar.{SpellEvents, SpellsScript, IsEventOf}
use Rattle.q3_script.proofs.Values.{ok_is}
use Rattle.q3_script.proofs.SpelledEvents.{line_at-spelled, line_at-again}
use Rattle.q3_script.proofs.Ordered.{Goes, guard_ok, guard_else, goes_ordered, ordered_goes}
use Rattle.q3_words.specs.Laws.{WordLaws}

-- events, and a bad line, as the answer for lines
abbrev events_are : List Event → Result (List Event) BadLine
events_are events = Ok events

abbrev bad : BadLine → Result (List Event) BadLine
bad line = Err line

-- a step that isn't refused, with or without its line
in_line-ok : {A : Type 0} (number : ℕ) (r : Result A LineCause) (x : A) → in_line number r ≡ Ok x → r ≡ Ok x
in_line-ok number (Ok y) x e = ap (λ z. Ok z) (ok_is y x e)
in_line-ok number (Err cause) x e = absurd cc

-- ---- lines

-- what lines spell, that there are few enough, and that each may stand where it does
record WereEvents (kind : ScriptKind) (before : ℕ) (course : Course) (lines : List (List ℕ)) (events : List Event) : Type 0 where
  spelled : SpellEvents kind lines events
  few : before ≤ most_events → before + length events ≤ most_events
  goes : Goes kind course events

-- events that are read were spelled so
events_from-spelled : (laws : WordLaws) (kind : ScriptKind) (past number before : ℕ) (course : Course) (lines : List (List ℕ)) (events : List Event) → events_from kind past number before course lines ≡ Ok events → WereEvents kind before course lines events
unfolding events_from
events_from-spelled laws kind past number before course [] events e =
    let ends = guard_else (is_complete kind course) (record { line = past; cause = Order }) (events_are []) events e in
    let none = sym (ok_is [] events ends.1) in
    record { spelled = none; few = λ le. rw none (omega arith); goes = subst (λ (x : List Event). Goes kind course x) (sym none) ends.0 }
events_from-spelled laws kind past number before course (line ∷ lines) events e =
    elim (cases_Bool (is_passed_over line)) [
      | inl over ↦
          let rest = events_from-spelled laws kind past (number + 1) before course lines events (rw over at e) in
          record { spelled = rw over rest.spelled; few = rest.few; goes = rest.goes }
      | inr read ↦
          let event = bind_ok (in_line number (event_at kind before line)) (λ event. in_line number (course_after kind course event) >>= λ next. events_from kind past (number + 1) (before + 1) next lines >>= λ events. Ok (event ∷ events)) events (rw read at e) in
          let room = guard_ok (leb most_events before) Many (line_at kind (words_of line)) event.0 (in_line-ok number (event_at kind before line) event.0 event.1) in
          let next = bind_ok (in_line number (course_after kind course event.0)) (λ next. events_from kind past (number + 1) (before + 1) next lines >>= λ events. Ok (event.0 ∷ events)) events event.2 in
          let rest = bind_ok (events_from kind past (number + 1) (before + 1) next.0 lines) (λ events. Ok (event.0 ∷ events)) events next.2 in
          let others = events_from-spelled laws kind past (number + 1) (before + 1) next.0 lines rest.0 rest.1 in
          let below = leb-false most_events before room.0 in
          let whole : WereEvents kind before course (line ∷ lines) (event.0 ∷ rest.0) = record {
            spelled = rw read (line_at-spelled laws kind line event.0 room.1, others.spelled);
            few = λ le. (let few = others.few (omega arith) in omega arith);
            goes = (next.0, in_line-ok number (course_after kind course event.0) next.0 next.1, others.goes);
          } in
          subst (λ (x : List Event). WereEvents kind before course (line ∷ lines) x) (ok_is (event.0 ∷ rest.0) events rest.2) whole
    ]

-- and what is spelled so is read
events_from-again : (laws : WordLaws) (kind : ScriptKind) (past number before : ℕ) (course : Course) (lines : List (List ℕ)) (events : List Event) → SpellEvents kind lines events → before + length events ≤ most_events → Goes kind course events → events_from kind past number before course lines ≡ Ok events
unfolding events_from
events_from-again laws kind past number before course [] events spelled few goes =
    let ends : is_complete kind course ≡ true = subst (λ (x : List Event). Goes kind course x) spelled goes in
    rw ends (ap events_are (sym spelled))
events_from-again laws kind past number before course (line ∷ lines) [] spelled few goes =
    elim (cases_Bool (is_passed_over line)) [
      | inl over ↦ rw over (events_from-again laws kind past (number + 1) before course lines [] (rw over at spelled) few goes)
      | inr read ↦ absurd (rw read at spelled)
    ]
events_from-again laws kind past number before course (line ∷ lines) (event ∷ events) spelled few goes =
    elim (cases_Bool (is_passed_over line)) [
      | inl over ↦ rw over (events_from-again laws kind past (number + 1) before course lines (event ∷ events) (rw over at spelled) few goes)
      | inr read ↦
          let parts = rw read at spelled in
          let room : leb most_events before ≡ false = lt-leb _ _ (omega arith) in
          rw (read, room, line_at-again laws kind (words_of line) event parts.0, goes.1, events_from-again laws kind past (number + 1) (before + 1) goes.0 lines events parts.1 (omega arith) goes.2) refl
    ]

-- ---- scripts

-- a script that is read was spelled so
pub script_at-spelled : (laws : WordLaws) (kind : ScriptKind) (bytes : List ℕ) (events : List Event) → script_at kind bytes ≡ Ok events → SpellsScript kind bytes events
unfolding script_at
script_at-spelled laws kind bytes events e =
    elim (cases_Bool (ltb longest_script (length bytes))) [
      | inl large ↦ let refused : bad (record { line = 0; cause = Large }) ≡ events_are events = rw large at e in absurd cc
      | inr small ↦
          let were = events_from-spelled laws kind (line_after bytes) 1 0 no_course (lines_of bytes) events (rw small at e) in
          record {
            small = ltb-false longest_script (length bytes) small;
            few = (let few = were.few (omega arith) in omega arith);
            spelled = were.spelled;
            ordered = goes_ordered kind events were.goes;
          }
    ]

-- and what is spelled so is read
pub script_at-again : (laws : WordLaws) (kind : ScriptKind) (bytes : List ℕ) (events : List Event) → SpellsScript kind bytes events → script_at kind bytes ≡ Ok events
unfolding script_at
script_at-again laws kind bytes events script =
    let small : ltb longest_script (length bytes) ≡ false = le-ltb _ _ script.small in
    rw small (events_from-again laws kind (line_after bytes) 1 0 no_course (lines_of bytes) events script.spelled (let few = script.few in omega arith) (ordered_goes kind events script.ordered))

-- ---- events of a kind

-- and so is each event of the lines
all_of_kind : (kind : ScriptKind) (lines : List (List ℕ)) (events : List Event) → SpellEvents kind lines events → AllByRecursion (IsEventOf kind) events
all_of_kind kind [] events spelled = subst (λ (x : List Event). AllByRecursion (IsEventOf kind) x) (sym spelled) tt
all_of_kind kind (line ∷ lines) [] spelled = tt
all_of_kind kind (line ∷ lines) (event ∷ events) spelled =
    elim (cases_Bool (is_passed_over line)) [
      | inl over ↦ all_of_kind kind lines (event ∷ events) (rw over at spelled)
      | inr read ↦ let parts = rw read at spelled in (parts.0.event_of, all_of_kind kind lines events parts.1)
    ]

-- ---- what a reader answered

-- what is read is a script of these events
pub is_found : (laws : WordLaws) (kind : ScriptKind) (bytes : List ℕ) (r : Result (Vec Event) ScriptError) → Reads (with_items r) (script_at kind bytes) → IfOk r (λ events. SpellsScript kind bytes events.items)
is_found laws kind bytes (Ok events) exact = script_at-spelled laws kind bytes events.items exact
is_found laws kind bytes (Err e) exact = tt

-- a script of some events is read as them
pub is_only : (laws : WordLaws) (kind : ScriptKind) (bytes : List ℕ) (r : Result (Vec Event) ScriptError) → Reads (with_items r) (script_at kind bytes) → (events : List Event) → SpellsScript kind bytes events → Reads (with_items r) (Ok events)
is_only laws kind bytes r exact events script = subst (λ (x : Result (List Event) BadLine). Reads (with_items r) x) (script_at-again laws kind bytes events script) exact

-- each of them is one that a script of the kind may have
pub is_each : (laws : WordLaws) (kind : ScriptKind) (bytes : List ℕ) (r : Result (Vec Event) ScriptError) → Reads (with_items r) (script_at kind bytes) → IfOk r (λ events. All (IsEventOf kind) events.items)
is_each laws kind bytes (Ok events) exact = All-from_recursion (IsEventOf kind) events.items (all_of_kind kind (lines_of bytes) events.items (script_at-spelled laws kind bytes events.items exact).spelled)
is_each laws kind bytes (Err e) exact = tt

-- what is bad isn't read
pub bad_is_not_ok : (kind : ScriptKind) (bytes : List ℕ) (line : BadLine) (events : List Event) → script_at kind bytes ≡ Err line → script_at kind bytes ≡ Ok events → ⊥
bad_is_not_ok kind bytes line events refused read = let same : bad line ≡ events_are events = sym refused ∙ read in cc
