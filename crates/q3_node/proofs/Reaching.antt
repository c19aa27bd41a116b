-- A node comes to its line `end` where the clock reaches its time.
use Rattle.std.proofs.Common.{◌≡◌, ℕ, zero, suc, ◌+◌, ◌-◌, ◌<◌, ◌≤◌, true, false, cond, List, [], ◌∷◌, length, drop, take, Option, Some, None, refl, sym, ap, subst, inl, inr, arith}
use Rattle.std.specs.Prelude.{◌⊎◌, nat_le, not}
use Rattle.std.proofs.lemmas.Bool.{cases_Bool}
use Rattle.std.proofs.lemmas.List.Sums.{sum_by-append}
use Rattle.std.proofs.lemmas.Bool.Decides.{nat_tests}
use Rattle.q3_io.specs.Readings.{reading_of, readings_after, DontFall}
use Rattle.q3_io.specs.Traffic.{Parcel, next_of}
use Rattle.q3_script.specs.declared.event.Event.{Event}
use Rattle.q3_script.specs.declared.event.Event.TheVariants.{Client, Port, Map, Entity, Remove, Baseline, Player, Area, Time, Config, Say, TypeText, Move, Serve, Send, Deliver, RecordTo, Stop, Show, Bytes, Toclient, Toserver, At, End}
use Rattle.q3_script.specs.Grammar.{TimesRise, EndsLast}
use Rattle.q3_node.specs.Node.{Rules, Node, Turn, Turned, due_at, time_after, is_end, start_at, due, line_turn, receive_turn, turn_of, turn_at, turns_of, arrivals_after, did_end}
use Rattle.q3_node.specs.Running.{readings_left}
use Rattle.q3_node.specs.Laws.{end_time, lines_done, EndIsDone}

-- ---- lines and their times

-- a line that says no time
pub record Plain (event : Event) : Type 0 where
  pub after : (time : ℕ) → time_after time event ≡ time
  pub due : (time : ℕ) → due_at time event ≡ time
  pub ends : is_end event ≡ false
  pub rise : (least : ℕ) (events : List Event) → TimesRise least (event ∷ events) → TimesRise least events
  pub last : (events : List Event) → EndsLast (event ∷ events) → EndsLast events
  pub time : (events : List Event) → end_time (event ∷ events) ≡ end_time events

line_sort : (event : Event) → (((ms : ℕ) × (event ≡ End ms)) ⊎ ((ms : ℕ) × (event ≡ At ms))) ⊎ Plain event
unfolding end_time
line_sort (Client c challenge qport dup address) = inr (record { after = λ t. refl; due = λ t. refl; ends = refl; rise = λ l es is. is; last = λ es is. is; time = λ es. refl })
line_sort (Port c port) = inr (record { after = λ t. refl; due = λ t. refl; ends = refl; rise = λ l es is. is; last = λ es is. is; time = λ es. refl })
line_sort (Map id feed) = inr (record { after = λ t. refl; due = λ t. refl; ends = refl; rise = λ l es is. is; last = λ es is. is; time = λ es. refl })
line_sort (Entity state) = inr (record { after = λ t. refl; due = λ t. refl; ends = refl; rise = λ l es is. is; last = λ es is. is; time = λ es. refl })
line_sort (Remove number) = inr (record { after = λ t. refl; due = λ t. refl; ends = refl; rise = λ l es is. is; last = λ es is. is; time = λ es. refl })
line_sort (Baseline state) = inr (record { after = λ t. refl; due = λ t. refl; ends = refl; rise = λ l es is. is; last = λ es is. is; time = λ es. refl })
line_sort (Player c player) = inr (record { after = λ t. refl; due = λ t. refl; ends = refl; rise = λ l es is. is; last = λ es is. is; time = λ es. refl })
line_sort (Area c area) = inr (record { after = λ t. refl; due = λ t. refl; ends = refl; rise = λ l es is. is; last = λ es is. is; time = λ es. refl })
line_sort (Time time) = inr (record { after = λ t. refl; due = λ t. refl; ends = refl; rise = λ l es is. is; last = λ es is. is; time = λ es. refl })
line_sort (Config index text) = inr (record { after = λ t. refl; due = λ t. refl; ends = refl; rise = λ l es is. is; last = λ es is. is; time = λ es. refl })
line_sort (Say c text) = inr (record { after = λ t. refl; due = λ t. refl; ends = refl; rise = λ l es is. is; last = λ es is. is; time = λ es. refl })
line_sort (TypeText c text) = inr (record { after = λ t. refl; due = λ t. refl; ends = refl; rise = λ l es is. is; last = λ es is. is; time = λ es. refl })
line_sort (Move c one) = inr (record { after = λ t. refl; due = λ t. refl; ends = refl; rise = λ l es is. is; last = λ es is. is; time = λ es. refl })
line_sort (Serve c) = inr (record { after = λ t. refl; due = λ t. refl; ends = refl; rise = λ l es is. is; last = λ es is. is; time = λ es. refl })
line_sort (Send c) = inr (record { after = λ t. refl; due = λ t. refl; ends = refl; rise = λ l es is. is; last = λ es is. is; time = λ es. refl })
line_sort (Deliver datagram) = inr (record { after = λ t. refl; due = λ t. refl; ends = refl; rise = λ l es is. is; last = λ es is. is; time = λ es. refl })
line_sort (RecordTo c name) = inr (record { after = λ t. refl; due = λ t. refl; ends = refl; rise = λ l es is. is; last = λ es is. is; time = λ es. refl })
line_sort (Stop c) = inr (record { after = λ t. refl; due = λ t. refl; ends = refl; rise = λ l es is. is; last = λ es is. is; time = λ es. refl })
line_sort (Show c) = inr (record { after = λ t. refl; due = λ t. refl; ends = refl; rise = λ l es is. is; last = λ es is. is; time = λ es. refl })
line_sort (Bytes datagram) = inr (record { after = λ t. refl; due = λ t. refl; ends = refl; rise = λ l es is. is; last = λ es is. is; time = λ es. refl })
line_sort (Toclient c bytes) = inr (record { after = λ t. refl; due = λ t. refl; ends = refl; rise = λ l es is. is; last = λ es is. is; time = λ es. refl })
line_sort (Toserver c bytes) = inr (record { after = λ t. refl; due = λ t. refl; ends = refl; rise = λ l es is. is; last = λ es is. is; time = λ es. refl })
line_sort (At ms) = inl (inr (ms, refl))
line_sort (End ms) = inl (inl (ms, refl))

at_time : (ms : ℕ) (events : List Event) → end_time (At ms ∷ events) ≡ end_time events
unfolding end_time
at_time ms events = refl

of_end : (ms : ℕ) (events : List Event) → end_time (End ms ∷ events) ≡ ms
unfolding end_time
of_end ms events = refl

-- no time is above that of `end`
times_least : (least : ℕ) (events : List Event) → TimesRise least events → EndsLast events → least ≤ end_time events
times_least least [] rise last = absurd last
times_least least (event ∷ events) rise last =
    elim (line_sort event) [
      | inl says ↦ elim says [
        | inl end ↦ (
            let rises = subst (λ (e : Event). TimesRise least (e ∷ events)) end.1 rise in
            let from = rises.0 in
            subst (λ (e : Event). least ≤ end_time (e ∷ events)) (sym end.1) (rw (of_end end.0 events) from)
            )
        | inr at ↦ (
            let rises = subst (λ (e : Event). TimesRise least (e ∷ events)) at.1 rise in
            let ends = subst (λ (e : Event). EndsLast (e ∷ events)) at.1 last in
            let from = rises.0 in
            let to = times_least at.0 events rises.1 ends in
            subst (λ (e : Event). least ≤ end_time (e ∷ events)) (sym at.1) (rw (at_time at.0 events) (omega (arith, from, to)))
            )
      ]
      | inr plain ↦ rw (plain.time events) (times_least least events (plain.rise least events rise) (plain.last events last))
    ]

-- so a line is due by then
due_by_end : (time : ℕ) (event : Event) (events : List Event) → TimesRise time (event ∷ events) → EndsLast (event ∷ events) → due_at time event ≤ end_time (event ∷ events)
due_by_end time event events rise last =
    elim (line_sort event) [
      | inl says ↦ elim says [
        | inl end ↦ subst (λ (e : Event). due_at time e ≤ end_time (e ∷ events)) (sym end.1) (rw (of_end end.0 events) (omega arith))
        | inr at ↦ (
            let least = times_least time (event ∷ events) rise last in
            rw (at.1) (rw at.1 at least)
            )
      ]
      | inr plain ↦ rw (plain.due time) (times_least time (event ∷ events) rise last)
    ]

-- after a line that isn't `end`
pub record AfterLine (before : ℕ) (event : Event) (events : List Event) : Type 0 where
  pub rise : TimesRise (time_after before event) events
  pub last : EndsLast events
  pub time : end_time (event ∷ events) ≡ end_time events

after_line : (time : ℕ) (event : Event) (events : List Event) → is_end event ≡ false → TimesRise time (event ∷ events) → EndsLast (event ∷ events) → AfterLine time event events
after_line time event events goes rise last =
    elim (line_sort event) [
      | inl says ↦ elim says [
        | inl end ↦ (
            let so = subst (λ (e : Event). is_end e ≡ false) end.1 goes in
            absurd cc
            )
        | inr at ↦ (
            let rises = subst (λ (e : Event). TimesRise time (e ∷ events)) at.1 rise in
            let ends = subst (λ (e : Event). EndsLast (e ∷ events)) at.1 last in
            subst (λ (e : Event). AfterLine time e events) (sym at.1) (record { rise = rises.1; last = ends; time = at_time at.0 events })
            )
      ]
      | inr plain ↦ record { rise = rw (plain.after time) (plain.rise time events rise); last = plain.last events last; time = plain.time events }
    ]

-- ---- one turn

-- a turn that didn't do `end`: the lines after it still rise up to the same `end`; it did a line, or the next isn't due yet
pub record Passed {S : Type 0} (left : List Event) (start ms : ℕ) (now : Turned S) : Type 0 where
  pub starts : now.node.start ≡ Some start
  pub rise : TimesRise now.node.time now.node.left
  pub last : EndsLast now.node.left
  pub time : end_time now.node.left ≡ end_time left
  pub count : length left ≡ cond (not now.turn.received) 1 0 + length now.node.left
  pub waits : now.turn.received ≡ true → ms < end_time left

line_passed : {S : Type 0} (rules : Rules S) (node : Node S) (start ms : ℕ) (event : Event) (events : List Event) → node.start ≡ Some start → node.left ≡ event ∷ events
    → is_end event ≡ false → TimesRise node.time (event ∷ events) → EndsLast (event ∷ events) → Passed (event ∷ events) start ms (line_turn rules node event)
line_passed rules node start ms event events starts left goes rise last =
    let after = after_line node.time event events goes rise last in
    let rest : drop 1 node.left ≡ events = ap (λ (l : List Event). drop 1 l) left in
    record {
      starts = starts;
      rise = rw rest after.rise;
      last = rw rest after.last;
      time = rw rest (sym after.time);
      count = rw rest (omega arith);
      waits = λ is. absurd cc;
    }

wait_passed : {S : Type 0} (rules : Rules S) (node : Node S) (start ms : ℕ) (left : List Event) (found : Option Parcel) → node.start ≡ Some start → node.left ≡ left
    → TimesRise node.time left → EndsLast left → ms < end_time left → Passed left start ms (receive_turn rules node found)
wait_passed rules node start ms left None starts same rise last waits =
    record { starts = starts; rise = rw same rise; last = rw same last; time = ap end_time same; count = (let e : length left ≡ length node.left = ap (λ (l : List Event). length l) (sym same) in omega (arith, e)); waits = λ is. waits }
wait_passed rules node start ms left (Some parcel) starts same rise last waits =
    record { starts = starts; rise = rw same rise; last = rw same last; time = ap end_time same; count = (let e : length left ≡ length node.left = ap (λ (l : List Event). length l) (sym same) in omega (arith, e)); waits = λ is. waits }

turn_passed : {S : Type 0} (rules : Rules S) (node : Node S) (start ms : ℕ) (left : List Event) (found : Option Parcel) → node.start ≡ Some start → node.left ≡ left
    → TimesRise node.time left → EndsLast left → (turn_of rules node (due node.time ms left) found).turn.ended ≡ false → Passed left start ms (turn_of rules node (due node.time ms left) found)
turn_passed rules node start ms [] found starts same rise last goes = absurd last
turn_passed {S} rules node start ms (event ∷ events) found starts same rise last goes =
    elim (cases_Bool (nat_le (due_at node.time event) ms)) [
      | inl is ↦ (
          let so : due node.time ms (event ∷ events) ≡ Some event = rw is refl in
          let line = subst (λ (d : Option Event). (turn_of rules node d found).turn.ended ≡ false) so goes in
          subst (λ (d : Option Event). Passed (event ∷ events) start ms (turn_of rules node d found)) (sym so) (line_passed rules node start ms event events starts same line rise last)
          )
      | inr not_yet ↦ (
          let so : due node.time ms (event ∷ events) ≡ None = rw not_yet refl in
          let by = due_by_end node.time event events rise last in
          let above : ms < due_at node.time event = grind (arith, nat_tests, not_yet) in
          subst (λ (d : Option Event). Passed (event ∷ events) start ms (turn_of rules node d found)) (sym so)
          (wait_passed rules node start ms (event ∷ events) found starts same rise last (omega (arith, by, above)))
          )
    ]

-- ---- the clock

later_read : (last : ℕ) (readings : List ℕ) → DontFall last readings → reading_of readings ≤ reading_of (readings_after readings)
later_read last [] fall = omega arith
later_read last (next ∷ []) fall = omega arith
later_read last (next ∷ other ∷ others) fall = fall.1.0

fall_after : (last : ℕ) (readings : List ℕ) → DontFall last readings → DontFall last (readings_after readings)
fall_after last [] fall = fall
fall_after last (next ∷ []) fall = fall
fall_after last (next ∷ other ∷ others) fall =
    let one = fall.0 in
    let two = fall.1.0 in
    (omega (arith, one, two), fall.1.1)

-- ---- all turns

none_done : (count : ℕ) → lines_done (take count []) ≡ 0
none_done zero = refl
none_done (suc count) = refl

all_done : {S : Type 0} (rules : Rules S) (count : ℕ) (node : Node S) (readings : List ℕ) (arrivals : List (Option Parcel)) (after start : ℕ)
    → start_at node.start (reading_of readings) ≡ start → TimesRise node.time node.left → EndsLast node.left → DontFall start readings
    → end_time node.left ≤ reading_of (readings_left after readings) - start
    → length node.left ≤ (count - after) + lines_done (take after (turns_of count rules node readings arrivals))
    → did_end (turns_of count rules node readings arrivals) ≡ true
unfolding turns_of readings_left
all_done rules zero node readings arrivals after start starts rise last fall reaches room =
    no_line node.left last (let none = none_done after in omega (arith, none, room))
  where
    no_line : {A : Type 0} (left : List Event) → EndsLast left → length left ≤ 0 → A
    no_line [] last few = absurd last
    no_line (event ∷ events) last few = absurd (omega (arith, few))
all_done {S} rules (suc count) node readings arrivals after start starts rise last fall reaches room =
    let now : Turned S = turn_at rules node (reading_of readings) (next_of arrivals) in
    elim (cases_Bool now.turn.ended) [
      | inl ends ↦ rw ends refl
      | inr goes ↦ (
          let begun : Node S = record node { start = Some start } in
          let same : now ≡ turn_of rules begun (due node.time (reading_of readings - start) node.left) (next_of arrivals) = rw starts refl in
          let passed = subst (λ (t : Turned S). Passed node.left start (reading_of readings - start) t) (sym same)
          (turn_passed rules begun start (reading_of readings - start) node.left (next_of arrivals) refl refl rise last (subst (λ (t : Turned S). t.turn.ended ≡ false) same goes)) in
          let arrive = arrivals_after now.turn arrivals in
          let again = λ (b : ℕ) (reaches : end_time now.node.left ≤ reading_of (readings_left b (readings_after readings)) - start)
          (room : length now.node.left ≤ (count - b) + lines_done (take b (turns_of count rules now.node (readings_after readings) arrive))).
          all_done rules count now.node (readings_after readings) arrive b start (rw passed.starts refl) passed.rise passed.last (fall_after start readings fall) reaches room in
          let others : did_end (turns_of count rules now.node (readings_after readings) arrive) ≡ true = on after now arrive again passed (rw goes at room) reaches in
          rw goes others
          )
    ]
  where
    on : (after : ℕ) (now : Turned S) (arrive : List (Option Parcel))
        → ((b : ℕ) → end_time now.node.left ≤ reading_of (readings_left b (readings_after readings)) - start
        → length now.node.left ≤ (count - b) + lines_done (take b (turns_of count rules now.node (readings_after readings) arrive))
        → did_end (turns_of count rules now.node (readings_after readings) arrive) ≡ true)
        → Passed node.left start (reading_of readings - start) now
        → length node.left ≤ (suc count - after) + lines_done (take after (now.turn ∷ turns_of count rules now.node (readings_after readings) arrive))
        → end_time node.left ≤ reading_of (readings_left after readings) - start
        → did_end (turns_of count rules now.node (readings_after readings) arrive) ≡ true
    on zero now arrive again passed room reaches =
        elim (cases_Bool now.turn.received) [
          | inl waits ↦ (
              let early = passed.waits waits in
              absurd (omega (arith, early, reaches))
              )
          | inr line ↦ (
              let counted : length node.left ≡ 1 + length now.node.left = rw line at passed.count in
              let later = later_read start readings fall in
              let time = passed.time in
              again 0 (omega (arith, time, later, reaches)) (omega (arith, counted, room))
              )
        ]
    on (suc b) now arrive again passed room reaches =
        let counted = passed.count in
        let rest = turns_of count rules now.node (readings_after readings) arrive in
        let one : lines_done (now.turn ∷ []) ≡ 0 + cond (not now.turn.received) 1 0 = refl in
        let done : lines_done (take (suc b) (now.turn ∷ rest)) ≡ lines_done (now.turn ∷ []) + lines_done (take b rest) =
        sum_by-append (λ (turn : Turn). cond (not turn.received) 1 0) (now.turn ∷ []) (take b rest) in
        again b (rw passed.time reaches) (omega (arith, counted, one, done, room))

pub end_is_done : {S : Type 0} (rules : Rules S) → EndIsDone rules
end_is_done rules = record {
  done = λ count node readings arrivals after rise last fall reaches room.
      all_done rules count node readings arrivals after (start_at node.start (reading_of readings)) refl rise last fall reaches room;
}
