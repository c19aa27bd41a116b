-- The parts of a turn: a line that is done, and a receive.
use Rattle.std.proofs.Common.{◌≡◌, ℕ, ◌+◌, ◌-◌, ◌<◌, ◌≤◌, Bool, true, false, ◌||◌, if◌then◌else◌, List, [], ◌∷◌, length, take, drop, min, Option, Some, None, option_map, is_some, Result, Ok, Err, ◌⊎◌, inl, inr, refl, sym, ap, ap₂, subst, ◌∙◌, true≢false, arith}
use Rattle.std.specs.Prelude.{IfErr, IsErrOf}
use Rattle.std.proofs.lemmas.List.{append-nil, drop-drop, take_all, length-take}
use Rattle.std.proofs.lemmas.Bool.{cases_lt}
use Rattle.q3_io.specs.declared.address.Address.{Address}
use Rattle.q3_io.specs.Readings.{Reads}
use Rattle.q3_io.specs.Traffic.{Parcel, Traffic, next_of, after_receive, Binds, Receives, Fills}
use Rattle.q3_io.specs.Written.{Wrote}
use Rattle.q3_io.specs.Laws.{TextsFollow}
use Rattle.q3_io.specs.Acts.{FileAct, ActsOn, after_acts}
use Rattle.q3_io.specs.Told.{Told}
use Rattle.q3_script.specs.declared.event.Event.{Event}
use Rattle.q3_node.specs.declared.error.NodeError.{NodeError}
use Rattle.q3_node.specs.declared.error.NodeError.TheVariants.{NoMemory, WireFault, WriteFault, FileFault, Turns}
use Rattle.q3_node.specs.declared.turns.Course.{Course}
use Rattle.q3_node.specs.Node.{Rules, Turn, Turned, uses_wire, receive_room, cut_to_room, time_after, is_end, start_at, made_with, due, line_turn, receive_turn, turn_of, answer_text, text_of, acts_of}
use Rattle.q3_node.specs.Running.{at_bound, Effects, all_acts, DoesActs, DoesArrival, Leaves, wire_after, sent_on, DoesLine, Finds, DoesTurn, TakesTurn, node_of}

-- ---- files

-- nothing is done to files
pub nothing_done : (told : Option Told) → ActsOn told told [] all_acts
unfolding after_acts
nothing_done None = refl
nothing_done (Some told) = refl

-- acts of a turn are those of the turn alone
one_acts : (now : Turn) → acts_of (now ∷ []) ≡ now.acts
one_acts now = append-nil now.acts

-- acts were done, and only the sink may have failed after them
pub acts_told : {T : Type 0} (told now : Option Told) (acts : List FileAct) (result : Result T NodeError) → ActsOn told now acts all_acts → IfErr result (λ e. e ≡ WriteFault) → DoesActs told now acts result
acts_told told now acts (Ok x) done only = done
acts_told told now acts (Err e) done only = rw only done

-- where only the sink may have failed, memory didn't run out
pub memory_stays : {T : Type 0} (result : Result T NodeError) → IfErr result (λ e. e ≡ WriteFault) → IsErrOf result NoMemory → ⊥
memory_stays (Ok x) only ran = absurd cc
memory_stays (Err e) only ran = absurd cc

-- ---- what one turn leaves

one_text : (now : Turn) → text_of (now ∷ []) ≡ answer_text now.answer
one_text now = append-nil (answer_text now.answer)

-- of a turn that doesn't receive
wire_line : (told : Option Traffic) (now : Turn) (sends : Option Parcel) → now.received ≡ false → now.sends ≡ sends → sent_on told sends ≡ wire_after told (now ∷ [])
wire_line None now None not_received is = refl
wire_line None now (Some parcel) not_received is = refl
wire_line (Some traffic) now None not_received is = rw (not_received, is) (ap (λ (sent : List Parcel). Some (record traffic { sent = sent })) (sym (append-nil traffic.sent)))
wire_line (Some traffic) now (Some parcel) not_received is = rw (not_received, is) refl

line_leaves : (now : Turn) (all : Bool) (before after : Effects) → now.received ≡ false
    → Wrote before.written after.written (answer_text now.answer) all → after.wire ≡ sent_on before.wire now.sends → ActsOn before.files after.files now.acts all_acts
    → Leaves (now ∷ []) all before after
line_leaves now all before after not_received printed sent done = record {
  printed = rw (one_text now) printed;
  wire = sent ∙ wire_line before.wire now now.sends not_received refl;
  files = rw (one_acts now) done;
}

-- of one that does
wire_receive : (told : Option Traffic) (now : Turn) → now.received ≡ true → now.sends ≡ None → option_map after_receive told ≡ wire_after told (now ∷ [])
wire_receive None now received nothing = refl
wire_receive (Some traffic) now received nothing = rw (received, nothing) (ap (λ (sent : List Parcel). Some (record traffic { arrivals = drop 1 traffic.arrivals; sent = sent })) (sym (append-nil traffic.sent)))

receive_leaves : (now : Turn) (all : Bool) (before after : Effects) → now.received ≡ true → now.sends ≡ None
    → Wrote before.written after.written (answer_text now.answer) all → after.wire ≡ option_map after_receive before.wire → ActsOn before.files after.files now.acts all_acts
    → Leaves (now ∷ []) all before after
receive_leaves now all before after received nothing printed came done = record {
  printed = rw (one_text now) printed;
  wire = came ∙ wire_receive before.wire now received nothing;
  files = rw (one_acts now) done;
}

-- where nothing changed
same_effects : (before after : Effects) → after.written ≡ before.written → after.wire ≡ before.wire → after.files ≡ before.files → after ≡ before
same_effects before after written wire files = rw (written, wire, files) refl

-- ---- a line

-- the course after a line
abbrev pub gone_on : Course → Event → Bool → Course
gone_on course event made = record course { next = course.next + 1; time = time_after course.time event; made = if made then course.made + 1 else course.made }

made_same : (before : ℕ) (sends : Option Parcel) (made : Bool) → made ≡ is_some sends → (if made then before + 1 else before) ≡ made_with before sends
made_same before None made is = rw is refl
made_same before (Some parcel) made is = rw is refl

finds_nothing : (now : Turn) (were : Option Traffic) (found : Option Parcel) → now.received ≡ false → Finds now were found
finds_nothing now None found not_received = tt
finds_nothing now (Some traffic) found not_received = λ received. absurd (true≢false (sym received ∙ not_received))

pub line_done_so : {S : Type 0} (rules : Rules S) (end new : S) (events : List Event) (course : Course) (event : Event) (found : Option Parcel) (made : Bool) (before after : Effects)
    → DoesLine (rules.line end event (course.made + 1)) new before after (Ok made)
    → DoesTurn (line_turn rules (node_of end events course) event) found (node_of new events (gone_on course event made)) before after (Ok (is_end event))
line_done_so {S} rules end new events course event found made before after does =
    let now : Turned S = line_turn rules (node_of end events course) event in (
      refl,
      rw (does.end, sym (drop-drop 1 course.next events), made_same course.made now.turn.sends made does.told.0) refl,
      finds_nothing now.turn before.wire found refl,
      line_leaves now.turn true before after refl does.told.1 does.told.2 does.files,
    )

-- the wire of a turn that sends nothing is used where it sends
sends_wire : (now : Turn) → is_some now.sends ≡ true → uses_wire now ≡ true
sends_wire now is = rw is (of_received now.received)
  where
    of_received : (received : Bool) → (received || true) ≡ true
    of_received true = refl
    of_received false = refl

pub line_stopped : {S : Type 0} (rules : Rules S) (end new : S) (events : List Event) (course after_course : Course) (event : Event) (found : Option Parcel) (before after : Effects) (e : NodeError)
    → DoesLine (rules.line end event (course.made + 1)) new before after (Err e)
    → DoesTurn (line_turn rules (node_of end events course) event) found (node_of new events after_course) before after (Err e)
line_stopped {S} rules end new events course after_course event found before after NoMemory does =
    let now : Turned S = line_turn rules (node_of end events course) event in
    (finds_nothing now.turn before.wire found refl, (does.memory refl, same_effects before after does.told.0 does.told.1 does.files))
line_stopped {S} rules end new events course after_course event found before after WireFault does =
    let now : Turned S = line_turn rules (node_of end events course) event in
    (finds_nothing now.turn before.wire found refl, (sends_wire now.turn does.told.0, same_effects before after does.told.1 does.told.2 does.files))
line_stopped {S} rules end new events course after_course event found before after WriteFault does =
    let now : Turned S = line_turn rules (node_of end events course) event in
    (finds_nothing now.turn before.wire found refl, line_leaves now.turn false before after refl does.told.0 does.told.1 does.files)
line_stopped {S} rules end new events course after_course event found before after FileFault does =
    let now : Turned S = line_turn rules (node_of end events course) event in (
      finds_nothing now.turn before.wire found refl,
      (does.files.0, does.told.0, does.told.1 ∙ wire_line before.wire now.turn now.turn.sends refl refl, does.files.1),
    )
line_stopped {S} rules end new events course after_course event found before after Turns does = absurd does.told

-- ---- a receive

take_least : {A : Type 0} (n : ℕ) (bytes : List A) → (length bytes < n) ⊎ (n ≤ length bytes) → take (min (length bytes) n) bytes ≡ take n bytes
take_least n bytes (inl few) =
    let least : min (length bytes) n ≡ length bytes = omega (arith, few) in
    rw least (take_all (length bytes) bytes (omega arith) ∙ sym (take_all n bytes (omega (arith, few))))
take_least n bytes (inr many) =
    let least : min (length bytes) n ≡ n = omega (arith, many) in
    rw least refl

take_min : {A : Type 0} (n : ℕ) (bytes : List A) → take (min (length bytes) n) bytes ≡ take n bytes
take_min n bytes = take_least n bytes (cases_lt (length bytes) n)

-- what is told to come next
abbrev pub found_next : Option Traffic → Option Parcel
found_next None = None
found_next (Some traffic) = next_of traffic.arrivals

few_taken : (count : ℕ) (bytes : List ℕ) (room : ℕ) → count ≤ room → length (take count bytes) ≤ room
few_taken count bytes room few = rw (length-take count bytes) (omega (arith, few))

-- what came, and the bytes that were handed over are those of it, cut
pub record Came (were are : Option Traffic) (from : Address) (bytes : List ℕ) : Type 0 where
  pub parcel : Parcel
  pub cut : cut_to_room parcel ≡ record { address = from; bytes = bytes }
  pub finds : (traffic : Traffic) → were ≡ Some traffic → next_of traffic.arrivals ≡ Some parcel
  pub gone : are ≡ option_map after_receive were

took : (parcel : Parcel) (old new : List ℕ) (from : Address) (count : ℕ) → Fills parcel old new from count → length old ≡ receive_room
    → cut_to_room parcel ≡ record { address = from; bytes = take count new }
took parcel old new from count fills room =
    ap₂ (λ (a : Address) (bytes : List ℕ). record { address = a; bytes = bytes }) (sym fills.from_is)
    (sym (fills.bytes ∙ ap (λ (n : ℕ). take n parcel.bytes) (fills.count_is ∙ ap (λ (n : ℕ). min (length parcel.bytes) n) room) ∙ take_min receive_room parcel.bytes))

came_told : (traffic : Traffic) (are : Option Traffic) (old new : List ℕ) (from : Address) (count : ℕ) → length old ≡ receive_room
    → Receives (Some traffic) are old new (Ok (Some (from, count))) → Came (Some traffic) are from (take count new)
came_told traffic are old new from count room receives = record {
  parcel = receives.1;
  cut = took receives.1 old new from count receives.3 room;
  finds = λ t same. ap (λ (x : Option Traffic). found_next x) (sym same) ∙ receives.2;
  gone = receives.0;
}

pub came : (were are : Option Traffic) (old new : List ℕ) (from : Address) (count : ℕ) → length old ≡ receive_room → count ≤ length old → length new ≡ length old
    → Receives were are old new (Ok (Some (from, count))) → Came were are from (take count new)
came None are old new from count room few same receives = record {
  parcel = record { address = from; bytes = take count new };
  cut = ap (λ (bytes : List ℕ). record { address = from; bytes = bytes }) (take_all receive_room (take count new) (few_taken count new receive_room (omega (arith, room, few))));
  finds = λ traffic is. absurd cc;
  gone = receives;
}
came (Some traffic) are old new from count room few same receives = came_told traffic are old new from count room receives

finds_next : (now : Turn) (were : Option Traffic) (found : Option Parcel) → ((traffic : Traffic) → were ≡ Some traffic → next_of traffic.arrivals ≡ found) → Finds now were found
finds_next now None found finds = tt
finds_next now (Some traffic) found finds = λ received. finds traffic refl

came_nothing : (were are : Option Traffic) (old new : List ℕ) → Receives were are old new (Ok None) → are ≡ option_map after_receive were
came_nothing None are old new receives = receives
came_nothing (Some traffic) are old new receives = receives.0

finds_none : (were are : Option Traffic) (old new : List ℕ) → Receives were are old new (Ok None) → (traffic : Traffic) → were ≡ Some traffic → next_of traffic.arrivals ≡ None
finds_none None are old new receives traffic is = absurd cc
finds_none (Some told) are old new receives traffic is = ap (λ (x : Option Traffic). found_next x) (sym is) ∙ receives.1

-- nothing was there
pub received_nothing : {S : Type 0} (law : TextsFollow) (rules : Rules S) (end : S) (events : List Event) (course : Course) (before after : Effects) (old new : List ℕ)
    → after.written ≡ before.written → after.files ≡ before.files → Receives before.wire after.wire old new (Ok None)
    → DoesTurn (receive_turn rules (node_of end events course) None) None (node_of end events course) before after (Ok false)
received_nothing {S} law rules end events course before after old new written files receives =
    let now : Turned S = receive_turn rules (node_of end events course) None in (
      refl,
      refl,
      finds_next now.turn before.wire None (finds_none before.wire after.wire old new receives),
      receive_leaves now.turn true before after refl refl (rw written law.none) (came_nothing before.wire after.wire old new receives) (rw files (nothing_done before.files)),
    )

-- an arrival was taken
pub received_arrival : {S : Type 0} (rules : Rules S) (end new : S) (events : List Event) (course : Course) (before after : Effects) (from : Address) (bytes : List ℕ)
    → (one : Came before.wire after.wire from bytes)
    → DoesArrival (rules.arrives end (record { address = from; bytes = bytes })) new before.written after.written before.files after.files (Ok tt)
    → DoesTurn (receive_turn rules (node_of end events course) (Some one.parcel)) (Some one.parcel) (node_of new events course) before after (Ok false)
received_arrival {S} rules end new events course before after from bytes one does =
    let now : Turned S = receive_turn rules (node_of end events course) (Some one.parcel) in (
      refl,
      rw (does.end, sym one.cut) refl,
      finds_next now.turn before.wire (Some one.parcel) one.finds,
      receive_leaves now.turn true before after refl refl (rw one.cut does.printed) one.gone (rw one.cut does.files),
    )

pub received_stopped : {S : Type 0} (rules : Rules S) (end new : S) (events : List Event) (course : Course) (before after : Effects) (from : Address) (bytes : List ℕ) (e : NodeError)
    → (one : Came before.wire after.wire from bytes)
    → DoesArrival (rules.arrives end (record { address = from; bytes = bytes })) new before.written after.written before.files after.files (Err e)
    → DoesTurn (receive_turn rules (node_of end events course) (Some one.parcel)) (Some one.parcel) (node_of new events course) before after (Err e)
received_stopped {S} rules end new events course before after from bytes NoMemory one does = absurd (does.memory refl)
received_stopped {S} rules end new events course before after from bytes WireFault one does = absurd does.printed
received_stopped {S} rules end new events course before after from bytes WriteFault one does =
    let now : Turned S = receive_turn rules (node_of end events course) (Some one.parcel) in
    (finds_next now.turn before.wire (Some one.parcel) one.finds, receive_leaves now.turn false before after refl refl (rw one.cut does.printed) one.gone (rw one.cut does.files))
received_stopped {S} rules end new events course before after from bytes FileFault one does =
    let now : Turned S = receive_turn rules (node_of end events course) (Some one.parcel) in (
      finds_next now.turn before.wire (Some one.parcel) one.finds,
      (rw one.cut does.files.0, does.printed, one.gone ∙ wire_receive before.wire now.turn refl refl, rw one.cut does.files.1),
    )
received_stopped {S} rules end new events course before after from bytes Turns one does = absurd does.printed

-- the wire failed, and what would have been found is what is told to come next
pub receive_failed : {S : Type 0} (rules : Rules S) (end new : S) (events : List Event) (course : Course) (before after : Effects) (old into : List ℕ)
    → after.written ≡ before.written → after.files ≡ before.files → Receives before.wire after.wire old into (Err (record {}))
    → DoesTurn (receive_turn rules (node_of end events course) (found_next before.wire)) (found_next before.wire) (node_of new events course) before after (Err WireFault)
receive_failed {S} rules end new events course before after old into written files receives =
    let now : Turned S = receive_turn rules (node_of end events course) (found_next before.wire) in (
      finds_next now.turn before.wire (found_next before.wire) (λ traffic is. sym (ap (λ (told : Option Traffic). found_next told) is)),
      (receives_so (found_next before.wire), same_effects before after written (stayed before.wire after.wire receives) files),
    )
  where
    receives_so : (found : Option Parcel) → uses_wire (receive_turn rules (node_of end events course) found).turn ≡ true
    receives_so None = refl
    receives_so (Some parcel) = refl

    stayed : (were are : Option Traffic) → Receives were are old into (Err (record {})) → are ≡ were
    stayed None are receives = receives
    stayed (Some traffic) are receives = receives

-- ---- a turn

-- a line is due, and was done
pub takes_line : {S : Type 0} (rules : Rules S) (end new : S) (events : List Event) (course begun behind : Course) (event : Event) (reading ms : ℕ) (clock clock' : Option (List ℕ)) (before after : Effects) (result : Result Bool NodeError)
    → Reads clock clock' reading → begun ≡ record course { start = Some (start_at course.start reading) } → ms ≡ reading - start_at course.start reading
    → Some event ≡ due begun.time ms (drop begun.next events)
    → DoesTurn (line_turn rules (node_of end events begun) event) None (node_of new events behind) before after result
    → TakesTurn rules (node_of end events course) (node_of new events behind) clock clock' before after result
takes_line {S} rules end new events course begun behind event reading ms clock clock' before after result read is time here does =
    let line : Some event ≡ due course.time (reading - start_at course.start reading) (drop course.next events) = rw (is, time) at here in
    record {
      reading = reading;
      found = None;
      read = read;
      done = subst (λ (now : Turned S). DoesTurn now None (node_of new events behind) before after result)
          (ap (λ (one : Option Event). turn_of rules (node_of end events (record course { start = Some (start_at course.start reading) })) one None) line)
          (rw is at does);
    }

-- none is, and there was a receive
pub takes_receive : {S : Type 0} (rules : Rules S) (end new : S) (events : List Event) (course begun : Course) (found : Option Parcel) (reading ms : ℕ) (clock clock' : Option (List ℕ)) (before after : Effects) (result : Result Bool NodeError)
    → Reads clock clock' reading → begun ≡ record course { start = Some (start_at course.start reading) } → ms ≡ reading - start_at course.start reading
    → None ≡ due begun.time ms (drop begun.next events)
    → DoesTurn (receive_turn rules (node_of end events begun) found) found (node_of new events begun) before after result
    → TakesTurn rules (node_of end events course) (node_of new events begun) clock clock' before after result
takes_receive {S} rules end new events course begun found reading ms clock clock' before after result read is time here does =
    let start : ℕ = start_at course.start reading in
    let line : None ≡ due course.time (reading - start) (drop course.next events) = rw (is, time) at here in
    rw is (record {
      reading = reading;
      found = found;
      read = read;
      done = subst (λ (now : Turned S). DoesTurn now found (node_of new events (record course { start = Some start })) before after result)
          (ap (λ (one : Option Event). turn_of rules (node_of end events (record course { start = Some start })) one found) line)
          (rw is at does);
    })

-- ---- an address

pub bound_so : (told now : Option Traffic) (at : Address) → Binds told now at (Ok tt) → now ≡ at_bound told at
bound_so None now at binds = binds
bound_so (Some traffic) now at binds = binds

pub unbound_so : (told now : Option Traffic) (at : Address) → Binds told now at (Err (record {})) → now ≡ told
unbound_so None now at binds = binds
unbound_so (Some traffic) now at binds = binds
