-- What a client's node leaves in the file of its recording.
use Rattle.std.proofs.Common.{◌≡◌, ℕ, ◌+◌, ◌-◌, suc, zero, List, [], ◌∷◌, ◌++◌, drop, Option, Some, None, Bool, true, false, true≢false, refl, sym, ap, subst, ◌∙◌, inl, inr, append_assoc}
use Rattle.std.specs.Prelude.{◌⊎◌, if◌then◌else◌, nat_le}
use Rattle.std.specs.List.{AllByRecursion}
use Rattle.std.specs.Option.{option_or}
use Rattle.std.specs.Result.{is_ok}
use Rattle.std.specs.Str.{bytes_eq}
use Rattle.std.proofs.lemmas.Bool.{cases_Bool, cond_both}
use Rattle.std.proofs.lemmas.List.{append-nil}
use Rattle.std.proofs.lemmas.List.Concat.{flat_map-cons}
use Rattle.std.proofs.lemmas.Slice.Eq.{bytes_eq-Decides}
use Rattle.q3_io.specs.Acts.{FileAct, Makes, after_acts}
use Rattle.q3_io.specs.Readings.{reading_of, readings_after}
use Rattle.q3_io.specs.Told.{Told, contents_of}
use Rattle.q3_io.specs.Traffic.{Parcel, next_of}
use Rattle.q3_script.specs.declared.event.Event.{Event}
use Rattle.q3_script.specs.declared.event.Event.TheVariants as events
use Rattle.q3_client.specs.Client.{take_at}
use Rattle.q3_report.specs.Answers.{Untaken}
use Rattle.q3_report.specs.declared.answer.Front.TheVariants.{Arrive}
use Rattle.q3_report.specs.declared.answer.TakeRefused.TheVariants.{Stranger}
use Rattle.q3_demo.specs.declared.recorder.Stage.{Stage}
use Rattle.q3_demo.specs.declared.recorder.Stage.TheVariants.{Waits, Ended}
use Rattle.q3_demo.specs.Recording.{Noted, Noting, closing, noted_from}
use Rattle.q3_ends.specs.Recording.{begin_at, extends, new_recording}
use Rattle.q3_node.specs.AtClient.{ClientEnd, arrived, client_rules, is_address, line_done, took}
use Rattle.q3_node.specs.Node.{Arrived, Node, Turn, Turned, acts_of, arrivals_after, cut_to_room, due, due_at, is_end, new_node, start_at, turn_at, turn_of, turns_of}
use Rattle.q3_schedules.specs.NodeRecorded.{NamesOnce, NodeRecordsItsMessages, applied_in, begins_it, ends_it, has_end, left_in, line_at, noted_turn, written_of}
use Rattle.q3_schedules.specs.Recorded.{MakesOther, noted_of}
use Rattle.q3_schedules.proofs.NamedFiles.{SparesAll, extended, made, spared}
use Rattle.q3_schedules.proofs.NamedRecordings.{OneGoesOn, SoFar, StaysApart, Unnamed, begins_new, begins_nothing, begins_one, one_stays, refuses_going, stops_going, stops_one, takes_going, takes_one}
use Rattle.q3_schedules.proofs.Recorded.{Whole, noted_ended, noted_over, over_files, whole_ended, whole_none, whole_over}

-- ---- lines by what they do to recordings

-- a line that does nothing to one
pub record PlainLine (event : Event) : Type 0 where
  pub same : (end : ClientEnd) (number : ℕ) → (line_done end event number).end.recording ≡ end.recording
  pub none : (end : ClientEnd) (number : ℕ) → (line_done end event number).acts ≡ []
  pub goes : ends_it (Some event) ≡ false
  pub begins : (name : List ℕ) (end : ClientEnd) → begins_it name end (Some event) ≡ false
  pub ends : is_end event ≡ false
  pub other : (name : List ℕ) → MakesOther name event

pub by_line : (P : Event → Type 0) → ((c : ℕ) (n : List ℕ) → P (events.RecordTo c n)) → ((c : ℕ) → P (events.Stop c)) → ((ms : ℕ) → P (events.End ms))
    → ((event : Event) → PlainLine event → P event) → (event : Event) → P event
by_line P records stops ends plain (events.RecordTo c n) = records c n
by_line P records stops ends plain (events.Stop c) = stops c
by_line P records stops ends plain (events.End ms) = ends ms
by_line P records stops ends plain event = plain event (record { same = λ e k. refl; none = λ e k. refl; goes = refl; begins = λ n e. refl; ends = refl; other = λ n. tt })

-- ---- a turn after which nobody records into the file

line_apart : (name : List ℕ) (event : Event) → MakesOther name event → (end : ClientEnd) (number : ℕ)
    → StaysApart name end.recording (line_done end event number).end.recording (line_done end event number).acts
line_apart name =
    by_line (λ (event : Event). MakesOther name event → (end : ClientEnd) (number : ℕ) → StaysApart name end.recording (line_done end event number).end.recording (line_done end event number).acts)
    (λ c n other end number. begins_one name n end.client end.recording other) (λ c other end number. stops_one name end.recording) (λ ms other end number. stops_one name end.recording)
    (λ event plain other end number unnamed. (subst (Unnamed name) (sym (plain.same end number)) unnamed, subst (SparesAll name) (sym (plain.none end number)) tt))

arrival_apart : (name : List ℕ) (end : ClientEnd) (parcel : Parcel) → StaysApart name end.recording (arrived end parcel).end.recording (arrived end parcel).acts
arrival_apart name end parcel =
    cond_both (is_address parcel.address end.server) (took end parcel.bytes) (record { end = end; answer = Untaken Arrive (Stranger end.c); acts = [] })
    (λ (now : Arrived ClientEnd). StaysApart name end.recording now.end.recording now.acts)
    (λ from. takes_one name end.client (take_at end.client parcel.bytes) end.recording) (λ not unnamed. (unnamed, tt))

abbrev pub OtherLine : List ℕ → Option Event → Type 0
OtherLine name None = Unit {0}
OtherLine name (Some event) = MakesOther name event

turn_apart : (name : List ℕ) (node : Node ClientEnd) (line : Option Event) (found : Option Parcel) → OtherLine name line
    → StaysApart name node.end.recording (turn_of client_rules node line found).node.end.recording (turn_of client_rules node line found).turn.acts
turn_apart name node (Some event) found other = line_apart name event other node.end (node.made + 1)
turn_apart name node None None other = λ unnamed. (unnamed, tt)
turn_apart name node None (Some parcel) other = arrival_apart name node.end (cut_to_room parcel)

-- the line that is due doesn't name the file, nor does one after it
abbrev pub OthersFrom : List ℕ → Option Event → List Event → Type 0
OthersFrom name None left = AllByRecursion (MakesOther name) left
OthersFrom name (Some event) left = MakesOther name event × AllByRecursion (MakesOther name) (drop 1 left)

pub due_others : (name : List ℕ) (time ms : ℕ) (left : List Event) → AllByRecursion (MakesOther name) left → OthersFrom name (due time ms left) left
due_others name time ms [] others = others
due_others name time ms (event ∷ left) others =
    cond_both (nat_le (due_at time event) ms) (Some event) None (λ (line : Option Event). OthersFrom name line (event ∷ left)) (λ is. others) (λ not. others)

pub other_line : (name : List ℕ) (line : Option Event) (left : List Event) → OthersFrom name line left → OtherLine name line
other_line name None left others = tt
other_line name (Some event) left others = others.0

pub others_left : (name : List ℕ) (node : Node ClientEnd) (line : Option Event) (found : Option Parcel) → OthersFrom name line node.left
    → AllByRecursion (MakesOther name) (turn_of client_rules node line found).node.left
others_left name node (Some event) found others = others.1
others_left name node None None others = others
others_left name node None (Some parcel) others = others

-- ---- turns and files

-- what the file holds after a turn and those that follow it, which there are unless the node ended
after_turn : (name : List ℕ) (told : Told) (turn : Turn) (rest : List Turn) (found : Option (List ℕ))
    → (turn.ended ≡ true → contents_of (after_acts told turn.acts).files name ≡ found)
    → (turn.ended ≡ false → contents_of (after_acts (after_acts told turn.acts) (acts_of rest)).files name ≡ found)
    → contents_of (after_acts told (acts_of (turn ∷ (if turn.ended then [] else rest)))).files name ≡ found
unfolding after_acts
after_turn name told turn rest found last more =
    let others : List Turn = if turn.ended then [] else rest in
    ap (λ (acts : List FileAct). contents_of (after_acts told acts).files name) (flat_map-cons (λ (one : Turn). one.acts) turn others)
    ∙ (over_files name told turn.acts (acts_of others)
    ∙ cond_both turn.ended [] rest (λ (turns : List Turn). contents_of (after_acts (after_acts told turn.acts) (acts_of turns)).files name ≡ found) last more)

-- the node with its first reading
abbrev pub started : Node ClientEnd → List ℕ → Node ClientEnd
started node readings = record node { start = Some (start_at node.start (reading_of readings)) }

-- what nobody records into stays
stays_apart : (name : List ℕ) (count : ℕ) (node : Node ClientEnd) (readings : List ℕ) (arrivals : List (Option Parcel)) (told : Told)
    → AllByRecursion (MakesOther name) node.left → Unnamed name node.end.recording
    → contents_of (after_acts told (acts_of (turns_of count client_rules node readings arrivals))).files name ≡ contents_of told.files name
unfolding turns_of after_acts
stays_apart name zero node readings arrivals told others unnamed = refl
stays_apart name (suc count) node readings arrivals told others unnamed =
    let line = line_at node (reading_of readings) in
    let now = turn_at client_rules node (reading_of readings) (next_of arrivals) in
    let from = due_others name node.time (reading_of readings - start_at node.start (reading_of readings)) node.left others in
    let apart = turn_apart name (started node readings) line (next_of arrivals) (other_line name line node.left from) unnamed in
    let same = spared told name now.turn.acts apart.1 in
    let after = after_acts told now.turn.acts in
    let later = readings_after readings in
    let more = arrivals_after now.turn arrivals in
    after_turn name told now.turn (turns_of count client_rules now.node later more) (contents_of told.files name) (λ last. same)
    (λ goes. stays_apart name count now.node later more after (others_left name (started node readings) line (next_of arrivals) from) apart.0 ∙ same)

-- ---- a recording into the file

-- it has its end in a turn, or goes on
record HasEnd (name : List ℕ) (stage : Stage) (line : Option Event) (now : Turned ClientEnd) : Type 0 where
  pub ends : ends_it line ≡ true
  pub unnamed : Unnamed name now.node.end.recording
  pub acts : now.turn.acts ≡ extends name (closing stage)

record Continues (name : List ℕ) (stage : Stage) (end : ClientEnd) (line : Option Event) (found : Option Parcel) (now : Turned ClientEnd) : Type 0 where
  pub goes : ends_it line ≡ false
  pub on : now.turn.ended ≡ false
  pub one : OneGoesOn name stage (noted_turn end line found) now.node.end.recording now.turn.acts

abbrev Becomes : List ℕ → Stage → Node ClientEnd → Option Event → Option Parcel → Type 0
Becomes name stage node line found = HasEnd name stage line (turn_of client_rules node line found) ⊎ Continues name stage node.end line found (turn_of client_rules node line found)

line_becomes : (name : List ℕ) (stage : Stage) (node : Node ClientEnd) (found : Option Parcel) → node.end.recording ≡ Some (record { name = name; stage = stage })
    → (event : Event) → Becomes name stage node (Some event) found
line_becomes name stage node found going =
    let stopped = stops_going name stage node.end.recording going in
    by_line (λ (event : Event). Becomes name stage node (Some event) found)
    (λ c n.
    let begun = begin_at node.end.client node.end.recording (new_recording n) in
    let refused = refuses_going n node.end.client node.end.recording (record { name = name; stage = stage }) going in
    inr (record { goes = refl; on = refl; one = one_stays name stage begun.recording begun.acts refused.0 (subst (SparesAll name) (sym refused.1) tt) }))
    (λ c. inl (record { ends = refl; unnamed = stopped.0; acts = stopped.1 })) (λ ms. inl (record { ends = refl; unnamed = stopped.0; acts = stopped.1 }))
    (λ event plain.
    let done = line_done node.end event (node.made + 1) in
    let spares : SparesAll name done.acts = subst (SparesAll name) (sym (plain.none node.end (node.made + 1))) tt in
    inr (record { goes = plain.goes; on = plain.ends; one = one_stays name stage done.end.recording done.acts (plain.same node.end (node.made + 1) ∙ going) spares }))

arrival_becomes : (name : List ℕ) (stage : Stage) (end : ClientEnd) (parcel : Parcel) → end.recording ≡ Some (record { name = name; stage = stage }) → (server : Bool)
    → (now : Arrived ClientEnd) → now ≡ (if server then took end parcel.bytes else record { end = end; answer = Untaken Arrive (Stranger end.c); acts = [] })
    → OneGoesOn name stage (if server then noted_of end.client (take_at end.client parcel.bytes) (take_at end.client parcel.bytes).answer else []) now.end.recording now.acts
arrival_becomes name stage end parcel going true now is = rw is (takes_going name stage end.client (take_at end.client parcel.bytes) end.recording going)
arrival_becomes name stage end parcel going false now is = rw is (one_stays name stage end.recording [] going tt)

becomes : (name : List ℕ) (stage : Stage) (node : Node ClientEnd) (line : Option Event) (found : Option Parcel) → node.end.recording ≡ Some (record { name = name; stage = stage })
    → Becomes name stage node line found
becomes name stage node (Some event) found going = line_becomes name stage node found going event
becomes name stage node None None going = inr (record { goes = refl; on = refl; one = one_stays name stage node.end.recording [] going tt })
becomes name stage node None (Some parcel) going = inr (record {
  goes = refl;
  on = refl;
  one = arrival_becomes name stage node.end (cut_to_room parcel) going (is_address parcel.address node.end.server) (arrived node.end (cut_to_room parcel)) refl;
})

-- what the file holds of which these messages more are noted, up to its end, if it has one
abbrev Left : Bool → Stage → List ℕ → List Noted → List ℕ
Left true stage bytes notes = Whole stage bytes notes
Left false stage bytes notes = bytes ++ (noted_from stage notes).bytes

left_none : (stage : Stage) (bytes : List ℕ) → bytes ≡ Left false stage bytes []
unfolding noted_from
left_none stage bytes = sym (append-nil bytes)

left_ended : (over : Bool) (bytes : List ℕ) (notes : List Noted) → bytes ≡ Left over Ended bytes notes
left_ended true bytes notes = whole_ended bytes notes
left_ended false bytes notes = subst (λ (n : Noting). bytes ≡ bytes ++ n.bytes) (sym (noted_ended notes)) (sym (append-nil bytes))

left_over : (over : Bool) (stage : Stage) (bytes : List ℕ) (first second : List Noted)
    → Left over (noted_from stage first).stage (bytes ++ (noted_from stage first).bytes) second ≡ Left over stage bytes (first ++ second)
left_over true stage bytes first second = whole_over stage bytes first second
left_over false stage bytes first second =
    let before = noted_from stage first in
    append_assoc bytes before.bytes (noted_from before.stage second).bytes ∙ ap (λ (n : Noting). bytes ++ n.bytes) (sym (noted_over stage first second))

left_waits : (over : Bool) (notes : List Noted) → Left over Waits [] notes ≡ written_of over notes
left_waits true notes = refl
left_waits false notes = refl

so_far_left : (name : List ℕ) (count : ℕ) (node : Node ClientEnd) (readings : List ℕ) (arrivals : List (Option Parcel)) (told : Told) (stage : Stage) (bytes : List ℕ)
    → AllByRecursion (MakesOther name) node.left → SoFar name stage node.end.recording → contents_of told.files name ≡ Some bytes
    → contents_of (after_acts told (acts_of (turns_of count client_rules node readings arrivals))).files name
    ≡ Some (Left (has_end count node readings arrivals) stage bytes (applied_in count node readings arrivals))
unfolding turns_of applied_in has_end after_acts
so_far_left name count node readings arrivals told stage bytes others (inr over) is =
    let last = has_end count node readings arrivals in
    let notes = applied_in count node readings arrivals in
    stays_apart name count node readings arrivals told others over.1
    ∙ (is ∙ ap (λ (b : List ℕ). Some b) (left_ended last bytes notes ∙ ap (λ (s : Stage). Left last s bytes notes) (sym over.0)))
so_far_left name zero node readings arrivals told stage bytes others (inl going) is = is ∙ ap (λ (b : List ℕ). Some b) (left_none stage bytes)
so_far_left name (suc count) node readings arrivals told stage bytes others (inl going) is =
    let line = line_at node (reading_of readings) in
    let now = turn_at client_rules node (reading_of readings) (next_of arrivals) in
    let from = due_others name node.time (reading_of readings - start_at node.start (reading_of readings)) node.left others in
    let left = others_left name (started node readings) line (next_of arrivals) from in
    let after = after_acts told now.turn.acts in
    let later = readings_after readings in
    let more = arrivals_after now.turn arrivals in
    elim (becomes name stage (started node readings) line (next_of arrivals) going) [
      | inl ended ↦
          let closed : contents_of after.files name ≡ Some (Left true stage bytes []) =
          ap (λ (acts : List FileAct). contents_of (after_acts told acts).files name) ended.acts
          ∙ (extended told name bytes (closing stage) is ∙ ap (λ (b : List ℕ). Some b) (whole_none stage bytes)) in
          rw ended.ends (after_turn name told now.turn (turns_of count client_rules now.node later more) (Some (Left true stage bytes [])) (λ last. closed)
          (λ goes. stays_apart name count now.node later more after left ended.unnamed ∙ closed))
      | inr continues ↦
          let last = has_end count now.node later more in
          let notes = noted_turn node.end line (next_of arrivals) in
          let others_noted = applied_in count now.node later more in
          let noting = noted_from stage notes in
          rw continues.goes (after_turn name told now.turn (turns_of count client_rules now.node later more) (Some (Left last stage bytes (notes ++ others_noted)))
          (λ ends. absurd (true≢false (sym ends ∙ continues.on)))
          (λ goes.
          so_far_left name count now.node later more after noting.stage (bytes ++ noting.bytes) left continues.one.so_far (continues.one.adds told bytes is)
          ∙ ap (λ (b : List ℕ). Some b) (left_over last stage bytes notes others_noted)))
    ]

-- ---- before the line that begins it

-- of the line that is due and those after it at most one names the file
abbrev pub OnceFrom : List ℕ → Option Event → List Event → Type 0
OnceFrom name None left = NamesOnce name left
OnceFrom name (Some event) left = (MakesOther name event × NamesOnce name (drop 1 left)) ⊎ AllByRecursion (MakesOther name) (drop 1 left)

pub due_once : (name : List ℕ) (time ms : ℕ) (left : List Event) → NamesOnce name left → OnceFrom name (due time ms left) left
due_once name time ms [] once = once
due_once name time ms (event ∷ left) once =
    cond_both (nat_le (due_at time event) ms) (Some event) None (λ (line : Option Event). OnceFrom name line (event ∷ left)) (λ is. once) (λ not. once)

pub once_of : (name : List ℕ) (events : List Event) → AllByRecursion (MakesOther name) events → NamesOnce name events
once_of name [] others = tt
once_of name (event ∷ events) others = inr others.1

once_after : (name : List ℕ) (event : Event) (left : List Event) → OnceFrom name (Some event) left → NamesOnce name (drop 1 left)
once_after name event left (inl once) = once.1
once_after name event left (inr others) = once_of name (drop 1 left) others

-- the recording begins in a turn, or doesn't
pub record Begins (name : List ℕ) (end : ClientEnd) (line : Option Event) (now : Turned ClientEnd) : Type 0 where
  pub begins : begins_it name end line ≡ true
  pub going : now.node.end.recording ≡ Some (new_recording name)
  pub makes : now.turn.acts ≡ Makes name ∷ []
  pub on : now.turn.ended ≡ false
  pub others : AllByRecursion (MakesOther name) now.node.left

pub record Before (name : List ℕ) (end : ClientEnd) (line : Option Event) (now : Turned ClientEnd) : Type 0 where
  pub not_yet : begins_it name end line ≡ false
  pub unnamed : Unnamed name now.node.end.recording
  pub spares : SparesAll name now.turn.acts
  pub once : NamesOnce name now.node.left

abbrev pub Starts : List ℕ → Node ClientEnd → Option Event → Option Parcel → Type 0
Starts name node line found = Begins name node.end line (turn_of client_rules node line found) ⊎ Before name node.end line (turn_of client_rules node line found)

other_starts : (name : List ℕ) (node : Node ClientEnd) (line : Option Event) (found : Option Parcel) → OtherLine name line → begins_it name node.end line ≡ false
    → NamesOnce name (turn_of client_rules node line found).node.left → Unnamed name node.end.recording → Starts name node line found
other_starts name node line found other not_yet once unnamed =
    let apart = turn_apart name node line found other unnamed in
    inr (record { not_yet = not_yet; unnamed = apart.0; spares = apart.1; once = once })

-- a line that names the file
named_starts : (name : List ℕ) (c : ℕ) (node : Node ClientEnd) (found : Option Parcel) → Unnamed name node.end.recording → AllByRecursion (MakesOther name) (drop 1 node.left)
    → Starts name node (Some (events.RecordTo c name)) found
named_starts name c node found unnamed others =
    let same : bytes_eq name name ≡ true = (bytes_eq-Decides name name).1 refl in
    elim (cases_Bool (is_ok (begin_at node.end.client node.end.recording (new_recording name)).answer)) [
      | inl ok ↦
          let begun = begins_new name node.end.client node.end.recording ok in
          inl (record { begins = rw (same, ok) refl; going = begun.0; makes = begun.1; on = refl; others = others })
      | inr failed ↦
          let refused = begins_nothing name node.end.client node.end.recording failed in
          inr (record {
            not_yet = rw (same, failed) refl;
            unnamed = subst (Unnamed name) (sym refused.0) unnamed;
            spares = subst (SparesAll name) (sym refused.1) tt;
            once = once_of name (drop 1 node.left) others;
          })
    ]

record_starts : (name : List ℕ) (c : ℕ) (n : List ℕ) (node : Node ClientEnd) (found : Option Parcel) → Unnamed name node.end.recording
    → OnceFrom name (Some (events.RecordTo c n)) node.left → Starts name node (Some (events.RecordTo c n)) found
record_starts name c n node found unnamed once = elim (cases_Bool (bytes_eq n name)) [
  | inl same ↦
      let is = (bytes_eq-Decides n name).0 same in
      subst (λ (m : List ℕ). Starts name node (Some (events.RecordTo c m)) found) (sym is)
      (named_starts name c node found unnamed (after n is once))
  | inr not ↦
      other_starts name node (Some (events.RecordTo c n)) found (λ is. true≢false (sym ((bytes_eq-Decides n name).1 is) ∙ not)) (rw not refl)
      (once_after name (events.RecordTo c n) node.left once) unnamed
]
  where
    after : (n : List ℕ) → n ≡ name → OnceFrom name (Some (events.RecordTo c n)) node.left → AllByRecursion (MakesOther name) (drop 1 node.left)
    after n is (inl once) = absurd (once.0 is)
    after n is (inr others) = others

line_starts : (name : List ℕ) (node : Node ClientEnd) (found : Option Parcel) → Unnamed name node.end.recording
    → (event : Event) → OnceFrom name (Some event) node.left → Starts name node (Some event) found
line_starts name node found unnamed =
    by_line (λ (event : Event). OnceFrom name (Some event) node.left → Starts name node (Some event) found) (λ c n once. record_starts name c n node found unnamed once)
    (λ c once. other_starts name node (Some (events.Stop c)) found tt refl (once_after name (events.Stop c) node.left once) unnamed)
    (λ ms once. other_starts name node (Some (events.End ms)) found tt refl (once_after name (events.End ms) node.left once) unnamed)
    (λ event plain once. other_starts name node (Some event) found (plain.other name) (plain.begins name node.end) (once_after name event node.left once) unnamed)

pub starts : (name : List ℕ) (node : Node ClientEnd) (line : Option Event) (found : Option Parcel) → Unnamed name node.end.recording → OnceFrom name line node.left → Starts name node line found
starts name node (Some event) found unnamed once = line_starts name node found unnamed event once
starts name node None None unnamed once = other_starts name node None None tt refl once unnamed
starts name node None (Some parcel) unnamed once = other_starts name node None (Some parcel) tt refl once unnamed

-- ---- all of it

-- what is left where the node ends, and where it goes on
ends_so : (ended : Bool) (left before : Option (List ℕ)) → ended ≡ true → before ≡ option_or (if ended then None else left) before
ends_so ended left before is = rw is refl

goes_so : (ended : Bool) (left before : Option (List ℕ)) → ended ≡ false → option_or left before ≡ option_or (if ended then None else left) before
goes_so ended left before is = rw is refl

leaves : (name : List ℕ) (count : ℕ) (node : Node ClientEnd) (readings : List ℕ) (arrivals : List (Option Parcel)) (told : Told) → NamesOnce name node.left → Unnamed name node.end.recording
    → contents_of (after_acts told (acts_of (turns_of count client_rules node readings arrivals))).files name
    ≡ option_or (left_in name count node readings arrivals) (contents_of told.files name)
unfolding turns_of left_in after_acts
leaves name zero node readings arrivals told once unnamed = refl
leaves name (suc count) node readings arrivals told once unnamed =
    let line = line_at node (reading_of readings) in
    let now = turn_at client_rules node (reading_of readings) (next_of arrivals) in
    let from = due_once name node.time (reading_of readings - start_at node.start (reading_of readings)) node.left once in
    let after = after_acts told now.turn.acts in
    let later = readings_after readings in
    let more = arrivals_after now.turn arrivals in
    let rest = turns_of count client_rules now.node later more in
    elim (starts name (started node readings) line (next_of arrivals) unnamed from) [
      | inl begins ↦
          let last = has_end count now.node later more in
          let notes = applied_in count now.node later more in
          let empty : contents_of after.files name ≡ Some [] = ap (λ (acts : List FileAct). contents_of (after_acts told acts).files name) begins.makes ∙ made told name in
          rw begins.begins (after_turn name told now.turn rest (Some (written_of last notes)) (λ ends. absurd (true≢false (sym ends ∙ begins.on)))
          (λ goes. so_far_left name count now.node later more after Waits [] begins.others (inl begins.going) empty ∙ ap (λ (b : List ℕ). Some b) (left_waits last notes)))
      | inr before ↦
          let held = contents_of told.files name in
          let left = left_in name count now.node later more in
          let same = spared told name now.turn.acts before.spares in
          rw before.not_yet (after_turn name told now.turn rest (option_or (if now.turn.ended then None else left) held) (λ ends. same ∙ ends_so now.turn.ended left held ends)
          (λ goes.
          leaves name count now.node later more after before.once before.unnamed
          ∙ (ap (λ (found : Option (List ℕ)). option_or left found) same ∙ goes_so now.turn.ended left held goes)))
    ]

pub node_records_its_messages : NodeRecordsItsMessages
node_records_its_messages count end events readings arrivals told name none once =
    leaves name count (new_node end events) readings arrivals told once (subst (Unnamed name) (sym none) tt)
