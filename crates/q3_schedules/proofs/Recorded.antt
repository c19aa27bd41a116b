-- The file of a recording holds the messages that its client applied.
use Rattle.std.proofs.Common.{◌≡◌, ◌≢◌, ℕ, suc, zero, List, [], ◌∷◌, ◌++◌, get_or, Option, Some, None, Result, Ok, Err, true, false, refl, sym, ap, subst, ◌∙◌, inl, inr, arith, append_assoc}
use Rattle.std.specs.Prelude.{◌⊎◌, ◌==◌}
use Rattle.std.specs.List.{AllByRecursion, flat_map}
use Rattle.std.specs.Option.{is_some}
use Rattle.std.proofs.lemmas.Bool.{cases_Bool, cases_eq}
use Rattle.std.proofs.lemmas.Bool.Decides.{Decides-eqb}
use Rattle.std.proofs.lemmas.List.{append-nil}
use Rattle.std.proofs.lemmas.List.Concat.{flat_map-cons}
use Rattle.q3_io.specs.Acts.{FileAct, Makes, after_acts}
use Rattle.q3_io.specs.Told.{Told, contents_of}
use Rattle.q3_script.specs.declared.event.Event.{Event}
use Rattle.q3_script.specs.declared.event.Event.TheVariants as events
use Rattle.q3_report.specs.declared.answer.HandedIn.TheVariants as handed
use Rattle.q3_report.specs.declared.answer.RecordRefused.{RecordRefused}
use Rattle.q3_report.specs.declared.answer.RecordRefused.TheVariants as unrecorded
use Rattle.q3_report.specs.declared.answer.RecordRefused.TheVariants.{NoGame}
use Rattle.q3_report.specs.Answers.{Answered, Given}
use Rattle.q3_demo.specs.declared.recorder.Stage.{Stage}
use Rattle.q3_demo.specs.declared.recorder.Stage.TheVariants.{Waits, Ended}
use Rattle.q3_demo.specs.Recording.{Noted, Noting, closing, note_of, noted_from, recording}
use Rattle.q3_ends.specs.Recording.{extends}
use Rattle.q3_world.specs.declared.places.Place.{Place}
use Rattle.q3_world.specs.Ends.{Ends, client_takes, client_step_of, line_of, place_at, recording_at}
use Rattle.q3_world.specs.Kept.{Kept, kept_after, kept_step, opening_kept}
use Rattle.q3_world.specs.Files.{acts_from, acts_of, place_acts, ending_acts, line_acts, stop_acts, take_acts}
use Rattle.q3_world.specs.ByTags.{kept_then}
use Rattle.q3_schedules.specs.Recorded.{MakesOther, RecordingIsItsMessages, applied_until, bytes_for, is_stop, noted_at}
use Rattle.q3_schedules.proofs.NamedFiles.{SparesAll, acts_over, extended, made, spared, spares_both}
use Rattle.q3_schedules.specs.Slots.{HaveSlots}
use Rattle.q3_schedules.proofs.SlotsStay.{have_slots, nobody_yet}
use Rattle.q3_schedules.proofs.EventKinds.{Happens, by_kind}
use Rattle.q3_schedules.proofs.NamedRecordings.{AtOne, Goes, GoesOn, Gone, IsSoFar, Unnamed, at_same, begins_at, begins_named, begun_named, gets_nothing, gone_at, goes_at, nobody, stops_at, stops_named, stops_one, takes_at, takes_named}

-- ---- an event

-- one whose line isn't named here changes one recording, or none
one_at : (name : List ℕ) (old new : Ends) (acts : List FileAct) (took : ℕ → Option (List ℕ)) → Happens old new acts took → (d : ℕ) × AtOne name d old new acts
one_at name old new acts took (inl takes) =
    (takes.client, rw (takes.ends, takes.does) (takes_at name takes.client old takes.front takes.bytes (place_at old takes.client) refl))
one_at name old new acts took (inr quiet) = (0, rw quiet.none (at_same name 0 old new quiet.same))

pub gone_on : (name : List ℕ) (kept : Kept) → HaveSlots kept.ends → (event : Event) → MakesOther name event → Gone name kept.ends
    → Gone name (kept_step kept event).kept.ends × SparesAll name (acts_of kept event)
unfolding kept_step line_of acts_of line_acts
gone_on name kept have =
    by_kind (λ (event : Event). MakesOther name event → Gone name kept.ends → Gone name (kept_step kept event).kept.ends × SparesAll name (acts_of kept event)) kept have
    (λ c other gone. gone_at name c kept.ends (client_step_of kept.ends c (events.Stop c) (place_at kept.ends c)).ends (place_acts (place_at kept.ends c) (events.Stop c)) (stops_at name c kept.ends (place_at kept.ends c) refl) gone)
    (λ c n other gone.
    gone_at name c kept.ends (client_step_of kept.ends c (events.RecordTo c n) (place_at kept.ends c)).ends (place_acts (place_at kept.ends c) (events.RecordTo c n)) (begins_at name n c kept.ends (place_at kept.ends c) other refl) gone)
    (λ event not happens other gone.
    let at = one_at name kept.ends (kept_step kept event).kept.ends (acts_of kept event) (λ c. bytes_for kept event c) happens in
    gone_at name at.0 kept.ends (kept_step kept event).kept.ends (acts_of kept event) at.1 gone)

-- what becomes of a recording: it has its end, or goes on
record Stopped (name : List ℕ) (c : ℕ) (stage : Stage) (kept : Kept) (event : Event) : Type 0 where
  pub stops : is_stop c event ≡ true
  pub gone : Gone name (kept_step kept event).kept.ends
  pub acts : acts_of kept event ≡ extends name (closing stage)

record Continues (name : List ℕ) (c : ℕ) (stage : Stage) (kept : Kept) (event : Event) : Type 0 where
  pub goes : is_stop c event ≡ false
  pub on : GoesOn name c stage (noted_at (place_at kept.ends c) (bytes_for kept event c)) (kept_step kept event).kept.ends (acts_of kept event)

abbrev Becomes : List ℕ → ℕ → Stage → Kept → Event → Type 0
Becomes name c stage kept event = Stopped name c stage kept event ⊎ Continues name c stage kept event

eqb_other : (d c : ℕ) → d ≢ c → (d == c) ≡ false
eqb_other d c ne = elim (cases_Bool (d == c)) [
  | inl same ↦ absurd (ne ((Decides-eqb d c).0 same))
  | inr not ↦ not
]

-- where it takes nothing, nothing is noted
no_notes : (found : Option Place) → noted_at found None ≡ []
no_notes None = refl
no_notes (Some place) = refl

nothing_noted : (name : List ℕ) (c : ℕ) (stage : Stage) (new : Ends) (acts : List FileAct) → Goes name c stage new → SparesAll name acts → GoesOn name c stage [] new acts
unfolding noted_from
nothing_noted name c stage new acts goes spares = record {
  so_far = inl goes;
  adds = gets_nothing name acts spares;
}

untouched : (name : List ℕ) (c : ℕ) (stage : Stage) (new : Ends) (acts : List FileAct) (found : Option Place) (bytes : Option (List ℕ)) → bytes ≡ None → Goes name c stage new → SparesAll name acts
    → GoesOn name c stage (noted_at found bytes) new acts
untouched name c stage new acts found bytes none goes spares =
    subst (λ (notes : List Noted). GoesOn name c stage notes new acts) (sym (ap (noted_at found) none ∙ no_notes found)) (nothing_noted name c stage new acts goes spares)

becomes_on : (name : List ℕ) (c : ℕ) (stage : Stage) (old new : Ends) (acts : List FileAct) (took : ℕ → Option (List ℕ)) → Happens old new acts took → Goes name c stage old
    → GoesOn name c stage (noted_at (place_at old c) (took c)) new acts
becomes_on name c stage old new acts took (inr quiet) goes =
    let after : Goes name c stage new = record { going = quiet.same c ∙ goes.going; apart = λ d ne. subst (Unnamed name) (sym (quiet.same d)) (goes.apart d ne) } in
    untouched name c stage new acts (place_at old c) (took c) (quiet.untaken c) after (rw quiet.none tt)
becomes_on name c stage old new acts took (inl takes) goes = elim (cases_eq takes.client c) [
  | inl same ↦
      let here : took c ≡ Some takes.bytes = takes.taken c ∙ rw ((Decides-eqb takes.client c).1 same) refl in
      let ends : new ≡ (client_takes old c takes.front takes.bytes (place_at old c)).ends =
      takes.ends ∙ ap (λ (k : ℕ). (client_takes old k takes.front takes.bytes (place_at old k)).ends) same in
      let does : acts ≡ take_acts (place_at old c) takes.bytes = takes.does ∙ ap (λ (k : ℕ). take_acts (place_at old k) takes.bytes) same in
      rw (here, ends, does) (takes_named name c stage old takes.front takes.bytes (place_at old c) refl goes)
  | inr not ↦
      let none : took c ≡ None = takes.taken c ∙ rw (eqb_other takes.client c not) refl in
      let at : AtOne name takes.client old new acts = rw (takes.ends, takes.does) (takes_at name takes.client old takes.front takes.bytes (place_at old takes.client) refl) in
      let after = goes_at name c takes.client stage old new acts not at goes in
      untouched name c stage new acts (place_at old c) (took c) none after.0 after.1
]

becomes : (name : List ℕ) (c : ℕ) (stage : Stage) (kept : Kept) → HaveSlots kept.ends → Goes name c stage kept.ends → (event : Event) → MakesOther name event → Becomes name c stage kept event
unfolding kept_step line_of acts_of line_acts
becomes name c stage kept have goes =
    by_kind (λ (event : Event). MakesOther name event → Becomes name c stage kept event) kept have
    (λ d other. elim (cases_eq d c) [
      | inl same ↦
          let now = stops_named name c stage kept.ends (place_at kept.ends c) refl goes in
          let here : Stopped name c stage kept (events.Stop c) = record { stops = (Decides-eqb c c).1 refl; gone = now.0; acts = now.1 } in
          inl (subst (λ (k : ℕ). Stopped name c stage kept (events.Stop k)) (sym same) here)
      | inr not ↦
          let after = goes_at name c d stage kept.ends (client_step_of kept.ends d (events.Stop d) (place_at kept.ends d)).ends (place_acts (place_at kept.ends d) (events.Stop d)) not (stops_at name d kept.ends (place_at kept.ends d) refl) goes in
          inr (record {
            goes = eqb_other d c not;
            on = untouched name c stage (client_step_of kept.ends d (events.Stop d) (place_at kept.ends d)).ends (place_acts (place_at kept.ends d) (events.Stop d)) (place_at kept.ends c) None refl after.0 after.1;
          })
    ])
    (λ d n other. inr (record {
      goes = refl;
      on = elim (cases_eq d c) [
        | inl same ↦
            let now = begins_named name n c stage kept.ends (place_at kept.ends c) refl goes in
            let spares : SparesAll name (place_acts (place_at kept.ends c) (events.RecordTo c n)) = rw now.1 tt in
            subst (λ (k : ℕ). GoesOn name c stage (noted_at (place_at kept.ends c) None) (client_step_of kept.ends k (events.RecordTo k n) (place_at kept.ends k)).ends (place_acts (place_at kept.ends k) (events.RecordTo k n))) (sym same)
            (untouched name c stage (client_step_of kept.ends c (events.RecordTo c n) (place_at kept.ends c)).ends (place_acts (place_at kept.ends c) (events.RecordTo c n)) (place_at kept.ends c) None refl now.0 spares)
        | inr not ↦
            let after = goes_at name c d stage kept.ends (client_step_of kept.ends d (events.RecordTo d n) (place_at kept.ends d)).ends (place_acts (place_at kept.ends d) (events.RecordTo d n)) not
            (begins_at name n d kept.ends (place_at kept.ends d) other refl) goes in
            untouched name c stage (client_step_of kept.ends d (events.RecordTo d n) (place_at kept.ends d)).ends (place_acts (place_at kept.ends d) (events.RecordTo d n)) (place_at kept.ends c) None refl after.0 after.1
      ];
    }))
    (λ event not happens other. inr (record {
      goes = not c;
      on = becomes_on name c stage kept.ends (kept_step kept event).kept.ends (acts_of kept event) (λ d. bytes_for kept event d) happens goes;
    }))

-- ---- after the last event

pub ends_gone : (name : List ℕ) (clients : List (Option Place)) → ((d : ℕ) → Unnamed name (recording_at (get_or clients d None))) → SparesAll name (flat_map stop_acts clients)
ends_gone name [] gone = tt
ends_gone name (found ∷ clients) gone =
    subst (SparesAll name) (sym (flat_map-cons stop_acts found clients))
    (spares_both name (stop_acts found) (flat_map stop_acts clients) (stop_spares found (gone zero)) (ends_gone name clients (λ d. gone (suc d))))
  where
    stop_spares : (found : Option Place) → Unnamed name (recording_at found) → SparesAll name (stop_acts found)
    stop_spares None unnamed = tt
    stop_spares (Some place) unnamed = (stops_one name place.recording unnamed).1

ends_named : (name : List ℕ) (stage : Stage) (clients : List (Option Place)) (c : ℕ) (told : Told) (bytes : List ℕ) → recording_at (get_or clients c None) ≡ Some (record { name = name; stage = stage })
    → ((d : ℕ) → d ≢ c → Unnamed name (recording_at (get_or clients d None))) → contents_of told.files name ≡ Some bytes
    → contents_of (after_acts told (flat_map stop_acts clients)).files name ≡ Some (bytes ++ closing stage)
ends_named name stage [] c told bytes going apart is = absurd (nobody (record { name = name; stage = stage }) None refl going)
ends_named name stage (found ∷ clients) zero told bytes going apart is =
    let rest = ends_gone name clients (λ d. apart (suc d) (λ same. omega (arith, same))) in
    let behind = after_acts told (stop_acts found) in
    ap (λ (acts : List FileAct). contents_of (after_acts told acts).files name) (flat_map-cons stop_acts found clients)
    ∙ (ap (λ (t : Told). contents_of t.files name) (acts_over told (stop_acts found) (flat_map stop_acts clients))
    ∙ (spared behind name (flat_map stop_acts clients) rest
    ∙ (ap (λ (acts : List FileAct). contents_of (after_acts told acts).files name) (stop_is found going) ∙ extended told name bytes (closing stage) is)))
  where
    stop_is : (found : Option Place) → recording_at found ≡ Some (record { name = name; stage = stage }) → stop_acts found ≡ extends name (closing stage)
    stop_is None going = absurd (nobody (record { name = name; stage = stage }) None refl going)
    stop_is (Some place) going = rw going refl
ends_named name stage (found ∷ clients) (suc c) told bytes going apart is =
    let behind = after_acts told (stop_acts found) in
    let spares = ends_gone name (found ∷ []) (first found (apart zero (λ same. omega (arith, same)))) in
    let alone : stop_acts found ++ [] ≡ stop_acts found = append-nil (stop_acts found) in
    let left : SparesAll name (stop_acts found) = subst (SparesAll name) (flat_map-cons stop_acts found [] ∙ alone) spares in
    let same : contents_of behind.files name ≡ Some bytes = spared told name (stop_acts found) left ∙ is in
    ap (λ (acts : List FileAct). contents_of (after_acts told acts).files name) (flat_map-cons stop_acts found clients)
    ∙ (ap (λ (t : Told). contents_of t.files name) (acts_over told (stop_acts found) (flat_map stop_acts clients))
    ∙ ends_named name stage clients c behind bytes going (λ d ne. apart (suc d) (λ is. ne (omega (arith, is)))) same)
  where
    first : (found : Option Place) → Unnamed name (recording_at found) → (d : ℕ) → Unnamed name (recording_at (get_or (found ∷ []) d None))
    first found unnamed zero = unnamed
    first found unnamed (suc d) = tt

-- ---- every event

pub over_files : (name : List ℕ) (told : Told) (first second : List FileAct)
    → contents_of (after_acts told (first ++ second)).files name ≡ contents_of (after_acts (after_acts told first) second).files name
over_files name told first second = ap (λ (t : Told). contents_of t.files name) (acts_over told first second)

-- what nobody records into stays
stays_so : (name : List ℕ) (kept : Kept) (events : List Event) (told : Told) → HaveSlots kept.ends → Gone name kept.ends → AllByRecursion (MakesOther name) events
    → contents_of (after_acts told (acts_from kept events)).files name ≡ contents_of told.files name
unfolding acts_from
stays_so name kept [] told have gone others = spared told name (ending_acts kept.ends) (ends_gone name kept.ends.clients gone)
stays_so name kept (event ∷ events) told have gone others =
    let now = gone_on name kept have event others.0 gone in
    let next = (kept_step kept event).kept in
    over_files name told (acts_of kept event) (acts_from next events)
    ∙ (stays_so name next events (after_acts told (acts_of kept event)) (have_slots kept event have) now.0 others.1 ∙ spared told name (acts_of kept event) now.1)

pub noted_over : (stage : Stage) (first second : List Noted)
    → noted_from stage (first ++ second)
    ≡ record { stage = (noted_from (noted_from stage first).stage second).stage; bytes = (noted_from stage first).bytes ++ (noted_from (noted_from stage first).stage second).bytes }
unfolding noted_from
noted_over stage [] second = refl
noted_over stage (noted ∷ first) second =
    let now = note_of stage noted in
    let behind = noted_from now.stage first in
    let rest = noted_from behind.stage second in
    ap (λ (n : Noting). record { stage = n.stage; bytes = now.bytes ++ n.bytes }) (noted_over now.stage first second)
    ∙ ap (λ (b : List ℕ). record { stage = rest.stage; bytes = b }) (sym (append_assoc now.bytes behind.bytes rest.bytes))

-- after the end of a recording nothing is noted
pub noted_ended : (notes : List Noted) → noted_from Ended notes ≡ record { stage = Ended; bytes = [] }
unfolding noted_from
noted_ended [] = refl
noted_ended (noted ∷ notes) = noted_ended notes

-- what a file holds in the end of which a client notes these messages more
abbrev pub Whole : Stage → List ℕ → List Noted → List ℕ
Whole stage bytes notes = bytes ++ (noted_from stage notes).bytes ++ closing (noted_from stage notes).stage

pub whole_none : (stage : Stage) (bytes : List ℕ) → bytes ++ closing stage ≡ Whole stage bytes []
unfolding noted_from
whole_none stage bytes = ap (λ (b : List ℕ). b ++ closing stage) (sym (append-nil bytes))

pub whole_ended : (bytes : List ℕ) (notes : List Noted) → bytes ≡ Whole Ended bytes notes
whole_ended bytes notes = subst (λ (n : Noting). bytes ≡ bytes ++ n.bytes ++ closing n.stage) (sym (noted_ended notes)) (sym (append-nil (bytes ++ []) ∙ append-nil bytes))

pub whole_over : (stage : Stage) (bytes : List ℕ) (first second : List Noted)
    → Whole (noted_from stage first).stage (bytes ++ (noted_from stage first).bytes) second ≡ Whole stage bytes (first ++ second)
whole_over stage bytes first second =
    let before = noted_from stage first in
    let rest = noted_from before.stage second in
    ap (λ (b : List ℕ). b ++ closing rest.stage) (append_assoc bytes before.bytes rest.bytes)
    ∙ ap (λ (n : Noting). bytes ++ n.bytes ++ closing n.stage) (sym (noted_over stage first second))

so_far_ends : (name : List ℕ) (kept : Kept) (events : List Event) (c : ℕ) (stage : Stage) (told : Told) (bytes : List ℕ) → HaveSlots kept.ends → AllByRecursion (MakesOther name) events
    → IsSoFar name c stage kept.ends → contents_of told.files name ≡ Some bytes
    → contents_of (after_acts told (acts_from kept events)).files name ≡ Some (Whole stage bytes (applied_until kept events c))
unfolding acts_from applied_until
so_far_ends name kept events c stage told bytes have others (inr over) is =
    stays_so name kept events told have over.1 others
    ∙ (is ∙ ap (λ (b : List ℕ). Some b)
    (whole_ended bytes (applied_until kept events c) ∙ ap (λ (s : Stage). Whole s bytes (applied_until kept events c)) (sym over.0)))
so_far_ends name kept [] c stage told bytes have others (inl goes) is =
    ends_named name stage kept.ends.clients c told bytes goes.going goes.apart is ∙ ap (λ (b : List ℕ). Some b) (whole_none stage bytes)
so_far_ends name kept (event ∷ events) c stage told bytes have others (inl goes) is =
    let next = (kept_step kept event).kept in
    let still = have_slots kept event have in
    let behind = after_acts told (acts_of kept event) in
    over_files name told (acts_of kept event) (acts_from next events)
    ∙ elim (becomes name c stage kept have goes event others.0) [
      | inl stopped ↦
          let now : contents_of behind.files name ≡ Some (bytes ++ closing stage) =
          ap (λ (acts : List FileAct). contents_of (after_acts told acts).files name) stopped.acts ∙ extended told name bytes (closing stage) is in
          rw stopped.stops (stays_so name next events behind still stopped.gone others.1 ∙ (now ∙ ap (λ (b : List ℕ). Some b) (whole_none stage bytes)))
      | inr continues ↦
          let notes = noted_at (place_at kept.ends c) (bytes_for kept event c) in
          let more = noted_from stage notes in
          rw continues.goes (so_far_ends name next events c more.stage behind (bytes ++ more.bytes) still others.1 continues.on.so_far (continues.on.adds told bytes is)
          ∙ ap (λ (b : List ℕ). Some b) (whole_over stage bytes notes (applied_until next events c)))
    ]

-- ---- all of it

-- before its line nobody records into the file
before_all : (name : List ℕ) (kept : Kept) (first : List Event) → AllByRecursion (MakesOther name) first → HaveSlots kept.ends → Gone name kept.ends
    → HaveSlots (kept_after kept first).ends × Gone name (kept_after kept first).ends
unfolding kept_after
before_all name kept [] others have gone = (have, gone)
before_all name kept (event ∷ first) others have gone =
    before_all name (kept_step kept event).kept first others.1 (have_slots kept event have) (gone_on name kept have event others.0 gone).0

-- what holds after some events, whatever files there were, holds after all
after_all : (name : List ℕ) (kept : Kept) (first rest : List Event) (found : Option (List ℕ))
    → ((t : Told) → contents_of (after_acts t (acts_from (kept_after kept first) rest)).files name ≡ found) → (told : Told)
    → contents_of (after_acts told (acts_from kept (first ++ rest))).files name ≡ found
unfolding acts_from kept_after
after_all name kept [] rest found holds told = holds told
after_all name kept (event ∷ first) rest found holds told =
    let next = (kept_step kept event).kept in
    over_files name told (acts_of kept event) (acts_from next (first ++ rest)) ∙ after_all name next first rest found holds (after_acts told (acts_of kept event))

-- the line that makes the file
abbrev result_of : Answered → Result (Unit {0}) RecordRefused
result_of (Given (handed.Record c result)) = result
result_of other = Err NoGame

begun_at : (name : List ℕ) (c : ℕ) (ends : Ends) (found : Option Place) → place_at ends c ≡ found → Gone name ends → (client_step_of ends c (events.RecordTo c name) found).answer ≡ Given (handed.Record c (Ok tt))
    → Goes name c Waits (client_step_of ends c (events.RecordTo c name) found).ends × (place_acts found (events.RecordTo c name) ≡ Makes name ∷ [])
begun_at name c ends None at gone is = absurd (refused (Err unrecorded.NoClient) refl (ap result_of is))
  where
    refused : (result : Result (Unit {0}) RecordRefused) → result ≡ Err unrecorded.NoClient → result ≡ Ok tt → ⊥
    refused (Ok x) failed same = absurd cc
    refused (Err e) failed same = absurd cc
begun_at name c ends (Some place) at gone is = begun_named name c ends place at gone (ap result_of is)

pub recording_is_its_messages : RecordingIsItsMessages
unfolding kept_step line_of acts_of line_acts acts_from
recording_is_its_messages profile first rest c name told before behind answer =
    let kept = kept_then profile first in
    let empty : HaveSlots (opening_kept profile).ends = λ d is. absurd (somebody (place_at (opening_kept profile).ends d) (nobody_yet profile d) is) in
    let start = before_all name (opening_kept profile) first before empty
    (λ d. subst (λ (found : Option Place). Unnamed name (recording_at found)) (sym (nobody_yet profile d)) tt) in
    let begun = begun_at name c kept.ends (place_at kept.ends c) refl start.1 answer in
    let next = (kept_step kept (events.RecordTo c name)).kept in
    let acts = place_acts (place_at kept.ends c) (events.RecordTo c name) in
    after_all name (opening_kept profile) first (events.RecordTo c name ∷ rest) (Some (recording (applied_until next rest c)))
    (λ t.
    over_files name t acts (acts_from next rest)
    ∙ so_far_ends name next rest c Waits (after_acts t acts) [] (have_slots kept (events.RecordTo c name) start.0) behind (inl begun.0)
    (ap (λ (a : List FileAct). contents_of (after_acts t a).files name) begun.1 ∙ made t name))
    told
  where
    somebody : (found : Option Place) → found ≡ None → is_some found ≡ true → ⊥
    somebody None at is = absurd cc
    somebody (Some place) at is = absurd cc
