-- A demo is played again, and what every 256th of its records left is put after the index.
use Rattle.std.proofs.Common.{◌≡◌, ◌≢◌, ℕ, suc, ◌+◌, ◌-◌, ◌*◌, ◌/◌, ◌%◌, ◌^◌, ◌<◌, ◌≤◌, Bool, true, false, List, [], ◌∷◌, ◌++◌, length, drop, Option, Some, None, Result, Ok, Err, refl, sym, ap, subst, ◌∙◌, inl, inr, arith}
use Rattle.std.specs.Prelude.{IfSome, is_some}
use Rattle.std.specs.List.{flat_map}
use Rattle.std.proofs.lemmas.Bool.{cond_both, eq-eqb, ne_eqb, eqb-true, eqb-false}
use Rattle.std.proofs.lemmas.List.{append-nil}
use Rattle.std.proofs.lemmas.List.Elements.{All-weaker}
use Rattle.q3_bits.proofs.Binds.{map_err_ok}
use Rattle.q3_io.specs.Told.{Told, contents_at, name_of}
use Rattle.q3_entity.specs.Entities.{most_entities}
use Rattle.q3_profile.specs.declared.profile.Profile.{Profile}
use Rattle.q3_svmsg.specs.declared.error.Illegible.{Illegible}
use Rattle.q3_rings.specs.Rings.{HeldSnapshot}
use Rattle.q3_savestate.specs.Lending.{HasAges}
use Rattle.q3_clstate.specs.declared.applied.Applied.{Applied}
use Rattle.q3_clstate.specs.State.{Application, apply_at, state_after_message}
use Rattle.q3_clstate.specs.Standing.{IsApplied}
use Rattle.q3_clstate.specs.Within.{IsWithin}
use Rattle.q3_clstate.specs.Laws.{WithinStays}
use Rattle.q3_demo.specs.declared.error.DemoError.{DemoError}
use Rattle.q3_demo.specs.declared.error.DemoError.TheVariants.{ReadFault, Truncated, BadLength, BadNumber, Message as NoMessage, NoMemory, WriteFault}
use Rattle.q3_demo.specs.Player.{PlayerState}
use Rattle.q3_demo.specs.Playing.{Played, Stepped, unplayed, message_of, step, most_records, records_from, records_of}
use Rattle.q3_demo.specs.Running.{OnlyAsks}
use Rattle.q3_demo.specs.Steps.{Leads}
use Rattle.q3_demo.proofs.Pieces.{was_record}
use Rattle.q3_demo.proofs.Going.{was_played}
use Rattle.q3_demo.proofs.Taking.{PlaysSo}
use Rattle.q3_index.specs.Text.{spacing, checkpoint_bytes, is_checkpoint, checkpoints}
use Rattle.q3_index.specs.Running.{LeavesIndex}
use Rattle.q3_index.specs.Steps.{IsAged, HasIndex, BreaksOff, Extends, CountsNext, WritesNext, step_bytes, checkpoints_bytes}
use Rattle.q3_index.proofs.Seeking.{told_later}
use Rattle.q3_index.proofs.Standing.{follow_from, message_leaves}
use Rattle.q3_index.proofs.Stepping.{one_more}
use Rattle.q3_index.proofs.Points.{passed, kept, none_before}
use Rattle.q3_index.proofs.Putting.{HasPut, put_none, put_asks, put_same, put_has, put_more_at, put_stops_at, put_ends, put_all, put_last, others_hold}
use Rattle.q3_index.proofs.Counting.{GoesSo, goes_first, goes_more, records_more, next_is, leads_step, bytes_at, bytes_there}

-- ---- how old it is what a state holds

-- after one record more it is older by as many entities as a snapshot may have
pub record Rises (was now : Played) : Type 0 where
  pub records : now.records ≡ was.records + 1
  pub aged : IsAged now
  pub by : now.state.profile ≡ was.state.profile

next_rises : WithinStays → (demo : List ℕ) (was : Played) (stepped : Stepped) → IsApplied was.state → IsAged was → step demo was ≡ Ok (Some stepped) → Rises was stepped.played
next_rises within demo was stepped applied aged is =
    let played = was_played demo was stepped is in
    let there = was_record (drop was.at demo) was.at was.last played.number played.size played.next played.found in
    let message : List ℕ = message_of demo was played.size in
    let applies : apply_at was.state played.number message ≡ Ok played.applied = map_err_ok (NoMessage was.at) (apply_at was.state played.number message) played.applied played.applied_is in
    let leaves = message_leaves was.state played.number message played.applied applies in
    let below = there.below in
    let grows : was.records * most_entities + most_entities ≡ (was.records + 1) * most_entities = omega arith in
    let next_aged : IsWithin ((was.records + 1) * most_entities) played.applied.state =
    subst (λ (most : ℕ). IsWithin most played.applied.state) grows
    (subst (λ (r : Result Application Illegible). IsWithin (was.records * most_entities + most_entities) (state_after_message was.state r)) applies
    (within.apply was.state (was.records * most_entities) played.number message (omega arith) applied aged)) in
    subst (λ (s : Stepped). Rises was s.played) played.stepped_is (record { records = refl; aged = next_aged; by = leaves.0 })

-- whatever is told of files
pub rises : WithinStays → (bytes : List ℕ) (was now : PlayerState) (answer : Applied) → IsApplied was.played.state → IsAged was.played → PlaysSo bytes was now (Ok (Some answer)) → Rises was.played now.played
rises within bytes was now answer applied aged plays =
    let demo : List ℕ = bytes_at was.played.at bytes in
    let on = plays demo (bytes_there was.played.at bytes) in
    subst (λ (p : PlayerState). Rises was.played p.played) (sym on.2) (next_rises within demo was.played on.0 applied aged on.1)

-- by whether there was one
pub some_rises : WithinStays → (bytes : List ℕ) (was now : PlayerState) (answer : Option Applied) → IsApplied was.played.state → IsAged was.played → PlaysSo bytes was now (Ok answer) → is_some answer ≡ true
    → Rises was.played now.played
some_rises within bytes was now None applied aged plays some = absurd cc
some_rises within bytes was now (Some answer) applied aged plays some = rises within bytes was now answer applied aged plays

-- where as many records were played as may be, 32 bits hold the ages
younger : (most : ℕ) (place : Option HeldSnapshot) → most < 2 ^ 32 → IfSome place (λ held. held.age ≤ most) → IfSome place (λ held. held.age < 2 ^ 32)
younger most None less aged = tt
younger most (Some held) less aged = omega (arith, aged)

pub has_ages : (played : Played) → played.records ≤ most_records → IsAged played → HasAges played.state.held
has_ages played few aged =
    All-weaker (λ place. IfSome place (λ held. held.age ≤ played.records * most_entities)) (λ place. IfSome place (λ held. held.age < 2 ^ 32))
    (λ place held. younger (played.records * most_entities) place (omega arith) held) played.state.held.places aged.ages

pub first_aged : WithinStays → (profile : Profile) → IsAged (unplayed profile)
first_aged within profile = within.none profile

-- ---- what belongs after a record

bytes_kept : (profile : Profile) (next : Result (Option Stepped) DemoError) (now : Played) → Leads next now → now.records % spacing ≡ 0 → step_bytes profile next ≡ checkpoint_bytes profile now
bytes_kept profile (Ok (Some stepped)) now leads is =
    let here : stepped.played.records % spacing ≡ 0 = ap (λ (p : Played). p.records % spacing) leads ∙ is in
    rw (eq-eqb (stepped.played.records % spacing) 0 here) (ap (checkpoint_bytes profile) leads)
bytes_kept profile (Ok None) now leads is = absurd leads
bytes_kept profile (Err e) now leads is = absurd leads

bytes_none : (profile : Profile) (next : Result (Option Stepped) DemoError) (now : Played) → Leads next now → now.records % spacing ≢ 0 → step_bytes profile next ≡ []
bytes_none profile (Ok (Some stepped)) now leads other =
    rw (ne_eqb (stepped.played.records % spacing) 0 (λ here. other (sym (ap (λ (p : Played). p.records % spacing) leads) ∙ here))) refl
bytes_none profile (Ok None) now leads other = absurd leads
bytes_none profile (Err e) now leads other = absurd leads

-- ---- the next record

-- it was played as files are told
abbrev pub PlaysAs : Option Told → ℕ → Played → Played → Result Bool DemoError → Type 0
PlaysAs before demo was now result = (told : Told) → before ≡ Some told → CountsNext (step (contents_at told demo) was) now result

-- and what belongs after it was written
abbrev pub WritesAs : Option Told → Option Told → ℕ → ℕ → Profile → Played → Played → Result Bool DemoError → Type 0
WritesAs before after demo index profile was now result =
    (told : Told) → before ≡ Some told → HasIndex told index → WritesNext profile told after index (step (contents_at told demo) was) now result

-- before that
waits : (told : Told) (before mid : Option Told) (index : ℕ) (all : List ℕ) → before ≡ Some told → HasIndex told index → OnlyAsks before mid → HasPut told mid index all all
waits told before mid index all is has asks = put_asks told before mid index all all (put_none told before index all is has) asks

next_fails : (profile : Profile) (told : Told) (after : Option Told) (index : ℕ) (next : Result (Option Stepped) DemoError) (now : Played) (e : DemoError) → CountsNext next now (Err e)
    → HasPut told after index (step_bytes profile next) (step_bytes profile next) → WritesNext profile told after index next now (Err e)
next_fails profile told after index next now ReadFault counts has = inr (put_ends told after index (step_bytes profile next) (step_bytes profile next) ReadFault has tt)
next_fails profile told after index next now (Truncated at) counts has = inl counts
next_fails profile told after index next now (BadLength at) counts has = inl counts
next_fails profile told after index next now (BadNumber at) counts has = inl counts
next_fails profile told after index next now (NoMessage at cause) counts has = inl counts
next_fails profile told after index next now NoMemory counts has = inl counts
next_fails profile told after index next now WriteFault counts has = inl counts

pub writes_wrong : (before after : Option Told) (demo index : ℕ) (profile : Profile) (was now : Played) (e : DemoError) → OnlyAsks before after → PlaysAs before demo was now (Err e)
    → WritesAs before after demo index profile was now (Err e)
writes_wrong before after demo index profile was now e asks plays told is has =
    let next = step (contents_at told demo) was in
    next_fails profile told after index next now e (plays told is) (waits told before after index (step_bytes profile next) is has asks)

-- a checkpoint was put after it
abbrev pub PutsPoint : Option Told → Option Told → ℕ → Played → Result (Unit {0}) DemoError → Type 0
PutsPoint mid after index now result = (told : Told) → mid ≡ Some told → HasIndex told index → Extends told after index (checkpoint_bytes now.state.profile now) result

point_put : (before mid after : Option Told) (demo index : ℕ) (profile : Profile) (was now : Played) (result : Result (Unit {0}) DemoError) → OnlyAsks before mid → PlaysAs before demo was now (Ok true)
    → now.state.profile ≡ profile → now.records % spacing ≡ 0 → PutsPoint mid after index now result
    → (told : Told) → before ≡ Some told → HasIndex told index → Extends told after index (step_bytes profile (step (contents_at told demo) was)) result
point_put before mid after demo index profile was now result asks plays by here puts told is has =
    let next = step (contents_at told demo) was in
    let point : List ℕ = checkpoint_bytes profile now in
    let same : point ≡ step_bytes profile next = sym (bytes_kept profile next now (plays told is) here) in
    let later = told_later before mid told asks is in
    let mid_put : HasPut told mid index (point ++ []) point = put_same told mid index point (point ++ []) point (waits told before mid index point is has asks) (sym (append-nil point)) in
    let so : (t : Told) → mid ≡ Some t → Extends t after index point result =
    λ t mid_is. subst (λ (p : Profile). Extends t after index (checkpoint_bytes p now) result) by
    (puts t mid_is (put_has told t index (point ++ []) point (subst (λ (o : Option Told). HasPut told o index (point ++ []) point) mid_is mid_put))) in
    subst (λ (bytes : List ℕ). Extends told after index bytes result) same (put_last told mid after index point point result mid_put so)

pub writes_point : (before mid after : Option Told) (demo index : ℕ) (profile : Profile) (was now : Played) → OnlyAsks before mid → PlaysAs before demo was now (Ok true)
    → now.state.profile ≡ profile → now.records % spacing ≡ 0 → PutsPoint mid after index now (Ok tt) → WritesAs before after demo index profile was now (Ok true)
writes_point before mid after demo index profile was now asks plays by here puts told is has =
    (plays told is, point_put before mid after demo index profile was now (Ok tt) asks plays by here puts told is has)

pub breaks_point : (before mid after : Option Told) (demo index : ℕ) (profile : Profile) (was now : Played) (e : DemoError) → OnlyAsks before mid → PlaysAs before demo was now (Ok true)
    → now.state.profile ≡ profile → now.records % spacing ≡ 0 → PutsPoint mid after index now (Err e) → WritesAs before after demo index profile was now (Err e)
breaks_point before mid after demo index profile was now e asks plays by here puts told is has =
    inr (point_put before mid after demo index profile was now (Err e) asks plays by here puts told is has)

-- none belongs there
pub writes_none : (before after : Option Told) (demo index : ℕ) (profile : Profile) (was now : Played) → OnlyAsks before after → PlaysAs before demo was now (Ok true) → now.records % spacing ≢ 0
    → WritesAs before after demo index profile was now (Ok true)
writes_none before after demo index profile was now asks plays other told is has =
    let next = step (contents_at told demo) was in
    let none : step_bytes profile next ≡ [] = bytes_none profile next now (plays told is) other in
    let put : HasPut told after index [] (step_bytes profile next) =
    put_same told after index (step_bytes profile next) [] (step_bytes profile next) (waits told before after index (step_bytes profile next) is has asks) none in
    (plays told is, put_all told after index (step_bytes profile next) put)

-- ---- so many records

-- those that are left of all
abbrev pub left_of : List ℕ → Played → List Stepped
left_of demo now = records_from (most_records - now.records) demo now

-- a record that was played, and the checkpoints from it on
points_next : (profile : Profile) (stepped : Stepped) (records : List Stepped) (next : Result (Option Stepped) DemoError) → next ≡ Ok (Some stepped)
    → checkpoints_bytes profile (stepped ∷ records) ≡ step_bytes profile next ++ checkpoints_bytes profile records
points_next profile stepped records next is =
    let others : List ℕ = checkpoints_bytes profile records in
    let count : ℕ = stepped.played.records % spacing in
    cond_both (is_checkpoint stepped.played) (checkpoint_bytes profile stepped.played) [] (λ (bytes : List ℕ). checkpoints_bytes profile (stepped ∷ records) ≡ bytes ++ others)
    (λ here. ap (flat_map (checkpoint_bytes profile)) (kept records stepped (eqb-true count 0 here)))
    (λ other. ap (flat_map (checkpoint_bytes profile)) (passed records stepped (eqb-false count 0 other)))
    ∙ ap (λ (bytes : List ℕ). bytes ++ others) (sym (ap (step_bytes profile) is))

points_left : (profile : Profile) (demo : List ℕ) (was : Played) (stepped : Stepped) → was.records < most_records → step demo was ≡ Ok (Some stepped)
    → checkpoints_bytes profile (left_of demo was) ≡ step_bytes profile (step demo was) ++ checkpoints_bytes profile (left_of demo stepped.played)
points_left profile demo was stepped few is =
    let one : stepped.played.records ≡ was.records + 1 = one_more demo was stepped is in
    let left : ℕ = most_records - stepped.played.records in
    let all : most_records - was.records ≡ suc left = omega arith in
    ap (checkpoints_bytes profile) (ap (λ n. records_from n demo was) all ∙ records_more left demo was stepped is) ∙ points_next profile stepped (left_of demo stepped.played) (step demo was) is

-- so far the checkpoints of the records that were played stand after what was there before
pub record GoesWriting (told : Told) (mid : Option Told) (demo index : ℕ) (profile : Profile) (now : Played) : Type 0 where
  pub goes : GoesSo profile (contents_at told demo) now
  pub put : HasPut told mid index (checkpoints_bytes profile (left_of (contents_at told demo) now)) (checkpoints_bytes profile (records_of profile (contents_at told demo)))

pub writing_first : (told : Told) (before : Option Told) (demo index : ℕ) (profile : Profile) (first : Played) → first ≡ unplayed profile → before ≡ Some told → HasIndex told index
    → GoesWriting told before demo index profile first
writing_first told before demo index profile first is told_is has =
    subst (λ (p : Played). GoesWriting told before demo index profile p) (sym is)
    (record { goes = goes_first profile (contents_at told demo); put = put_none told before index (checkpoints_bytes profile (records_of profile (contents_at told demo))) told_is has })

-- the clause of the next record, by the demo as it was told at first
writes_there : (told mid : Told) (after : Option Told) (demo index : ℕ) (profile : Profile) (was now : Played) (result : Result Bool DemoError) → GoesWriting told (Some mid) demo index profile was
    → name_of told demo ≢ name_of told index → was.state.profile ≡ profile → WritesAs (Some mid) after demo index was.state.profile was now result
    → WritesNext profile mid after index (step (contents_at told demo) was) now result
writes_there told mid after demo index profile was now result going apart by writes =
    let put = going.put in
    let left : List ℕ = checkpoints_bytes profile (left_of (contents_at told demo) was) in
    let all : List ℕ = checkpoints_bytes profile (records_of profile (contents_at told demo)) in
    let same : contents_at mid demo ≡ contents_at told demo = others_hold told mid index demo (contents_at told index ++ put.done) put.leaves apart in
    subst (λ (p : Profile). WritesNext p mid after index (step (contents_at told demo) was) now result) by
    (subst (λ (bytes : List ℕ). WritesNext was.state.profile mid after index (step bytes was) now result) same (writes mid refl (put_has told mid index left all put)))

put_next : (told : Told) (mid : Option Told) (demo index : ℕ) (profile : Profile) (was : Played) (stepped : Stepped) → GoesWriting told mid demo index profile was → was.records < most_records
    → step (contents_at told demo) was ≡ Ok (Some stepped)
    → HasPut told mid index (step_bytes profile (step (contents_at told demo) was) ++ checkpoints_bytes profile (left_of (contents_at told demo) stepped.played)) (checkpoints_bytes profile (records_of profile (contents_at told demo)))
put_next told mid demo index profile was stepped going few is =
    let bytes : List ℕ = contents_at told demo in
    put_same told mid index (checkpoints_bytes profile (left_of bytes was)) (step_bytes profile (step bytes was) ++ checkpoints_bytes profile (left_of bytes stepped.played))
    (checkpoints_bytes profile (records_of profile bytes)) going.put (points_left profile bytes was stepped few is)

pub writing_more : (told : Told) (mid after : Option Told) (demo index : ℕ) (profile : Profile) (was now : Played) → GoesWriting told mid demo index profile was → was.records < most_records
    → name_of told demo ≢ name_of told index → was.state.profile ≡ profile → WritesAs mid after demo index was.state.profile was now (Ok true) → GoesWriting told after demo index profile now
writing_more told None after demo index profile was now going few apart by writes = absurd (let put = going.put in put.leaves)
writing_more told (Some mid) after demo index profile was now going few apart by writes =
    let bytes : List ℕ = contents_at told demo in
    let there = writes_there told mid after demo index profile was now (Ok true) going apart by writes in
    let leads = leads_step bytes was now there.0 in
    subst (λ (p : Played). GoesWriting told after demo index profile p) leads.2
    (record {
      goes = goes_more profile bytes was leads.0 going.goes few leads.1;
      put = put_more_at told mid after index (step_bytes profile (step bytes was)) (checkpoints_bytes profile (left_of bytes leads.0.played)) (checkpoints_bytes profile (records_of profile bytes))
          (put_next told (Some mid) demo index profile was leads.0 going few leads.1) there.1;
    })

-- what ends it early
pub writing_stops : (told : Told) (mid after : Option Told) (demo index : ℕ) (profile : Profile) (was now : Played) (e : DemoError) → GoesWriting told mid demo index profile was → was.records < most_records
    → was.records < length (records_of profile (contents_at told demo))
    → name_of told demo ≢ name_of told index → was.state.profile ≡ profile → WritesAs mid after demo index was.state.profile was now (Err e)
    → BreaksOff told after index (checkpoints_bytes profile (records_of profile (contents_at told demo))) e
writing_stops told None after demo index profile was now e going few more apart by writes = absurd (let put = going.put in put.leaves)
writing_stops told (Some mid) after demo index profile was now e going few more apart by writes =
    let bytes : List ℕ = contents_at told demo in
    let next = next_is profile bytes was going.goes few more in
    elim (writes_there told mid after demo index profile was now (Err e) going apart by writes) [
      | inl refused ↦ absurd (let is = next.1 in cc)
      | inr off ↦ put_stops_at told mid after index (step_bytes profile (step bytes was)) (checkpoints_bytes profile (left_of bytes next.0.played)) (checkpoints_bytes profile (records_of profile bytes)) e
          (put_next told (Some mid) demo index profile was next.0 going few next.1) off
    ]

-- and the demo doesn't end before
pub never_ends : (told : Told) (mid after : Option Told) (demo index : ℕ) (profile : Profile) (was now : Played) → GoesWriting told mid demo index profile was → was.records < most_records
    → was.records < length (records_of profile (contents_at told demo))
    → name_of told demo ≢ name_of told index → was.state.profile ≡ profile → WritesAs mid after demo index was.state.profile was now (Ok false) → ⊥
never_ends told None after demo index profile was now going few more apart by writes = let put = going.put in put.leaves
never_ends told (Some mid) after demo index profile was now going few more apart by writes =
    let there = writes_there told mid after demo index profile was now (Ok false) going apart by writes in
    let next = next_is profile (contents_at told demo) was going.goes few more in
    let is = next.1 in
    cc

-- after the last 256th record there is nothing left to write
pub writing_all : (told : Told) (after : Option Told) (demo index count : ℕ) (profile : Profile) (now : Played) → GoesWriting told after demo index profile now → now.records ≡ count * spacing
    → count ≡ length (records_of profile (contents_at told demo)) / spacing
    → LeavesIndex told after index (contents_at told index ++ checkpoints_bytes profile (records_of profile (contents_at told demo)))
writing_all told after demo index count profile now going here all =
    let bytes : List ℕ = contents_at told demo in
    let left : List Stepped = left_of bytes now in
    let goes = going.goes in
    let long = goes.count in
    let none : checkpoints left ≡ [] = none_before 255 bytes now left (follow_from (most_records - now.records) bytes now) (omega arith) (omega arith) (omega (arith, long, here, all)) in
    put_all told after index (checkpoints_bytes profile (records_of profile bytes))
    (put_same told after index (checkpoints_bytes profile left) [] (checkpoints_bytes profile (records_of profile bytes)) going.put (ap (flat_map (checkpoint_bytes profile)) none))
