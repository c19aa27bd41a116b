-- How far a demo was played: what holds at every place of it, and what stands after so many records more.
use Rattle.std.proofs.Common.{◌≡◌, ℕ, zero, suc, ◌+◌, ◌*◌, ◌≤◌, List, [], ◌∷◌, ◌++◌, length, take, drop, Option, Some, None, Result, Ok, Err, refl, ap, subst, ◌∙◌, arith}
use Rattle.std.proofs.Math.Seq.{take-add}
use Rattle.std.proofs.lemmas.Bool.{cond_both}
use Rattle.std.proofs.lemmas.List.{length-drop}
use Rattle.q3_bits.specs.Bits.{bits_of}
use Rattle.q3_bits.specs.ResultBind.{◌>>=◌}
use Rattle.q3_bits.proofs.Binds.{bind_ok, map_err_ok}
use Rattle.q3_entity.specs.Entities.{most_entities}
use Rattle.q3_profile.specs.declared.profile.Profile.{Profile}
use Rattle.q3_profile.specs.Profile.{IsCodec}
use Rattle.q3_svmsg.specs.Values.{Told, Message}
use Rattle.q3_svmsg.specs.Values.Told.{Nothing, Game, Snap, Skipped}
use Rattle.q3_svmsg.specs.declared.error.Illegible.{Illegible}
use Rattle.q3_svmsg.specs.Reading.{server_message_in}
use Rattle.q3_rings.specs.Rings.{held_snapshot}
use Rattle.q3_clstate.specs.declared.applied.SnapOutcome.TheVariants.{Stale, Skipped as SkippedFor}
use Rattle.q3_clstate.specs.State.{AppliedState, Application, context_of, passes, accepts, is_stale, skipped_for, apply_section, hearing, apply_read, apply_at, state_after_message}
use Rattle.q3_clstate.specs.Standing.{IsApplied}
use Rattle.q3_clstate.specs.Within.{IsWithin}
use Rattle.q3_clstate.specs.Laws.{ApplyStays, WithinStays}
use Rattle.q3_demo.specs.declared.error.DemoError.{DemoError}
use Rattle.q3_demo.specs.declared.error.DemoError.TheVariants.{Message as NoMessage}
use Rattle.q3_demo.specs.Playing.{Played, Stepped, unplayed, message_of, step, next_records, records_from, last_of, go_on, play_first}
use Rattle.q3_demo.proofs.Pieces.{was_record}
use Rattle.q3_demo.proofs.Going.{was_played}

-- ---- one record more

-- at a place: the state is well formed, within its limits, of this profile, and that after the last number; and the place is within the demo
pub record Stands (profile : Profile) (demo : List ℕ) (played : Played) : Type 0 where
  pub applied : IsApplied played.state
  pub within : IsWithin (most_entities * played.records) played.state
  pub by : played.state.profile ≡ profile
  pub number : played.state.number ≡ played.last
  pub place : played.at ≤ length demo

-- so many records further
pub record IsAfter (played : Played) (count : ℕ) (next : Played) : Type 0 where
  pub records : next.records ≡ played.records + count
  pub place : played.at + count ≤ next.at

-- nothing was played
pub none_stands : ApplyStays → WithinStays → (profile : Profile) (demo : List ℕ) → IsCodec profile → 512 ≤ profile.parse_ring → Stands profile demo (unplayed profile)
none_stands stays within profile demo codec room =
    record { applied = stays.none profile codec room; within = within.none profile; by = refl; number = refl; place = omega arith }

-- a section keeps the profile, and leaves its message's number
section_leaves : (state : AppliedState) (number : ℕ) (told : Told) → ((apply_section state number told).state.profile ≡ state.profile) × ((apply_section state number told).state.number ≡ number)
section_leaves state number Nothing = (refl, refl)
section_leaves state number (Game game) = (refl, refl)
section_leaves state number (Snap base head entities) =
    cond_both (is_stale state.held number) (passes state number Stale) (accepts state number base (record { head = head; entities = entities }))
    (λ (applied : Application). (applied.state.profile ≡ state.profile) × (applied.state.number ≡ number)) (λ e. (refl, refl)) (λ e. (refl, refl))
section_leaves state number (Skipped base) =
    cond_both (is_stale state.held number) (passes state number Stale) (passes state number (SkippedFor base (skipped_for (held_snapshot state.held base))))
    (λ (applied : Application). (applied.state.profile ≡ state.profile) × (applied.state.number ≡ number)) (λ e. (refl, refl)) (λ e. (refl, refl))

-- and so does a message
pub message_leaves : (state : AppliedState) (number : ℕ) (message : List ℕ) (applied : Application) → apply_at state number message ≡ Ok applied
    → (applied.state.profile ≡ state.profile) × (applied.state.number ≡ number)
message_leaves state number message applied is =
    let read = bind_ok (server_message_in state.profile (context_of state.held state.baselines) number (bits_of message)) (λ (read : Message). Ok (apply_read state number read)) applied is in
    let same : apply_read state number read.0 ≡ applied = let e = read.2 in cc in
    subst (λ (applied : Application). (applied.state.profile ≡ state.profile) × (applied.state.number ≡ number)) same
    (section_leaves (hearing state read.0.commands) number read.0.section)

-- so it stands after one record more
pub next_stands : ApplyStays → WithinStays → (profile : Profile) (demo : List ℕ) (played : Played) (stepped : Stepped) → step demo played ≡ Ok (Some stepped) → Stands profile demo played
    → Stands profile demo stepped.played × IsAfter played 1 stepped.played
next_stands stays within profile demo played stepped is stands =
    let was = was_played demo played stepped is in
    let there = was_record (drop played.at demo) played.at played.last was.number was.size was.next was.found in
    let message : List ℕ = message_of demo played was.size in
    let applied : apply_at played.state was.number message ≡ Ok was.applied = map_err_ok (NoMessage played.at) (apply_at played.state was.number message) was.applied was.applied_is in
    let leaves = message_leaves played.state was.number message was.applied applied in
    let grows : most_entities * played.records + most_entities ≡ most_entities * (played.records + 1) = omega arith in
    let below = there.below in
    let whole = there.there in
    let next = there.next_is in
    let has = stands.place in
    let next_within : IsWithin (most_entities * (played.records + 1)) was.applied.state =
    subst (λ (most : ℕ). IsWithin most was.applied.state) grows
    (subst (λ (r : Result Application Illegible). IsWithin (most_entities * played.records + most_entities) (state_after_message played.state r)) applied
    (within.apply played.state (most_entities * played.records) was.number message (omega arith) stands.applied stands.within)) in
    subst (λ (s : Stepped). Stands profile demo s.played × IsAfter played 1 s.played) was.stepped_is (
      record {
        applied = subst (λ (r : Result Application Illegible). IsApplied (state_after_message played.state r)) applied (stays.apply played.state was.number message (omega arith) stands.applied);
        within = next_within;
        by = leaves.0 ∙ stands.by;
        number = leaves.1;
        place = omega (arith, length-drop played.at demo);
      },
      record { records = refl; place = omega arith },
    )

-- ---- records in a row

-- the records that follow on what was played, one on the other
abbrev pub Follow : List ℕ → Played → List Stepped → Type 0
Follow demo played [] = Unit {0}
Follow demo played (stepped ∷ records) = (step demo played ≡ Ok (Some stepped)) × Follow demo stepped.played records

-- a step's record, and those that follow on it
follow_step : (demo : List ℕ) (played : Played) (next : Result (Option Stepped) DemoError) (records : Played → List Stepped) → step demo played ≡ next
    → ((after : Played) → Follow demo after (records after)) → Follow demo played (next_records next records)
follow_step demo played (Ok None) records is follow = tt
follow_step demo played (Ok (Some stepped)) records is follow = (is, follow stepped.played)
follow_step demo played (Err e) records is follow = tt

-- those that are played do
pub follow_from : (left : ℕ) (demo : List ℕ) (played : Played) → Follow demo played (records_from left demo played)
unfolding records_from
follow_from zero demo played = tt
follow_from (suc left) demo played = follow_step demo played (step demo played) (records_from left demo) refl (follow_from left demo)

-- a step gives one record more at most
few_step : (left : ℕ) (next : Result (Option Stepped) DemoError) (records : Played → List Stepped) → ((after : Played) → length (records after) ≤ left)
    → length (next_records next records) ≤ suc left
few_step left (Ok None) records few = omega arith
few_step left (Ok (Some stepped)) records few = let rest = few stepped.played in omega arith
few_step left (Err e) records few = omega arith

-- and they are no more than may be played
pub few_from : (left : ℕ) (demo : List ℕ) (played : Played) → length (records_from left demo played) ≤ left
unfolding records_from
few_from zero demo played = omega arith
few_from (suc left) demo played = few_step left (step demo played) (records_from left demo) (few_from left demo)

-- what stands after so many of them
pub record StandsAfter (profile : Profile) (demo : List ℕ) (played : Played) (count : ℕ) (next : Played) (rest : List Stepped) : Type 0 where
  pub stands : Stands profile demo next
  pub after : IsAfter played count next
  pub follow : Follow demo next rest

-- after so many it stands again
pub some_stand : ApplyStays → WithinStays → (profile : Profile) (demo : List ℕ) (played : Played) (count : ℕ) (records : List Stepped) → count ≤ length records
    → Follow demo played records → Stands profile demo played → StandsAfter profile demo played count (last_of played (take count records)) (drop count records)
unfolding last_of
some_stand stays within profile demo played zero records some follow stands =
    record { stands = stands; after = record { records = omega arith; place = omega arith }; follow = follow }
some_stand stays within profile demo played (suc count) [] some follow stands = absurd (omega arith)
some_stand stays within profile demo played (suc count) (stepped ∷ records) some follow stands =
    let one = next_stands stays within profile demo played stepped follow.0 stands in
    let more = some_stand stays within profile demo stepped.played count records (omega arith) follow.1 one.0 in
    let first = one.1.records in
    let there = one.1.place in
    let others = more.after.records in
    let place = more.after.place in
    record { stands = more.stands; after = record { records = omega arith; place = omega arith }; follow = more.follow }

-- what records leave, and others after them
last_after : (played : Played) (front rest : List Stepped) → last_of played (front ++ rest) ≡ last_of (last_of played front) rest
unfolding last_of
last_after played [] rest = refl
last_after played (stepped ∷ front) rest = last_after stepped.played front rest

-- what so many of them leave, and so many more
pub last_more : (played : Played) (count more : ℕ) (records : List Stepped)
    → last_of played (take (count + more) records) ≡ last_of (last_of played (take count records)) (take more (drop count records))
last_more played count more records = ap (last_of played) (take-add count more records) ∙ last_after played (take count records) (take more (drop count records))

-- ---- so many at once

-- so many records, and so many more, are played at once
pub play_more : (count more all : ℕ) (demo : List ℕ) (played next : Played) → all ≡ count + more → play_first count demo played ≡ Ok next → play_first all demo played ≡ play_first more demo next
unfolding play_first
play_more zero more all demo played next is first =
    let here : played ≡ next = cc in
    let same : all ≡ more = omega arith in
    rw (here, same) refl
play_more (suc count) more zero demo played next is first = absurd (omega arith)
play_more (suc count) more (suc all) demo played next is first =
    let one = bind_ok (step demo played) (λ (stepped : Option Stepped). go_on played stepped >>= play_first count demo) next first in
    let two = bind_ok (go_on played one.0) (play_first count demo) next one.2 in
    let rest = play_more count more all demo two.0 next (omega arith) two.2 in
    rw (one.1, two.1) rest
