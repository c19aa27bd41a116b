-- The index of a demo opens, and what is sought in it is what playing leaves.
use Rattle.std.proofs.Common.{◌≡◌, ℕ, ◌+◌, ◌-◌, ◌*◌, ◌/◌, ◌^◌, ◌<◌, ◌≤◌, List, [], ◌++◌, length, take, drop, Ok, inl, inr, refl, sym, ap, subst, ◌∙◌, arith}
use Rattle.std.specs.List.{flat_map}
use Rattle.std.proofs.lemmas.Bool.{cases_lt, eq-eqb, lt-ltb, le-ltb}
use Rattle.std.proofs.lemmas.List.{append-nil}
use Rattle.q3_bits.specs.ResultBind.{fault_as}
use Rattle.q3_bits.proofs.Binds.{bind_ok, bind_is}
use Rattle.q3_profile.specs.declared.profile.Profile.{Profile}
use Rattle.q3_profile.specs.Profile.{IsCodec}
use Rattle.q3_entity.specs.Entities.{most_entities}
use Rattle.q3_savestate.specs.State.{state_bytes, state_at}
use Rattle.q3_savestate.specs.Applied.{saved_in, applied_by}
use Rattle.q3_clstate.specs.Laws.{ApplyStays, WithinStays}
use Rattle.q3_savestate.specs.Laws.{WrittenStateIsRead}
use Rattle.q3_demo.specs.Playing.{Played, Stepped, unplayed, most_records, play_of, records_of, last_of, play_first}
use Rattle.q3_demo.specs.Laws.{FirstRecordsLeave}
use Rattle.q3_index.specs.declared.index.Checkpoint.{Checkpoint}
use Rattle.q3_index.specs.declared.error.IndexError.TheVariants.{NotIndex}
use Rattle.q3_index.specs.declared.error.SeekError.{SeekError}
use Rattle.q3_index.specs.declared.error.SeekError.TheVariants as seeking
use Rattle.q3_index.specs.declared.opening.Version.{Version}
use Rattle.q3_index.specs.Text.{spacing, Tells, head_bytes, checkpoint_bytes, text_by, index_by, state_of}
use Rattle.q3_index.specs.Opening.{Heads, checkpoints_at, heads_at, matching, open_at}
use Rattle.q3_index.specs.Seeking.{restored, restored_if, start_at, seek_at, played_after}
use Rattle.q3_index.specs.Steps.{head_size}
use Rattle.q3_index.specs.Laws.{IndexOpens, SeekingIsPlaying, SeekingGoesOn}
use Rattle.q3_index.proofs.Standing.{Stands, none_stands, follow_from, few_from, some_stand, play_more}
use Rattle.q3_index.proofs.Points.{points_of, length-points_of, point_at, checkpoints_are, ArePoints, are_points}
use Rattle.q3_index.proofs.HeadsBack.{places_of, checkpoints_back, length-head_bytes, heads_back, point_back}

-- ---- opening

-- what stands after every 256th record of a demo
abbrev points_in : Profile → List ℕ → List Played
points_in profile demo = points_of spacing (length (records_of profile demo) / spacing) (unplayed profile) (records_of profile demo)

-- what the heads of its index say
abbrev heads_of : Version → Profile → List ℕ → Heads
heads_of version profile demo = record {
  length = length demo;
  mark = profile.mark;
  width = profile.entity.number_bits;
  records = length (records_of profile demo);
  checkpoints = places_of profile (head_size version) (points_in profile demo);
}

-- its head
abbrev head_of : Version → Profile → List ℕ → List ℕ
head_of version profile demo = head_bytes version (length demo) profile.mark profile.entity.number_bits (length (records_of profile demo))

-- the text of an index, as what stands after every 256th record
text_is : ApplyStays → WithinStays → (version : Version) (profile : Profile) (demo index : List ℕ) → IsCodec profile → 512 ≤ profile.parse_ring → index_by version profile demo ≡ Ok index
    → index ≡ head_of version profile demo ++ flat_map (checkpoint_bytes profile) (points_in profile demo)
text_is stays within version profile demo index codec room is =
    let made = bind_ok (play_of profile demo).ending (λ none. Ok (text_by version profile demo)) index is in
    let text : text_by version profile demo ≡ index = let e = made.2 in cc in
    let points = checkpoints_are stays within profile (length (records_of profile demo) / spacing) spacing demo (unplayed profile) (records_of profile demo) refl
    (follow_from most_records demo (unplayed profile)) (none_stands stays within profile demo codec room) refl refl in
    sym text ∙ ap (λ (points : List Played). head_of version profile demo ++ flat_map (checkpoint_bytes profile) points) points

-- its heads are read
heads_are : ApplyStays → WithinStays → (version : Version) (profile : Profile) (demo index : List ℕ) → Tells version profile.entity.number_bits → IsCodec profile → 512 ≤ profile.parse_ring → profile.mark < 18446744073709551616
    → length demo < 18446744073709551616 → index_by version profile demo ≡ Ok index → heads_at index ≡ Ok (heads_of version profile demo)
heads_are stays within version profile demo index tells codec room mark long is =
    let records : List Stepped = records_of profile demo in
    let left : ℕ = length records / spacing in
    let points : List Played = points_in profile demo in
    let text : List ℕ = flat_map (checkpoint_bytes profile) points in
    let few : length records ≤ most_records = few_from most_records demo (unplayed profile) in
    let are : ArePoints profile spacing 0 (length demo) points =
    are_points stays within profile left spacing 0 demo (unplayed profile) records refl (follow_from most_records demo (unplayed profile))
    (none_stands stays within profile demo codec room) (omega arith) (omega arith) (omega arith) in
    let back = checkpoints_back profile points spacing 0 (length demo) (head_size version) [] (omega arith) are in
    let read : checkpoints_at left spacing 0 (length demo) (record { at = head_size version; bytes = text }) ≡ Ok (places_of profile (head_size version) points, record { at = back.0; bytes = [] }) =
    ap (λ n. checkpoints_at n spacing 0 (length demo) (record { at = head_size version; bytes = text })) (sym (length-points_of spacing left (unplayed profile) records))
    ∙ ap (λ (bytes : List ℕ). checkpoints_at (length points) spacing 0 (length demo) (record { at = head_size version; bytes = bytes })) (sym (append-nil text)) ∙ back.1 in
    ap heads_at (text_is stays within version profile demo index codec room is)
    ∙ heads_back version (length demo) profile.mark profile.entity.number_bits (length records) back.0 text (places_of profile (head_size version) points) tells codec.numbers (omega arith) (omega arith) (omega arith) read

-- and they match
opened : ApplyStays → WithinStays → (version : Version) (profile : Profile) (demo index : List ℕ) → Tells version profile.entity.number_bits → IsCodec profile → 512 ≤ profile.parse_ring → profile.mark < 18446744073709551616
    → length demo < 18446744073709551616 → index_by version profile demo ≡ Ok index → open_at (length demo) profile.mark profile.entity.number_bits index ≡ Ok (heads_of version profile demo)
opened stays within version profile demo index tells codec room mark long is =
    bind_is (fault_as NotIndex (heads_at index)) (matching (length demo) profile.mark profile.entity.number_bits) (heads_of version profile demo) (Ok (heads_of version profile demo))
    (ap (fault_as NotIndex) (heads_are stays within version profile demo index tells codec room mark long is))
    (rw (eq-eqb (length demo) (length demo) refl, eq-eqb profile.mark profile.mark refl, eq-eqb profile.entity.number_bits profile.entity.number_bits refl) refl)

-- the law on opening
pub index_opens : ApplyStays → WithinStays → IndexOpens
index_opens stays within version profile demo index tells codec room mark long is = (heads_of version profile demo, opened stays within version profile demo index tells codec room mark long is, refl)

-- ---- seeking

-- a state that is read again, with how many records and the place that a checkpoint tells, is what was played
same_played : (profile : Profile) (played : Played) (records at : ℕ) → played.state.profile ≡ profile → records ≡ played.records → played.state.number ≡ played.last → at ≡ played.at
    → (let again : Played = record { state = applied_by profile (saved_in played.state); records = records; last = played.state.number; at = at } in again ≡ played)
same_played profile played records at by count number place =
    let again : Profile → ℕ → ℕ → ℕ → Played = λ profile records last at. record { state = applied_by profile (saved_in played.state); records = records; last = last; at = at } in
    ap (λ by. again by records played.state.number at) (sym by) ∙ ap (λ n. again played.state.profile n played.state.number at) count
    ∙ ap (λ n. again played.state.profile played.records n at) number ∙ ap (again played.state.profile played.records played.last) place

-- so it is restored from the bytes that were written of it
restores : WrittenStateIsRead → (profile : Profile) (demo index : List ℕ) (records : ℕ) (checkpoint : Checkpoint) (played : Played) → Stands profile demo played → records ≡ played.records
    → most_entities * played.records < 2 ^ 32 → checkpoint.place ≡ played.at → take checkpoint.length (drop checkpoint.state index) ≡ state_of profile played
    → restored profile index records checkpoint ≡ Ok played
restores written profile demo index records checkpoint played stands count few place there =
    let bytes : List ℕ = take checkpoint.length (drop checkpoint.state index) in
    let fault : ℕ → SeekError = λ place. seeking.NotIndex (checkpoint.state + place) in
    let back : state_at profile (state_of profile played) ≡ Ok (saved_in played.state) =
    subst (λ (by : Profile). state_at by (state_bytes by (saved_in played.state)) ≡ Ok (saved_in played.state)) stands.by
    (written played.state (most_entities * played.records) few stands.applied stands.within) in
    let read : state_at profile bytes ≡ Ok (saved_in played.state) = ap (state_at profile) there ∙ back in
    bind_is _ _ (saved_in played.state) _ (ap (fault_as fault) read) (ap (λ (again : Played). Ok again) (same_played profile played records checkpoint.place stands.by count stands.number place))

-- where to begin
record Begins (version : Version) (profile : Profile) (demo index : List ℕ) (number : ℕ) : Type 0 where
  start : Played
  there : start ≡ played_after profile demo (spacing * (number / spacing))
  begins : start_at profile index (heads_of version profile demo).checkpoints number ≡ Ok start
  goes_on : play_first number demo (unplayed profile) ≡ play_first (number - start.records) demo start

-- with no record played
begins_new : (version : Version) (profile : Profile) (demo index : List ℕ) (number : ℕ) → number < spacing → Begins version profile demo index number
unfolding last_of
begins_new version profile demo index number few =
    let all : number ≡ number - 0 = omega arith in
    let none : 0 ≡ spacing * (number / spacing) = omega arith in
    record {
      start = unplayed profile;
      there = ap (played_after profile demo) none;
      begins = rw (lt-ltb number spacing few) refl;
      goes_on = ap (λ n. play_first n demo (unplayed profile)) all;
    }

-- or after a checkpoint
begins_after : FirstRecordsLeave → WrittenStateIsRead → ApplyStays → WithinStays → (version : Version) (profile : Profile) (demo index : List ℕ) (number : ℕ) → IsCodec profile → 512 ≤ profile.parse_ring
    → index_by version profile demo ≡ Ok index → number ≤ length (records_of profile demo) → spacing ≤ number → Begins version profile demo index number
begins_after first written stays within version profile demo index number codec room is some above =
    let records : List Stepped = records_of profile demo in
    let left : ℕ = length records / spacing in
    let i : ℕ = number / spacing - 1 in
    let count : ℕ = spacing * (i + 1) in
    let start : Played = last_of (unplayed profile) (take count records) in
    let few : length records ≤ most_records = few_from most_records demo (unplayed profile) in
    let more = some_stand stays within profile demo (unplayed profile) count records (omega arith) (follow_from most_records demo (unplayed profile)) (none_stands stays within profile demo codec room) in
    let further = more.after.records in
    let point = point_at spacing left (unplayed profile) records i (omega arith) in
    let there = point_back profile (points_in profile demo) i (head_size version) (head_of version profile demo) index start
    (length-head_bytes version (length demo) profile.mark profile.entity.number_bits (length records)) (text_is stays within version profile demo index codec room is) point in
    let restores_it = restores written profile demo index (spacing * (number / spacing)) there.checkpoint start more.stands (omega arith) (omega arith) there.place there.state in
    let same : count ≡ spacing * (number / spacing) = omega arith in
    record {
      start = start;
      there = ap (played_after profile demo) same;
      begins = rw (le-ltb number spacing above) (ap (restored_if profile index (spacing * (number / spacing))) there.found ∙ restores_it);
      goes_on = play_more count (number - start.records) number demo (unplayed profile) start (omega arith) (first.first profile demo count (omega arith));
    }

-- either way
begins : FirstRecordsLeave → WrittenStateIsRead → ApplyStays → WithinStays → (version : Version) (profile : Profile) (demo index : List ℕ) (number : ℕ) → IsCodec profile → 512 ≤ profile.parse_ring
    → index_by version profile demo ≡ Ok index → number ≤ length (records_of profile demo) → Begins version profile demo index number
begins first written stays within version profile demo index number codec room is some = elim (cases_lt number spacing) [
  | inl few ↦ begins_new version profile demo index number few
  | inr above ↦ begins_after first written stays within version profile demo index number codec room is some above
]

-- what is sought
sought : FirstRecordsLeave → WrittenStateIsRead → ApplyStays → WithinStays → (version : Version) (profile : Profile) (demo index : List ℕ) (number : ℕ) (played : Played) → IsCodec profile → 512 ≤ profile.parse_ring
    → index_by version profile demo ≡ Ok index → number ≤ length (records_of profile demo) → play_first number demo (unplayed profile) ≡ Ok played
    → seek_at profile demo index (heads_of version profile demo).records (heads_of version profile demo).checkpoints number ≡ Ok played
unfolding seek_at
sought first written stays within version profile demo index number played codec room is some plays =
    let from = begins first written stays within version profile demo index number codec room is some in
    rw (le-ltb (length (records_of profile demo)) number some)
    (bind_is _ _ from.start _ from.begins (ap (fault_as seeking.Demo) (sym from.goes_on ∙ plays)))

-- the law on seeking
pub seeking_is_playing : FirstRecordsLeave → WrittenStateIsRead → ApplyStays → WithinStays → SeekingIsPlaying
seeking_is_playing first written stays within version profile demo index heads number tells codec room mark long is opens some =
    let played : Played = last_of (unplayed profile) (take number (records_of profile demo)) in
    let plays = first.first profile demo number some in
    let same : heads_of version profile demo ≡ heads = let e = sym (opened stays within version profile demo index tells codec room mark long is) ∙ opens in cc in (
      played,
      plays,
      subst (λ (heads : Heads). seek_at profile demo index heads.records heads.checkpoints number ≡ Ok played) same
          (sought first written stays within version profile demo index number played codec room is some plays),
    )

-- the law on where it begins
pub seeking_goes_on : FirstRecordsLeave → WrittenStateIsRead → ApplyStays → WithinStays → SeekingGoesOn
seeking_goes_on first written stays within version profile demo index heads number tells codec room mark long is opens some =
    let start : Played = played_after profile demo (spacing * (number / spacing)) in
    let last : Played = played_after profile demo number in
    let from = begins first written stays within version profile demo index number codec room is some in
    let same : heads_of version profile demo ≡ heads = let e = sym (opened stays within version profile demo index tells codec room mark long is) ∙ opens in cc in
    subst (λ (heads : Heads). (start_at profile index heads.checkpoints number ≡ Ok start) × (seek_at profile demo index heads.records heads.checkpoints number ≡ Ok last)) same (
      subst (λ (played : Played). start_at profile index (heads_of version profile demo).checkpoints number ≡ Ok played) from.there from.begins,
      sought first written stays within version profile demo index number last codec room is some (first.first profile demo number some),
    )
