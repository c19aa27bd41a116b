-- The checkpoints of a demo: what each of its 256 records more left.
use Rattle.std.proofs.Common.{◌≡◌, ℕ, zero, suc, ◌+◌, ◌*◌, ◌/◌, ◌%◌, ◌^◌, ◌<◌, ◌≤◌, List, [], ◌∷◌, length, take, drop, Some, Ok, refl, sym, ap, subst, ◌∙◌, arith}
use Rattle.std.specs.List.{slice_get}
use Rattle.std.proofs.Math.Nat.{mul-suc}
use Rattle.std.proofs.lemmas.Bool.{eq-eqb, ne_eqb}
use Rattle.std.proofs.lemmas.List.{length-drop}
use Rattle.q3_profile.specs.declared.profile.Profile.{Profile}
use Rattle.q3_savestate.specs.State.{state_bytes}
use Rattle.q3_savestate.specs.Applied.{saved_in}
use Rattle.q3_clstate.specs.Laws.{ApplyStays, WithinStays}
use Rattle.q3_demo.specs.Playing.{Played, Stepped, step, last_of, most_records}
use Rattle.q3_demo.proofs.Going.{was_played}
use Rattle.q3_index.specs.Text.{spacing, state_of, checkpoints}
use Rattle.q3_index.proofs.Standing.{Stands, Follow, some_stand, last_more}
use Rattle.q3_index.proofs.ShortStates.{state_is_short}

-- ---- every 256th record

-- a record is one more
counts : (demo : List ℕ) (played : Played) (stepped : Stepped) → step demo played ≡ Ok (Some stepped) → stepped.played.records ≡ played.records + 1
counts demo played stepped is = sym (ap (λ (s : Stepped). s.played.records) (was_played demo played stepped is).stepped_is)

-- a record that isn't a 256th is passed over
pub passed : (records : List Stepped) (stepped : Stepped) → (stepped.played.records % 256 ≡ 0 → ⊥) → checkpoints (stepped ∷ records) ≡ checkpoints records
passed records stepped other = rw (ne_eqb (stepped.played.records % 256) 0 other) refl

-- and one that is, is kept
pub kept : (records : List Stepped) (stepped : Stepped) → stepped.played.records % 256 ≡ 0 → checkpoints (stepped ∷ records) ≡ stepped.played ∷ checkpoints records
kept records stepped is = rw (eq-eqb (stepped.played.records % 256) 0 is) refl

-- there is none before the next 256th
pub none_before : (gap : ℕ) (demo : List ℕ) (played : Played) (records : List Stepped) → Follow demo played records → (played.records + gap + 1) % 256 ≡ 0 → gap < 256 → length records ≤ gap
    → checkpoints records ≡ []
none_before gap demo played [] follow next short few = refl
none_before zero demo played (stepped ∷ records) follow next short few = absurd (omega arith)
none_before (suc gap) demo played (stepped ∷ records) follow next short few =
    let one = counts demo played stepped follow.0 in
    passed records stepped (λ is. omega arith) ∙ none_before gap demo stepped.played records follow.1 (ap (λ n. (n + gap + 1) % 256) one ∙ omega arith) (omega arith) (omega arith)

-- and then it, and those after it
next_after : (gap : ℕ) (demo : List ℕ) (played : Played) (records : List Stepped) → Follow demo played records → (played.records + gap + 1) % 256 ≡ 0 → gap < 256 → gap < length records
    → checkpoints records ≡ last_of played (take (suc gap) records) ∷ checkpoints (drop (suc gap) records)
unfolding last_of
next_after gap demo played [] follow next short some = absurd (omega arith)
next_after zero demo played (stepped ∷ records) follow next short some =
    let one = counts demo played stepped follow.0 in
    kept records stepped (omega arith)
next_after (suc gap) demo played (stepped ∷ records) follow next short some =
    let one = counts demo played stepped follow.0 in
    passed records stepped (λ is. omega arith) ∙ next_after gap demo stepped.played records follow.1 (ap (λ n. (n + gap + 1) % 256) one ∙ omega arith) (omega arith) (omega arith)

-- ---- as a list

-- what every so many records more left
abbrev pub points_of : ℕ → ℕ → Played → List Stepped → List Played
points_of size zero played records = []
points_of size (suc left) played records = last_of played (take size records) ∷ points_of size left (last_of played (take size records)) (drop size records)

-- as many as were asked for
pub length-points_of : (size left : ℕ) (played : Played) (records : List Stepped) → length (points_of size left played records) ≡ left
length-points_of size zero played records = refl
length-points_of size (suc left) played records = ap suc (length-points_of size left (last_of played (take size records)) (drop size records))

-- each stands after so many records
pub point_at : (size left : ℕ) (played : Played) (records : List Stepped) (i : ℕ) → i < left
    → slice_get (points_of size left played records) i ≡ Some (last_of played (take (size * (i + 1)) records))
point_at size zero played records i within = absurd (omega arith)
point_at size (suc left) played records zero within =
    let same : size ≡ size * (0 + 1) = omega arith in
    ap (λ n. Some (last_of played (take n records))) same
point_at size (suc left) played records (suc i) within =
    let next : Played = last_of played (take size records) in
    let same : size + size * (i + 1) ≡ size * (suc i + 1) = omega (arith, mul-suc size (i + 1)) in
    point_at size left next (drop size records) i (omega arith)
    ∙ ap (λ played. Some played) (sym (last_more played size (size * (i + 1)) records) ∙ ap (λ n. last_of played (take n records)) same)

-- those of a demo, from a 256th record on
pub checkpoints_are : (stays : ApplyStays) (within : WithinStays) (profile : Profile) (left size : ℕ) (demo : List ℕ) (played : Played) (records : List Stepped) → size ≡ spacing → Follow demo played records → Stands profile demo played
    → played.records % 256 ≡ 0 → left ≡ length records / 256 → checkpoints records ≡ points_of size left played records
checkpoints_are stays within profile zero size demo played records wide follow stands here few =
    none_before 255 demo played records follow (omega arith) (omega arith) (omega arith)
checkpoints_are stays within profile (suc left) size demo played records wide follow stands here few =
    let next : Played = last_of played (take size records) in
    let more = some_stand stays within profile demo played size records (omega arith) follow stands in
    let after = more.after.records in
    let first : checkpoints records ≡ next ∷ checkpoints (drop size records) =
    subst (λ n. checkpoints records ≡ last_of played (take n records) ∷ checkpoints (drop n records)) (sym wide)
    (next_after 255 demo played records follow (omega arith) (omega arith) (omega arith)) in
    first ∙ ap (λ others. next ∷ others)
    (checkpoints_are stays within profile left size demo next (drop size records) wide more.follow more.stands (omega arith) (omega (arith, length-drop size records)))

-- ---- what an index says of them

-- one after so many records, the place of the next of which is in a range
pub record IsPoint (profile : Profile) (number least most : ℕ) (played : Played) : Type 0 where
  pub records : played.records ≡ number
  pub fits : number < 2 ^ 32
  pub above : least ≤ played.at
  pub below : played.at ≤ most
  pub short : length (state_of profile played) < 2 ^ 32

-- such ones, one after the other
abbrev pub ArePoints : Profile → ℕ → ℕ → ℕ → List Played → Type 0
ArePoints profile number least most [] = Unit {0}
ArePoints profile number least most (played ∷ others) = IsPoint profile number least most played × ArePoints profile (number + spacing) (played.at + 1) most others

-- what stands after every 256th record is so
pub are_points : (stays : ApplyStays) (within : WithinStays) (profile : Profile) (left size least : ℕ) (demo : List ℕ) (played : Played) (records : List Stepped) → size ≡ spacing → Follow demo played records
    → Stands profile demo played → size * left ≤ length records → played.records + length records ≤ most_records → least ≤ played.at + 1
    → ArePoints profile (played.records + spacing) least (length demo) (points_of size left played records)
are_points stays within profile zero size least demo played records wide follow stands some few above = tt
are_points stays within profile (suc left) size least demo played records wide follow stands some few above =
    let next : Played = last_of played (take size records) in
    let grows : size * suc left ≡ size * left + size = mul-suc size left in
    let more = some_stand stays within profile demo played size records (omega arith) follow stands in
    let after = more.after.records in
    let place = more.after.place in
    let there = more.stands.place in
    let number : next.records ≡ played.records + spacing = omega arith in
    let others = are_points stays within profile left size (next.at + 1) demo next (drop size records) wide more.follow more.stands
    (omega (arith, length-drop size records)) (omega (arith, length-drop size records)) (omega arith) in (
      record {
        records = number;
        fits = omega arith;
        above = omega arith;
        below = there;
        short = subst (λ (by : Profile). length (state_bytes by (saved_in next.state)) < 2 ^ 32) more.stands.by (state_is_short next.state more.stands.applied);
      },
      subst (λ n. ArePoints profile (n + spacing) (next.at + 1) (length demo) (points_of size left next (drop size records))) number others,
    )
