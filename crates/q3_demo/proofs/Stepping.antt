-- The records that are played, one by one: what is told of them, and what the first of them leave.
use Rattle.std.proofs.Common.{◌≡◌, ℕ, zero, suc, ◌+◌, ◌<◌, ◌≤◌, List, [], ◌∷◌, ◌++◌, length, map, take, Option, Some, None, Result, Ok, Err, refl, sym, ap, ◌∙◌, arith}
use Rattle.q3_bits.specs.ResultBind.{◌>>=◌}
use Rattle.q3_demo.specs.declared.error.DemoError.{DemoError}
use Rattle.q3_demo.specs.declared.record.Piece.{Piece}
use Rattle.q3_demo.specs.declared.record.Piece.TheVariants as piece
use Rattle.q3_demo.specs.Playing.{Played, Stepped, Play, unplayed, next_piece, step, most_records, at_most, play_step, play_from, next_records, records_from, last_of, go_on, play_first}
use Rattle.q3_demo.specs.Laws.{end_texts, PlayingTellsRecords, no_more, FirstRecordsLeave}
use Rattle.q3_demo.proofs.Going.{was_played}

-- ---- what is told

texts_of : List Stepped → List (List ℕ)
texts_of records = map (λ (stepped : Stepped). stepped.text) records

-- a play tells these records, and what they left
Tells : Play → List Stepped → Played → Type 0
Tells play records played = play.texts ≡ texts_of records ++ end_texts (last_of played records) play.ending

limit_tells : (played : Played) (found : Result Piece DemoError) → Tells (at_most played found) [] played
unfolding Tells texts_of last_of
limit_tells played (Ok piece.End) = refl
limit_tells played (Ok (piece.Message number size next)) = refl
limit_tells played (Err e) = refl

step_tells : (played : Played) (step : Result (Option Stepped) DemoError) (others : Played → Play) (records : Played → List Stepped)
    → ((after : Played) → Tells (others after) (records after) after) → Tells (play_step played step others) (next_records step records) played
unfolding Tells texts_of last_of
step_tells played (Ok None) others records tells = refl
step_tells played (Ok (Some stepped)) others records tells = ap (λ (texts : List (List ℕ)). stepped.text ∷ texts) (tells stepped.played)
step_tells played (Err e) others records tells = refl

tells_from : (left : ℕ) (demo : List ℕ) (played : Played) → Tells (play_from left demo played) (records_from left demo played) played
unfolding play_from records_from
tells_from zero demo played = limit_tells played (next_piece demo played)
tells_from (suc left) demo played = step_tells played (step demo played) (play_from left demo) (records_from left demo) (tells_from left demo)

-- ---- how many they are

one_more : (demo : List ℕ) (played : Played) (stepped : Stepped) → step demo played ≡ Ok (Some stepped) → stepped.played.records ≡ played.records + 1
one_more demo played stepped is =
    let was = was_played demo played stepped is in
    sym (ap (λ (s : Stepped). s.played.records) was.stepped_is)

step_counts : (played : Played) (step : Result (Option Stepped) DemoError) (records : Played → List Stepped)
    → ((stepped : Stepped) → step ≡ Ok (Some stepped) → (last_of stepped.played (records stepped.played)).records ≡ played.records + 1 + length (records stepped.played))
    → (last_of played (next_records step records)).records ≡ played.records + length (next_records step records)
unfolding last_of
step_counts played (Ok None) records after = omega arith
step_counts played (Ok (Some stepped)) records after = after stepped refl ∙ omega arith
step_counts played (Err e) records after = omega arith

counts_from : (left : ℕ) (demo : List ℕ) (played : Played) → (last_of played (records_from left demo played)).records ≡ played.records + length (records_from left demo played)
unfolding records_from last_of
counts_from zero demo played = omega arith
counts_from (suc left) demo played =
    step_counts played (step demo played) (records_from left demo)
    (λ stepped is. counts_from left demo stepped.played ∙ ap (λ (n : ℕ). n + length (records_from left demo stepped.played)) (one_more demo played stepped is))

pub tells_records : PlayingTellsRecords
unfolding Tells texts_of
tells_records = record {
  texts = λ profile demo. tells_from most_records demo (unplayed profile);
  count = λ profile demo. counts_from most_records demo (unplayed profile) ∙ omega arith;
}

-- ---- what the first of them leave

step_leaves : (played : Played) (step : Result (Option Stepped) DemoError) (count : ℕ) (records : Played → List Stepped) (first : Played → Result Played DemoError)
    → ((after : Played) → count ≤ length (records after) → first after ≡ Ok (last_of after (take count (records after))))
    → suc count ≤ length (next_records step records) → (step >>= λ (next : Option Stepped). go_on played next >>= first) ≡ Ok (last_of played (take (suc count) (next_records step records)))
unfolding last_of
step_leaves played (Ok None) count records first leaves some = absurd (omega (arith, some))
step_leaves played (Ok (Some stepped)) count records first leaves some = leaves stepped.played (omega (arith, some))
step_leaves played (Err e) count records first leaves some = absurd (omega (arith, some))

leaves_from : (left count : ℕ) (demo : List ℕ) (played : Played) → count ≤ length (records_from left demo played)
    → play_first count demo played ≡ Ok (last_of played (take count (records_from left demo played)))
unfolding play_first records_from last_of
leaves_from left zero demo played some = refl
leaves_from zero (suc count) demo played some = absurd (omega (arith, some))
leaves_from (suc left) (suc count) demo played some =
    step_leaves played (step demo played) count (records_from left demo) (play_first count demo) (leaves_from left count demo) some

-- ---- where they are fewer

step_refuses : (played : Played) (step : Result (Option Stepped) DemoError) (count : ℕ) (records : Played → List Stepped) (others : Played → Play) (first : Played → Result Played DemoError)
    → ((after : Played) → length (records after) < count → first after ≡ Err (no_more (last_of after (records after)) (others after).ending))
    → length (next_records step records) < suc count
    → (step >>= λ (next : Option Stepped). go_on played next >>= first) ≡ Err (no_more (last_of played (next_records step records)) (play_step played step others).ending)
unfolding last_of
step_refuses played (Ok None) count records others first refuses few = refl
step_refuses played (Ok (Some stepped)) count records others first refuses few = refuses stepped.played (omega (arith, few))
step_refuses played (Err e) count records others first refuses few = refl

refuses_from : (left count : ℕ) (demo : List ℕ) (played : Played) → length (records_from left demo played) < count → count ≤ left
    → play_first count demo played ≡ Err (no_more (last_of played (records_from left demo played)) (play_from left demo played).ending)
unfolding play_first play_from records_from
refuses_from left zero demo played few within = absurd (omega (arith, few))
refuses_from zero (suc count) demo played few within = absurd (omega (arith, within))
refuses_from (suc left) (suc count) demo played few within =
    step_refuses played (step demo played) count (records_from left demo) (play_from left demo) (play_first count demo)
    (λ after less. refuses_from left count demo after less (omega (arith, within))) few

pub first_leave : FirstRecordsLeave
first_leave = record {
  first = λ profile demo count some. leaves_from most_records count demo (unplayed profile) some;
  beyond = λ profile demo count few within. refuses_from most_records count demo (unplayed profile) few within;
}
