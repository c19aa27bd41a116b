-- Of a front of a demo the first of its records are played.
use Rattle.std.proofs.Common.{◌≡◌, ℕ, zero, suc, ◌+◌, ◌<◌, ◌≤◌, List, [], ◌∷◌, ◌++◌, length, take, drop, Option, Some, None, Result, Ok, Err, refl, sym, ap, subst, ◌∙◌, inl, inr, arith}
use Rattle.std.specs.Prelude.{◌⊎◌}
use Rattle.std.proofs.lemmas.List.{drop-append-le, take-append-le, length-drop}
use Rattle.q3_bits.specs.ResultBind.{◌>>=◌, fault_as}
use Rattle.q3_bits.proofs.Binds.{bind_is, bind_same}
use Rattle.q3_clstate.specs.State.{Application, apply_at}
use Rattle.q3_demo.specs.declared.error.DemoError.{DemoError}
use Rattle.q3_demo.specs.declared.error.DemoError.TheVariants.{Truncated, Message as NoMessage}
use Rattle.q3_demo.specs.declared.record.Piece.{Piece}
use Rattle.q3_demo.specs.declared.record.Piece.TheVariants as piece
use Rattle.q3_demo.specs.Records.{head_bytes, length_of, piece_of}
use Rattle.q3_demo.specs.Playing.{Played, Stepped, Play, unplayed, next_piece, message_of, played_on, play_piece, step, most_records, at_most, play_step, play_from, next_records, records_from, last_of}
use Rattle.q3_demo.specs.Laws.{EndsBefore, APrefixPlaysAPrefix}
use Rattle.q3_demo.proofs.Pieces.{was_record, StandsBefore, piece_before}
use Rattle.q3_demo.proofs.Going.{was_played}

-- ---- a step

-- where a record is whole in a front, its message is the same
message_before : (front rest : List ℕ) (played : Played) (number size next : ℕ) → next_piece front played ≡ Ok (piece.Message number size next)
    → message_of front played size ≡ message_of (front ++ rest) played size
message_before front rest played number size next found =
    let there = was_record (drop played.at front) played.at played.last number size next found in
    let place : ℕ = played.at + head_bytes in
    sym (ap (take size) (drop-append-le place front rest (omega (arith, there.there, length-drop played.at front)))
    ∙ take-append-le size (drop place front) rest (omega (arith, there.there, length-drop played.at front, length-drop place front)))

piece_alike : (front rest : List ℕ) (played : Played) (found : Piece) → next_piece front played ≡ Ok found → play_piece front played found ≡ play_piece (front ++ rest) played found
piece_alike front rest played piece.End found = refl
piece_alike front rest played (piece.Message number size next) found =
    let on : Application → Result (Option Stepped) DemoError = λ applied. Ok (Some (played_on played number next applied)) in
    ap (λ (message : List ℕ). fault_as (NoMessage played.at) (apply_at played.state number message) >>= on) (message_before front rest played number size next found)

-- what stands in a front after what was played
next_before : (front rest : List ℕ) (played : Played) → played.at ≤ length front → StandsBefore (drop played.at front) (next_piece front played) (next_piece (front ++ rest) played) played.at
next_before front rest played within =
    let bytes : List ℕ = drop played.at front in
    subst (λ (xs : List ℕ). StandsBefore bytes (piece_of bytes played.at played.last) (piece_of xs played.at played.last) played.at) (sym (drop-append-le played.at front rest within))
    (piece_before bytes rest played.at played.last)

-- in a front the demo ends within a head, or the next record is cut, or the step is that in all of it
StepsBefore : List ℕ → Result (Option Stepped) DemoError → Result (Option Stepped) DemoError → ℕ → Type 0
StepsBefore bytes front whole at =
    ((front ≡ Ok None) × (length bytes < head_bytes))
    ⊎ (((front ≡ Err (Truncated at)) × (head_bytes ≤ length bytes) × (length bytes < head_bytes + length_of bytes)) ⊎ (front ≡ whole))

step_before : (front rest : List ℕ) (played : Played) → played.at ≤ length front → StepsBefore (drop played.at front) (step front played) (step (front ++ rest) played) played.at
unfolding StepsBefore
step_before front rest played within =
    elim (next_before front rest played within) [
      | inl ends ↦ inl (bind_is (next_piece front played) (play_piece front played) piece.End (Ok None) ends.0 refl, ends.1)
      | inr other ↦ elim other [
        | inl cut ↦ inr (inl (ap (λ (found : Result Piece DemoError). found >>= play_piece front played) cut.0, cut.1, cut.2))
        | inr next ↦
            inr (inr (bind_same (next_piece front played) (play_piece front played) (play_piece (front ++ rest) played) (piece_alike front rest played)
            ∙ ap (λ (found : Result Piece DemoError). found >>= play_piece (front ++ rest) played) next))
      ]
    ]

-- a record that was played ends within the demo
place_within : (demo : List ℕ) (played : Played) (stepped : Stepped) → step demo played ≡ Ok (Some stepped) → stepped.played.at ≤ length demo
place_within demo played stepped is =
    let was = was_played demo played stepped is in
    let there = was_record (drop played.at demo) played.at played.last was.number was.size was.next was.found in
    let place : was.next ≡ stepped.played.at = ap (λ (s : Stepped). s.played.at) was.stepped_is in
    omega (arith, there.there, there.next_is, place, length-drop played.at demo)

-- ---- all steps

-- the records of a front and of all of it, and how both plays end
record Fronts (front : List ℕ) (of_front of_whole : List Stepped) (played : Played) (ending whole : Result (Unit {0}) DemoError) : Type 0 where
  more : List Stepped
  records : of_whole ≡ of_front ++ more
  ends : EndsBefore more (drop (last_of played of_front).at front) (last_of played of_front).at ending whole

-- after the last record that may be played
limit_before : (played : Played) (bytes : List ℕ) (found all : Result Piece DemoError) → StandsBefore bytes found all played.at
    → EndsBefore [] bytes played.at (at_most played found).ending (at_most played all).ending
limit_before played bytes found all before =
    elim before [
      | inl ends ↦ inl (ap (λ (f : Result Piece DemoError). (at_most played f).ending) ends.0, ends.1)
      | inr other ↦ elim other [
        | inl cut ↦ inr (inl (ap (λ (f : Result Piece DemoError). (at_most played f).ending) cut.0, cut.1, cut.2))
        | inr same ↦ inr (inr (refl, ap (λ (f : Result Piece DemoError). (at_most played f).ending) same))
      ]
    ]

stops_alike : (e d : DemoError) → (let left : Result (Option Stepped) DemoError = Err e in left ≡ Err d) → (let left : Result (Unit {0}) DemoError = Err e in left ≡ Err d)
stops_alike e d is =
    let same : e ≡ d = cc in
    ap (λ (f : DemoError). Err f) same

fronts_by : (bytes : List ℕ) (step all : Result (Option Stepped) DemoError) (played : Played) (fronts wholes : Played → List Stepped) (front whole : Played → Play)
    → StepsBefore (drop played.at bytes) step all played.at
    → ((stepped : Stepped) → step ≡ Ok (Some stepped) → Fronts bytes (fronts stepped.played) (wholes stepped.played) stepped.played (front stepped.played).ending (whole stepped.played).ending)
    → Fronts bytes (next_records step fronts) (next_records all wholes) played (play_step played step front).ending (play_step played all whole).ending
unfolding last_of StepsBefore
fronts_by bytes (Ok None) all played fronts wholes front whole before after =
    elim before [
      | inl none ↦ record { more = next_records all wholes; records = refl; ends = inl (refl, none.1) }
      | inr other ↦ elim other [
        | inl cut ↦ absurd (let no = cut.0 in cc)
        | inr same ↦
            subst (λ (s : Result (Option Stepped) DemoError). Fronts bytes [] (next_records s wholes) played (Ok tt) (play_step played s whole).ending) same
            (record { more = []; records = refl; ends = inr (inr (refl, refl)) })
      ]
    ]
fronts_by bytes (Ok (Some stepped)) all played fronts wholes front whole before after =
    let was = after stepped refl in
    elim before [
      | inl none ↦ absurd (let no = none.0 in cc)
      | inr other ↦ elim other [
        | inl cut ↦ absurd (let no = cut.0 in cc)
        | inr same ↦
            subst
            (λ (s : Result (Option Stepped) DemoError). Fronts bytes (stepped ∷ fronts stepped.played) (next_records s wholes) played (front stepped.played).ending (play_step played s whole).ending)
            same (record { more = was.more; records = ap (λ (xs : List Stepped). stepped ∷ xs) was.records; ends = was.ends })
      ]
    ]
fronts_by bytes (Err e) all played fronts wholes front whole before after =
    elim before [
      | inl none ↦ absurd (let no = none.0 in cc)
      | inr other ↦ elim other [
        | inl cut ↦ record { more = next_records all wholes; records = refl; ends = inr (inl (stops_alike e (Truncated played.at) cut.0, cut.1, cut.2)) }
        | inr same ↦
            subst (λ (s : Result (Option Stepped) DemoError). Fronts bytes [] (next_records s wholes) played (Err e) (play_step played s whole).ending) same
            (record { more = []; records = refl; ends = inr (inr (refl, refl)) })
      ]
    ]

fronts_from : (left : ℕ) (front rest : List ℕ) (played : Played) → played.at ≤ length front
    → Fronts front (records_from left front played) (records_from left (front ++ rest) played) played (play_from left front played).ending (play_from left (front ++ rest) played).ending
unfolding play_from records_from last_of
fronts_from zero front rest played within =
    record { more = []; records = refl; ends = limit_before played (drop played.at front) (next_piece front played) (next_piece (front ++ rest) played) (next_before front rest played within) }
fronts_from (suc left) front rest played within =
    fronts_by front (step front played) (step (front ++ rest) played) played (records_from left front) (records_from left (front ++ rest)) (play_from left front) (play_from left (front ++ rest))
    (step_before front rest played within) (λ stepped is. fronts_from left front rest stepped.played (place_within front played stepped is))

pub prefix_plays : APrefixPlaysAPrefix
prefix_plays profile front rest =
    let all = fronts_from most_records front rest (unplayed profile) (omega arith) in
    (all.more, all.records, all.ends)
