-- A demo is played record by record, and how that ends.
use Rattle.std.proofs.Common.{◌≡◌, ℕ, zero, suc, ◌+◌, ◌-◌, ◌<◌, ◌≤◌, true, false, List, [], ◌∷◌, ◌++◌, length, take, drop, Option, Some, None, Result, Ok, Err, refl, sym, ap, subst, ◌∙◌, append_assoc, arith}
use Rattle.std.specs.Prelude.{IfErr, is_ok}
use Rattle.std.specs.List.{concat}
use Rattle.std.proofs.Math.Seq.{take-append-add}
use Rattle.std.proofs.lemmas.List.{append-nil, drop_at, drop-drop, length-append, length-take}
use Rattle.std.proofs.lemmas.List.Folds.{concat-append}
use Rattle.q3_bits.specs.ResultBind.{◌>>=◌, fault_as}
use Rattle.q3_bits.proofs.Binds.{bind_ok, bind_is}
use Rattle.q3_io.specs.Told.{Told}
use Rattle.q3_io.specs.Written.{Written, Wrote}
use Rattle.q3_io.specs.Laws.{TextsFollow}
use Rattle.q3_clstate.specs.State.{Application, apply_at}
use Rattle.q3_demo.specs.declared.error.DemoError.{DemoError}
use Rattle.q3_demo.specs.declared.error.DemoError.TheVariants.{ReadFault, Truncated, BadLength, BadNumber, Message as NoMessage, NoMemory, WriteFault}
use Rattle.q3_demo.specs.declared.record.Piece.{Piece}
use Rattle.q3_demo.specs.declared.record.Piece.TheVariants as piece
use Rattle.q3_demo.specs.Records.{head_bytes, piece_of}
use Rattle.q3_demo.specs.Report.{state_text}
use Rattle.q3_demo.specs.Playing.{Played, Stepped, Play, play_text, next_piece, message_of, played_on, play_piece, step, most_records, ends, refused, told_first, at_most, play_step, play_from}
use Rattle.q3_demo.specs.Running.{HasFrom, Plays}
use Rattle.q3_demo.specs.Steps.{step_text, Leads, Fails, TakesStep}
use Rattle.q3_demo.proofs.Whole.{has_joined}
use Rattle.q3_demo.proofs.Pieces.{record_is, was_record, record_stays, message_stays}

-- an ending that is a refusal
abbrev stops : DemoError → Result (Unit {0}) DemoError
stops e = Err e

pub isnt_memory : (result : Result (Unit {0}) DemoError) → IfErr result (λ e. e ≡ NoMemory → ⊥) → result ≡ Err NoMemory → ⊥
isnt_memory (Ok x) other is = absurd cc
isnt_memory (Err e) other is = other cc

-- ---- what is printed

-- records are told, and then the others
abbrev told_all : List (List ℕ) → Play → Play
told_all texts others = record others { texts = texts ++ others.texts }

first_told : (texts : List (List ℕ)) (play : Play) (count : ℕ) → concat (take (length texts + count) (told_all texts play).texts) ≡ concat texts ++ concat (take count play.texts)
first_told texts play count = ap concat (take-append-add texts play.texts count) ∙ concat-append texts (take count play.texts)

-- what follows texts that were printed ends so after them
pub plays_after : (law : TextsFollow) (texts : List (List ℕ)) (play : Play) (before mid after : Option Written) (result : Result (Unit {0}) DemoError) → (result ≡ Err NoMemory → ⊥)
    → Wrote before mid (concat texts) true → Plays play mid after result → Plays (told_all texts play) before after result
plays_after law texts play before mid after (Ok x) some wrote plays = (plays.0, law.more wrote plays.1 (concat-append texts play.texts))
plays_after law texts play before mid after (Err ReadFault) some wrote plays = (length texts + plays.0, law.more wrote plays.1 (first_told texts play plays.0))
plays_after law texts play before mid after (Err (Truncated at)) some wrote plays = (plays.0, law.more wrote plays.1 (concat-append texts play.texts))
plays_after law texts play before mid after (Err (BadLength at)) some wrote plays = (plays.0, law.more wrote plays.1 (concat-append texts play.texts))
plays_after law texts play before mid after (Err (BadNumber at)) some wrote plays = (plays.0, law.more wrote plays.1 (concat-append texts play.texts))
plays_after law texts play before mid after (Err (NoMessage at cause)) some wrote plays = (plays.0, law.more wrote plays.1 (concat-append texts play.texts))
plays_after law texts play before mid after (Err NoMemory) some wrote plays = absurd (some refl)
plays_after law texts play before mid after (Err WriteFault) some wrote plays = law.more wrote plays (concat-append texts play.texts)

-- the demo ends
ends_step : (law : TextsFollow) (step : Result (Option Stepped) DemoError) (now next : Played) (others : Played → Play) (mid after : Option Written) → TakesStep step now next mid after (Ok true)
    → Plays (play_step now step others) mid after (Ok tt)
ends_step law (Ok None) now next others mid after takes = (refl, law.more takes.1 law.none refl)
ends_step law (Ok (Some stepped)) now next others mid after takes = absurd (let e = takes.0 in cc)
ends_step law (Err d) now next others mid after takes = absurd (let e = takes.0 in cc)

-- a step is refused
refuses : (law : TextsFollow) (step : Result (Option Stepped) DemoError) (now : Played) (others : Played → Play) (mid after : Option Written) (e : DemoError)
    → step ≡ Err e → after ≡ mid → (Err e ≡ (play_step now step others).ending) × Wrote mid after (play_text (play_step now step others)) true
refuses law (Ok None) now others mid after e is same = absurd cc
refuses law (Ok (Some stepped)) now others mid after e is same = absurd cc
refuses law (Err d) now others mid after e is same =
    let one : e ≡ d = cc in
    (ap stops one, rw same law.none)

-- the sink failed in what a step tells
loses : (law : TextsFollow) (step : Result (Option Stepped) DemoError) (now : Played) (others : Played → Play) (mid after : Option Written)
    → Wrote mid after (step_text now step) false → Wrote mid after (play_text (play_step now step others)) false
loses law (Ok None) now others mid after wrote = law.early [] wrote refl
loses law (Ok (Some stepped)) now others mid after wrote = law.early (play_text (others stepped.played)) wrote refl
loses law (Err d) now others mid after wrote = wrote

fails_step : (law : TextsFollow) (step : Result (Option Stepped) DemoError) (now : Played) (others : Played → Play) (mid after : Option Written) (e : DemoError) → Fails step now mid after e
    → Plays (play_step now step others) mid after (Err e)
fails_step law step now others mid after ReadFault fails = (0, rw fails law.none)
fails_step law step now others mid after (Truncated at) fails = refuses law step now others mid after (Truncated at) fails.0 fails.1
fails_step law step now others mid after (BadLength at) fails = refuses law step now others mid after (BadLength at) fails.0 fails.1
fails_step law step now others mid after (BadNumber at) fails = refuses law step now others mid after (BadNumber at) fails.0 fails.1
fails_step law step now others mid after (NoMessage at cause) fails = refuses law step now others mid after (NoMessage at cause) fails.0 fails.1
fails_step law step now others mid after NoMemory fails = absurd fails
fails_step law step now others mid after WriteFault fails = loses law step now others mid after fails

not_memory : (law : TextsFollow) (step : Result (Option Stepped) DemoError) (now : Played) (mid after : Option Written) (e : DemoError) → Fails step now mid after e → e ≡ NoMemory → ⊥
not_memory law step now mid after e fails is = subst (λ (d : DemoError). Fails step now mid after d) is fails

-- ---- a record

leads_to : (step : Result (Option Stepped) DemoError) (next : Played) → Leads step next → (stepped : Stepped) × (step ≡ Ok (Some stepped)) × (stepped.played ≡ next)
leads_to (Ok None) next leads = absurd leads
leads_to (Ok (Some stepped)) next leads = (stepped, refl, leads)
leads_to (Err d) next leads = absurd leads

-- the record that was played
pub record IsPlayed (demo : List ℕ) (now : Played) (stepped : Stepped) : Type 0 where
  pub number : ℕ
  pub size : ℕ
  pub next : ℕ
  pub applied : Application
  pub found : next_piece demo now ≡ Ok (piece.Message number size next)
  pub applied_is : fault_as (NoMessage now.at) (apply_at now.state number (message_of demo now size)) ≡ Ok applied
  pub stepped_is : played_on now number next applied ≡ stepped

same_some : {x y : Stepped} → (let left : Result (Option Stepped) DemoError = Ok (Some x) in left ≡ Ok (Some y)) → x ≡ y
same_some e = cc

piece_played : (demo : List ℕ) (now : Played) (found : Piece) (stepped : Stepped) → next_piece demo now ≡ Ok found → play_piece demo now found ≡ Ok (Some stepped) → IsPlayed demo now stepped
piece_played demo now piece.End stepped found is = absurd cc
piece_played demo now (piece.Message number size next) stepped found is =
    let on : Application → Result (Option Stepped) DemoError = λ applied. Ok (Some (played_on now number next applied)) in
    let p = bind_ok (fault_as (NoMessage now.at) (apply_at now.state number (message_of demo now size))) on (Some stepped) is in
    record { number = number; size = size; next = next; applied = p.0; found = found; applied_is = p.1; stepped_is = same_some p.2 }

pub was_played : (demo : List ℕ) (now : Played) (stepped : Stepped) → step demo now ≡ Ok (Some stepped) → IsPlayed demo now stepped
was_played demo now stepped is =
    let p = bind_ok (next_piece demo now) (play_piece demo now) (Some stepped) is in
    piece_played demo now p.0 stepped p.1 p.2

-- the message in the bytes from there on
pub message_there : (demo bytes : List ℕ) (now : Played) (size : ℕ) → drop now.at demo ≡ bytes → message_of demo now size ≡ take size (drop head_bytes bytes)
message_there demo bytes now size there = ap (take size) (sym (drop-drop head_bytes now.at demo) ∙ ap (drop head_bytes) there)

-- it is played so in every demo that begins so
plays_so : (demo other bytes rest : List ℕ) (now : Played) (stepped : Stepped) → drop now.at demo ≡ bytes → (was : IsPlayed demo now stepped)
    → drop now.at other ≡ take (head_bytes + was.size) bytes ++ rest → step other now ≡ Ok (Some stepped)
plays_so demo other bytes rest now stepped there was here =
    let size : ℕ = was.size in
    let had = was_record bytes now.at now.last was.number size was.next (ap (λ (xs : List ℕ). piece_of xs now.at now.last) (sym there) ∙ was.found) in
    let found : next_piece other now ≡ Ok (piece.Message was.number size was.next) =
    ap (λ (xs : List ℕ). piece_of xs now.at now.last) here
    ∙ record_is (take (head_bytes + size) bytes ++ rest) now.at now.last was.number size was.next (record_stays bytes rest now.at now.last was.number size was.next had) in
    let message : message_of other now size ≡ message_of demo now size =
    message_there other (take (head_bytes + size) bytes ++ rest) now size here ∙ message_stays bytes rest size had.there ∙ sym (message_there demo bytes now size there) in
    let applied : fault_as (NoMessage now.at) (apply_at now.state was.number (message_of other now size)) ≡ Ok was.applied =
    ap (λ (xs : List ℕ). fault_as (NoMessage now.at) (apply_at now.state was.number xs)) message ∙ was.applied_is in
    let on : Application → Result (Option Stepped) DemoError = λ applied. Ok (Some (played_on now was.number was.next applied)) in
    bind_is (next_piece other now) (play_piece other now) (piece.Message was.number size was.next) (Ok (Some stepped)) found
    (bind_is (fault_as (NoMessage now.at) (apply_at now.state was.number (message_of other now size))) on was.applied (Ok (Some stepped)) applied
    (ap (λ (s : Stepped). Ok (Some s)) was.stepped_is))

-- what is found there is played
pub step_is : (demo bytes : List ℕ) (now : Played) (found : Piece) → drop now.at demo ≡ bytes → Ok found ≡ piece_of bytes now.at now.last → step demo now ≡ play_piece demo now found
step_is demo bytes now found there is =
    let here : next_piece demo now ≡ Ok found = ap (λ (xs : List ℕ). piece_of xs now.at now.last) there ∙ sym is in
    ap (λ (r : Result Piece DemoError). r >>= play_piece demo now) here

-- ---- after the last record that may be played

-- what is left at the demo's end is told
state_last : (law : TextsFollow) (now : Played) (mid after : Option Written) (result : Result (Unit {0}) DemoError) → Wrote mid after (state_text now.state now.records) (is_ok result)
    → IfErr result (λ e. e ≡ WriteFault) → Plays (ends now) mid after result
state_last law now mid after (Ok x) wrote only = (refl, law.more wrote law.none refl)
state_last law now mid after (Err e) wrote only =
    subst (λ (d : DemoError). Plays (ends now) mid after (Err d)) (sym only) (law.early [] wrote refl)

no_more_there : (demo : List ℕ) (now : Played) (found : Result Piece DemoError) → (found >>= play_piece demo now) ≡ Ok None → at_most now found ≡ ends now
no_more_there demo now (Ok piece.End) is = refl
no_more_there demo now (Ok (piece.Message number size next)) is =
    let on : Application → Result (Option Stepped) DemoError = λ applied. Ok (Some (played_on now number next applied)) in
    let p = bind_ok (fault_as (NoMessage now.at) (apply_at now.state number (message_of demo now size))) on None is in
    absurd (let e = p.2 in cc)
no_more_there demo now (Err e) is = absurd cc

some_there : (demo : List ℕ) (now : Played) (found : Result Piece DemoError) (told : Result (Option Stepped) DemoError) → (found >>= play_piece demo now) ≡ told → (told ≡ Ok None → ⊥)
    → at_most now found ≡ refused (Truncated now.at)
some_there demo now (Ok piece.End) told is other = absurd (other (sym is))
some_there demo now (Ok (piece.Message number size next)) told is other = refl
some_there demo now (Err e) told is other = refl

-- the demo ends there
pub ends_limit : (law : TextsFollow) (demo bytes : List ℕ) (now : Played) (mid after : Option Written) (result : Result (Unit {0}) DemoError) → drop now.at demo ≡ bytes → step demo now ≡ Ok None
    → Wrote mid after (state_text now.state now.records) (is_ok result) → IfErr result (λ e. e ≡ WriteFault) → Plays (at_most now (piece_of bytes now.at now.last)) mid after result
ends_limit law demo bytes now mid after result there is wrote only =
    let here : at_most now (piece_of bytes now.at now.last) ≡ ends now =
    ap (λ (xs : List ℕ). at_most now (piece_of xs now.at now.last)) (sym there) ∙ no_more_there demo now (next_piece demo now) is in
    subst (λ (p : Play). Plays p mid after result) (sym here) (state_last law now mid after result wrote only)

-- it doesn't
pub refuses_limit : (law : TextsFollow) (demo bytes : List ℕ) (now : Played) (written : Option Written) (told : Result (Option Stepped) DemoError) → drop now.at demo ≡ bytes → step demo now ≡ told
    → (told ≡ Ok None → ⊥) → Plays (at_most now (piece_of bytes now.at now.last)) written written (Err (Truncated now.at))
refuses_limit law demo bytes now written told there is other =
    let here : at_most now (piece_of bytes now.at now.last) ≡ refused (Truncated now.at) =
    ap (λ (xs : List ℕ). at_most now (piece_of xs now.at now.last)) (sym there) ∙ some_there demo now (next_piece demo now) told is other in
    subst (λ (p : Play). Plays p written written (Err (Truncated now.at))) (sym here) (refl, law.none)

-- ---- a demo

-- how far it was played: the bytes up to there, whatever follows them, and the texts so far
pub record Going (told : Option Told) (file left : ℕ) (first now : Played) (before mid : Option Written) : Type 0 where
  pub front : List ℕ
  pub texts : List (List ℕ)
  pub long : length front ≡ now.at
  pub wrote : Wrote before mid (concat texts) true
  pub has : (rest : List ℕ) → HasFrom told file now.at rest → HasFrom told file 0 (front ++ rest)
  pub whole : (rest : List ℕ) → play_from most_records (front ++ rest) first ≡ told_all texts (play_from left (front ++ rest) now)

pub begins : (law : TextsFollow) (told : Option Told) (file : ℕ) (first : Played) (before : Option Written) → first.at ≡ 0 → Going told file most_records first first before before
begins law told file first before at = record {
  front = [];
  texts = [];
  long = sym at;
  wrote = law.none;
  has = λ rest has. subst (λ (n : ℕ). HasFrom told file n rest) at has;
  whole = λ rest. refl;
}

-- how it ends
pub ends_so : (law : TextsFollow) (told : Option Told) (file left : ℕ) (first now : Played) (before mid after : Option Written) (bytes : List ℕ) (result : Result (Unit {0}) DemoError)
    → (going : Going told file left first now before mid) → HasFrom told file now.at bytes → (result ≡ Err NoMemory → ⊥) → Plays (play_from left (going.front ++ bytes) now) mid after result
    → (demo : List ℕ) × HasFrom told file 0 demo × Plays (play_from most_records demo first) before after result
ends_so law told file left first now before mid after bytes result going has some plays = (
  going.front ++ bytes,
  going.has bytes has,
  subst (λ (p : Play). Plays p before after result) (sym (going.whole bytes)) (plays_after law going.texts (play_from left (going.front ++ bytes) now) before mid after result some going.wrote plays),
)

-- one record more
text_of : (now : Played) (s : Result (Option Stepped) DemoError) (stepped : Stepped) → s ≡ Ok (Some stepped) → step_text now s ≡ stepped.text
text_of now s stepped is = ap (step_text now) is

from_there : (told : Option Told) (file left : ℕ) (first now : Played) (before mid : Option Written) (going : Going told file left first now before mid) (bytes : List ℕ)
    → drop now.at (going.front ++ bytes) ≡ bytes
from_there told file left first now before mid going bytes = drop_at going.front bytes now.at going.long

step_more : (left : ℕ) (demo : List ℕ) (now next : Played) (stepped : Stepped) → step demo now ≡ Ok (Some stepped) → stepped.played ≡ next
    → play_from (suc left) demo now ≡ told_first stepped.text (play_from left demo next)
unfolding play_from
step_more left demo now next stepped is leads =
    ap (λ (s : Result (Option Stepped) DemoError). play_step now s (play_from left demo)) is ∙ ap (λ (p : Played). told_first stepped.text (play_from left demo p)) leads

text_after : (texts : List (List ℕ)) (text : List ℕ) (play : Play) → told_all texts (told_first text play) ≡ told_all (texts ++ text ∷ []) play
text_after texts text play = ap (λ (ts : List (List ℕ)). record play { texts = ts }) (sym (append_assoc texts (text ∷ []) play.texts))

-- what a step told follows the texts so far
told_after : (texts : List (List ℕ)) (text : List ℕ) → concat (texts ++ text ∷ []) ≡ concat texts ++ text
told_after texts text = concat-append texts (text ∷ []) ∙ ap (λ (t : List ℕ). concat texts ++ t) (append-nil text)

goes_on : (law : TextsFollow) (told : Option Told) (file left : ℕ) (first now next : Played) (before mid after : Option Written) (bytes : List ℕ)
    → Going told file (suc left) first now before mid → HasFrom told file now.at bytes
    → ((demo : List ℕ) → drop now.at demo ≡ bytes → TakesStep (step demo now) now next mid after (Ok false)) → Going told file left first next before after
goes_on law told file left first now next before mid after bytes going has takes =
    let demo : List ℕ = going.front ++ bytes in
    let there : drop now.at demo ≡ bytes = from_there told file (suc left) first now before mid going bytes in
    let taken = takes demo there in
    let leads = leads_to (step demo now) next taken.0 in
    let stepped : Stepped = leads.0 in
    let was = was_played demo now stepped leads.1 in
    let size : ℕ = was.size in
    let had = was_record bytes now.at now.last was.number size was.next (ap (λ (xs : List ℕ). piece_of xs now.at now.last) (sym there) ∙ was.found) in
    let place : next.at ≡ now.at + (head_bytes + size) =
    sym (ap (λ (p : Played). p.at) (ap (λ (s : Stepped). s.played) was.stepped_is ∙ leads.2)) ∙ had.next_is ∙ omega arith in
    let more : List ℕ = take (head_bytes + size) bytes in
    record {
      front = going.front ++ more;
      texts = going.texts ++ stepped.text ∷ [];
      long = omega (arith, length-append going.front more, length-take (head_bytes + size) bytes, had.there, going.long, place);
      wrote = law.more going.wrote taken.1 (told_after going.texts stepped.text ∙ ap (λ (t : List ℕ). concat going.texts ++ t) (sym (text_of now (step demo now) stepped leads.1)));
      has = λ rest behind. subst (λ (xs : List ℕ). HasFrom told file 0 xs) (sym (append_assoc going.front more rest))
          (going.has (more ++ rest) (has_joined told file now.at (head_bytes + size) bytes rest has (subst (λ (n : ℕ). HasFrom told file n rest) place behind)));
      whole = λ rest.
          let other : List ℕ = going.front ++ (more ++ rest) in
          let here : drop now.at other ≡ more ++ rest = from_there told file (suc left) first now before mid going (more ++ rest) in
          let same : going.front ++ more ++ rest ≡ other = append_assoc going.front more rest in
          let one : play_from (suc left) other now ≡ told_first stepped.text (play_from left other next) =
          step_more left other now next stepped (plays_so demo other bytes rest now stepped there was here) leads.2 in
          ap (λ (xs : List ℕ). play_from most_records xs first) same ∙ going.whole (more ++ rest) ∙ ap (told_all going.texts) one
          ∙ text_after going.texts stepped.text (play_from left other next)
          ∙ ap (λ (xs : List ℕ). told_all (going.texts ++ stepped.text ∷ []) (play_from left xs next)) (sym same);
    }

-- ---- by the records that were played

one_left : (taken : ℕ) → taken < most_records → most_records - taken ≡ suc (most_records - (taken + 1))
one_left taken few = omega (arith, few)

pub goes_on_by : (law : TextsFollow) (told : Option Told) (file taken : ℕ) (first now next : Played) (before mid after : Option Written) (bytes : List ℕ)
    → taken < most_records → Going told file (most_records - taken) first now before mid → HasFrom told file now.at bytes
    → ((demo : List ℕ) → drop now.at demo ≡ bytes → TakesStep (step demo now) now next mid after (Ok false)) → Going told file (most_records - (taken + 1)) first next before after
goes_on_by law told file taken first now next before mid after bytes few going has takes =
    goes_on law told file (most_records - (taken + 1)) first now next before mid after bytes (rw (one_left taken few) at going) has takes

ends_by_step : (law : TextsFollow) (left : ℕ) (demo : List ℕ) (now next : Played) (mid after : Option Written) → TakesStep (step demo now) now next mid after (Ok true)
    → Plays (play_from (suc left) demo now) mid after (Ok tt)
unfolding play_from
ends_by_step law left demo now next mid after takes = ends_step law (step demo now) now next (play_from left demo) mid after takes

pub ends_by : (law : TextsFollow) (told : Option Told) (file taken : ℕ) (first now next : Played) (before mid after : Option Written) (bytes : List ℕ)
    → taken < most_records → Going told file (most_records - taken) first now before mid → HasFrom told file now.at bytes
    → ((demo : List ℕ) → drop now.at demo ≡ bytes → TakesStep (step demo now) now next mid after (Ok true))
    → (demo : List ℕ) × HasFrom told file 0 demo × Plays (play_from most_records demo first) before after (Ok tt)
ends_by law told file taken first now next before mid after bytes few going has takes =
    let left : ℕ = most_records - (taken + 1) in
    let here : Going told file (suc left) first now before mid = rw (one_left taken few) at going in
    ends_so law told file (suc left) first now before mid after bytes (Ok tt) here has (λ e. absurd cc)
    (ends_by_step law left (here.front ++ bytes) now next mid after (takes (here.front ++ bytes) (from_there told file (suc left) first now before mid here bytes)))

fails_by_step : (law : TextsFollow) (left : ℕ) (demo : List ℕ) (now : Played) (mid after : Option Written) (e : DemoError) → Fails (step demo now) now mid after e
    → Plays (play_from (suc left) demo now) mid after (Err e)
unfolding play_from
fails_by_step law left demo now mid after e fails = fails_step law (step demo now) now (play_from left demo) mid after e fails

same_error : (e d : DemoError) → (let left : Result (Unit {0}) DemoError = Err e in left ≡ Err d) → e ≡ d
same_error e d is = cc

pub fails_by : (law : TextsFollow) (told : Option Told) (file taken : ℕ) (first now next : Played) (before mid after : Option Written) (bytes : List ℕ) (e : DemoError)
    → taken < most_records → Going told file (most_records - taken) first now before mid → HasFrom told file now.at bytes
    → ((demo : List ℕ) → drop now.at demo ≡ bytes → TakesStep (step demo now) now next mid after (Err e))
    → (demo : List ℕ) × HasFrom told file 0 demo × Plays (play_from most_records demo first) before after (Err e)
fails_by law told file taken first now next before mid after bytes e few going has takes =
    let left : ℕ = most_records - (taken + 1) in
    let here : Going told file (suc left) first now before mid = rw (one_left taken few) at going in
    let demo : List ℕ = here.front ++ bytes in
    let fails : Fails (step demo now) now mid after e = takes demo (from_there told file (suc left) first now before mid here bytes) in
    ends_so law told file (suc left) first now before mid after bytes (Err e) here has (λ is. not_memory law (step demo now) now mid after e fails (same_error e NoMemory is))
    (fails_by_step law left demo now mid after e fails)

last_step : (demo bytes : List ℕ) (now : Played) (mid after : Option Written) (result : Result (Unit {0}) DemoError) → drop now.at demo ≡ bytes
    → Plays (at_most now (piece_of bytes now.at now.last)) mid after result → Plays (play_from zero demo now) mid after result
unfolding play_from
last_step demo bytes now mid after result there plays =
    subst (λ (xs : List ℕ). Plays (at_most now (piece_of xs now.at now.last)) mid after result) (sym there) plays

pub ends_last : (law : TextsFollow) (told : Option Told) (file taken : ℕ) (first now : Played) (before mid after : Option Written) (bytes : List ℕ) (result : Result (Unit {0}) DemoError)
    → most_records ≤ taken → Going told file (most_records - taken) first now before mid → HasFrom told file now.at bytes → (result ≡ Err NoMemory → ⊥)
    → Plays (at_most now (piece_of bytes now.at now.last)) mid after result
    → (demo : List ℕ) × HasFrom told file 0 demo × Plays (play_from most_records demo first) before after result
ends_last law told file taken first now before mid after bytes result all going has some plays =
    let none : most_records - taken ≡ 0 = omega (arith, all) in
    let here : Going told file zero first now before mid = rw none at going in
    ends_so law told file zero first now before mid after bytes result here has some
    (last_step (here.front ++ bytes) bytes now mid after result (from_there told file zero first now before mid here bytes) plays)
