-- A demo is played: its messages are applied, one after the other.
use Rattle.std.specs.Prelude.{ℕ, zero, suc, ◌+◌, List, [], ◌∷◌, drop, take, codes, decimal, Option, Some, None, Result, Ok, Err}
use Rattle.std.specs.List.{concat}
use Rattle.q3_bits.specs.ResultBind.{◌>>=◌, fault_as}
use Rattle.q3_profile.specs.declared.profile.Profile.{Profile}
use Rattle.q3_clstate.specs.State.{AppliedState, Application, new_state, apply_at}
use Rattle.q3_clstate.specs.Report.{applied_text}
use Rattle.q3_demo.specs.declared.error.DemoError.{DemoError}
use Rattle.q3_demo.specs.declared.error.DemoError.TheVariants.{Truncated, Message as NoMessage}
use Rattle.q3_demo.specs.declared.record.Piece.{Piece}
use Rattle.q3_demo.specs.declared.record.Piece.TheVariants.{End, Message}
use Rattle.q3_demo.specs.Records.{head_bytes, piece_of}
use Rattle.q3_demo.specs.Report.{state_text}

-- how far a demo was played: what its messages left, how many they are, the number of the last, 0 for none, and the place after them
pub record Played : Type 0 where
  pub state : AppliedState
  pub records : ℕ
  pub last : ℕ
  pub at : ℕ

-- nothing was played
abbrev pub unplayed : Profile → Played
unplayed profile = record { state = new_state profile; records = 0; last = 0; at = 0 }

-- what comes after what was played
abbrev pub next_piece : List ℕ → Played → Result Piece DemoError
next_piece demo played = piece_of (drop played.at demo) played.at played.last

-- one record more, what its message did, and the text that tells it
pub record Stepped : Type 0 where
  pub played : Played
  pub applied : Application
  pub text : List ℕ

-- the lines of a record: the first of it, and what becomes of its message
abbrev pub record_text : ℕ → ℕ → Application → List ℕ
record_text index number applied =
    concat (codes "record " ∷ decimal index ∷ codes " number " ∷ decimal number ∷ codes "\n" ∷ applied_text applied.state applied.answer applied.heard ∷ [])

abbrev pub played_on : Played → ℕ → ℕ → Application → Stepped
played_on played number next applied = record {
  played = record { state = applied.state; records = played.records + 1; last = number; at = next };
  applied = applied;
  text = record_text played.records number applied;
}

-- the message of a record of this length
abbrev pub message_of : List ℕ → Played → ℕ → List ℕ
message_of demo played length = take length (drop (played.at + head_bytes) demo)

-- a piece is played: none is left at the demo's end
abbrev pub play_piece : List ℕ → Played → Piece → Result (Option Stepped) DemoError
play_piece demo played End = Ok None
play_piece demo played (Message number length next) = do
  applied ← fault_as (NoMessage played.at) (apply_at played.state number (message_of demo played length))
  Ok (Some (played_on played number next applied))

-- the next record is played, if there is one
abbrev pub step : List ℕ → Played → Result (Option Stepped) DemoError
step demo played = do
  piece ← next_piece demo played
  play_piece demo played piece

-- ---- all of it

-- so many records are played at most
abbrev pub most_records : ℕ
most_records = 1048576

-- what playing tells: the lines of each record that is played, and after them, where the demo ends, what they left; and why it ended,
-- where it wasn't by the demo's end
pub record Play : Type 0 where
  pub texts : List (List ℕ)
  pub ending : Result (Unit {0}) DemoError

-- what it prints
abbrev pub play_text : Play → List ℕ
play_text play = concat play.texts

-- at the demo's end the state is told
abbrev pub ends : Played → Play
ends played = record { texts = state_text played.state played.records ∷ []; ending = Ok tt }

-- where a record is refused, nothing more
abbrev pub refused : DemoError → Play
refused e = record { texts = []; ending = Err e }

-- a record is told, and then the others
abbrev pub told_first : List ℕ → Play → Play
told_first text others = record others { texts = text ∷ others.texts }

-- where no more may be played, anything but the demo's end is refused
abbrev pub at_most : Played → Result Piece DemoError → Play
at_most played (Ok End) = ends played
at_most played other = refused (Truncated played.at)

abbrev pub play_step : Played → Result (Option Stepped) DemoError → (Played → Play) → Play
play_step played (Ok None) others = ends played
play_step played (Ok (Some stepped)) others = told_first stepped.text (others stepped.played)
play_step played (Err e) others = refused e

-- so many records more are played at most
unfoldable pub play_from : ℕ → List ℕ → Played → Play
play_from zero demo played = at_most played (next_piece demo played)
play_from (suc left) demo played = play_step played (step demo played) (play_from left demo)

-- a demo is played by a profile
abbrev pub play_of : Profile → List ℕ → Play
play_of profile demo = play_from most_records demo (unplayed profile)

-- ---- the records that are played

-- a record more where a step gives one, and then the others; none after a refusal or the demo's end
abbrev pub next_records : Result (Option Stepped) DemoError → (Played → List Stepped) → List Stepped
next_records (Ok (Some stepped)) others = stepped ∷ others stepped.played
next_records other others = []

-- those from there on, as many at most
unfoldable pub records_from : ℕ → List ℕ → Played → List Stepped
records_from zero demo played = []
records_from (suc left) demo played = next_records (step demo played) (records_from left demo)

-- those of a demo, by a profile
abbrev pub records_of : Profile → List ℕ → List Stepped
records_of profile demo = records_from most_records demo (unplayed profile)

-- what the last of them left, or what was there before the first
unfoldable pub last_of : Played → List Stepped → Played
last_of played [] = played
last_of played (stepped ∷ records) = last_of stepped.played records

-- what all of them left
abbrev pub last_played : Profile → List ℕ → Played
last_played profile demo = last_of (unplayed profile) (records_of profile demo)

-- ---- the first of them

-- what the first so many records leave; it is refused where one of them is, and where the demo ends before
abbrev pub go_on : Played → Option Stepped → Result Played DemoError
go_on played None = Err (Truncated played.at)
go_on played (Some stepped) = Ok stepped.played

unfoldable pub play_first : ℕ → List ℕ → Played → Result Played DemoError
play_first zero demo played = Ok played
play_first (suc count) demo played = do
  stepped ← step demo played
  next ← go_on played stepped
  play_first count demo next

abbrev pub play_state : Profile → List ℕ → ℕ → Result Played DemoError
play_state profile demo count = play_first count demo (unplayed profile)
