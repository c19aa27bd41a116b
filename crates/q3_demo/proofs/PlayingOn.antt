-- One record more is played.
use Rattle.std.proofs.Common.{◌≡◌, ℕ, ◌+◌, List, ◌++◌, length, take, drop, Option, Some, Result, Ok, Err, refl, sym, ap, ap₂, ◌∙◌}
use Rattle.std.proofs.lemmas.List.{take_at}
use Rattle.q3_bits.specs.ResultBind.{◌>>=◌, fault_as}
use Rattle.q3_text.specs.declared.text.Command.{Command}
use Rattle.q3_svmsg.specs.declared.error.Illegible.{Illegible}
use Rattle.q3_clstate.specs.declared.applied.Applied.{Applied}
use Rattle.q3_clstate.specs.State.{AppliedState, Application, apply_at, state_after_message, answered, heard_in}
use Rattle.q3_demo.specs.declared.error.DemoError.{DemoError}
use Rattle.q3_demo.specs.declared.error.DemoError.TheVariants.{ReadFault, Truncated, BadLength, BadNumber, Message as NoMessage, NoMemory, WriteFault}
use Rattle.q3_demo.specs.declared.record.Piece.TheVariants as piece
use Rattle.q3_demo.specs.Records.{head_bytes, piece_of}
use Rattle.q3_demo.specs.Playing.{Played, Stepped, message_of, played_on, step}
use Rattle.q3_demo.specs.Player.{PlayerState, PlaysOn}
use Rattle.q3_demo.proofs.Going.{step_is, message_there}

-- the message in a buffer that it was read into
pub begins_buffer : (buffer rest whole bytes : List ℕ) (room size : ℕ) → whole ≡ take room (buffer ++ rest) → length buffer ≡ room → take size buffer ≡ bytes → take size whole ≡ bytes
begins_buffer buffer rest whole bytes room size whole_is room_is message = ap (take size) (whole_is ∙ take_at buffer rest room room_is) ∙ message

-- ---- what is answered of a message

-- it is legible
took : (at : ℕ) (applied : Result Application Illegible) (answer : Applied) → (let told : Result Applied DemoError = Ok answer in told ≡ fault_as (λ cause. NoMessage at cause) (answered applied))
    → (application : Application) × (applied ≡ Ok application) × (answer ≡ application.answer)
took at (Ok application) answer is = (application, refl, cc)
took at (Err cause) answer is = absurd cc

-- it isn't
refused : (at : ℕ) (applied : Result Application Illegible) (e : DemoError) → (let told : Result Applied DemoError = Err e in told ≡ fault_as (λ cause. NoMessage at cause) (answered applied))
    → fault_as (λ cause. NoMessage at cause) applied ≡ Err e
refused at (Ok application) e is = absurd cc
refused at (Err cause) e is =
    let fault : e ≡ NoMessage at cause = cc in
    ap (λ (d : DemoError). Err d) (sym fault)

-- ---- the record

-- what is found there is applied so
step_applies : (demo bytes message : List ℕ) (now : Played) (number size next : ℕ) (applied : Result Application DemoError) → drop now.at demo ≡ bytes
    → Ok (piece.Message number size next) ≡ piece_of bytes now.at now.last → message ≡ take size (drop head_bytes bytes)
    → fault_as (λ cause. NoMessage now.at cause) (apply_at now.state number message) ≡ applied
    → step demo now ≡ (applied >>= λ (application : Application). Ok (Some (played_on now number next application)))
step_applies demo bytes message now number size next applied there found message_is is =
    let here : message_of demo now size ≡ message = message_there demo bytes now size there ∙ sym message_is in
    let so : fault_as (λ cause. NoMessage now.at cause) (apply_at now.state number (message_of demo now size)) ≡ applied =
    ap (λ (xs : List ℕ). fault_as (λ cause. NoMessage now.at cause) (apply_at now.state number xs)) here ∙ is in
    step_is demo bytes now (piece.Message number size next) there found
    ∙ ap (λ (r : Result Application DemoError). r >>= λ (application : Application). Ok (Some (played_on now number next application))) so

-- it is played
pub plays_record : (demo bytes message : List ℕ) (was : PlayerState) (number size next : ℕ) (answer : Applied) (state : AppliedState) (heard : List Command) → drop was.played.at demo ≡ bytes
    → Ok (piece.Message number size next) ≡ piece_of bytes was.played.at was.played.last → message ≡ take size (drop head_bytes bytes)
    → Ok answer ≡ fault_as (λ cause. NoMessage was.played.at cause) (answered (apply_at was.played.state number message))
    → state ≡ state_after_message was.played.state (apply_at was.played.state number message) → heard ≡ heard_in (apply_at was.played.state number message)
    → PlaysOn (step demo was.played) was (record { played = record { state = state; records = was.played.records + 1; last = number; at = next }; heard = heard }) (Ok (Some answer))
plays_record demo bytes message was number size next answer state heard there found message_is answers state_is heard_is =
    let now = was.played in
    let applied = apply_at now.state number message in
    let a = took now.at applied answer answers in
    let so : fault_as (λ cause. NoMessage now.at cause) applied ≡ Ok a.0 = ap (λ (r : Result Application Illegible). fault_as (λ cause. NoMessage now.at cause) r) a.1 in (
      played_on now number next a.0,
      step_applies demo bytes message now number size next (Ok a.0) there found message_is so,
      ap₂ (λ (s : AppliedState) (h : List Command). record { played = record { state = s; records = now.records + 1; last = number; at = next }; heard = h })
          (state_is ∙ ap (state_after_message now.state) a.1) (heard_is ∙ ap heard_in a.1),
      a.2,
    )

-- it is refused
refused_on : (step : Result (Option Stepped) DemoError) (was now : PlayerState) (e : DemoError) → step ≡ Err e → PlaysOn step was now (Err e)
refused_on step was now ReadFault is = tt
refused_on step was now (Truncated at) is = is
refused_on step was now (BadLength at) is = is
refused_on step was now (BadNumber at) is = is
refused_on step was now (NoMessage at cause) is = is
refused_on step was now NoMemory is = is
refused_on step was now WriteFault is = is

pub refuses_record : (demo bytes message : List ℕ) (was now : PlayerState) (number size next : ℕ) (e : DemoError) → drop was.played.at demo ≡ bytes
    → Ok (piece.Message number size next) ≡ piece_of bytes was.played.at was.played.last → message ≡ take size (drop head_bytes bytes)
    → Err e ≡ fault_as (λ cause. NoMessage was.played.at cause) (answered (apply_at was.played.state number message))
    → PlaysOn (step demo was.played) was now (Err e)
refuses_record demo bytes message was now number size next e there found message_is answers =
    refused_on (step demo was.played) was now e
    (step_applies demo bytes message was.played number size next (Err e) there found message_is (refused was.played.at (apply_at was.played.state number message) e answers))
