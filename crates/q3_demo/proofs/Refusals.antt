-- What a demo is refused for.
use Rattle.std.proofs.Common.{◌≡◌, ℕ, Bool, true, false, List, Some, Result, Ok, Err, subst, inl, inr}
use Rattle.std.specs.Prelude.{if◌then◌else◌}
use Rattle.q3_bits.specs.ResultBind.{◌>>=◌, fault_as}
use Rattle.q3_bits.proofs.Binds.{bind_err}
use Rattle.q3_svmsg.specs.declared.error.Illegible.{Illegible}
use Rattle.q3_clstate.specs.State.{Application, apply_at}
use Rattle.q3_demo.specs.declared.error.DemoError.{DemoError}
use Rattle.q3_demo.specs.declared.error.DemoError.TheVariants.{Truncated, BadLength, BadNumber, Message as NoMessage}
use Rattle.q3_demo.specs.declared.record.Piece.{Piece}
use Rattle.q3_demo.specs.declared.record.Piece.TheVariants as piece
use Rattle.q3_demo.specs.Laws.{IsRefusal}
use Rattle.q3_demo.specs.Playing.{Played, Stepped, next_piece, message_of, played_on, play_piece, step}

-- by the rules of a record
found_refused : (ended long low cut : Bool) (at : ℕ) (found : Piece) (e : DemoError)
    → (let first : Result Piece DemoError = if ended then Ok piece.End else if long then Err (BadLength at) else if low then Err (BadNumber at) else if cut then Err (Truncated at) else Ok found in
    first ≡ Err e) → IsRefusal e
found_refused true long low cut at found e is = absurd cc
found_refused false true low cut at found e is =
    let fault : BadLength at ≡ e = cc in
    subst (λ (d : DemoError). IsRefusal d) fault tt
found_refused false false true cut at found e is =
    let fault : BadNumber at ≡ e = cc in
    subst (λ (d : DemoError). IsRefusal d) fault tt
found_refused false false false true at found e is =
    let fault : Truncated at ≡ e = cc in
    subst (λ (d : DemoError). IsRefusal d) fault tt
found_refused false false false false at found e is = absurd cc

-- or by its message
applied_refused : (at : ℕ) (applied : Result Application Illegible) (on : Application → Stepped) (e : DemoError)
    → (fault_as (λ cause. NoMessage at cause) applied >>= λ (application : Application). Ok (Some (on application))) ≡ Err e → IsRefusal e
applied_refused at (Ok application) on e is = absurd cc
applied_refused at (Err cause) on e is =
    let fault : NoMessage at cause ≡ e = cc in
    subst (λ (d : DemoError). IsRefusal d) fault tt

played_refused : (demo : List ℕ) (now : Played) (found : Piece) (e : DemoError) → play_piece demo now found ≡ Err e → IsRefusal e
played_refused demo now piece.End e is = absurd cc
played_refused demo now (piece.Message number size next) e is =
    applied_refused now.at (apply_at now.state number (message_of demo now size)) (λ applied. played_on now number next applied) e is

pub step_refused : (demo : List ℕ) (now : Played) (e : DemoError) → step demo now ≡ Err e → IsRefusal e
step_refused demo now e is =
    elim (bind_err (next_piece demo now) (play_piece demo now) e is) [
      | inl none ↦ found_refused _ _ _ _ now.at _ e none
      | inr there ↦ played_refused demo now there.0 e there.2
    ]
