-- A player plays one record after the other.
use Rattle.std.proofs.Common.{◌≡◌, ℕ, ◌+◌, List, ◌++◌, drop, replicate, Option, Some, Result, Ok, sym, ap, ◌∙◌}
use Rattle.std.proofs.lemmas.List.{drop_at, length-replicate}
use Rattle.q3_bits.specs.ResultBind.{fault_as}
use Rattle.q3_bits.proofs.Binds.{bind_ok, map_err_ok}
use Rattle.q3_clstate.specs.State.{Application, apply_at}
use Rattle.q3_clstate.specs.declared.applied.Applied.{Applied}
use Rattle.q3_demo.specs.declared.error.DemoError.{DemoError}
use Rattle.q3_demo.specs.declared.error.DemoError.TheVariants.{Message as NoMessage}
use Rattle.q3_demo.specs.declared.record.Piece.{Piece}
use Rattle.q3_demo.specs.declared.record.Piece.TheVariants.{End, Message}
use Rattle.q3_demo.specs.Player.{PlayerState, PlaysOn}
use Rattle.q3_demo.specs.Playing.{Played, Stepped, next_piece, message_of, played_on, play_piece, step}

-- bytes that stand at a place, of some demo
demo_from : ℕ → List ℕ → List ℕ
demo_from at bytes = replicate at 0 ++ bytes

stands_there : (at : ℕ) (bytes : List ℕ) → drop at (demo_from at bytes) ≡ bytes
unfolding demo_from
stands_there at bytes = drop_at (replicate at 0) bytes at (length-replicate at 0)

-- a record that was played: its message, and what that did
pub record WasPlayed (demo : List ℕ) (was : Played) (stepped : Stepped) : Type 0 where
  pub number : ℕ
  pub size : ℕ
  pub next : ℕ
  pub applied : Application
  pub found : next_piece demo was ≡ Ok (Message number size next)
  pub applied_is : apply_at was.state number (message_of demo was size) ≡ Ok applied
  pub stepped_is : played_on was number next applied ≡ stepped

same_some : {x y : Stepped} → (let left : Result (Option Stepped) DemoError = Ok (Some x) in left ≡ Ok (Some y)) → x ≡ y
same_some e = cc

piece_played : (demo : List ℕ) (was : Played) (piece : Piece) (stepped : Stepped) → next_piece demo was ≡ Ok piece → play_piece demo was piece ≡ Ok (Some stepped) → WasPlayed demo was stepped
piece_played demo was End stepped found is = absurd cc
piece_played demo was (Message number size next) stepped found is =
    let on : Application → Result (Option Stepped) DemoError = λ applied. Ok (Some (played_on was number next applied)) in
    let p = bind_ok (fault_as (NoMessage was.at) (apply_at was.state number (message_of demo was size))) on (Some stepped) is in
    record { number = number; size = size; next = next; applied = p.0; found = found; applied_is = map_err_ok (NoMessage was.at) (apply_at was.state number (message_of demo was size)) p.0 p.1; stepped_is = same_some p.2 }

pub was_played : (demo : List ℕ) (was : Played) (stepped : Stepped) → step demo was ≡ Ok (Some stepped) → WasPlayed demo was stepped
was_played demo was stepped is =
    let p = bind_ok (next_piece demo was) (play_piece demo was) (Some stepped) is in
    piece_played demo was p.0 stepped p.1 p.2

pub one_more : (demo : List ℕ) (was : Played) (stepped : Stepped) → step demo was ≡ Ok (Some stepped) → stepped.played.records ≡ was.records + 1
one_more demo was stepped is = sym (ap (λ (s : Stepped). s.played.records) (was_played demo was stepped is).stepped_is)

-- whatever is told of files, a record that is played is one more
pub records_rise : (was now : PlayerState) (bytes : List ℕ) (answer : Applied) → ((demo : List ℕ) → drop was.played.at demo ≡ bytes → PlaysOn (step demo was.played) was now (Ok (Some answer)))
    → now.played.records ≡ was.played.records + 1
records_rise was now bytes answer plays =
    let demo : List ℕ = demo_from was.played.at bytes in
    let on = plays demo (stands_there was.played.at bytes) in
    ap (λ (p : PlayerState). p.played.records) on.2 ∙ one_more demo was.played on.0 on.1
