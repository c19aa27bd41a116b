-- What a client's issuing of a command or a move does at its end, what a client makes of bytes, and what it shows.
use Rattle.std.specs.Prelude.{ℕ, Bool, List, Option, Some, None, Result, Ok, Err}
use Rattle.q3_window.specs.declared.outgoing.WindowFull.{WindowFull}
use Rattle.q3_clmsg.specs.declared.moves.Move.{Move}
use Rattle.q3_entity_ring.specs.Snapshot.{Snapshot}
use Rattle.q3_rings.specs.Rings.{view_at}
use Rattle.q3_client.specs.declared.client.MoveError.{MoveError}
use Rattle.q3_client.specs.Client.{ClientState, Taken, type_at}
use Rattle.q3_client.specs.Moves.{add_move_at}
use Rattle.q3_report.specs.declared.answer.HandedIn.{HandedIn}
use Rattle.q3_report.specs.declared.answer.HandedIn.TheVariants as answers
use Rattle.q3_report.specs.declared.answer.MoveRefused.TheVariants as refused
use Rattle.q3_report.specs.declared.answer.TypeRefused.TheVariants as untyped
use Rattle.q3_report.specs.declared.answer.Front.{Front}
use Rattle.q3_report.specs.Answers.{Answered, Took, ByClient, Showing, ShowsNothing, ShowsNewest}

-- the client after something was handed in, and the answer
pub record ClientStep : Type 0 where
  pub client : ClientState
  pub answer : HandedIn

-- a client issues a command
abbrev pub typed : ℕ → Result ℕ WindowFull → HandedIn
typed c (Ok number) = answers.TypeText c (Ok number)
typed c (Err e) = answers.TypeText c (Err untyped.WindowFull)

abbrev pub type_text : ClientState → ℕ → List ℕ → ClientStep
type_text client c text =
    let issuing = type_at client text in
    record { client = issuing.client; answer = typed c issuing.answer }

-- a client issues a move
abbrev pub moved : ℕ → Result (Unit {0}) MoveError → HandedIn
moved c (Ok x) = answers.Move c (Ok tt)
moved c (Err e) = answers.Move c (Err (refused.Error e))

abbrev pub add_move : ClientState → ℕ → Move → ClientStep
add_move client c one =
    let given = add_move_at client one in
    record { client = given.client; answer = moved c given.answer }

-- the answer of a client that took bytes, and whose recording ended by that or not
abbrev pub taken_by_client : Front → ℕ → Taken → Bool → Answered
taken_by_client front c taken ended = Took front (ByClient c taken.answer taken.client.state taken.heard ended)

-- the newest snapshot that a client accepted
abbrev pub newest_of : ClientState → Option Snapshot
newest_of client = view_at client.state.held client.state.held.newest

-- what it shows
abbrev pub showing_newest : Option Snapshot → Showing
showing_newest None = ShowsNothing
showing_newest (Some snapshot) = ShowsNewest snapshot

abbrev pub showing : ClientState → Showing
showing client = showing_newest (newest_of client)
