-- What every client is, whatever was handed in and whatever came.
use Rattle.std.specs.Prelude.{◌≡◌, ◌^◌, ◌<◌, ◌≤◌, List, length, All}
use Rattle.q3_chan.specs.Checks.{check_for}
use Rattle.q3_chan.specs.Datagrams.{server_form, client_header}
use Rattle.q3_window.specs.Outgoing.{IsOutgoing}
use Rattle.q3_clmsg.specs.Moves.{IsMove}
use Rattle.q3_clstate.specs.Standing.{IsApplied}
use Rattle.q3_client.specs.declared.moves.Issued.{Issued}
use Rattle.q3_client.specs.Client.{ClientState}
use Rattle.q3_client.specs.Moves.{most_moves}

-- each move that was issued is one that an end may send
pub record AreMoves (moves : List Issued) : Type 0 where
  pub each : All (λ (issued : Issued). IsMove issued.one) moves

-- a client: all that the messages left is well formed and in range, the newest number taken fits a long, its window is one of commands,
-- and it keeps few moves, each of which an end may send; what it sends has the header of a client with its qport, and what it hears the
-- form of a server, by its challenge and the protocol
pub record IsClient (client : ClientState) : Type 0 where
  pub applied : IsApplied client.state
  pub taken : client.gathering.taken < 2 ^ 32
  pub window : IsOutgoing client.issued
  pub few : length client.moves ≤ most_moves
  pub moves : AreMoves client.moves
  pub sends : client.sending.header ≡ client_header (check_for client.state.profile.protocol client.challenge) client.qport
  pub hears : client.gathering.form ≡ server_form (check_for client.state.profile.protocol client.challenge)
