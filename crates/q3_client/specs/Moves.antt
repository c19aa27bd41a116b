-- The moves that a client issues, and which of them its messages carry.
use Rattle.std.specs.Prelude.{ℕ, ◌+◌, ◌^◌, ◌&&◌, if◌then◌else◌, Bool, false, not, List, [], ◌∷◌, ◌++◌, map, nat_le, nat_lt, ℤ, pos, neg_ℤ, Result, Ok, Err}
use Rattle.std.specs.List.{filter}
use Rattle.std.specs.Ordering.{int_eq}
use Rattle.circular_buffer.specs.Buffer.{keep_last}
use Rattle.q3_clmsg.specs.declared.moves.Move.{Move}
use Rattle.q3_client.specs.declared.moves.Issued.{Issued}
use Rattle.q3_client.specs.declared.client.MoveError.{MoveError}
use Rattle.q3_client.specs.declared.client.MoveError.TheVariants.{NoGame, NotLater, Range}
use Rattle.q3_client.specs.Client.{ClientState}

-- how many recent moves are kept, and how many a message carries at most
abbrev pub most_moves : ℕ
most_moves = 32

-- the client after something was handed in, and the answer
pub record Handed (E : Type 0) : Type 0 where
  pub client : ClientState
  pub answer : Result (Unit {0}) E

-- how fast a player may go one way: -128 is no step
abbrev pub is_step : ℤ → Bool
is_step value = not (int_eq value (neg_ℤ (pos 128)))

-- a move that may be issued
abbrev pub is_issuable : Move → Bool
is_issuable one = is_step one.forward && is_step one.right && is_step one.up && nat_lt one.time (2 ^ 31)

-- a move is issued: the newest 32 are kept, each with how many messages were begun before it
abbrev pub issue : ClientState → Move → ClientState
issue client one = record client {
  moves = keep_last most_moves (client.moves ++ record { begun = client.sending.number; one = one } ∷ []);
  last_time = one.time;
}

-- a client issues a move once it has a gamestate; times rise
abbrev pub add_move_at : ClientState → Move → Handed MoveError
add_move_at client one =
    if not client.state.has_game then record { client = client; answer = Err NoGame } else
    if nat_le one.time client.last_time then record { client = client; answer = Err (NotLater client.last_time) } else
    if is_issuable one then record { client = issue client one; answer = Ok tt }
    else record { client = client; answer = Err Range }

-- whether the message of a number carries a move: it was issued after the message `dup + 1` before that one was begun
abbrev pub is_carried : ℕ → ℕ → Issued → Bool
is_carried number dup issued = nat_le number (issued.begun + dup + 1)

-- the moves that it carries
abbrev pub carried : ℕ → ℕ → List Issued → List Move
carried number dup issued = map (λ (i : Issued). i.one) (filter (is_carried number dup) issued)

-- whether the server may write snapshots against the newest message's: only a message with moves says so
abbrev pub asks_delta : Bool → List Move → Bool
asks_delta delta [] = false
asks_delta delta moves = delta
