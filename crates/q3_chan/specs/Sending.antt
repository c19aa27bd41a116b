-- What an end that sends keeps: the message under way, and which of its pieces goes next.
use Rattle.std.specs.Prelude.{◌≡◌, ℕ, zero, suc, ◌+◌, ◌<◌, nat_lt, if◌then◌else◌, List, [], ◌∷◌, length, Option, Some, None}
use Rattle.q3_chan.specs.declared.form.Form.{Form}
use Rattle.q3_chan.specs.Datagrams.{Header, piece_count, datagram}

-- a message whose pieces from an index on are still to be handed out
pub record UnderWay : Type 0 where
  pub message : List ℕ
  pub next : ℕ

-- what stands in front of each datagram, the number of the last message begun, 0 for none, and what is left of it
pub record Sending : Type 0 where
  pub header : Header
  pub number : ℕ
  pub under_way : Option UnderWay

-- an end that has sent nothing
abbrev pub new_sending : Form → ℕ → Sending
new_sending form qport = record { header = record { form = form; qport = qport }; number = 0; under_way = None }

-- nothing is left to be handed out
abbrev pub IsIdle : Sending → Type 0
IsIdle s = s.under_way ≡ None

-- a message is begun, under the next number
abbrev pub started : Sending → List ℕ → Sending
started s message = record s { number = s.number + 1; under_way = Some (record { message = message; next = 0 }) }

-- what is left after a piece
abbrev pub left_of : UnderWay → Option UnderWay
left_of left =
    if nat_lt (left.next + 1) (piece_count (length left.message)) then Some (record left { next = left.next + 1 }) else None

-- an end after it handed out a piece, and the datagram
pub record Handed : Type 0 where
  pub sending : Sending
  pub datagram : List ℕ

abbrev pub hand_out : Sending → Option UnderWay → Handed
hand_out s None = record { sending = s; datagram = [] }
hand_out s (Some left) = record {
  sending = record s { under_way = left_of left };
  datagram = datagram s.header s.number left.message left.next;
}

-- the next piece is handed out
unfoldable pub next_of : Sending → Handed
next_of s = hand_out s s.under_way

-- the datagrams of so many pieces that are handed out one by one, and the end after them
unfoldable pub handed_out : ℕ → Sending → List (List ℕ)
handed_out zero s = []
handed_out (suc count) s = (next_of s).datagram ∷ handed_out count (next_of s).sending

unfoldable pub sending_after : ℕ → Sending → Sending
sending_after zero s = s
sending_after (suc count) s = sending_after count (next_of s).sending

-- ---- what an end hands out

-- a datagram that is handed out: the number of the message, which of its pieces it carries, and its bytes
pub record Piece : Type 0 where
  pub number : ℕ
  pub index : ℕ
  pub bytes : List ℕ

-- what an emission hands out stands in a buffer: nothing, or the datagram's bytes, which aren't none
abbrev pub HandsOut : Option Piece → List ℕ → Type 0
HandsOut None bytes = bytes ≡ []
HandsOut (Some piece) bytes = (bytes ≡ piece.bytes) × (0 < length bytes)
