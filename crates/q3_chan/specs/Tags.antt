-- What a datagram does to an end that receives, by what it is: the piece at an index of the message under a number.
use Rattle.std.specs.Prelude.{◌≡◌, ◌⊎◌, ℕ, zero, suc, ◌+◌, ◌*◌, ◌<◌, ◌≤◌, ◌==◌, nat_lt, nat_le, if◌then◌else◌, List, length, take}
use Rattle.q3_chan.specs.declared.gatherer.Gathered.{Gathered}
use Rattle.q3_chan.specs.declared.gatherer.Gathered.TheVariants.{Whole, Partial, Old, OutOfOrder}
use Rattle.q3_chan.specs.Datagrams.{fragment_size, piece_count}
use Rattle.q3_chan.specs.Gathering.{Gathering, Took, answers, arrives, emptied, gathering_of}

-- the piece at an index, where what was gathered ends: the last completes its message
abbrev pub tag_piece : Gathering → ℕ → List ℕ → ℕ → Took
tag_piece g number message index =
    if nat_lt (index + 1) (piece_count (length message))
    then answers (record g { bytes = take (fragment_size * (index + 1)) message }) Partial
    else arrives (emptied g) number message

-- the piece at an index, of a message that was cut
abbrev pub tag_fragment : Gathering → ℕ → List ℕ → ℕ → Took
tag_fragment g number message index =
    if fragment_size * index == length g.bytes then tag_piece g number message index else answers g OutOfOrder

-- a piece arrives: it is old, or comes whole, or starts the gathering anew, is out of order, partial, or completes
unfoldable pub tagged : Gathering → ℕ → List ℕ → ℕ → Took
tagged g number message index =
    if nat_le number g.taken then answers g Old else
    if nat_lt (length message) fragment_size then arrives g number message
    else tag_fragment (gathering_of g number) number message index

-- an end after so many first pieces of a message arrived, in order
unfoldable pub tagged_all : Gathering → ℕ → List ℕ → ℕ → Gathering
tagged_all g number message zero = g
tagged_all g number message (suc count) = (tagged (tagged_all g number message count) number message count).gathering

-- ---- what comes of a piece

-- an answer to a piece with which no message comes: it was the next and not the last, it was old, or out of order
abbrev pub IsQuiet : Gathered → Type 0
IsQuiet Partial = Unit {0}
IsQuiet Old = Unit {0}
IsQuiet OutOfOrder = Unit {0}
IsQuiet other = ⊥

-- no message came whole, and the newest number taken is as it was
pub record Waits (g : Gathering) (took : Took) : Type 0 where
  pub quiet : IsQuiet took.answer
  pub taken : took.gathering.taken ≡ g.taken

-- the message came whole under its number, which was newer and is now the newest taken
pub record Came (g : Gathering) (number : ℕ) (message : List ℕ) (took : Took) : Type 0 where
  pub newer : g.taken < number
  pub answer : took.answer ≡ Whole number (length message)
  pub message_is : took.message ≡ message
  pub taken : took.gathering.taken ≡ number

-- what a piece of a message does: the form stays, the number gathered stays within any limit that it and the piece's were
-- within, and no message comes whole or the piece's does
pub record PieceDoes (g : Gathering) (number : ℕ) (message : List ℕ) (took : Took) : Type 0 where
  pub form : took.gathering.form ≡ g.form
  pub below : (limit : ℕ) → g.number ≤ limit → number ≤ limit → took.gathering.number ≤ limit
  pub either : Waits g took ⊎ Came g number message took
