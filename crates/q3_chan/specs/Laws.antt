-- Laws of messages that are cut, gathered and scrambled.
use Rattle.std.specs.Prelude.{◌≡◌, ◌⊎◌, ℕ, ◌+◌, ◌*◌, ◌^◌, ◌<◌, ◌≤◌, true, false, List, [], ◌∷◌, ◌++◌, length, map, take, Some, IfSome, All}
use Rattle.std.specs.List.{concat, range_with_len}
use Rattle.q3_text.specs.Texts.{IsText}
use Rattle.q3_chan.specs.declared.side.Side.{Side}
use Rattle.q3_chan.specs.declared.form.Form.{Form}
use Rattle.q3_chan.specs.declared.gatherer.Gathered.TheVariants.{Whole, Partial}
use Rattle.q3_chan.specs.Datagrams.{Header, fragment_size, longest_message, sequence_end, piece_count, last_index, pieces, datagram, datagrams, is_fragment, number_in, start_in, count_in, after_header}
use Rattle.q3_chan.specs.Sending.{Sending, UnderWay, IsIdle, new_sending, started, next_of, handed_out, sending_after}
use Rattle.q3_chan.specs.Gathering.{Gathering, gathered, gathered_all, header_heard, new_gathering}
use Rattle.q3_chan.specs.Tags.{tagged, tagged_all, Came, PieceDoes}
use Rattle.q3_chan.specs.Scrambling.{scrambled}
use Rattle.q3_chan.specs.Keys.{Key, clear_bytes, side_scrambled}

-- the pieces of a message, one after the other, are the message
abbrev pub PiecesAreWhole : Type 0
PiecesAreWhole = (message : List ℕ) → concat (pieces message) ≡ message

-- an idle end that begins a message hands out its datagrams, in order, and then is idle
abbrev pub HandsOutAll : Type 0
HandsOutAll = (s : Sending) (message : List ℕ) → IsIdle s
    → (handed_out (piece_count (length message)) (started s message) ≡ datagrams s.header (s.number + 1) message)
    × IsIdle (sending_after (piece_count (length message)) (started s message))

-- a message as an end may send it
pub record IsSendable (message : List ℕ) : Type 0 where
  pub some : 1 ≤ length message
  pub most : length message ≤ longest_message
  pub bytes : All (λ byte. byte < 256) message

-- what was gathered is the front of the message under its number: its first pieces, and not the last
pub record HoldsFront (messages : ℕ → List ℕ) (g : Gathering) : Type 0 where
  pub count : ℕ
  pub not_all : count < piece_count (length (messages g.number))
  pub front : g.bytes ≡ take (fragment_size * count) (messages g.number)

-- a datagram that an end sent does what its piece does, and what is gathered then is a front again
abbrev pub SentIsTagged : Type 0
SentIsTagged = (messages : ℕ → List ℕ) (g : Gathering) (qport number index : ℕ) → HoldsFront messages g → qport < 2 ^ 16
    → 1 ≤ number → number < sequence_end → IsSendable (messages number) → index < piece_count (length (messages number))
    → (gathered g (datagram (header_heard g qport) number (messages number) index) ≡ tagged g number (messages number) index)
    × HoldsFront messages (tagged g number (messages number) index).gathering

-- a datagram of one of these messages
abbrev pub IsOneOf : Header → (ℕ → List ℕ) → List ℕ → Type 0
IsOneOf header messages bytes =
    (number : ℕ) × (index : ℕ) × (1 ≤ number) × (number < sequence_end) × IsSendable (messages number)
    × (index < piece_count (length (messages number))) × (bytes ≡ datagram header number (messages number) index)

-- what a piece does, whatever was gathered
abbrev pub TaggedDoes : Type 0
TaggedDoes = (g : Gathering) (number : ℕ) (message : List ℕ) (index : ℕ) → PieceDoes g number message (tagged g number message index)

-- ---- what comes whole

-- where all pieces of a newer message but the last arrived in order, whatever was gathered before, with the last it comes whole
abbrev pub PiecesAreTagged : Type 0
PiecesAreTagged = (messages : ℕ → List ℕ) (g : Gathering) (number : ℕ) → HoldsFront messages g → g.taken < number
    → Came (tagged_all g number (messages number) (last_index (messages number))) number (messages number)
    (tagged (tagged_all g number (messages number) (last_index (messages number))) number (messages number) (last_index (messages number)))

-- and where nothing of it was gathered before, each piece but the last is partial
abbrev pub FirstArePartial : Type 0
FirstArePartial = (g : Gathering) (number : ℕ) (message : List ℕ) (index : ℕ) → g.taken < number → (g.number ≡ number → g.bytes ≡ []) → index < last_index message
    → (tagged (tagged_all g number message index) number message index).answer ≡ Partial

-- an end after so many first datagrams of a message
abbrev pub gathered_first : Gathering → ℕ → ℕ → List ℕ → ℕ → Gathering
gathered_first g qport number message count = gathered_all g (map (datagram (header_heard g qport) number message) (range_with_len 0 count))

-- the same by bytes: where nothing of a newer message was gathered but some first pieces, and not the last, and all its datagrams but
-- the last came in order, with the last it comes whole
abbrev pub PiecesComeWhole : Type 0
PiecesComeWhole = (g : Gathering) (qport number held : ℕ) (message : List ℕ) → g.taken < number → held < piece_count (length message)
    → (g.number ≡ number → g.bytes ≡ take (fragment_size * held) message) → number < sequence_end → IsSendable message
    → Came (gathered_first g qport number message (last_index message)) number message
    (gathered (gathered_first g qport number message (last_index message)) (datagram (header_heard g qport) number message (last_index message)))

-- and where nothing of it was gathered before, each but the last is partial
abbrev pub FirstComePartial : Type 0
FirstComePartial = (g : Gathering) (qport number index : ℕ) (message : List ℕ) → g.taken < number → (g.number ≡ number → g.bytes ≡ [])
    → number < sequence_end → IsSendable message → index < last_index message
    → (gathered (gathered_first g qport number message index) (datagram (header_heard g qport) number message index)).answer ≡ Partial

-- whatever of one sender's datagrams came, in whatever order: a message that comes whole is the one under its number
abbrev pub GatheredIsOne : Type 0
GatheredIsOne = (header : Header) (messages : ℕ → List ℕ) (came : List (List ℕ)) (last : List ℕ) (number count : ℕ) → header.qport < 2 ^ 16
    → All (IsOneOf header messages) came → IsOneOf header messages last
    → (gathered (gathered_all (new_gathering header.form) came) last).answer ≡ Whole number count
    → (gathered (gathered_all (new_gathering header.form) came) last).message ≡ messages number

-- datagrams with pieces of the message under a number, each of which starts where those before it end
abbrev pub ArePieces : Form → ℕ → ℕ → List (List ℕ) → List ℕ → Type 0
ArePieces form number start [] bytes = bytes ≡ []
ArePieces form number start (datagram ∷ others) bytes =
    (is_fragment datagram ≡ true) × (number_in datagram ≡ number) × (start_in form datagram ≡ start)
    × (count_in form datagram ≤ length (after_header form datagram)) × (rest : List ℕ)
    × (bytes ≡ take (count_in form datagram) (after_header form datagram) ++ rest) × ArePieces form number (start + count_in form datagram) others rest

-- these stand among the others, in this order
abbrev pub StandIn : List (List ℕ) → List (List ℕ) → Type 0
StandIn [] others = Unit {0}
StandIn (one ∷ ones) others = (before : List (List ℕ)) × (after : List (List ℕ)) × (others ≡ before ++ one ∷ after) × StandIn ones after

-- whatever bytes came: a message that comes whole stood under its number in the last datagram, or is pieces of one number that
-- came in their order, of which the last is that of the last datagram; each before it has as many bytes as go into one, and it
-- has fewer
abbrev pub WholeArePieces : Type 0
WholeArePieces = (form : Form) (came : List (List ℕ)) (last : List ℕ) (number count : ℕ)
    → (gathered (gathered_all (new_gathering form) came) last).answer ≡ Whole number count
    → ((is_fragment last ≡ false) × (number_in last ≡ number) × ((gathered (gathered_all (new_gathering form) came) last).message ≡ after_header form last))
    ⊎ ((parts : List (List ℕ)) × StandIn parts came × All (λ part. count_in form part ≡ fragment_size) parts × (count_in form last < fragment_size)
    × ArePieces form number 0 (parts ++ last ∷ []) (gathered (gathered_all (new_gathering form) came) last).message)

-- ---- the two ends

-- an end that receives has taken and gathers numbers up to the last that was begun, and what it gathered is a front
pub record Gathers (messages : ℕ → List ℕ) (last : ℕ) (g : Gathering) : Type 0 where
  pub taken : g.taken ≤ last
  pub number : g.number ≤ last
  pub front : HoldsFront messages g

-- where an end that receives is so
pub record EndsGather : Type 0 where
  -- an end that has taken nothing
  pub begin : (messages : ℕ → List ℕ) (last : ℕ) (form : Form) → Gathers messages last (new_gathering form)
  -- a piece of a message that was begun
  pub piece : (messages : ℕ → List ℕ) (last : ℕ) (g : Gathering) (number index : ℕ) → Gathers messages last g → number ≤ last
      → Gathers messages last (tagged g number (messages number) index).gathering
  -- and where more messages are begun
  pub more : (messages messages' : ℕ → List ℕ) (last last' : ℕ) (g : Gathering) → Gathers messages last g → last ≤ last'
      → ((number : ℕ) → number ≤ last → messages' number ≡ messages number) → Gathers messages' last' g
  -- and whatever bytes arrive, it hears the same form
  pub stays : (g : Gathering) (bytes : List ℕ) → (gathered g bytes).gathering.form ≡ g.form

-- what is under way is the message under a number, which isn't 0, and a piece of it is left
pub record IsUnderWay (messages : ℕ → List ℕ) (number : ℕ) (way : UnderWay) : Type 0 where
  pub some : 1 ≤ number
  pub message : way.message ≡ messages number
  pub left : way.next < piece_count (length (messages number))

-- an end that sends has nothing under way, or the message under its number
pub record Sends (messages : ℕ → List ℕ) (s : Sending) : Type 0 where
  pub under_way : IfSome s.under_way (IsUnderWay messages s.number)

-- what an end hands out next is the datagram with the piece at an index of the message under its number
pub record HandsOut (messages : ℕ → List ℕ) (s : Sending) (index : ℕ) : Type 0 where
  pub some : 1 ≤ s.number
  pub left : index < piece_count (length (messages s.number))
  pub bytes : (next_of s).datagram ≡ datagram s.header s.number (messages s.number) index

-- where an end that sends is so, and what it hands out
pub record EndsSend : Type 0 where
  -- an end that has sent nothing
  pub begin : (messages : ℕ → List ℕ) (form : Form) (qport : ℕ) → Sends messages (new_sending form qport)
  -- a message is begun
  pub start : (messages : ℕ → List ℕ) (s : Sending) (message : List ℕ) → messages (s.number + 1) ≡ message → Sends messages (started s message)
  -- a piece is handed out
  pub next : (messages : ℕ → List ℕ) (s : Sending) → Sends messages s → Sends messages (next_of s).sending
  -- and then header and number are as they were
  pub stays : (s : Sending) → ((next_of s).sending.header ≡ s.header) × ((next_of s).sending.number ≡ s.number)
  -- of a message under way it is the piece that is left
  pub piece : (messages : ℕ → List ℕ) (s : Sending) (way : UnderWay) → Sends messages s → s.under_way ≡ Some way → HandsOut messages s way.next
  -- and it is one of the messages' datagrams
  pub one : (messages : ℕ → List ℕ) (s : Sending) (index : ℕ) → HandsOut messages s index → s.number < sequence_end → IsSendable (messages s.number)
      → IsOneOf s.header messages (next_of s).datagram

-- ---- scrambling

-- what is scrambled twice is as it was
abbrev pub TwiceIsNone : Type 0
TwiceIsNone = (from start : ℕ) (text bytes : List ℕ) → scrambled from start text (scrambled from start text bytes) ≡ bytes

-- the length stays, and so does what stands before the place
abbrev pub FrontStays : Type 0
FrontStays = (from start : ℕ) (text bytes : List ℕ) → (length (scrambled from start text bytes) ≡ length bytes)
    × ((k : ℕ) → k ≤ from → take k (scrambled from start text bytes) ≡ take k bytes)

-- bytes stay bytes, where the start is one and the text is a command's
abbrev pub BytesStayBytes : Type 0
BytesStayBytes = (from start : ℕ) (text bytes : List ℕ) → start < 2 ^ 8 → IsText text → All (λ byte. byte < 2 ^ 8) bytes
    → All (λ byte. byte < 2 ^ 8) (scrambled from start text bytes)

-- the same of what an end scrambles
abbrev pub SideTwiceIsNone : Type 0
SideTwiceIsNone = (side : Side) (key : Key) (bytes : List ℕ) → side_scrambled side key (side_scrambled side key bytes) ≡ bytes

abbrev pub SideFrontStays : Type 0
SideFrontStays = (side : Side) (key : Key) (bytes : List ℕ) → (length (side_scrambled side key bytes) ≡ length bytes)
    × ((k : ℕ) → k ≤ clear_bytes side → take k (side_scrambled side key bytes) ≡ take k bytes)

abbrev pub SideBytesStay : Type 0
SideBytesStay = (side : Side) (key : Key) (bytes : List ℕ) → IfSome key.start (λ start. start < 2 ^ 8) → IsText key.text → All (λ byte. byte < 2 ^ 8) bytes
    → All (λ byte. byte < 2 ^ 8) (side_scrambled side key bytes)
