-- Datagrams: the number of a message, from a client its qport, by protocol 71 a check, and a piece of the message; a short one goes
-- whole.
use Rattle.std.specs.Prelude.{[], ℕ, ◌+◌, ◌-◌, ◌*◌, ◌/◌, ◌%◌, ◌^◌, nat_lt, nat_le, ◌==◌, not, if◌then◌else◌, Bool, true, false, Option, Some, None, is_some, List, ◌++◌, length, map, take, drop}
use Rattle.std.specs.List.{range_with_len}
use Rattle.byteorder.specs.Endian.{little_bytes, little_number}
use Rattle.q3_chan.specs.declared.side.Side.{Side}
use Rattle.q3_chan.specs.declared.side.Side.TheVariants.{Server, Client}
use Rattle.q3_chan.specs.declared.form.Form.{Form}
use Rattle.q3_chan.specs.Checks.{check_of}

-- a message below this length goes whole, and no piece is longer
abbrev pub fragment_size : ℕ
fragment_size = 1300

-- the longest message
abbrev pub longest_message : ℕ
longest_message = 16384

-- message numbers end here
abbrev pub sequence_end : ℕ
sequence_end = 2 ^ 30

-- what is added to the number of a message in its fragments: the top bit
abbrev pub fragment_mark : ℕ
fragment_mark = 2 ^ 31

-- ---- what is sent

-- how many pieces a message of so many bytes has
abbrev pub piece_count : ℕ → ℕ
piece_count bytes = bytes / fragment_size + 1

-- the index of the last
abbrev pub last_index : List ℕ → ℕ
last_index message = piece_count (length message) - 1

-- the piece of a message at an index: as many bytes as go into one, and in the last piece those that are left, which may
-- be none
abbrev pub piece : List ℕ → ℕ → List ℕ
piece message index = take fragment_size (drop (fragment_size * index) message)

-- the pieces of a message, in order
unfoldable pub pieces : List ℕ → List (List ℕ)
pieces message = map (piece message) (range_with_len 0 (piece_count (length message)))

-- what stands in front of each datagram of an end beside the number of its message: which end sends and by what it is checked, and a
-- client's qport
pub record Header : Type 0 where
  pub form : Form
  pub qport : ℕ

-- of what a server sends, and of what a client sends, by a check or none
abbrev pub server_form : Option ℕ → Form
server_form check = record { side = Server; check = check }

abbrev pub client_form : Option ℕ → Form
client_form check = record { side = Client; check = check }

-- a form with this check, or none
abbrev pub with_check : Form → Option ℕ → Form
with_check form check = record form { check = check }

-- that of a server, with what it sends no qport goes, and that of a client
abbrev pub server_header : Option ℕ → Header
server_header check = record { form = server_form check; qport = 0 }

abbrev pub client_header : Option ℕ → ℕ → Header
client_header check qport = record { form = client_form check; qport = qport }

-- the qport in two bytes, which a server doesn't send
abbrev pub qport_bytes : Side → ℕ → List ℕ
qport_bytes Server qport = []
qport_bytes Client qport = little_bytes 2 qport

-- the check of a number in four bytes, where there is one
abbrev pub check_bytes : Option ℕ → ℕ → List ℕ
check_bytes None number = []
check_bytes (Some challenge) number = little_bytes 4 (check_of challenge number)

-- the number of a message in a datagram, which has the mark in a fragment
abbrev pub marked : Bool → ℕ → ℕ
marked fragment number = if fragment then number + fragment_mark else number

-- what a datagram of the message under a number begins with, a fragment or not: the number in four bytes, from a client its qport, and
-- the check
abbrev pub header_bytes : Header → Bool → ℕ → List ℕ
header_bytes header fragment number =
    little_bytes 4 (marked fragment number) ++ qport_bytes header.form.side header.qport ++ check_bytes header.form.check number

-- a fragment: its header, where the piece starts and how long it is, in two bytes each, and the piece
abbrev pub fragment : Header → ℕ → ℕ → List ℕ → List ℕ
fragment header number start bytes =
    header_bytes header true number ++ little_bytes 2 start ++ little_bytes 2 (length bytes) ++ bytes

-- the datagram with the piece of a message at an index; a message that goes whole has one, which isn't a fragment
unfoldable pub datagram : Header → ℕ → List ℕ → ℕ → List ℕ
datagram header number message index =
    if nat_lt (length message) fragment_size then header_bytes header false number ++ message
    else fragment header number (fragment_size * index) (piece message index)

-- the datagrams of a message, in order
unfoldable pub datagrams : Header → ℕ → List ℕ → List (List ℕ)
datagrams header number message = map (datagram header number message) (range_with_len 0 (piece_count (length message)))

-- ---- what a receiver sees

-- whether a datagram has a fragment of a message
abbrev pub is_fragment : List ℕ → Bool
is_fragment bytes = nat_le fragment_mark (little_number 4 bytes)

-- the number of the message
abbrev pub number_in : List ℕ → ℕ
number_in bytes = little_number 4 bytes % fragment_mark

-- how many bytes stand before the check, and how many it has
abbrev pub before_check : Side → ℕ
before_check Server = 4
before_check Client = 6

abbrev pub check_length : Bool → ℕ
check_length true = 4
check_length false = 0

-- how many stand before a message that goes whole, with a check or without
abbrev pub short_header : Side → Bool → ℕ
short_header side checked = before_check side + check_length checked

-- and how many before a piece, if it is one
abbrev pub header_length : Side → Bool → Bool → ℕ
header_length side checked fragment = if fragment then short_header side checked + 4 else short_header side checked

-- the same of a form
abbrev pub short_of : Form → ℕ
short_of form = short_header form.side (is_some form.check)

abbrev pub length_of : Form → Bool → ℕ
length_of form fragment = header_length form.side (is_some form.check) fragment

-- the check that a datagram has
abbrev pub check_in : Side → List ℕ → ℕ
check_in side bytes = little_number 4 (drop (before_check side) bytes)

-- whether it is another than that of its number
abbrev pub has_bad_check : Side → Option ℕ → List ℕ → Bool
has_bad_check side None bytes = false
has_bad_check side (Some challenge) bytes = not (check_in side bytes == check_of challenge (number_in bytes))

-- where a fragment's piece starts, how long it is said to be, and the bytes that stand after the header
abbrev pub start_in : Form → List ℕ → ℕ
start_in form bytes = little_number 2 (drop (short_of form) bytes)

abbrev pub count_in : Form → List ℕ → ℕ
count_in form bytes = little_number 2 (drop (short_of form + 2) bytes)

abbrev pub after_header : Form → List ℕ → List ℕ
after_header form bytes = drop (length_of form (is_fragment bytes)) bytes
