-- What an end that receives keeps, and what a datagram does to it.
use Rattle.std.specs.Prelude.{◌≡◌, ◌≤◌, ℕ, ◌+◌, ◌==◌, nat_lt, nat_le, ◌||◌, if◌then◌else◌, Bool, List, [], ◌∷◌, ◌++◌, length, take}
use Rattle.std.specs.Str.{bytes_eq}
use Rattle.q3_chan.specs.declared.form.Form.{Form}
use Rattle.q3_chan.specs.declared.gatherer.Gathered.{Gathered}
use Rattle.q3_chan.specs.declared.gatherer.Gathered.TheVariants.{Whole, Partial, Old, OutOfOrder, BadFragment, BadCheck, Runt, Connectionless}
use Rattle.q3_chan.specs.Datagrams.{Header, fragment_size, longest_message, is_fragment, number_in, length_of, has_bad_check, start_in, count_in, after_header}

-- which end sends and by what its datagrams are checked, the newest number taken, 0 for none, and what was gathered: the number of its
-- message, 0 for none, and its bytes so far
pub record Gathering : Type 0 where
  pub form : Form
  pub taken : ℕ
  pub number : ℕ
  pub bytes : List ℕ

-- what stands in front of the datagrams that an end hears, by their qport
abbrev pub header_heard : Gathering → ℕ → Header
header_heard g qport = record { form = g.form; qport = qport }

-- an end that has taken nothing
abbrev pub new_gathering : Form → Gathering
new_gathering form = record { form = form; taken = 0; number = 0; bytes = [] }

-- an end after a datagram, the answer, and the message that came whole, if one did
pub record Took : Type 0 where
  pub gathering : Gathering
  pub answer : Gathered
  pub message : List ℕ

-- nothing comes whole
abbrev pub answers : Gathering → Gathered → Took
answers g answer = record { gathering = g; answer = answer; message = [] }

-- a message came whole: its number is the newest taken
abbrev pub arrives : Gathering → ℕ → List ℕ → Took
arrives g number message =
    record { gathering = record g { taken = number }; answer = Whole number (length message); message = message }

-- nothing is gathered
abbrev pub emptied : Gathering → Gathering
emptied g = record g { number = 0; bytes = [] }

-- what was gathered of a message: where it is another than the gathered one, nothing
abbrev pub gathering_of : Gathering → ℕ → Gathering
gathering_of g number = if number == g.number then g else record g { number = number; bytes = [] }

-- a message that goes whole leaves what was gathered
abbrev pub take_whole : Gathering → ℕ → List ℕ → Took
take_whole g number message = if nat_lt longest_message (length message) then answers g BadFragment else arrives g number message

-- a piece after what was gathered: one that is shorter than a piece may be completes the message
abbrev pub add_piece : Gathering → List ℕ → Took
add_piece g piece =
    if nat_lt (length piece) fragment_size then arrives (emptied g) g.number (g.bytes ++ piece)
    else answers (record g { bytes = g.bytes ++ piece }) Partial

-- a piece that is said to have so many bytes, of which these are there
abbrev pub take_piece : Gathering → ℕ → List ℕ → Took
take_piece g count there =
    if nat_lt fragment_size count || nat_lt (length there) count || nat_lt longest_message (length g.bytes + count) then answers g BadFragment
    else add_piece g (take count there)

-- a fragment whose piece starts there: it must start where what was gathered ends
abbrev pub take_fragment : Gathering → ℕ → ℕ → List ℕ → Took
take_fragment g start count there = if start == length g.bytes then take_piece g count there else answers g OutOfOrder

-- a datagram of a newer number
abbrev pub take_newer : Gathering → List ℕ → Took
take_newer g datagram =
    if is_fragment datagram
    then take_fragment (gathering_of g (number_in datagram)) (start_in g.form datagram) (count_in g.form datagram) (after_header g.form datagram)
    else take_whole g (number_in datagram) (after_header g.form datagram)

-- a datagram that begins with four bytes of 255
abbrev pub is_connectionless : List ℕ → Bool
is_connectionless datagram = bytes_eq (take 4 datagram) (255 ∷ 255 ∷ 255 ∷ 255 ∷ [])

-- a datagram arrives, any bytes
unfoldable pub gathered : Gathering → List ℕ → Took
gathered g datagram =
    if nat_lt (length datagram) 4 then answers g Runt else
    if is_connectionless datagram then answers g Connectionless else
    if nat_lt (length datagram) (length_of g.form (is_fragment datagram)) then answers g Runt else
    if has_bad_check g.form.side g.form.check datagram then answers g BadCheck else
    if nat_le (number_in datagram) g.taken then answers g Old else take_newer g datagram

-- a message that came whole stands at the front of a buffer
abbrev pub Delivers : Gathered → List ℕ → List ℕ → Type 0
Delivers (Whole number count) into message = (count ≤ longest_message) × (take count into ≡ message)
Delivers other into message = Unit {0}

-- an end after these datagrams
unfoldable pub gathered_all : Gathering → List (List ℕ) → Gathering
gathered_all g [] = g
gathered_all g (datagram ∷ others) = gathered_all (gathered g datagram).gathering others
