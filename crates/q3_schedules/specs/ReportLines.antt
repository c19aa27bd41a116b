-- The counts of a report, by its text alone: how many of its lines are of each kind.
use Rattle.std.specs.Prelude.{◌≡◌, ℕ, ◌==◌, ◌&&◌, ◌||◌, not, if◌then◌else◌, Bool, List, [], ◌∷◌, reverse, codes, take, slice_index_or}
use Rattle.std.specs.List.{slice_split, count_by, starts_with, flat_map}
use Rattle.std.specs.Str.{bytes_eq}
use Rattle.q3_profile.specs.declared.profile.Profile.{Profile}
use Rattle.q3_script.specs.declared.event.Event.{Event}
use Rattle.q3_words.specs.Words.{words_of}
use Rattle.q3_report.specs.Answers.{Answered}
use Rattle.q3_report.specs.AnswerLines.{lines_of}
use Rattle.q3_counts.specs.declared.counts.Counts.{Counts}
use Rattle.q3_counts.specs.Counts.{no_counts, with_lines, counts_of}
use Rattle.q3_world.specs.World.{opening, answers}
use Rattle.q3_world.specs.Report.{report}

-- the lines of a text, each up to a newline
abbrev pub text_lines : List ℕ → List (List ℕ)
text_lines text = take (count_by (λ byte. byte == 10) text) (slice_split (λ byte. byte == 10) text)

-- whether a line begins with these bytes
abbrev pub begins : List ℕ → List ℕ → Bool
begins front line = starts_with (λ a b. a == b) line front

-- whether it stands under another
abbrev pub is_under : List ℕ → Bool
is_under line = begins (codes "+ ") line

-- whether `datagram` stands before the last of these words
abbrev pub names_datagram : List (List ℕ) → Bool
names_datagram words = bytes_eq (codes "datagram") (slice_index_or (reverse words) 1 [])

-- whether it is of a `serve` or a `send`, and ends with a datagram's number
abbrev pub has_datagram : List ℕ → Bool
has_datagram line = (begins (codes "serve ") line || begins (codes "send ") line) && names_datagram (words_of line)

-- the word that tells the end that took bytes: the second, after `arrive`; the third, after any other word and its number
abbrev pub taker_of : List (List ℕ) → List ℕ
taker_of words = slice_index_or words (if bytes_eq (slice_index_or words 0 []) (codes "arrive") then 1 else 2) []

-- whether a line is of that end
abbrev pub taken_by : List ℕ → List ℕ → Bool
taken_by end line = bytes_eq end (taker_of (words_of line))

-- a line, and the one that it stands under, or itself
pub record Placed : Type 0 where
  pub above : List ℕ
  pub line : List ℕ

-- each of these lines so, where this one stands above the first
unfoldable pub placed : List ℕ → List (List ℕ) → List Placed
placed above [] = []
placed above (line ∷ lines) =
    if is_under line then record { above = above; line = line } ∷ placed above lines
    else record { above = line; line = line } ∷ placed line lines

-- whether a line is an event's first, one of a datagram that was made, of an accepted snapshot, of a skipped one, of a command that a client
-- executed, of one that the server executed, or of a move
abbrev pub is_event : Placed → Bool
is_event one = not (is_under one.line)

abbrev pub is_datagram : Placed → Bool
is_datagram one = has_datagram one.line

abbrev pub is_accepted : Placed → Bool
is_accepted one = begins (codes "+ accepted ") one.line

abbrev pub is_skipped : Placed → Bool
is_skipped one = begins (codes "+ skipped ") one.line

abbrev pub is_server_command : Placed → Bool
is_server_command one = begins (codes "+ command ") one.line && taken_by (codes "client") one.above

abbrev pub is_client_command : Placed → Bool
is_client_command one = begins (codes "+ command ") one.line && taken_by (codes "server") one.above

abbrev pub is_move : Placed → Bool
is_move one = begins (codes "+ move ") one.line

-- how many lines there are of each kind
abbrev pub lines_by_kind : List Placed → Counts
lines_by_kind lines = record {
  events = count_by is_event lines;
  datagrams = count_by is_datagram lines;
  accepted = count_by is_accepted lines;
  skipped = count_by is_skipped lines;
  server_commands = count_by is_server_command lines;
  client_commands = count_by is_client_command lines;
  moves = count_by is_move lines;
}

-- the counts of a report, each of which stops at the greatest of 64 bits
abbrev pub counts_in : List ℕ → Counts
counts_in report = with_lines no_counts (lines_by_kind (placed [] (text_lines report)))

-- what is counted over answers are the lines of their text
abbrev pub CountsAreLines : Type 0
CountsAreLines = (told : List Answered) → counts_of told ≡ counts_in (flat_map lines_of told)

-- so are the counts of a replay those of its report
abbrev pub ReplayIsCounted : Type 0
ReplayIsCounted = (profile : Profile) (events : List Event) → counts_of (answers profile (opening profile) events) ≡ counts_in (report profile events)
