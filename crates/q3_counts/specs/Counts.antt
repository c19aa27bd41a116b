-- What a replay counts: the lines of its report, by their kind.
use Rattle.std.specs.Prelude.{ℕ, ◌+◌, ◌-◌, ◌^◌, min, List, [], ◌∷◌, length, Ok}
use Rattle.q3_text.specs.declared.text.Command.{Command}
use Rattle.q3_clstate.specs.declared.applied.SnapOutcome.{SnapOutcome}
use Rattle.q3_clstate.specs.declared.applied.SnapOutcome.TheVariants.{Accepted, Skipped}
use Rattle.q3_client.specs.declared.client.ClientTook.{ClientTook}
use Rattle.q3_client.specs.declared.client.ClientTook.TheVariants.{Applied}
use Rattle.q3_client.specs.declared.client.Sent.{Sent}
use Rattle.q3_client.specs.declared.client.Sent.TheVariants as sent
use Rattle.q3_slot.specs.declared.answer.Emitted.{Emitted}
use Rattle.q3_slot.specs.declared.answer.Emitted.TheVariants as emitted
use Rattle.q3_slot.specs.declared.taking.Heard.{Heard}
use Rattle.q3_slot.specs.declared.taking.ServerTook.{ServerTook}
use Rattle.q3_slot.specs.declared.taking.ServerTook.TheVariants.{Ran}
use Rattle.q3_report.specs.Answers.{Taking, ByClient, ByServer, Answered, Served, SentOut, Took}
use Rattle.q3_counts.specs.declared.counts.Counts.{Counts}

-- before the first event
abbrev pub no_counts : Counts
no_counts = record { events = 0; datagrams = 0; accepted = 0; skipped = 0; server_commands = 0; client_commands = 0; moves = 0 }

-- an event whose lines have nothing else that is counted
abbrev pub one_event : Counts
one_event = record no_counts { events = 1 }

-- a line of a `serve`, and one of a `send`, that has a datagram's number
abbrev pub made_served : Emitted → ℕ
made_served (emitted.Fragment number) = 1
made_served (emitted.Game number bytes) = 1
made_served (emitted.Snapshot number base bytes) = 1
made_served other = 0

abbrev pub made_sent : Sent → ℕ
made_sent (sent.Fragment number) = 1
made_sent (sent.Message number bytes) = 1
made_sent other = 0

-- a line of a snapshot that was accepted, and of one that was skipped
abbrev pub accepted_in : SnapOutcome → ℕ
accepted_in (Accepted base) = 1
accepted_in other = 0

abbrev pub skipped_in : SnapOutcome → ℕ
skipped_in (Skipped base cause) = 1
skipped_in other = 0

-- the lines of a client that took a datagram
abbrev pub lines_of_client : ClientTook → List Command → Counts
lines_of_client (Applied applied) commands =
    record one_event { accepted = accepted_in applied.snap; skipped = skipped_in applied.snap; server_commands = length commands }
lines_of_client other commands = one_event

-- and of the server
abbrev pub lines_of_server : ServerTook → Heard → Counts
lines_of_server (Ran slot number) heard = record one_event { client_commands = length heard.commands; moves = length heard.moves.items }
lines_of_server other heard = one_event

-- the lines of an end that took bytes
abbrev pub lines_of_taking : Taking → Counts
lines_of_taking (ByClient c took state commands ended) = lines_of_client took commands
lines_of_taking (ByServer took heard) = lines_of_server took heard

-- the lines of an answer
abbrev pub lines_in : Answered → Counts
lines_in (Served c emission datagram) = record one_event { datagrams = made_served emission }
lines_in (SentOut c (Ok said) datagram) = record one_event { datagrams = made_sent said }
lines_in (Took front taking) = lines_of_taking taking
lines_in other = one_event

-- a count with so many more, which stops at the greatest of 64 bits
abbrev pub more : ℕ → ℕ → ℕ
more count lines = min (count + lines) (2 ^ 64 - 1)

-- what was counted, with these lines
abbrev pub with_lines : Counts → Counts → Counts
with_lines counts lines = record {
  events = more counts.events lines.events;
  datagrams = more counts.datagrams lines.datagrams;
  accepted = more counts.accepted lines.accepted;
  skipped = more counts.skipped lines.skipped;
  server_commands = more counts.server_commands lines.server_commands;
  client_commands = more counts.client_commands lines.client_commands;
  moves = more counts.moves lines.moves;
}

-- with an answer
abbrev pub counted : Counts → Answered → Counts
counted counts answer = with_lines counts (lines_in answer)

-- with these answers, one after the other
unfoldable pub counted_all : Counts → List Answered → Counts
counted_all counts [] = counts
counted_all counts (answer ∷ others) = counted_all (counted counts answer) others

-- what a replay counts that answers so
abbrev pub counts_of : List Answered → Counts
counts_of answers = counted_all no_counts answers
