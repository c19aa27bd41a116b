-- What an event answered, as a value: all that stands in its lines.
use Rattle.std.specs.Prelude.{ℕ, Bool, false, List, Option, Some, None, Result}
use Rattle.q3_entity_ring.specs.Snapshot.{Snapshot}
use Rattle.q3_text.specs.declared.text.Command.{Command}
use Rattle.q3_clstate.specs.State.{AppliedState}
use Rattle.q3_slot.specs.declared.answer.Emitted.{Emitted}
use Rattle.q3_slot.specs.declared.answer.NoClient.{NoClient}
use Rattle.q3_slot.specs.declared.taking.Heard.{Heard}
use Rattle.q3_slot.specs.declared.taking.ServerTook.{ServerTook}
use Rattle.q3_slot.specs.Taking.{nothing_heard}
use Rattle.q3_client.specs.declared.client.ClientTook.{ClientTook}
use Rattle.q3_client.specs.declared.client.Sent.{Sent}
use Rattle.q3_report.specs.declared.answer.HandedIn.{HandedIn}
use Rattle.q3_report.specs.declared.answer.Front.{Front}
use Rattle.q3_report.specs.declared.answer.TakeRefused.{TakeRefused}

-- an end that took bytes, and what it made of them: a client with what it has then, the commands that it executed, and whether its
-- recording ended by itself; or the server with what it ran
pub data Taking : Type 0 where
  ByClient : ℕ → ClientTook → AppliedState → List Command → Bool → Taking
  ByServer : ServerTook → Heard → Taking

-- what a client shows: there is no such client, it has no snapshot, or its newest
pub data Showing : Type 0 where
  ShowsNobody : Showing
  ShowsNothing : Showing
  ShowsNewest : Snapshot → Showing

-- an answer: something was handed in; the server, or a client, was asked for a datagram, which gets this number if one is handed out; an end
-- took bytes, or nobody did; a client was shown; the bytes of a datagram, if it was made
pub data Answered : Type 0 where
  Given : HandedIn → Answered
  Served : ℕ → Emitted → ℕ → Answered
  SentOut : ℕ → Result Sent NoClient → ℕ → Answered
  Took : Front → Taking → Answered
  Untaken : Front → TakeRefused → Answered
  Shown : ℕ → Showing → Answered
  Bytes : ℕ → Option (List ℕ) → Answered

-- what was executed and run with an answer, kept as the server keeps it: of a client's take the commands alone
abbrev pub ran_in : Answered → Heard
ran_in (Took front (ByClient c took state commands ended)) = record (nothing_heard false) { commands = commands }
ran_in (Took front (ByServer took heard)) = heard
ran_in other = nothing_heard false

-- the snapshot that is shown
abbrev pub snapshot_in : Answered → Option Snapshot
snapshot_in (Shown c (ShowsNewest snapshot)) = Some snapshot
snapshot_in other = None
