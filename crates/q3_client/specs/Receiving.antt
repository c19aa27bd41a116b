-- What is left of a message that a client received, part by part.
use Rattle.std.specs.Prelude.{ℕ, Bool, List, [], Result, Ok, Err}
use Rattle.q3_bits.specs.Bits.{bits_of}
use Rattle.q3_bits.specs.ResultBind.{◌>>=◌, fault_as}
use Rattle.q3_text.specs.declared.text.Command.{Command}
use Rattle.q3_window.specs.Outgoing.{OutgoingState, acknowledge_at}
use Rattle.q3_svmsg.specs.declared.error.Illegible.{Illegible}
use Rattle.q3_svmsg.specs.declared.error.Illegible.TheVariants.{Bits}
use Rattle.q3_svmsg.specs.Reading.{ack_at}
use Rattle.q3_clstate.specs.declared.applied.Applied.{Applied}
use Rattle.q3_clstate.specs.State.{AppliedState}
use Rattle.q3_client.specs.Client.{Reception, ack_taken}

-- the number that bytes acknowledge, as it is read before they are cleared, if the window takes it
abbrev pub acknowledged_by : List (List Bool) → OutgoingState → List ℕ → Result ℕ Illegible
acknowledged_by words issued bytes = do
  ack ← fault_as Bits (ack_at words (bits_of bytes))
  taken ← ack_taken ack.0 (acknowledge_at issued ack.0).answer
  Ok ack.0

-- what was applied, after bytes: what isn't legible changes nothing
abbrev pub state_received : AppliedState → Result Reception Illegible → AppliedState
state_received state (Ok received) = received.application.state
state_received state (Err e) = state

-- the commands that were issued
abbrev pub issued_received : OutgoingState → Result Reception Illegible → OutgoingState
issued_received issued (Ok received) = received.issued
issued_received issued (Err e) = issued

-- what is answered
abbrev pub answer_received : Result Reception Illegible → Result Applied Illegible
answer_received (Ok received) = Ok received.application.answer
answer_received (Err e) = Err e

-- and the commands that were executed
abbrev pub heard_received : Result Reception Illegible → List Command
heard_received (Ok received) = received.application.heard
heard_received (Err e) = []

-- and the bytes of the message, cleared
abbrev pub message_received : Result Reception Illegible → List ℕ
message_received (Ok received) = received.message
message_received (Err e) = []
