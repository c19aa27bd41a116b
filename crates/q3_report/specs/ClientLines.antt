-- What a client's end answers, as reports print it.
use Rattle.std.specs.Prelude.{ℕ, List, [], ◌∷◌, codes, decimal, Option, Some, None}
use Rattle.std.specs.List.{concat}
use Rattle.q3_text.specs.declared.text.Command.{Command}
use Rattle.q3_window.specs.declared.outgoing.WindowFull.{WindowFull}
use Rattle.q3_svmsg.specs.Report.{cause_word, cause_number}
use Rattle.q3_clstate.specs.State.{AppliedState}
use Rattle.q3_clstate.specs.Report.{applied_text}
use Rattle.q3_client.specs.declared.client.ClientTook.{ClientTook}
use Rattle.q3_client.specs.declared.client.ClientTook.TheVariants.{Dropped, Runt, Connectionless, Old, OutOfOrder, BadCheck, BadFragment, Partial, Illegible, Applied}
use Rattle.q3_client.specs.declared.client.MoveError.{MoveError}
use Rattle.q3_client.specs.declared.client.MoveError.TheVariants.{NoGame, NotLater, Range}
use Rattle.q3_client.specs.declared.client.Sent.{Sent}
use Rattle.q3_client.specs.declared.client.Sent.TheVariants as sent

-- the line of a message that isn't legible
abbrev pub illegible_text : List ℕ → Option ℕ → List ℕ
illegible_text word None = concat (codes " illegible " ∷ word ∷ codes "\n" ∷ [])
illegible_text word (Some number) = concat (codes " illegible " ∷ word ∷ codes " " ∷ decimal number ∷ codes "\n" ∷ [])

-- what follows ` client C`, with what was applied by then and the commands that were executed
abbrev pub took_text : AppliedState → ClientTook → List Command → List ℕ
took_text state (Dropped cause) commands = codes " dropped\n"
took_text state Runt commands = codes " runt\n"
took_text state Connectionless commands = codes " connectionless\n"
took_text state Old commands = codes " old\n"
took_text state OutOfOrder commands = codes " outoforder\n"
took_text state BadFragment commands = codes " badfragment\n"
took_text state BadCheck commands = codes " badcheck\n"
took_text state Partial commands = codes " partial\n"
took_text state (Illegible cause) commands = illegible_text (cause_word cause) (cause_number cause)
took_text state (Applied applied) commands = concat (codes " applied " ∷ decimal applied.number ∷ codes "\n" ∷ applied_text state applied commands ∷ [])

-- what follows `deliver D`
abbrev pub client_text : AppliedState → ℕ → ClientTook → List Command → List ℕ
client_text state c took commands = concat (codes " client " ∷ decimal c ∷ took_text state took commands ∷ [])

-- why a client can't issue a command
abbrev pub window_full_text : WindowFull → List ℕ
window_full_text e = codes "windowfull"

-- why a move can't be issued
abbrev pub move_error_text : MoveError → List ℕ
move_error_text NoGame = codes "nogame"
move_error_text (NotLater last) = concat (codes "notlater " ∷ decimal last ∷ [])
move_error_text Range = codes "range"

-- what follows `send C`
abbrev pub sent_text : Sent → ℕ → List ℕ
sent_text (sent.Dropped cause) datagram = codes " dropped\n"
sent_text (sent.Fragment number) datagram = concat (codes " fragment " ∷ decimal number ∷ codes " datagram " ∷ decimal datagram ∷ codes "\n" ∷ [])
sent_text sent.SequenceEnd datagram = codes " sequenceend\n"
sent_text sent.Unclear datagram = codes " unclear\n"
sent_text sent.Overlong datagram = codes " overlong\n"
sent_text (sent.Message number bytes) datagram =
    concat (codes " message " ∷ decimal number ∷ codes " bytes " ∷ decimal bytes ∷ codes " datagram " ∷ decimal datagram ∷ codes "\n" ∷ [])

-- the line of a `send`
abbrev pub send_text : ℕ → Sent → ℕ → List ℕ
send_text c answer datagram = concat (codes "send " ∷ decimal c ∷ sent_text answer datagram ∷ [])
