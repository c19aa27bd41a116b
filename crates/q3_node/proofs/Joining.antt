-- The lines of a client's script that aren't its first, its datagrams' or its last.
use Rattle.std.proofs.Common.{◌≡◌, ℕ, Bool, Option, Some, None, Result, Ok, Err, subst, refl}
use Rattle.std.specs.Prelude.{OnOk, IsErrOf}
use Rattle.q3_io.specs.declared.address.Address.{Address}
use Rattle.q3_script.specs.declared.event.Event.{Event}
use Rattle.q3_script.specs.declared.event.Event.TheVariants.{Client, TypeText, Move, Send, RecordTo, Stop, Show, End}
use Rattle.q3_client.specs.Client.{ClientState}
use Rattle.q3_report.specs.Answers.{Answered}
use Rattle.q3_ends.specs.ClientLine.{ClientDone, client_line, client_named, client_after, recording_after, answer_in, acts_in}
use Rattle.q3_ends.specs.Recording.{RecordingState}
use Rattle.q3_node.specs.declared.error.NodeError.{NodeError}
use Rattle.q3_node.specs.declared.error.NodeError.TheVariants.{NoMemory}
use Rattle.q3_node.specs.Running.{Effects, DoesActs, DoesLine, Tells}
use Rattle.q3_node.specs.Node.{answers}
use Rattle.q3_node.specs.AtClient.{ClientEnd, line_done, own_done}

pub own_line : (end : ClientEnd) (event : Event) (number : ℕ) → ((c challenge qport dup : ℕ) (address : Address) → event ≡ Client c challenge qport dup address → ⊥)
    → ((c : ℕ) → event ≡ Send c → ⊥) → ((ms : ℕ) → event ≡ End ms → ⊥) → line_done end event number ≡ own_done end event (client_line end.client end.recording event)
own_line end (Client c challenge qport dup address) number client send ends = absurd (client c challenge qport dup address refl)
own_line end (Send c) number client send ends = absurd (send c refl)
own_line end (End ms) number client send ends = absurd (ends ms refl)
own_line end event number client send ends = refl

-- one that names no client does nothing
pub other_line : (end : ClientEnd) (event : Event) → client_named event ≡ None → own_done end event (client_line end.client end.recording event) ≡ answers end None
other_line end (TypeText c text) none = absurd cc
other_line end (Move c one) none = absurd cc
other_line end (RecordTo c name) none = absurd cc
other_line end (Stop c) none = absurd cc
other_line end (Show c) none = absurd cc
other_line end event none = refl

on_ok : {T E : Type 0} (result : Result T E) {P : Type 0} → P → OnOk result P
on_ok (Ok x) is = is
on_ok (Err e) is = tt

-- a line of the client's own was done, and its answer told
pub does_own : (end : ClientEnd) (event : Event) (line : Option ClientDone) (client : ClientState) (recording : Option RecordingState) (answer : Answered) (before after : Effects)
    (result : Result Bool NodeError) → client ≡ client_after end.client line → recording ≡ recording_after end.recording line → Some answer ≡ answer_in line
    → Tells (Some answer) None before.written after.written before.wire after.wire result → DoesActs before.files after.files (acts_in line) result → (IsErrOf result NoMemory → ⊥)
    → DoesLine (own_done end event line) (record end { client = client; recording = recording }) before after result
does_own end event line client recording answer before after result client_is recording_is answer_is told files memory = record {
  end = on_ok result (rw (client_is, recording_is) refl);
  told = subst (λ (a : Option Answered). Tells a None before.written after.written before.wire after.wire result) answer_is told;
  files = files;
  memory = λ ran. absurd (memory ran);
}
