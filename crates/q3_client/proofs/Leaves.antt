-- What a datagram does at a client: its message is applied, or what messages left stays.
use Rattle.std.proofs.Common.{◌≡◌, ◌⊎◌, ℕ, ◌^◌, ◌<◌, ◌≤◌, List, [], length, Option, Some, None, Result, Ok, Err, inl, inr, refl, sym, ap, subst, ◌∙◌, arith}
use Rattle.q3_window.specs.Outgoing.{issued_of}
use Rattle.q3_chan.specs.declared.gatherer.Gathered.{Gathered}
use Rattle.q3_chan.specs.declared.gatherer.Gathered.TheVariants as gathered
use Rattle.q3_chan.specs.Datagrams.{longest_message}
use Rattle.q3_chan.specs.Gathering.{Took, gathered as gathered_of}
use Rattle.q3_svmsg.specs.declared.error.Illegible.{Illegible}
use Rattle.q3_clstate.specs.declared.applied.Applied.{Applied}
use Rattle.q3_clstate.specs.State.{apply_at}
use Rattle.q3_client.specs.declared.client.ClientTook.{ClientTook}
use Rattle.q3_client.specs.declared.client.ClientTook.TheVariants as took
use Rattle.q3_client.specs.Client.{ClientState, Taken, Reception, applies_read, take_answer, take_unless, take_at, receive_bytes}
use Rattle.q3_client.specs.Laws.{WasApplied, WasLeft, TakesMessages}
use Rattle.q3_client.proofs.Numbered.{numbered, applied_same}
use Rattle.q3_client.proofs.Received.{WasReceived, was_received, acknowledged_issued}
use Rattle.q3_client.proofs.WholeMessages.{IsDone, gathered_done}

abbrev Takes : ClientState → Taken → Type 0
Takes client taken = ((applied : Applied) × (taken.answer ≡ took.Applied applied) × WasApplied client taken applied) ⊎ WasLeft client taken

read_did : (client : ClientState) (came : Took) (n : ℕ) (received : Result Reception Illegible) → came.gathering.taken ≡ n → client.gathering.taken < n → n < 2 ^ 31
    → length came.message ≤ longest_message → ((reception : Reception) → received ≡ Ok reception → WasReceived client.state client.issued n came.message reception)
    → Takes client (applies_read (record client { gathering = came.gathering }) received)
read_did client came n (Err cause) taken newer fits short were =
    inr (record { none = λ applied e. absurd cc; state = refl; message = refl; issued = refl; rises = omega (arith, taken, newer); fits = λ below. omega (arith, taken, fits) })
read_did client came n (Ok reception) taken newer fits short were =
    let was = were reception refl in
    let application = reception.application in
    let number : application.answer.number ≡ n = numbered client.state n reception.message application was.does in
    let long = was.long in
    inl (
      application.answer,
      refl,
      record {
        application = application;
        does = subst (λ (m : ℕ). apply_at client.state m reception.message ≡ Ok application) (sym number) was.does;
        state = refl;
        answer = refl;
        accepted = refl;
        heard = refl;
        newer = omega (arith, number, newer);
        newest = taken ∙ sym number;
        fits = omega (arith, number, fits);
        short = omega (arith, long, short);
        issued = ap issued_of was.window ∙ acknowledged_issued client.issued was.ack;
      },
    )

same_taken : (client : ClientState) (came : Took) (answer : ClientTook) → came.gathering.taken ≡ client.gathering.taken
    → ((applied : Applied) → answer ≡ took.Applied applied → ⊥)
    → Takes client (record { client = record client { gathering = came.gathering }; answer = answer; accepted = None; heard = [] })
same_taken client came answer taken none = inr (record { none = none; state = refl; message = refl; issued = refl; rises = omega (arith, taken); fits = λ below. omega (arith, taken, below) })

answer_did : (client : ClientState) (came : Took) (answer : Gathered) (receive : ℕ → Result Reception Illegible) → IsDone client.gathering.taken came answer
    → ((n : ℕ) (reception : Reception) → receive n ≡ Ok reception → WasReceived client.state client.issued n came.message reception)
    → Takes client (take_answer (record client { gathering = came.gathering }) answer receive)
answer_did client came (gathered.Whole n count) receive done were = read_did client came n (receive n) done.0 done.1 done.2 done.3 (were n)
answer_did client came gathered.Partial receive done were = same_taken client came took.Partial done (λ applied e. absurd cc)
answer_did client came gathered.Old receive done were = same_taken client came took.Old done (λ applied e. absurd cc)
answer_did client came gathered.OutOfOrder receive done were = same_taken client came took.OutOfOrder done (λ applied e. absurd cc)
answer_did client came gathered.BadFragment receive done were = same_taken client came took.BadFragment done (λ applied e. absurd cc)
answer_did client came gathered.BadCheck receive done were = same_taken client came took.BadCheck done (λ applied e. absurd cc)
answer_did client came gathered.Runt receive done were = same_taken client came took.Runt done (λ applied e. absurd cc)
answer_did client came gathered.Connectionless receive done were = same_taken client came took.Connectionless done (λ applied e. absurd cc)

unless_did : (client : ClientState) (datagram : List ℕ) (dropped : Option Illegible) → Takes client (take_unless client datagram dropped)
unless_did client datagram (Some cause) = inr (record { none = λ applied e. absurd cc; state = refl; message = refl; issued = refl; rises = omega arith; fits = λ below. below })
unless_did client datagram None =
    let came = gathered_of client.gathering datagram in
    answer_did client came came.answer (λ n. receive_bytes client n came.message) (gathered_done client.gathering datagram) (λ n reception received. was_received client n came.message reception received)

taken_did : (client : ClientState) (datagram : List ℕ) → Takes client (take_at client datagram)
unfolding take_at
taken_did client datagram = unless_did client datagram client.dropped

-- what was applied is what was answered
of_answer : (client : ClientState) (taken : Taken) (applied : Applied) → taken.answer ≡ took.Applied applied → Takes client taken → WasApplied client taken applied
of_answer client taken applied e (inl did) = subst (λ (one : Applied). WasApplied client taken one) (applied_same did.0 applied (sym did.1 ∙ e)) did.2
of_answer client taken applied e (inr left) = absurd (left.none applied e)

or_left : (client : ClientState) (taken : Taken) → Takes client taken → ((applied : Applied) × (taken.answer ≡ took.Applied applied)) ⊎ WasLeft client taken
or_left client taken (inl did) = inl (did.0, did.1)
or_left client taken (inr left) = inr left

pub takes : TakesMessages
takes = record {
  applies = λ client datagram applied e. of_answer client (take_at client datagram) applied e (taken_did client datagram);
  leaves = λ client datagram. or_left client (take_at client datagram) (taken_did client datagram);
}
