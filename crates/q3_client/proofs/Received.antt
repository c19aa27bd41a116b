-- What a client received of bytes: the acknowledgement was taken, and the bytes, cleared by it, were applied.
use Rattle.std.proofs.Common.{◌≡◌, ℕ, zero, suc, ◌+◌, ◌-◌, List, [], ◌∷◌, ◌++◌, length, take, drop, Option, Some, None, Result, Ok, Err, refl, ap, subst, arith}
use Rattle.std.specs.Prelude.{◌||◌, nat_lt}
use Rattle.std.proofs.lemmas.Bool.{cond_both, ltb-false, or_parts}
use Rattle.std.proofs.lemmas.List.{length-drop}
use Rattle.q3_bits.specs.Bits.{bits_of}
use Rattle.q3_bits.specs.ResultBind.{◌>>=◌, fault_as}
use Rattle.q3_bits.proofs.Binds.{bind_ok}
use Rattle.q3_window.specs.Outgoing.{OutgoingState, issued_of, Acknowledging, acknowledged_to, acknowledge_at, text_at}
use Rattle.q3_chan.specs.Scrambling.{keyed, key_at}
use Rattle.q3_chan.specs.Keys.{server_key, scrambled_by}
use Rattle.q3_svmsg.specs.declared.error.Illegible.{Illegible}
use Rattle.q3_svmsg.specs.declared.error.Illegible.TheVariants.{Bits}
use Rattle.q3_svmsg.specs.Reading.{ack_at}
use Rattle.q3_clstate.specs.State.{AppliedState, Application, apply_at}
use Rattle.q3_client.specs.Client.{ClientState, Reception, receive_bytes, ack_taken, cleared}

-- the length stays
keyed_long : (key : ℕ → ℕ) (place : ℕ) (bytes : List ℕ) → length (keyed key place bytes) ≡ length bytes
unfolding keyed
keyed_long key place [] = refl
keyed_long key place (byte ∷ bytes) = ap suc (keyed_long key (place + 1) bytes)

front_long : (key : ℕ → ℕ) (place count : ℕ) (bytes : List ℕ) → length (take count bytes ++ keyed key place (drop count bytes)) ≡ length bytes
unfolding keyed
front_long key place zero bytes = keyed_long key place bytes
front_long key place (suc count) [] = refl
front_long key place (suc count) (byte ∷ bytes) = ap suc (front_long key place count bytes)

scrambled_long : (start : Option ℕ) (text bytes : List ℕ) → length (scrambled_by 4 start text bytes) ≡ length bytes
scrambled_long None text bytes = refl
scrambled_long (Some start) text bytes = front_long (key_at 4 start text) 4 4 bytes

cleared_long : (protocol challenge n : ℕ) (text bytes : List ℕ) → length (cleared protocol challenge n text bytes) ≡ length bytes
cleared_long protocol challenge n text bytes = scrambled_long (server_key protocol challenge n text).start text bytes

-- an acknowledgement doesn't change how many commands were issued
pub acknowledged_issued : (window : OutgoingState) (number : ℕ) → issued_of (acknowledge_at window number).window ≡ issued_of window
acknowledged_issued window number =
    cond_both (nat_lt number window.acknowledged || nat_lt (issued_of window) number) (record { window = window; answer = Err (record {}) }) (record { window = acknowledged_to window number; answer = Ok tt })
    (λ (acknowledging : Acknowledging). issued_of acknowledging.window ≡ issued_of window)
    (λ e. refl)
    (λ e. let within = or_parts (nat_lt number window.acknowledged) (nat_lt (issued_of window) number) e in
    let from = ltb-false number window.acknowledged within.0 in
    let to = ltb-false (issued_of window) number within.1 in
    let left = length-drop (number - window.acknowledged) window.waiting in
    omega (arith, from, to, left))

pub record WasReceived (state : AppliedState) (issued : OutgoingState) (number : ℕ) (bytes : List ℕ) (received : Reception) : Type 0 where
  pub ack : ℕ
  pub long : length received.message ≡ length bytes
  pub does : apply_at state number received.message ≡ Ok received.application
  pub window : received.issued ≡ (acknowledge_at issued ack).window

abbrev received_with : ClientState → ℕ → List ℕ → Result Application Illegible → Result Reception Illegible
received_with client ack plain applied =
    applied >>= λ application. Ok (record { message = plain; issued = (acknowledge_at client.issued ack).window; application = application })

abbrev received_after : ClientState → ℕ → List ℕ → ℕ × ℕ → Result Reception Illegible
received_after client n bytes ack =
    ack_taken ack.0 (acknowledge_at client.issued ack.0).answer >>= λ taken.
    received_with client ack.0 (cleared client.state.profile.protocol client.challenge n (text_at client.issued ack.0) bytes)
    (apply_at client.state n (cleared client.state.profile.protocol client.challenge n (text_at client.issued ack.0) bytes))

abbrev received_as : Reception → Result Reception Illegible
received_as reception = Ok reception

same : (one other : Reception) → received_as one ≡ received_as other → one ≡ other
same one other e = cc

with_was : (client : ClientState) (n ack : ℕ) (bytes plain : List ℕ) (applied : Result Application Illegible) (received : Reception) → length plain ≡ length bytes
    → apply_at client.state n plain ≡ applied → received_with client ack plain applied ≡ Ok received → WasReceived client.state client.issued n bytes received
with_was client n ack bytes plain (Ok application) received long does e =
    subst (WasReceived client.state client.issued n bytes)
    (same (record { message = plain; issued = (acknowledge_at client.issued ack).window; application = application }) received e)
    (record { ack = ack; long = long; does = does; window = refl })
with_was client n ack bytes plain (Err cause) received long does e = absurd cc

pub was_received : (client : ClientState) (n : ℕ) (bytes : List ℕ) (received : Reception) → receive_bytes client n bytes ≡ Ok received
    → WasReceived client.state client.issued n bytes received
was_received client n bytes received e =
    let long = bind_ok (fault_as Bits (ack_at client.state.profile.code (bits_of bytes))) (received_after client n bytes) received e in
    let ack = long.0.0 in
    let text = text_at client.issued ack in
    let plain = cleared client.state.profile.protocol client.challenge n text bytes in
    let taken = bind_ok (ack_taken ack (acknowledge_at client.issued ack).answer) (λ (taken : Unit {0}). received_with client ack plain (apply_at client.state n plain)) received long.2 in
    with_was client n ack bytes plain (apply_at client.state n plain) received (cleared_long client.state.profile.protocol client.challenge n text bytes) refl taken.2
