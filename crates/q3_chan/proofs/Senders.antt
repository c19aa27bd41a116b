-- A datagram that a client sent tells its qport.
use Rattle.std.proofs.Common.{is_some, ◌≡◌, ◌*◌, ◌<◌, ◌≤◌, ◌∙◌, ℕ, Bool, true, false, Option, ltb, List, ◌++◌, length, sym, ap, subst, Ok, inl, inr, arith}
use Rattle.std.proofs.lemmas.Bool.{cases_lt, cond-true, cond-false, lt-ltb, le-ltb}
use Rattle.byteorder.specs.Endian.{little_bytes}
use Rattle.byteorder.specs.Numbers.{little_number-reads_back}
use Rattle.q3_chan.specs.declared.side.Side.{Side}
use Rattle.q3_chan.specs.declared.side.Side.TheVariants.{Server, Client}
use Rattle.q3_chan.specs.Datagrams.{Header, marked, qport_bytes, check_bytes, fragment_size, piece, header_bytes, is_fragment, header_length, datagram, fragment}
use Rattle.q3_chan.specs.Gathering.{is_connectionless}
use Rattle.q3_chan.specs.Senders.{qport_in, qport_of, QportIsTold}
use Rattle.q3_chan.proofs.Headers.{IsHeaded, after_number, fragment-parts, whole_is, fragment_is}
use Rattle.q3_chan.proofs.Tagging.{length-piece}

-- what has its header tells its qport
headed_tells : (checked : Bool) (bytes : List ℕ) → 4 ≤ length bytes → is_connectionless bytes ≡ false → header_length Client checked (is_fragment bytes) ≤ length bytes
    → qport_of checked bytes ≡ Ok (qport_in bytes)
unfolding qport_of
headed_tells checked bytes long connected head =
    cond-false (ltb (length bytes) 4) _ _ (le-ltb _ _ long)
    ∙ cond-false (is_connectionless bytes) _ _ connected
    ∙ cond-false (ltb (length bytes) (header_length Client checked (is_fragment bytes))) _ _ (le-ltb _ _ head)

-- what has a client's header has it
of_client : (header : Header) (bytes : List ℕ) (number : ℕ) → header.form.side ≡ Client → IsHeaded header.form bytes number
    → qport_of (is_some header.form.check) bytes ≡ Ok (qport_in bytes)
of_client header bytes number is h =
    let checked = is_some header.form.check in
    headed_tells checked bytes h.long h.connected (subst (λ (side : Side). header_length side checked (is_fragment bytes) ≤ length bytes) is h.head)

-- what follows a client's number
after_parts : (side : Side) (check : Option ℕ) (qport first number : ℕ) (rest : List ℕ) → side ≡ Client → qport < 65536
    → qport_in (little_bytes 4 first ++ qport_bytes side qport ++ check_bytes check number ++ rest) ≡ qport
after_parts Server check qport first number rest is fits = absurd cc
after_parts Client check qport first number rest is fits = little_number-reads_back 2 qport (check_bytes check number ++ rest) fits

after_qport : (header : Header) (fragment : Bool) (number : ℕ) (rest : List ℕ) → header.form.side ≡ Client → header.qport < 65536
    → qport_in (header_bytes header fragment number ++ rest) ≡ header.qport
after_qport header fragment number rest is fits =
    after_parts header.form.side header.form.check header.qport (marked fragment number) number rest is fits

pub qport_is_told : QportIsTold
unfolding datagram
qport_is_told header number index message is port end sendable below =
    let P : List ℕ → Type 0 = λ bytes. qport_of (is_some header.form.check) bytes ≡ Ok header.qport in
    let most = sendable.most in
    let short = length-piece message index in
    elim (cases_lt (length message) fragment_size) [
      | inl small ↦
          subst P (sym (cond-true (ltb (length message) fragment_size) _ _ (lt-ltb _ _ small)))
          (of_client header (header_bytes header false number ++ message) number is (whole_is header number message end).headed
          ∙ ap Ok (after_qport header false number message is port))
      | inr long ↦
          let start = fragment_size * index in
          let part : List ℕ = piece message index in
          subst P (sym (cond-false (ltb (length message) fragment_size) _ _ (le-ltb _ _ long)))
          (of_client header (fragment header number start part) number is (fragment_is header number start part end (omega arith) (omega arith)).headed
          ∙ ap (λ (bytes : List ℕ). Ok (qport_in bytes)) (fragment-parts header number start part)
          ∙ ap Ok (after_qport header true number (after_number start part) is port))
    ]
