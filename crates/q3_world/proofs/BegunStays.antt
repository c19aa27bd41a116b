-- What an end began, and stays so.
use Rattle.std.proofs.Common.{◌≡◌, ℕ, suc, ◌+◌, ◌<◌, ◌≤◌, List, length, Some, refl, sym, subst, ◌∙◌, inl, inr, arith, lit<}
use Rattle.std.proofs.lemmas.Bool.{cases_eq}
use Rattle.q3_chan.specs.declared.form.Form.{Form}
use Rattle.q3_chan.specs.Datagrams.{Header, sequence_end, piece_count}
use Rattle.q3_chan.specs.Sending.{Sending, UnderWay, new_sending, started, next_of}
use Rattle.q3_chan.specs.Laws.{IsSendable, EndsSend}
use Rattle.q3_world.specs.World.{Tag}
use Rattle.q3_world.specs.StandsFor.{BeginsMessages, IsPiece}

-- an end that began nothing
pub BeginsMessages-new : (form : Form) (qport : ℕ) (messages : ℕ → List ℕ) → EndsSend → BeginsMessages (record { form = form; qport = qport }) messages 0 (new_sending form qport)
BeginsMessages-new form qport messages chan =
    record {
      begun = refl;
      short = lit< tt;
      header_is = refl;
      sends = chan.begin messages form qport;
      sendable = λ number some few. absurd (omega (arith, some, few));
    }

-- a piece was handed out
pub BeginsMessages-handed : (header : Header) (messages : ℕ → List ℕ) (count : ℕ) (sending : Sending) → EndsSend → BeginsMessages header messages count sending
    → BeginsMessages header messages count (next_of sending).sending
BeginsMessages-handed header messages count sending chan begins =
    let same = chan.stays sending in
    record {
      begun = same.1 ∙ begins.begun;
      short = begins.short;
      header_is = same.0 ∙ begins.header_is;
      sends = chan.next messages sending begins.sends;
      sendable = begins.sendable;
    }

-- one message more was begun, and is under way
pub BeginsMessages-started : (header : Header) (messages more : ℕ → List ℕ) (count count' : ℕ) (sending : Sending) (message : List ℕ) → EndsSend
    → count' ≡ count + 1 → sending.number + 1 < sequence_end → ((number : ℕ) → number ≤ count → more number ≡ messages number) → more (suc count) ≡ message → IsSendable message
    → BeginsMessages header messages count sending → BeginsMessages header more count' (started sending message)
BeginsMessages-started header messages more count count' sending message chan longer fits stay last may begins =
    let begun = begins.begun in
    let number : suc count ≡ sending.number + 1 = omega (arith, begun) in
    record {
      begun = omega (arith, begun, longer);
      short = omega (arith, begun, longer, fits);
      header_is = begins.header_is;
      sends = chan.start more sending message (subst (λ (n : ℕ). more n ≡ message) number last);
      sendable = λ n some few. elim (cases_eq n (suc count)) [
        | inl same ↦ subst IsSendable (sym (subst (λ (k : ℕ). more k ≡ message) (sym same) last)) may
        | inr other ↦ let within : n ≤ count = omega (arith, few, longer, other) in subst IsSendable (sym (stay n within)) (begins.sendable n some within)
      ];
    }

-- a datagram that is handed out has a piece of the message that is under way
pub handed_piece : (header : Header) (messages : ℕ → List ℕ) (count : ℕ) (sending : Sending) (left : UnderWay) (tag : Tag) → EndsSend
    → BeginsMessages header messages count sending → sending.under_way ≡ Some left
    → tag.number ≡ sending.number → tag.index ≡ left.next → tag.bytes ≡ (next_of sending).datagram → IsPiece header messages count tag
handed_piece header messages count sending left tag chan begins way number index bytes =
    let out = chan.piece messages sending left begins.sends way in
    let some = out.some in
    let begun = begins.begun in
    let within : left.next < piece_count (length (messages sending.number)) = out.left in
    record {
      some = omega (arith, some, number);
      begun = omega (arith, number, begun);
      piece = rw (index, number) within;
      bytes = bytes ∙ (out.bytes ∙ rw (begins.header_is, number, index) refl);
    }
