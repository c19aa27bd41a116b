-- What every window is stays so.
use Rattle.std.proofs.Common.{◌≡◌, ℕ, true, List, length, refl, length-append, arith}
use Rattle.std.specs.Prelude.{All, nat_lt}
use Rattle.std.proofs.Common.{inl, inr}
use Rattle.std.proofs.lemmas.Bool.{cases_Bool, ltb-false}
use Rattle.std.proofs.lemmas.List.Elements.{All-nil, All-append}
use Rattle.std.proofs.lemmas.List.Sums.{sum_by-append}
use Rattle.q3_text.specs.Texts.{IsText, IsTextByte}
use Rattle.q3_window.specs.Outgoing.{OutgoingState, IsOutgoing, issued_of, total_of, fits, issue_at, with_texts, acknowledge_at}
use Rattle.q3_window.specs.Laws.{StaysOutgoing}
use Rattle.q3_window.proofs.Held.{fits_is, issued_is_outgoing, acknowledged_is_outgoing}

issue_stays : (window : OutgoingState) (text : List ℕ) → IsOutgoing window → IsText text → IsOutgoing (issue_at window text).window
issue_stays window text is is_text =
    elim (cases_Bool (fits window 1 (length text))) [
      | inl room ↦ rw room (issued_is_outgoing window text is is_text (fits_is window 1 (length text) room))
      | inr full ↦ rw full is
    ]

tell_stays : (window : OutgoingState) (texts : List (List ℕ)) → IsOutgoing window → fits window (length texts) (total_of texts) ≡ true → All IsText texts
    → IsOutgoing (with_texts window texts)
tell_stays window texts is fit are_texts =
    let room = fits_is window (length texts) (total_of texts) fit in
    let few = room.few in
    let bytes = room.bytes_few in
    let numbers = room.numbers in
    let counted = length-append window.waiting texts in
    record {
      few = omega arith;
      bytes = omega (arith, sum_by-append length window.waiting texts);
      numbers = omega arith;
      texts = All-append IsText window.waiting texts is.texts are_texts;
      is_text = is.is_text;
      none = is.none;
    }

acknowledge_stays : (window : OutgoingState) (number : ℕ) → IsOutgoing window → IsOutgoing (acknowledge_at window number).window
acknowledge_stays window number is =
    elim (cases_Bool (nat_lt number window.acknowledged)) [
      | inl low ↦ rw low is
      | inr high ↦ elim (cases_Bool (nat_lt (issued_of window) number)) [
        | inl over ↦ rw (high, over) is
        | inr within ↦ rw (high, within) (acknowledged_is_outgoing window number is (ltb-false number window.acknowledged high) (ltb-false (issued_of window) number within))
      ]
    ]

pub stays_outgoing : StaysOutgoing
stays_outgoing = record {
  opens = record {
    few = omega arith;
    bytes = omega arith;
    numbers = omega arith;
    texts = All-nil IsText;
    is_text = record { short = omega arith; each = All-nil IsTextByte };
    none = λ none. refl;
  };
  issues = issue_stays;
  tells = tell_stays;
  acknowledges = acknowledge_stays;
}
