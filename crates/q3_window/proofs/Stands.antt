-- What a window shows of all that was issued.
use Rattle.std.proofs.Common.{◌≡◌, ℕ, zero, suc, ◌+◌, ◌-◌, ◌≤◌, List, [], ◌∷◌, length, get_or, drop, Result, Ok, Err, refl, sym, ap, ◌∙◌, subst, inl, inr, drop-drop, get_or-drop, length-drop, arith}
use Rattle.std.proofs.lemmas.Bool.{cases_lt}
use Rattle.q3_window.specs.declared.outgoing.BadAck.{BadAck}
use Rattle.q3_window.specs.Outgoing.{OutgoingState, Acknowledging, issued_of, text_at, acknowledge_at, acknowledged_to}
use Rattle.q3_window.specs.Issued.{issued_text, OutgoingStandsFor}
use Rattle.q3_window.specs.Laws.{AcknowledgedIsIssued}
use Rattle.q3_window.proofs.Held.{refused_is, accepted_is}

last_is : (window : OutgoingState) (issued : List (List ℕ)) → OutgoingStandsFor window issued → issued_of window ≡ length issued
last_is window issued stands =
    let within = stands.within in
    let count = ap length stands.waiting ∙ length-drop window.acknowledged issued in
    omega arith

text_is_issued : (window : OutgoingState) (issued : List (List ℕ)) (number : ℕ) → OutgoingStandsFor window issued → window.acknowledged ≤ number
    → number ≤ length issued → text_at window number ≡ issued_text issued number
text_is_issued window issued zero stands least most = refl
text_is_issued window issued (suc k) stands least most = elim (cases_lt window.acknowledged (suc k)) [
  | inl above ↦
      let at : k + 1 - window.acknowledged ≡ suc (k - window.acknowledged) = omega arith in
      let here : window.acknowledged + (k - window.acknowledged) ≡ k = omega arith in
      ap (λ (i : ℕ). get_or (window.text ∷ window.waiting) i []) at
      ∙ ap (λ (texts : List (List ℕ)). get_or texts (k - window.acknowledged) []) stands.waiting
      ∙ get_or-drop window.acknowledged issued (k - window.acknowledged) [] ∙ ap (λ (i : ℕ). get_or issued i []) here
  | inr below ↦
      let at : k + 1 - window.acknowledged ≡ 0 = omega arith in
      let same : window.acknowledged ≡ suc k = omega arith in
      ap (λ (i : ℕ). get_or (window.text ∷ window.waiting) i []) at ∙ stands.text ∙ ap (issued_text issued) same
]

-- what is answered tells which case it was
record IsWithin (window : OutgoingState) (number : ℕ) : Type 0 where
  least : window.acknowledged ≤ number
  most : number ≤ issued_of window

within_is : (window : OutgoingState) (number : ℕ) → (acknowledge_at window number).answer ≡ Ok tt → IsWithin window number
within_is window number answered = elim (cases_lt number window.acknowledged) [
  | inl below ↦
      let never : ◌≡◌ {A = Result (Unit {0}) BadAck} (Err (record {})) (Ok tt) =
      sym (ap (λ (a : Acknowledging). a.answer) (refused_is window number (inl below))) ∙ answered in cc
  | inr least ↦ elim (cases_lt (issued_of window) number) [
    | inl above ↦
        let never : ◌≡◌ {A = Result (Unit {0}) BadAck} (Err (record {})) (Ok tt) =
        sym (ap (λ (a : Acknowledging). a.answer) (refused_is window number (inr above))) ∙ answered in cc
    | inr most ↦ record { least = least; most = most }
  ]
]

stands_to : (window : OutgoingState) (issued : List (List ℕ)) (number : ℕ) → OutgoingStandsFor window issued → IsWithin window number
    → OutgoingStandsFor (acknowledged_to window number) issued
stands_to window issued number stands within =
    let last = last_is window issued stands in
    let least = within.least in
    let most = within.most in
    let at : window.acknowledged + (number - window.acknowledged) ≡ number = omega arith in
    record {
      within = omega arith;
      waiting =
          ap (drop (number - window.acknowledged)) stands.waiting ∙ drop-drop (number - window.acknowledged) window.acknowledged issued
          ∙ ap (λ (k : ℕ). drop k issued) at;
      text = text_is_issued window issued number stands least (omega arith);
    }

pub acknowledged_is_issued : AcknowledgedIsIssued
acknowledged_is_issued window issued number stands answered =
    let within = within_is window number answered in
    let is = ap (λ (a : Acknowledging). a.window) (accepted_is window number within.least within.most) in (
      subst (λ (window : OutgoingState). OutgoingStandsFor window issued) (sym is) (stands_to window issued number stands within),
      ap (λ (window : OutgoingState). window.acknowledged) is,
    )
