-- What a window keeps where a command is issued or acknowledged.
use Rattle.std.proofs.Common.{length-set, Bool, ◌||◌, ◌⊎◌, ltb, lt-ltb, le-ltb, Ok, Err, ◌≡◌, ℕ, zero, suc, ◌+◌, ◌-◌, ◌%◌, ◌<◌, ◌≤◌, true, List, [], ◌∷◌, ◌++◌, length, get_or, drop, set, refl, sym, ap, ◌∙◌, subst, inl, inr, leb-true, length-append, length-drop, arith}
use Rattle.std.proofs.lemmas.Bool.{cases_lt, and_parts, cond-true, cond-false}
use Rattle.std.proofs.Math.Bool.{or-true}
use Rattle.std.proofs.lemmas.List.Elements.{All-nil, All-drop, All-push}
use Rattle.std.proofs.lemmas.List.Sums.{sum_by-append, sum_by_push, sum_by-take-drop}
use Rattle.q3_text.specs.declared.text.Command.{Command}
use Rattle.q3_text.specs.Texts.{IsText, IsTextByte}
use Rattle.q3_window.specs.Outgoing.{OutgoingState, Issuing, issue_at, Acknowledging, acknowledge_at, IsOutgoing, most_waiting, most_text, last_number, total_of, issued_of, fits, text_at, acknowledged_to}
use Rattle.q3_window.specs.Cells.{places, cell_at, kept_text, texts_from, window_of, AreKept}
use Rattle.q3_window.proofs.Round.{kept_text-cell, length-texts_from, texts_from-one, texts_from-cons, texts_from-add, texts_from-split, drop-texts_from, get-texts_from, same-texts_from, cell_at-other, cell_at-same, kept_text-other}

-- what a command that fits leaves room for
pub record HasRoom (window : OutgoingState) (count bytes : ℕ) : Type 0 where
  pub few : length window.waiting + count ≤ most_waiting
  pub bytes_few : total_of window.waiting + bytes ≤ most_text
  pub numbers : issued_of window + count ≤ last_number

pub fits_is : (window : OutgoingState) (count bytes : ℕ) → fits window count bytes ≡ true → HasRoom window count bytes
fits_is window count bytes is =
    let outer = and_parts _ _ is in
    let inner = and_parts _ _ outer.0 in
    record { few = leb-true _ _ inner.0; bytes_few = leb-true _ _ inner.1; numbers = leb-true _ _ outer.1 }

pub issued-window : (cells : List Command) (acknowledged issued : ℕ) → acknowledged ≤ issued → issued_of (window_of cells acknowledged issued) ≡ issued
issued-window cells acknowledged issued within = omega (arith, length-texts_from cells (acknowledged + 1) (issued - acknowledged))

-- ---- none was issued

new_is_outgoing : (cells : List Command) → IsOutgoing (window_of cells 0 0)
unfolding texts_from
new_is_outgoing cells = record {
  few = omega arith;
  bytes = omega arith;
  numbers = omega arith;
  texts = All-nil IsText;
  is_text = record { short = omega arith; each = All-nil IsTextByte };
  none = λ none. refl;
}

pub new_are_kept : (cells : List Command) → length cells ≡ places → AreKept cells 0 0 0
unfolding texts_from
new_are_kept cells count = record {
  count = count;
  within = omega arith;
  total = refl;
  numbers = λ number above most. absurd (omega arith);
  is = new_is_outgoing cells;
}

-- ---- a command is issued

abbrev issuing : OutgoingState → ℕ → Issuing
issuing window issued = record { window = window; answer = Ok (issued + 1) }

abbrev pub put_after : List Command → ℕ → List ℕ → List Command
put_after cells issued text = set cells ((issued + 1) % places) (record { number = issued + 1; text = text })

pub issued_is : (cells : List Command) (acknowledged issued : ℕ) (text : List ℕ) → length cells ≡ places → acknowledged ≤ issued → issued < acknowledged + most_waiting
    → window_of (put_after cells issued text) acknowledged (issued + 1)
    ≡ record { acknowledged = acknowledged; text = kept_text cells acknowledged; waiting = texts_from cells (acknowledged + 1) (issued - acknowledged) ++ text ∷ [] }
issued_is cells acknowledged issued text count within few =
    let new = put_after cells issued text in
    let waiting : ℕ = issued - acknowledged in
    let command : Command = record { number = issued + 1; text = text } in
    let more : issued + 1 - acknowledged ≡ waiting + 1 = omega arith in
    let next : acknowledged + 1 + waiting ≡ issued + 1 = omega arith in
    let before : texts_from new (acknowledged + 1) waiting ≡ texts_from cells (acknowledged + 1) waiting =
    same-texts_from cells new (acknowledged + 1) waiting (λ number least below. kept_text-other cells (issued + 1) number command (omega arith) (omega arith)) in
    let here : kept_text new (issued + 1) ≡ text =
    kept_text-cell new (issued + 1) (omega arith) ∙ ap (λ (cell : Command). cell.text) (cell_at-same cells (issued + 1) command count) in
    let all : texts_from new (acknowledged + 1) (issued + 1 - acknowledged) ≡ texts_from cells (acknowledged + 1) waiting ++ text ∷ [] =
    ap (texts_from new (acknowledged + 1)) more ∙ texts_from-add new (acknowledged + 1) waiting 1
    ∙ ap (λ (texts : List (List ℕ)). texts ++ texts_from new (acknowledged + 1 + waiting) 1) before
    ∙ ap (λ (texts : List (List ℕ)). texts_from cells (acknowledged + 1) waiting ++ texts)
    (texts_from-one new (acknowledged + 1 + waiting) ∙ ap (λ (k : ℕ). kept_text new k ∷ []) next ∙ ap (λ (text : List ℕ). text ∷ []) here) in
    ap (λ (kept : List ℕ). record { acknowledged = acknowledged; text = kept; waiting = texts_from new (acknowledged + 1) (issued + 1 - acknowledged) })
    (kept_text-other cells (issued + 1) acknowledged command (omega arith) (omega arith))
    ∙ ap (λ (texts : List (List ℕ)). record { acknowledged = acknowledged; text = kept_text cells acknowledged; waiting = texts }) all

pub issue_is : (cells new : List Command) (acknowledged issued : ℕ) (text : List ℕ) → length cells ≡ places → acknowledged ≤ issued
    → fits (window_of cells acknowledged issued) 1 (length text) ≡ true → new ≡ put_after cells issued text
    → issue_at (window_of cells acknowledged issued) text ≡ record { window = window_of new acknowledged (issued + 1); answer = Ok (issued + 1) }
issue_is cells new acknowledged issued text count within fit is =
    let window = window_of cells acknowledged issued in
    let room = fits_is window 1 (length text) fit in
    let few = room.few in
    let counted = length-texts_from cells (acknowledged + 1) (issued - acknowledged) in
    cond-true (fits window 1 (length text)) _ _ fit
    ∙ ap (λ (number : ℕ). issuing (record window { waiting = window.waiting ++ text ∷ [] }) number) (issued-window cells acknowledged issued within)
    ∙ ap (λ (window : OutgoingState). issuing window issued) (sym (issued_is cells acknowledged issued text count within (omega arith)))
    ∙ ap (λ (cells : List Command). issuing (window_of cells acknowledged (issued + 1)) issued) (sym is)

pub issued_is_outgoing : (window : OutgoingState) (text : List ℕ) → IsOutgoing window → IsText text → HasRoom window 1 (length text)
    → IsOutgoing (record window { waiting = window.waiting ++ text ∷ [] })
issued_is_outgoing window text is is_text room =
    let few = room.few in
    let bytes = room.bytes_few in
    let numbers = room.numbers in
    let counted = length-append window.waiting (text ∷ []) in
    record {
      few = omega arith;
      bytes = omega (arith, sum_by_push length window.waiting text);
      numbers = omega arith;
      texts = All-push IsText window.waiting text is.texts is_text;
      is_text = is.is_text;
      none = is.none;
    }

pub issued_are_kept : (cells : List Command) (acknowledged issued bytes : ℕ) (text : List ℕ) → AreKept cells acknowledged issued bytes → IsText text
    → HasRoom (window_of cells acknowledged issued) 1 (length text)
    → AreKept (put_after cells issued text) acknowledged (issued + 1) (bytes + length text)
issued_are_kept cells acknowledged issued bytes text kept is_text room =
    let new = put_after cells issued text in
    let window = window_of cells acknowledged issued in
    let command : Command = record { number = issued + 1; text = text } in
    let within = kept.within in
    let few = room.few in
    let counted = length-texts_from cells (acknowledged + 1) (issued - acknowledged) in
    let is = issued_is cells acknowledged issued text kept.count within (omega arith) in
    record {
      count = length-set cells ((issued + 1) % places) command ∙ kept.count;
      within = omega arith;
      total =
          ap (λ (k : ℕ). k + length text) kept.total ∙ sym (sum_by_push length window.waiting text)
          ∙ ap (λ (window : OutgoingState). total_of window.waiting) (sym is);
      numbers = λ number above most. elim (cases_lt number (issued + 1)) [
        | inl below ↦ ap (λ (cell : Command). cell.number) (cell_at-other cells (issued + 1) number command below (omega arith)) ∙ kept.numbers number above (omega arith)
        | inr least ↦
            let same : issued + 1 ≡ number = omega arith in
            subst (λ (k : ℕ). (cell_at new k).number ≡ k) same (ap (λ (cell : Command). cell.number) (cell_at-same cells (issued + 1) command kept.count))
      ];
      is = subst IsOutgoing (sym is) (issued_is_outgoing window text kept.is is_text room);
    }

-- ---- commands are acknowledged

abbrev acknowledging : OutgoingState → Acknowledging
acknowledging window = record { window = window; answer = Ok tt }

pub text_is : (cells : List Command) (acknowledged issued number : ℕ) → acknowledged ≤ number → number ≤ issued
    → text_at (window_of cells acknowledged issued) number ≡ kept_text cells number
text_is cells acknowledged issued zero least most = refl
text_is cells acknowledged issued (suc k) least most =
    let all : kept_text cells acknowledged ∷ texts_from cells (acknowledged + 1) (issued - acknowledged) ≡ texts_from cells acknowledged (issued - acknowledged + 1) =
    sym (texts_from-cons cells acknowledged (issued - acknowledged)) in
    let at : acknowledged + (k + 1 - acknowledged) ≡ suc k = omega arith in
    ap (λ (texts : List (List ℕ)). get_or texts (k + 1 - acknowledged) []) all
    ∙ get-texts_from cells acknowledged (issued - acknowledged + 1) (k + 1 - acknowledged) [] (omega arith)
    ∙ ap (kept_text cells) at

pub acknowledged_is : (cells : List Command) (acknowledged issued number : ℕ) → acknowledged ≤ number → number ≤ issued
    → window_of cells number issued ≡ acknowledged_to (window_of cells acknowledged issued) number
acknowledged_is cells acknowledged issued number least most =
    let count : ℕ = number - acknowledged in
    let from : acknowledged + 1 + count ≡ number + 1 = omega arith in
    let left : issued - acknowledged - count ≡ issued - number = omega arith in
    let rest : drop count (texts_from cells (acknowledged + 1) (issued - acknowledged)) ≡ texts_from cells (number + 1) (issued - number) =
    drop-texts_from cells (acknowledged + 1) (issued - acknowledged) count (omega arith)
    ∙ ap (λ (k : ℕ). texts_from cells k (issued - acknowledged - count)) from ∙ ap (texts_from cells (number + 1)) left in
    sym (ap (λ (text : List ℕ). record { acknowledged = number; text = text; waiting = drop count (texts_from cells (acknowledged + 1) (issued - acknowledged)) }) (text_is cells acknowledged issued number least most)
    ∙ ap (λ (texts : List (List ℕ)). record { acknowledged = number; text = kept_text cells number; waiting = texts }) rest)

-- an acknowledgement that can't be one
pub refused_is : (window : OutgoingState) (number : ℕ) → (number < window.acknowledged) ⊎ (issued_of window < number)
    → acknowledge_at window number ≡ record { window = window; answer = Err (record {}) }
refused_is window number (inl below) =
    cond-true (ltb number window.acknowledged || ltb (issued_of window) number) _ _
    (ap (λ (test : Bool). test || ltb (issued_of window) number) (lt-ltb number window.acknowledged below))
refused_is window number (inr above) =
    cond-true (ltb number window.acknowledged || ltb (issued_of window) number) _ _
    (ap (λ (test : Bool). ltb number window.acknowledged || test) (lt-ltb (issued_of window) number above) ∙ or-true (ltb number window.acknowledged))

-- and one that can
pub accepted_is : (window : OutgoingState) (number : ℕ) → window.acknowledged ≤ number → number ≤ issued_of window
    → acknowledge_at window number ≡ record { window = acknowledged_to window number; answer = Ok tt }
accepted_is window number least most =
    cond-false (ltb number window.acknowledged || ltb (issued_of window) number) _ _
    (ap (λ (test : Bool). test || ltb (issued_of window) number) (le-ltb number window.acknowledged least) ∙ le-ltb (issued_of window) number most)

pub acknowledge_is : (cells : List Command) (acknowledged issued number : ℕ) → acknowledged ≤ number → number ≤ issued
    → acknowledge_at (window_of cells acknowledged issued) number ≡ record { window = window_of cells number issued; answer = Ok tt }
acknowledge_is cells acknowledged issued number least most =
    let last = issued-window cells acknowledged issued (omega arith) in
    accepted_is (window_of cells acknowledged issued) number least (omega arith)
    ∙ ap (λ (window : OutgoingState). acknowledging window) (sym (acknowledged_is cells acknowledged issued number least most))

-- a kept text is one
kept_is_text : (window : OutgoingState) (number : ℕ) → IsOutgoing window → window.acknowledged ≤ number → number ≤ issued_of window → 0 < number
    → IsText (text_at window number)
kept_is_text window zero is least most some = absurd (omega arith)
kept_is_text window (suc k) is least most some = elim (cases_lt window.acknowledged (suc k)) [
  | inl above ↦
      let at : k + 1 - window.acknowledged ≡ suc (k - window.acknowledged) = omega arith in
      subst (λ (i : ℕ). IsText (get_or (window.text ∷ window.waiting) i [])) (sym at) (is.texts (k - window.acknowledged) [] (omega arith))
  | inr most ↦
      let at : k + 1 - window.acknowledged ≡ 0 = omega arith in
      subst (λ (i : ℕ). IsText (get_or (window.text ∷ window.waiting) i [])) (sym at) is.is_text
]

pub acknowledged_is_outgoing : (window : OutgoingState) (number : ℕ) → IsOutgoing window → window.acknowledged ≤ number → number ≤ issued_of window
    → IsOutgoing (acknowledged_to window number)
acknowledged_is_outgoing window number is least most =
    let count : ℕ = number - window.acknowledged in
    let few = is.few in
    let bytes = is.bytes in
    let numbers = is.numbers in
    let counted = length-drop count window.waiting in
    record {
      few = omega arith;
      bytes = omega (arith, sum_by-take-drop length window.waiting count);
      numbers = omega arith;
      texts = All-drop IsText count window.waiting is.texts;
      is_text = elim (cases_lt 0 number) [
        | inl some ↦ kept_is_text window number is least most some
        | inr none ↦
            let zero_is : window.acknowledged ≡ 0 = omega arith in
            let same : number ≡ 0 = omega arith in
            subst (λ (k : ℕ). IsText (text_at window k)) (sym same) (subst IsText (is.none zero_is) is.is_text)
      ];
      none = λ zero_is. ap (text_at window) zero_is;
    }

pub acknowledged_are_kept : (cells : List Command) (acknowledged issued bytes number : ℕ) → AreKept cells acknowledged issued bytes → acknowledged ≤ number → number ≤ issued
    → AreKept cells number issued (bytes - total_of (texts_from cells (acknowledged + 1) (number - acknowledged)))
acknowledged_are_kept cells acknowledged issued bytes number kept least most =
    let count : ℕ = number - acknowledged in
    let total = kept.total in
    let is = acknowledged_is cells acknowledged issued number least most in
    let split = texts_from-split cells (acknowledged + 1) (issued - acknowledged) count (omega arith) in
    let sums = ap total_of split ∙ sum_by-append length (texts_from cells (acknowledged + 1) count) (texts_from cells (acknowledged + 1 + count) (issued - acknowledged - count)) in
    let from : acknowledged + 1 + count ≡ number + 1 = omega arith in
    let left : issued - acknowledged - count ≡ issued - number = omega arith in
    let rest : total_of (texts_from cells (acknowledged + 1 + count) (issued - acknowledged - count)) ≡ total_of (texts_from cells (number + 1) (issued - number)) =
    ap (λ (k : ℕ). total_of (texts_from cells k (issued - acknowledged - count))) from ∙ ap (λ (k : ℕ). total_of (texts_from cells (number + 1) k)) left in
    let issued_is = issued-window cells acknowledged issued (omega arith) in
    record {
      count = kept.count;
      within = most;
      total = omega arith;
      numbers = λ other above below. kept.numbers other (omega arith) below;
      is = subst IsOutgoing (sym is) (acknowledged_is_outgoing (window_of cells acknowledged issued) number kept.is least (omega arith));
    }

-- the bytes of those that were passed are counted
pub passed_within : (cells : List Command) (acknowledged issued bytes number : ℕ) → AreKept cells acknowledged issued bytes → acknowledged ≤ number → number ≤ issued
    → total_of (texts_from cells (acknowledged + 1) (number - acknowledged)) ≤ bytes
passed_within cells acknowledged issued bytes number kept least most =
    let count : ℕ = number - acknowledged in
    let total = kept.total in
    let split = texts_from-split cells (acknowledged + 1) (issued - acknowledged) count (omega arith) in
    let sums = ap total_of split ∙ sum_by-append length (texts_from cells (acknowledged + 1) count) (texts_from cells (acknowledged + 1 + count) (issued - acknowledged - count)) in
    omega arith
