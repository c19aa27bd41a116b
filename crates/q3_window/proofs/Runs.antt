-- What is executed of commands in their order.
use Rattle.std.proofs.Common.{◌≡◌, ℕ, zero, suc, ◌+◌, ◌-◌, ◌<◌, ◌≤◌, leb, ltb, eqb, max, List, [], ◌∷◌, ◌++◌, length, get_or, slice_get, take, drop, Option, Some, None, refl, sym, ap, ◌∙◌, subst, inl, inr, le-leb, lt-ltb, le-ltb, eq-eqb, ne_eqb, add-one, append_assoc, append-nil, length-append, length-take, length-take-le, take-take, take-append-drop, drop-drop, arith}
use Rattle.std.proofs.Math.Seq.{get_or-append_seam}
use Rattle.std.proofs.lemmas.Bool.{cases_lt, cond-true, cond-false, lt-leb}
use Rattle.std.proofs.lemmas.List.{drop_all, drop_more}
use Rattle.std.proofs.lemmas.Option.{slice_get-get_or}
use Rattle.q3_text.specs.declared.text.Command.{Command}
use Rattle.q3_text.specs.Commands.{numbered}
use Rattle.q3_window.specs.Incoming.{IncomingState, Taking, executing, take_at, take_any_at, fresh_of, gap_in, executing_all, executes}
use Rattle.q3_window.specs.Issued.{issued_text, carried_of}
use Rattle.q3_window.specs.Executed.{IncomingStandsFor, takes, takes_any, RiseAbove}
use Rattle.q3_window.specs.Laws.{CarriedAreExecuted, TakenAreExecuted, TakenWithoutGap, ExecutedRise}

-- ---- by cases on the first

pub fresh_known : (executed : ℕ) (command : Command) (commands : List Command) → command.number ≤ executed → fresh_of executed (command ∷ commands) ≡ fresh_of executed commands
unfolding fresh_of
fresh_known executed command commands known = cond-false (ltb executed command.number) _ _ (le-ltb executed command.number known)

pub fresh_new : (executed : ℕ) (command : Command) (commands : List Command) → executed < command.number
    → fresh_of executed (command ∷ commands) ≡ command ∷ fresh_of command.number commands
unfolding fresh_of
fresh_new executed command commands new = cond-true (ltb executed command.number) _ _ (lt-ltb executed command.number new)

pub gap_known : (executed : ℕ) (command : Command) (commands : List Command) → command.number ≤ executed → gap_in executed (command ∷ commands) ≡ gap_in executed commands
unfolding gap_in
gap_known executed command commands known = cond-true (leb command.number executed) _ _ (le-leb command.number executed known)

pub gap_next : (executed : ℕ) (command : Command) (commands : List Command) → command.number ≡ executed + 1 → gap_in executed (command ∷ commands) ≡ gap_in command.number commands
unfolding gap_in
gap_next executed command commands next =
    cond-false (leb command.number executed) _ _ (lt-leb command.number executed (omega arith))
    ∙ cond-true (eqb command.number (executed + 1)) _ _ (eq-eqb command.number (executed + 1) next)

pub gap_past : (executed : ℕ) (command : Command) (commands : List Command) → executed + 1 < command.number → gap_in executed (command ∷ commands) ≡ Some command.number
unfolding gap_in
gap_past executed command commands past =
    cond-false (leb command.number executed) _ _ (lt-leb command.number executed (omega arith))
    ∙ cond-false (eqb command.number (executed + 1)) _ _ (ne_eqb command.number (executed + 1) (λ same. omega (arith, same)))

-- ---- what was carried

record RunsOn (executed : ℕ) (texts : List (List ℕ)) (commands : List Command) : Type 0 where
  no_gap : gap_in executed commands ≡ None
  fresh : fresh_of executed commands ≡ numbered (executed + 1) texts

-- commands that begin so many below the one that is to be executed next
runs_on : (more first executed : ℕ) (texts : List (List ℕ)) → executed ≡ first + more → RunsOn executed (drop more texts) (numbered (first + 1) texts)
unfolding gap_in fresh_of numbered
runs_on zero first executed [] is = record { no_gap = refl; fresh = refl }
runs_on (suc more) first executed [] is = record { no_gap = refl; fresh = refl }
runs_on zero first executed (text ∷ texts) is =
    let command : Command = record { number = first + 1; text = text } in
    let commands : List Command = numbered (first + 1 + 1) texts in
    let next : first + 1 ≡ executed + 1 = omega arith in
    let rest = runs_on zero (first + 1) (first + 1) texts (omega arith) in
    record {
      no_gap = gap_next executed command commands next ∙ rest.no_gap;
      fresh =
          fresh_new executed command commands (omega arith) ∙ ap (λ (commands : List Command). command ∷ commands) rest.fresh
          ∙ ap (λ (number : ℕ). numbered number (text ∷ texts)) next;
    }
runs_on (suc more) first executed (text ∷ texts) is =
    let command : Command = record { number = first + 1; text = text } in
    let commands : List Command = numbered (first + 1 + 1) texts in
    let rest = runs_on more (first + 1) executed texts (omega arith) in
    record {
      no_gap = gap_known executed command commands (omega arith) ∙ rest.no_gap;
      fresh = fresh_known executed command commands (omega arith) ∙ rest.fresh;
    }

stands_after : (window : IncomingState) (texts more : List (List ℕ)) → IncomingStandsFor window texts
    → IncomingStandsFor (executing_all window (numbered (length texts + 1) more)) (texts ++ more)
unfolding executing_all numbered
stands_after window texts [] stands = subst (IncomingStandsFor window) (sym (append-nil texts)) stands
stands_after window texts (text ∷ more) stands =
    let command : Command = record { number = length texts + 1; text = text } in
    let count : length (texts ++ text ∷ []) ≡ length texts + 1 = length-append texts (text ∷ []) in
    let at : length (texts ++ text ∷ []) ≡ suc (length texts) = count ∙ add-one (length texts) in
    let one : IncomingStandsFor (executing command) (texts ++ text ∷ []) = record {
      executed = sym count;
      last = sym (ap (issued_text (texts ++ text ∷ [])) at ∙ get_or-append_seam texts text [] []);
    } in
    let rest = stands_after (executing command) (texts ++ text ∷ []) more one in
    let same : executing_all (executing command) (numbered (length (texts ++ text ∷ []) + 1) more) ≡ executing_all (executing command) (numbered (length texts + 1 + 1) more) =
    ap (λ (k : ℕ). executing_all (executing command) (numbered (k + 1) more)) count in
    subst (IncomingStandsFor (executing_all (executing command) (numbered (length texts + 1 + 1) more))) (append_assoc texts (text ∷ []) more)
    (subst (λ (window : IncomingState). IncomingStandsFor window ((texts ++ text ∷ []) ++ more)) same rest)

all_taken : (issued : List (List ℕ)) (executed last : ℕ) → last ≤ length issued → take executed issued ++ drop executed (take last issued) ≡ take (max executed last) issued
all_taken issued executed last within = elim (cases_lt executed last) [
  | inl below ↦
      let most : max executed last ≡ last = omega arith in
      ap (λ (texts : List (List ℕ)). texts ++ drop executed (take last issued)) (sym (take-take executed last issued (omega arith)))
      ∙ take-append-drop executed (take last issued) ∙ ap (λ (k : ℕ). take k issued) (sym most)
  | inr least ↦
      let most : max executed last ≡ executed = omega arith in
      ap (λ (texts : List (List ℕ)). take executed issued ++ texts) (drop_all executed (take last issued) (omega (arith, length-take last issued)))
      ∙ append-nil (take executed issued) ∙ ap (λ (k : ℕ). take k issued) (sym most)
]

pub carried_are_executed : CarriedAreExecuted
carried_are_executed issued window acknowledged last executed above within most stands =
    let count : length (take executed issued) ≡ executed = length-take-le executed issued within in
    let here : window.executed ≡ executed = stands.executed ∙ count in
    let texts : List (List ℕ) = drop acknowledged (take last issued) in
    let commands : List Command = carried_of issued acknowledged last in
    let runs = runs_on (executed - acknowledged) acknowledged executed texts (omega arith) in
    let rest : drop (executed - acknowledged) texts ≡ drop executed (take last issued) =
    drop-drop (executed - acknowledged) acknowledged (take last issued)
    ∙ ap (λ (k : ℕ). drop k (take last issued)) (let e : acknowledged + (executed - acknowledged) ≡ executed = omega arith in e) in
    let fresh : fresh_of window.executed commands ≡ numbered (executed + 1) (drop executed (take last issued)) =
    ap (λ (k : ℕ). fresh_of k commands) here ∙ runs.fresh ∙ ap (numbered (executed + 1)) rest in
    let more = stands_after window (take executed issued) (drop executed (take last issued)) stands in
    let same : executing_all window (numbered (length (take executed issued) + 1) (drop executed (take last issued))) ≡ executes window commands =
    ap (λ (k : ℕ). executing_all window (numbered (k + 1) (drop executed (take last issued)))) count ∙ ap (executing_all window) (sym fresh) in (
      ap (λ (k : ℕ). gap_in k commands) here ∙ runs.no_gap,
      fresh,
      subst (IncomingStandsFor (executes window commands)) (all_taken issued executed last most)
          (subst (λ (window : IncomingState). IncomingStandsFor window (take executed issued ++ drop executed (take last issued))) same more),
    )

-- ---- one by one

any_known : (window : IncomingState) (command : Command) → command.number ≤ window.executed → (take_any_at window command).window ≡ window
any_known window command known = ap (λ (taking : Taking). taking.window) (cond-true (leb command.number window.executed) _ _ (le-leb command.number window.executed known))

any_new : (window : IncomingState) (command : Command) → window.executed < command.number → (take_any_at window command).window ≡ executing command
any_new window command new = ap (λ (taking : Taking). taking.window) (cond-false (leb command.number window.executed) _ _ (lt-leb command.number window.executed new))

take_known : (window : IncomingState) (command : Command) → command.number ≤ window.executed → (take_at window command).window ≡ window
take_known window command known = ap (λ (taking : Taking). taking.window) (cond-true (leb command.number window.executed) _ _ (le-leb command.number window.executed known))

take_next : (window : IncomingState) (command : Command) → command.number ≡ window.executed + 1 → (take_at window command).window ≡ executing command
take_next window command next =
    ap (λ (taking : Taking). taking.window) (cond-false (leb command.number window.executed) _ _ (lt-leb command.number window.executed (omega arith))
    ∙ cond-false (ltb (window.executed + 1) command.number) _ _ (le-ltb (window.executed + 1) command.number (omega arith)))

pub taken_are_executed : TakenAreExecuted
unfolding takes_any executing_all fresh_of
taken_are_executed window [] = refl
taken_are_executed window (command ∷ commands) = elim (cases_lt window.executed command.number) [
  | inl new ↦
      ap (λ (window : IncomingState). takes_any window commands) (any_new window command new) ∙ taken_are_executed (executing command) commands
      ∙ sym (ap (executing_all window) (fresh_new window.executed command commands new))
  | inr known ↦
      ap (λ (window : IncomingState). takes_any window commands) (any_known window command known) ∙ taken_are_executed window commands
      ∙ sym (ap (executing_all window) (fresh_known window.executed command commands known))
]

pub taken_without_gap : TakenWithoutGap
unfolding takes executing_all fresh_of
taken_without_gap window [] none = refl
taken_without_gap window (command ∷ commands) none = elim (cases_lt window.executed command.number) [
  | inl new ↦ elim (cases_lt (window.executed + 1) command.number) [
    | inl past ↦ let never : ◌≡◌ {A = Option ℕ} (Some command.number) None = sym (gap_past window.executed command commands past) ∙ none in cc
    | inr next ↦
        let is : command.number ≡ window.executed + 1 = omega arith in
        ap (λ (window : IncomingState). takes window commands) (take_next window command is)
        ∙ taken_without_gap (executing command) commands (sym (gap_next window.executed command commands is) ∙ none)
        ∙ sym (ap (executing_all window) (fresh_new window.executed command commands new))
  ]
  | inr known ↦
      ap (λ (window : IncomingState). takes window commands) (take_known window command known)
      ∙ taken_without_gap window commands (sym (gap_known window.executed command commands known) ∙ none)
      ∙ sym (ap (executing_all window) (fresh_known window.executed command commands known))
]

pub executed_rise : ExecutedRise
unfolding RiseAbove fresh_of
executed_rise executed [] = tt
executed_rise executed (command ∷ commands) = elim (cases_lt executed command.number) [
  | inl new ↦ subst (RiseAbove executed) (sym (fresh_new executed command commands new)) (new, executed_rise command.number commands)
  | inr known ↦ subst (RiseAbove executed) (sym (fresh_known executed command commands known)) (executed_rise executed commands)
]

-- ---- as code goes through them

-- one more of commands in order
pub item_is : (commands : List Command) (place : ℕ) (command : Command) → place < length commands → command ≡ get_or commands place command
    → drop place commands ≡ command ∷ drop (place + 1) commands
item_is commands place command within is =
    drop_more commands place command within ∙ ap (λ (command : Command). command ∷ drop (place + 1) commands) (sym is)

-- the window after commands is that of the last one
after_from : (window : IncomingState) (commands : List Command) (command : Command) → slice_get commands (length commands - 1) ≡ Some command
    → executing_all window commands ≡ executing command
unfolding executing_all
after_from window [] command is = let never : ◌≡◌ {A = Option Command} None (Some command) = is in cc
after_from window (one ∷ []) command is = let same : one ≡ command = cc in ap executing same
after_from window (one ∷ two ∷ commands) command is =
    let at : length (one ∷ two ∷ commands) - 1 ≡ suc (length (two ∷ commands) - 1) = omega arith in
    after_from (executing one) (two ∷ commands) command (sym (ap (slice_get (one ∷ two ∷ commands)) at) ∙ is)

pub executes_some : (window : IncomingState) (commands ran : List Command) (command : Command) → ran ≡ fresh_of window.executed commands
    → slice_get ran (length ran - 1) ≡ Some command → executing command ≡ executes window commands
executes_some window commands ran command is last = sym (ap (executing_all window) (sym is) ∙ after_from window ran command last)

pub executes_none : (window : IncomingState) (commands ran : List Command) → ran ≡ fresh_of window.executed commands
    → slice_get ran (length ran - 1) ≡ None → window ≡ executes window commands
unfolding executing_all
executes_none window commands [] is last = ap (executing_all window) is
executes_none window commands (one ∷ others) is last =
    let some = slice_get-get_or (one ∷ others) (length (one ∷ others) - 1) one (omega arith) in
    let never : ◌≡◌ {A = Option Command} (Some (get_or (one ∷ others) (length (one ∷ others) - 1) one)) None = sym some ∙ last in
    cc
