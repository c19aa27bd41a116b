-- What messages carry and acknowledge, by their numbers.
use Rattle.std.proofs.Common.{◌≡◌, ℕ, zero, suc, ◌+◌, ◌≤◌, List, [], ◌∷◌, ◌++◌, length, map, take, drop, refl, sym, ap, subst, ◌∙◌, add-one, inl, inr, arith}
use Rattle.std.specs.Prelude.{All, max}
use Rattle.std.proofs.lemmas.List.{get_or_append_left, get_or_push, take-append-le, drop-append-le, get_or-take, length-append}
use Rattle.std.proofs.lemmas.List.Elements.{All-get_or}
use Rattle.std.proofs.lemmas.Bool.{cases_lt}
use Rattle.q3_text.specs.declared.text.Command.{Command}
use Rattle.q3_text.specs.Commands.{numbered}
use Rattle.q3_window.specs.Outgoing.{OutgoingState, with_texts}
use Rattle.q3_window.specs.Issued.{issued_text, OutgoingStandsFor}
use Rattle.q3_window.specs.Flow.{no_command, acknowledged_by, Carriage, no_carriage, last_carried, IsCarried, IsAcknowledged}

-- ---- texts by number

-- the text of a number stays where more is issued
pub text_stays : (issued more : List (List ℕ)) (number : ℕ) → number ≤ length issued → issued_text (issued ++ more) number ≡ issued_text issued number
text_stays issued more zero lt = refl
text_stays issued more (suc k) lt = get_or_append_left issued more [] k (omega (arith, lt))

-- and among the first so many
pub text_taken : (issued : List (List ℕ)) (most number : ℕ) → number ≤ most → issued_text (take most issued) number ≡ issued_text issued number
text_taken issued most zero few = refl
text_taken issued most (suc k) few = get_or-take most issued k [] (omega (arith, few))

-- the texts of numbered texts
pub texts_are : (first : ℕ) (texts : List (List ℕ)) → map (λ (c : Command). c.text) (numbered first texts) ≡ texts
unfolding numbered
texts_are first [] = refl
texts_are first (text ∷ texts) = ap (λ (others : List (List ℕ)). text ∷ others) (texts_are (first + 1) texts)

-- the first so many, and after them what is left of some more
pub front_and_more : (d n : ℕ) (xs : List (List ℕ)) → d ≤ length xs → n ≤ length xs → take d xs ++ drop d (take n xs) ≡ take (max d n) xs
front_and_more zero n xs few most = let is : n ≡ max 0 n = omega arith in ap (λ (k : ℕ). take k xs) is
front_and_more (suc d) zero xs few most =
    let is : suc d ≡ max (suc d) 0 = omega arith in
    append_none (take (suc d) xs) (drop (suc d) nothing) (drop_none (suc d)) ∙ ap (λ (k : ℕ). take k xs) is
  where
    nothing : List (List ℕ)
    nothing = []

    drop_none : (d : ℕ) → drop d nothing ≡ nothing
    drop_none zero = refl
    drop_none (suc d) = refl

    append_none : (front rest : List (List ℕ)) → rest ≡ nothing → front ++ rest ≡ front
    append_none [] rest none = none
    append_none (x ∷ front) rest none = ap (λ (l : List (List ℕ)). x ∷ l) (append_none front rest none)
front_and_more (suc d) (suc n) [] few most = absurd (omega (arith, few))
front_and_more (suc d) (suc n) (x ∷ xs) few most =
    let is : suc (max d n) ≡ max (suc d) (suc n) = omega arith in
    ap (λ (l : List (List ℕ)). x ∷ l) (front_and_more d n xs (omega (arith, few)) (omega (arith, most))) ∙ ap (λ (k : ℕ). take k (x ∷ xs)) is

-- a window with more texts stands for these too
pub stands_more : (window : OutgoingState) (issued more : List (List ℕ)) → OutgoingStandsFor window issued → OutgoingStandsFor (with_texts window more) (issued ++ more)
stands_more window issued more stands =
    let within = stands.within in
    record {
      within = omega (arith, within, length-append issued more);
      waiting = ap (λ (texts : List (List ℕ)). texts ++ more) stands.waiting ∙ sym (drop-append-le window.acknowledged issued more within);
      text = stands.text ∙ sym (text_stays issued more window.acknowledged within);
    }

-- ---- numbers that rise

-- one more after numbers that rise, no less than any of them
pub rises_on : (old new : ℕ → ℕ) (count : ℕ) → ((n : ℕ) → n ≤ count → new n ≡ old n) → ((n : ℕ) → n ≤ count → old n ≤ new (count + 1))
    → ((j k : ℕ) → j ≤ k → k ≤ count → old j ≤ old k) → (j k : ℕ) → j ≤ k → k ≤ count + 1 → new j ≤ new k
rises_on old new count stays greatest rises j k le few = elim (cases_lt count k) [
  | inl last ↦
      let at : count + 1 ≡ k = omega (arith, last, few) in
      subst (λ (n : ℕ). new j ≤ new n) at (elim (cases_lt count j) [
        | inl both ↦ let same : j ≡ count + 1 = omega (arith, both, at, le) in subst (λ (n : ℕ). new n ≤ new (count + 1)) (sym same) (omega arith)
        | inr before ↦
            let is = stays j (omega (arith, before)) in
            let least = greatest j (omega (arith, before)) in
            omega (arith, is, least)
      ])
  | inr within ↦
      let first = stays j (omega (arith, le, within)) in
      let second = stays k (omega (arith, within)) in
      let both = rises j k le (omega (arith, within)) in
      omega (arith, first, second, both)
]

-- ---- acknowledgements

pub known_by : (issued : List (List ℕ)) (executed : ℕ) (acks : List Command) (number : ℕ) → All (IsAcknowledged issued executed) acks → number ≤ length acks
    → acknowledged_by acks number ≤ executed
known_by issued executed acks zero are few = omega arith
known_by issued executed acks (suc k) are few = (All-get_or (IsAcknowledged issued executed) acks k no_command (omega (arith, few)) are).known

-- one message more changes none of before
pub acks_stay : (acks : List Command) (ack : Command) (number : ℕ) → number ≤ length acks → acknowledged_by (acks ++ ack ∷ []) number ≡ acknowledged_by acks number
acks_stay acks ack zero few = refl
acks_stay acks ack (suc k) few = ap (λ (c : Command). c.number) (get_or_append_left acks (ack ∷ []) no_command k (omega (arith, few)))

-- and it acknowledges what it does
pub ack_is : (acks : List Command) (ack : Command) → acknowledged_by (acks ++ ack ∷ []) (length acks + 1) ≡ ack.number
ack_is acks ack = rw add-one (ap (λ (c : Command). c.number) (get_or_push acks ack no_command (length acks) refl))

pub acknowledged_more : (issued more : List (List ℕ)) (executed : ℕ) (ack : Command) → executed ≤ length issued → IsAcknowledged issued executed ack
    → IsAcknowledged (issued ++ more) executed ack
acknowledged_more issued more executed ack few is =
    let known = is.known in
    record { known = is.known; text = is.text ∙ sym (text_stays issued more ack.number (omega (arith, known, few))) }

pub acknowledged_later : (issued : List (List ℕ)) (executed later : ℕ) (ack : Command) → executed ≤ later → IsAcknowledged issued executed ack → IsAcknowledged issued later ack
acknowledged_later issued executed later ack le is =
    let known = is.known in
    record { known = omega (arith, known, le); text = is.text }

-- ---- what is carried

pub carried_within : (issued : List (List ℕ)) (executed : ℕ) (carried : List Carriage) (number : ℕ) → All (IsCarried issued executed) carried → number ≤ length carried
    → last_carried carried number ≤ length issued
carried_within issued executed carried zero are few = omega arith
carried_within issued executed carried (suc k) are few = (All-get_or (IsCarried issued executed) carried k no_carriage (omega (arith, few)) are).within

-- one message more changes none of before
pub lasts_stay : (carried : List Carriage) (next : Carriage) (number : ℕ) → number ≤ length carried → last_carried (carried ++ next ∷ []) number ≡ last_carried carried number
lasts_stay carried next zero few = refl
lasts_stay carried next (suc k) few = ap (λ (c : Carriage). c.last) (get_or_append_left carried (next ∷ []) no_carriage k (omega (arith, few)))

-- and it carries what it does
pub last_is : (carried : List Carriage) (next : Carriage) → last_carried (carried ++ next ∷ []) (length carried + 1) ≡ next.last
last_is carried next = rw add-one (ap (λ (c : Carriage). c.last) (get_or_push carried next no_carriage (length carried) refl))

-- what was carried stays where more is issued
pub carried_more : (issued more : List (List ℕ)) (executed : ℕ) (carriage : Carriage) → IsCarried issued executed carriage → IsCarried (issued ++ more) executed carriage
carried_more issued more executed carriage is =
    let within = is.within in
    record {
      above = is.above;
      known = is.known;
      within = omega (arith, within, length-append issued more);
      are = is.are ∙ sym (ap (λ (texts : List (List ℕ)). numbered (is.above + 1) (drop is.above texts)) (take-append-le carriage.last issued more within));
    }

pub carried_later : (issued : List (List ℕ)) (executed later : ℕ) (carriage : Carriage) → executed ≤ later → IsCarried issued executed carriage → IsCarried issued later carriage
carried_later issued executed later carriage le is =
    let known = is.known in
    record { above = is.above; known = omega (arith, known, le); within = is.within; are = is.are }
