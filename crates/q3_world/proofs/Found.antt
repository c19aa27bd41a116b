-- Each client is found by its host and its qport.
use Rattle.std.proofs.Common.{◌≡◌, zero, suc, ◌<◌, Bool, true, false, cond, List, [], ◌∷◌, length, get_or, set, Option, Some, None, refl, sym, ap, subst, ◌∙◌, inl, inr, arith, ℕ}
use Rattle.std.specs.Prelude.{position, nat_lt, not, ◌+◌, ◌==◌, ◌≤◌}
use Rattle.std.specs.List.{position_or_len}
use Rattle.std.proofs.lemmas.List.{length-set, get_or-set_other}
use Rattle.std.proofs.lemmas.List.Sums.{prefix_len-le-length}
use Rattle.std.proofs.lemmas.Bool.{cases_Bool, cases_eq, lt-ltb, ltb-false, eqb-true, eq-eqb, and_parts}
use Rattle.q3_slot.specs.Slot.{SlotState, is_of}
use Rattle.q3_server.specs.Server.{places}
use Rattle.q3_world.proofs.OnePlace.{set_there}
use Rattle.q3_messages.proofs.Survives.{put_alike}

-- the slots are so
abbrev pub AllFound : List (Option SlotState) → Type 0
AllFound slots = (c : ℕ) (slot : SlotState) → get_or slots c None ≡ Some slot → position (is_of slot.address.host slot.qport) slots ≡ Some c

-- where nothing passes, nothing after the first does
none_left : {X : Type 0} (test : X → Bool) (y : X) (xs : List X) → test y ≡ false → position_or_len test (y ∷ xs) ≡ length (y ∷ xs) → position_or_len test xs ≡ length xs
none_left test y xs other none =
    let after : 1 + position_or_len test xs ≡ length (y ∷ xs) = subst (λ (b : Bool). cond (not b) (1 + position_or_len test xs) 0 ≡ length (y ∷ xs)) other none in
    omega (arith, after)

-- and the first doesn't
some_left : {X : Type 0} (test : X → Bool) (y : X) (xs : List X) → test y ≡ true → position_or_len test (y ∷ xs) ≡ length (y ∷ xs) → ⊥
some_left test y xs first none =
    let at_once : 0 ≡ length (y ∷ xs) = subst (λ (b : Bool). cond (not b) (1 + position_or_len test xs) 0 ≡ length (y ∷ xs)) first none in
    omega (arith, at_once)

-- where nothing passes a test before, what is put and passes is found
put_found_or_len : {X : Type 0} (test : X → Bool) (xs : List X) (c : ℕ) (x : X) → position_or_len test xs ≡ length xs → c < length xs → test x ≡ true
    → position_or_len test (set xs c x) ≡ c
put_found_or_len test [] c x none lt passes = absurd (omega (arith, lt))
put_found_or_len test (y ∷ xs) zero x none lt passes = rw passes refl
put_found_or_len test (y ∷ xs) (suc c) x none lt passes =
    elim (cases_Bool (test y)) [
      | inl first ↦ absurd (some_left test y xs first none)
      | inr other ↦ rw other (ap (λ (k : ℕ). 1 + k) (put_found_or_len test xs c x (none_left test y xs other none) (omega (arith, lt)) passes) ∙ omega arith)
    ]

-- a position that was not found is the length
not_found : {X : Type 0} (test : X → Bool) (xs : List X) → position test xs ≡ None → position_or_len test xs ≡ length xs
not_found test xs none =
    elim (cases_Bool (nat_lt (position_or_len test xs) (length xs))) [
      | inl found ↦ absurd (none_some (subst (λ (b : Bool). cond b (Some (position_or_len test xs)) None ≡ None) found none))
      | inr past ↦
          let least = ltb-false (position_or_len test xs) (length xs) past in
          let most : position_or_len test xs ≤ length xs = prefix_len-le-length (λ x. not (test x)) xs in
          omega (arith, least, most)
    ]
  where
    none_some : {k : ℕ} → Some k ≡ None → ⊥
    none_some e = absurd cc

-- what is put where nothing passed is found there
put_found : {X : Type 0} (test : X → Bool) (xs : List X) (c : ℕ) (x : X) → position test xs ≡ None → c < length xs → test x ≡ true → position test (set xs c x) ≡ Some c
put_found test xs c x none lt passes =
    let there = put_found_or_len test xs c x (not_found test xs none) lt passes in
    let within : nat_lt c (length (set xs c x)) ≡ true = lt-ltb c (length (set xs c x)) (omega (arith, lt, length-set xs c x)) in
    rw there (rw within refl)

-- ---- slots

abbrev some_slot : SlotState → Option SlotState
some_slot slot = Some slot

one_slot : {some other : SlotState} → Some some ≡ Some other → some ≡ other
one_slot same = cc

-- a slot changes, and not its host and qport
pub found_changed : (slots : List (Option SlotState)) (c : ℕ) (slot next : SlotState) → length slots ≡ places → c < places → get_or slots c None ≡ Some slot
    → next.address.host ≡ slot.address.host → next.qport ≡ slot.qport → AllFound slots → AllFound (set slots c (Some next))
found_changed slots c slot next count lt found host qport all k one at =
    elim (cases_eq k c) [
      | inl same ↦
          let is : next ≡ one = one_slot (sym (set_there slots c None (Some next) count lt) ∙ (ap (λ (j : ℕ). get_or (set slots c (Some next)) j None) (sym same) ∙ at)) in
          subst (λ (s : SlotState). position (is_of s.address.host s.qport) (set slots c (Some next)) ≡ Some k) is
          (ap (λ (h : ℕ). position (is_of h next.qport) (set slots c (Some next))) host
          ∙ (ap (λ (q : ℕ). position (is_of slot.address.host q) (set slots c (Some next))) qport
          ∙ (alike slot.address.host slot.qport ∙ (all c slot found ∙ ap (λ (j : ℕ). Some j) (sym same)))))
      | inr other ↦ alike one.address.host one.qport ∙ all k one (sym (get_or-set_other slots c k (Some next) None other) ∙ at)
    ]
  where
    alike : (h q : ℕ) → position (is_of h q) (set slots c (Some next)) ≡ position (is_of h q) slots
    alike h q = put_alike (is_of h q) slots c (Some next) None (rw (found, host, qport) refl)

-- a client joins, whose host and qport no other has
pub found_joined : (slots : List (Option SlotState)) (c : ℕ) (slot : SlotState) → length slots ≡ places → c < places → get_or slots c None ≡ None
    → position (is_of slot.address.host slot.qport) slots ≡ None → AllFound slots → AllFound (set slots c (Some slot))
found_joined slots c slot count lt none alone all k one at =
    elim (cases_eq k c) [
      | inl same ↦
          let is : slot ≡ one = one_slot (sym (set_there slots c None (Some slot) count lt) ∙ (ap (λ (j : ℕ). get_or (set slots c (Some slot)) j None) (sym same) ∙ at)) in
          subst (λ (s : SlotState). position (is_of s.address.host s.qport) (set slots c (Some slot)) ≡ Some k) is
          (put_found (is_of slot.address.host slot.qport) slots c (Some slot) alone (omega (arith, lt, count)) (itself slot) ∙ ap (λ (j : ℕ). Some j) (sym same))
      | inr other ↦
          let there : get_or slots k None ≡ Some one = sym (get_or-set_other slots c k (Some slot) None other) ∙ at in
          let found = all k one there in
          put_alike (is_of one.address.host one.qport) slots c (Some slot) None
          (elim (cases_Bool (is_of one.address.host one.qport (some_slot slot))) [
            | inl twin ↦
                let both = and_parts (slot.address.host == one.address.host) (slot.qport == one.qport) twin in
                let host = eqb-true slot.address.host one.address.host both.0 in
                let qport = eqb-true slot.qport one.qport both.1 in
                absurd (no_twin k (sym alone ∙ (rw (host, qport) found)))
            | inr apart ↦ rw (apart, none) refl
          ]) ∙ found
    ]
  where
    itself : (slot : SlotState) → is_of slot.address.host slot.qport (some_slot slot) ≡ true
    itself slot = rw (eq-eqb slot.address.host slot.address.host refl, eq-eqb slot.qport slot.qport refl) refl

    no_twin : (k : ℕ) → None ≡ Some k → ⊥
    no_twin k e = absurd cc
